-- Maps by vectors seen as declarations of names: what a name has, and what an insertion adds.
use Rattle.std.proofs.Common.{◌≡◌, refl, ap, ℕ, Bool, true, false, cond, List, [], ◌∷◌, ◌++◌, map, Option, None, Some, Vec, ◌∙◌, sym, is_some, if◌then◌else◌}
use Rattle.std.specs.Str.{bytes_eq}
use Rattle.std.specs.Map.{lookup}
use Rattle.std.specs.declared.alloc.Global.{Global}
use Rattle.std.proofs.lemmas.List.{map-append}
use Rattle.pddl_names.specs.Declarations.{Text, value_of, with_first}

module _ {V : Type 0} where
  abbrev pub shown : List (Vec ℕ Global × V) → List (Text × V)
  shown es = map {B = Text × V} (λ e. (e.0.items, e.1)) es

  pub value_in : (es : List (Vec ℕ Global × V)) (name : Text) → lookup (λ k. bytes_eq name k.items) es ≡ value_of (shown es) name
  value_in [] name = refl
  value_in (e ∷ es) name = ap (λ (o : Option V). cond (bytes_eq name e.0.items) (Some e.1) o) (value_in es name)

  is_none : (o : Option V) → is_some o ≡ false → o ≡ None
  is_none None h = refl
  is_none (Some v) h = cc

  -- a name that is there has no place to take
  pub with_first-there : (es : List (Text × V)) (name : Text) (v : V) → is_some (value_of es name) ≡ true → es ≡ with_first es (name, v)
  with_first-there es name v h = ap (λ b. if b then es else es ++ ((name, v) ∷ [])) (sym h)

  -- a new one goes last
  pub with_first-new : (es : List (Text × V)) (name : Text) (v : V) → is_some (value_of es name) ≡ false → es ++ ((name, v) ∷ []) ≡ with_first es (name, v)
  with_first-new es name v h = ap (λ b. if b then es else es ++ ((name, v) ∷ [])) (sym h)

  pub absent : (es : List (Vec ℕ Global × V)) (k : Vec ℕ Global) (name : Text) → k.items ≡ name → is_some (lookup (λ k. bytes_eq name k.items) es) ≡ false → lookup (λ y. bytes_eq k.items y.items) es ≡ None
  absent es k name e h = ap (λ (n : Text). lookup (λ (y : Vec ℕ Global). bytes_eq n y.items) es) e ∙ is_none _ h

  pub shown-append : (es : List (Vec ℕ Global × V)) (k : Vec ℕ Global) (v : V) → shown (es ++ ((k, v) ∷ [])) ≡ shown es ++ ((k.items, v) ∷ [])
  shown-append es k v = map-append (λ e. (e.0.items, e.1)) es ((k, v) ∷ [])

  there_by : (xs ys : List (Text × V)) (n : Text) (v x : V) (b : Bool) → (Some v ≡ value_of xs n → Some v ≡ value_of (xs ++ ys) n)
      → Some v ≡ (if b then Some x else value_of xs n) → Some v ≡ (if b then Some x else value_of (xs ++ ys) n)
  there_by xs ys n v x true later h = h
  there_by xs ys n v x false later h = later h

  -- what the first of two lists declares hides what the second does
  pub value_of-there : (xs ys : List (Text × V)) (n : Text) (v : V) → Some v ≡ value_of xs n → Some v ≡ value_of (xs ++ ys) n
  value_of-there [] ys n v h = absurd (cc)
  value_of-there (x ∷ xs) ys n v h = there_by xs ys n v x.1 (bytes_eq n x.0) (value_of-there xs ys n v) h

  absent_by : (xs ys : List (Text × V)) (n : Text) (x : V) (b : Bool) → (◌≡◌ {A = Option V} None (value_of xs n) → value_of ys n ≡ value_of (xs ++ ys) n)
      → ◌≡◌ {A = Option V} None (if b then Some x else value_of xs n) → value_of ys n ≡ (if b then Some x else value_of (xs ++ ys) n)
  absent_by xs ys n x true later h = absurd (cc)
  absent_by xs ys n x false later h = later h

  pub value_of-absent : (xs ys : List (Text × V)) (n : Text) → ◌≡◌ {A = Option V} None (value_of xs n) → value_of ys n ≡ value_of (xs ++ ys) n
  value_of-absent [] ys n h = refl
  value_of-absent (x ∷ xs) ys n h = absent_by xs ys n x.1 (bytes_eq n x.0) (value_of-absent xs ys n) h
