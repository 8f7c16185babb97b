-- The first declarations of names: as two lists, one by one, and what is declared of a name.
use Rattle.std.proofs.Common.{◌≡◌, refl, sym, ap, ap₂, subst, ◌∙◌, ℕ, suc, zero, ◌+◌, ◌<◌, arith, Bool, true, false, ◌||◌, not, cond, List, [], ◌∷◌, ◌++◌, map, length, take, get_or, Option, Some, None, is_some, slice_get, slice_index_or, if◌then◌else◌}
use Rattle.std.specs.List.{AllByRecursion, flat_map, list_any, position_or_len}
use Rattle.std.specs.Str.{bytes_eq}
use Rattle.std.specs.Cmp.Lexicographic.{same_text}
use Rattle.std.proofs.lemmas.List.{map-append, append-nil}
use Rattle.pddl_names.specs.Declarations.{Text, among, value_of, with_new, with_first, with_firsts}
use Rattle.pddl_names.proofs.Tabled.{with_first-there, with_first-new}
use Rattle.pddl_names.proofs.Doubling.{firsts-loop, with_firsts-append}
use Rattle.ground_world.specs.World.{either}
use Rattle.ground_world.specs.Building.{Lists}
use Rattle.ground_world.proofs.Steps.{taken}

module _ {V : Type 0} where
  -- ---- as two lists

  pub known : (es : List (Text × V)) (n : Text) → among (map (λ e. e.0) es) n ≡ is_some (value_of es n)
  known [] n = refl
  known (e ∷ es) n = by (bytes_eq n e.0) (known es n)
    where
      by : (b : Bool) → among (map (λ e. e.0) es) n ≡ is_some (value_of es n)
          → (b || among (map (λ e. e.0) es) n) ≡ is_some (if b then Some e.1 else value_of es n)
      by true h = refl
      by false h = h

  -- a name that is there adds nothing
  pub lists-there : (names : List Text) (values : List V) (n : Text) (v : V) → among names n ≡ true
      → (es : List (Text × V)) → Lists names values es → Lists names values (with_first es (n, v))
  lists-there names values n v t es h =
      subst (Lists names values) (with_first-there es n v (sym (known es n) ∙ ap (λ l. among l n) (sym h.0) ∙ t)) h

  -- a new one goes last, with its value
  pub lists-new : (names later : List Text) (values more : List V) (n : Text) (v : V) → among names n ≡ false
      → later ≡ with_new names (n ∷ []) → more ≡ values ++ (v ∷ [])
      → (es : List (Text × V)) → Lists names values es → Lists later more (with_first es (n, v))
  lists-new names later values more n v t is also es h =
      subst (Lists later more) (with_first-new es n v (sym (known es n) ∙ ap (λ l. among l n) (sym h.0) ∙ t)) (
        is ∙ ap (λ b. if b then names else names ++ (n ∷ [])) t ∙ ap (λ l. l ++ (n ∷ [])) h.0 ∙ sym (map-append (λ e. e.0) es ((n, v) ∷ [])),
        also ∙ ap (λ l. l ++ (v ∷ [])) h.1 ∙ sym (map-append (λ e. e.1) es ((n, v) ∷ [])),
      )

  -- along a list of items that declare names
  pub lists-loop : {X : Type 0} (f : X → List (Text × V)) (es : List (Text × V)) (xs : List X) (i : ℕ) (x : X) (names : List Text) (values : List V)
      → i < length xs → x ≡ get_or xs i x → Lists names values (with_firsts (with_firsts es (flat_map f (take i xs))) (f x))
      → Lists names values (with_firsts es (flat_map f (take (i + 1) xs)))
  lists-loop f es xs i x names values lt at h = subst (Lists names values) (firsts-loop f es xs i x _ _ lt at refl refl) h

  -- along a list that is mapped
  pub lists-map : {X : Type 0} (f : X → Text × V) (es : List (Text × V)) (xs : List X) (i : ℕ) (x : X) (names : List Text) (values : List V)
      → i < length xs → x ≡ get_or xs i x → Lists names values (with_first (with_firsts es (map f (take i xs))) (f x))
      → Lists names values (with_firsts es (map f (take (i + 1) xs)))
  lists-map f es xs i x names values lt at h =
      subst (λ l. Lists names values (with_firsts es l)) (sym (ap (map f) (taken xs i x lt at) ∙ map-append f (take i xs) (x ∷ [])))
      (subst (Lists names values) (sym (with_firsts-append es (map f (take i xs)) (f x ∷ []))) h)

  pub lists-map_of : {X : Type 0} (f : Text → Text × V) (g : X → Text) (es : List (Text × V)) (xs : List X) (i : ℕ) (x : X) (names : List Text) (values : List V)
      → i < length xs → x ≡ get_or xs i x → Lists names values (with_first (with_firsts es (map f (map g (take i xs)))) (f (g x)))
      → Lists names values (with_firsts es (map f (map g (take (i + 1) xs))))
  lists-map_of f g es xs i x names values lt at h =
      subst (λ l. Lists names values (with_firsts es (map f l))) (sym (ap (map g) (taken xs i x lt at) ∙ map-append g (take i xs) (x ∷ [])))
      (subst (λ l. Lists names values (with_firsts es l)) (sym (map-append f (map g (take i xs)) (g x ∷ [])))
      (subst (Lists names values) (sym (with_firsts-append es (map f (map g (take i xs))) (f (g x) ∷ []))) h))

  -- ---- what is declared of a name

  abbrev pub first_of : Option V → Option V → Option V
  first_of None o = o
  first_of (Some v) o = Some v

  first_of-none : (o : Option V) → first_of o None ≡ o
  first_of-none None = refl
  first_of-none (Some v) = refl

  first_of-assoc : (a b c : Option V) → first_of (first_of a b) c ≡ first_of a (first_of b c)
  first_of-assoc None b c = refl
  first_of-assoc (Some v) b c = refl

  own : Text × V → Text → Option V
  own e n = if bytes_eq n e.0 then Some e.1 else None

  value_of-cons : (e : Text × V) (es : List (Text × V)) (n : Text) → value_of (e ∷ es) n ≡ first_of (own e n) (value_of es n)
  unfolding own
  value_of-cons e es n = by (bytes_eq n e.0)
    where
      by : (b : Bool) → (if b then Some e.1 else value_of es n) ≡ first_of (if b then Some e.1 else None) (value_of es n)
      by true = refl
      by false = refl

  value_of-append : (xs ys : List (Text × V)) (n : Text) → value_of (xs ++ ys) n ≡ first_of (value_of xs n) (value_of ys n)
  value_of-append [] ys n = refl
  value_of-append (x ∷ xs) ys n =
      value_of-cons x (xs ++ ys) n ∙ ap (first_of (own x n)) (value_of-append xs ys n) ∙ sym (first_of-assoc (own x n) (value_of xs n) (value_of ys n))
      ∙ ap (λ o. first_of o (value_of ys n)) (sym (value_of-cons x xs n))

  kept : (o : Option V) (p : Option V) → is_some o ≡ true → o ≡ first_of o p
  kept None p h = cc
  kept (Some v) p h = refl

  value_of-with_first : (es : List (Text × V)) (e : Text × V) (n : Text) → value_of (with_first es e) n ≡ first_of (value_of es n) (own e n)
  unfolding own
  value_of-with_first es e n = by (is_some (value_of es e.0)) refl
    where
      there : (b : Bool) → bytes_eq n e.0 ≡ b → is_some (value_of es e.0) ≡ true
          → value_of es n ≡ first_of (value_of es n) (if b then Some e.1 else None)
      there true same h = kept (value_of es n) (Some e.1) (ap (λ m. is_some (value_of es m)) (same_text n e.0 (sym same)) ∙ h)
      there false same h = sym (first_of-none (value_of es n))

      by : (b : Bool) → is_some (value_of es e.0) ≡ b
          → value_of (if b then es else es ++ (e ∷ [])) n ≡ first_of (value_of es n) (if bytes_eq n e.0 then Some e.1 else None)
      by true h = there (bytes_eq n e.0) refl h
      by false h = value_of-append es (e ∷ []) n

  -- the first declarations say what all say
  pub value_of-firsts : (es more : List (Text × V)) (n : Text) → value_of (with_firsts es more) n ≡ first_of (value_of es n) (value_of more n)
  value_of-firsts es [] n = sym (first_of-none (value_of es n))
  value_of-firsts es (e ∷ more) n =
      value_of-firsts (with_first es e) more n ∙ ap (λ o. first_of o (value_of more n)) (value_of-with_first es e n)
      ∙ first_of-assoc (value_of es n) (own e n) (value_of more n) ∙ ap (first_of (value_of es n)) (sym (value_of-cons e more n))

  -- what all say holds of the first too
  pub all-firsts : (P : Text × V → Type 0) (es more : List (Text × V)) → AllByRecursion P es → AllByRecursion P more → AllByRecursion P (with_firsts es more)
  all-firsts P es [] h k = h
  all-firsts P es (e ∷ more) h k = all-firsts P (with_first es e) more (by (is_some (value_of es e.0))) k.1
    where
      appended : (ds : List (Text × V)) → AllByRecursion P ds → AllByRecursion P (ds ++ (e ∷ []))
      appended [] l = (k.0, tt)
      appended (d ∷ ds) l = (l.0, appended ds l.1)

      by : (b : Bool) → AllByRecursion P (if b then es else es ++ (e ∷ []))
      by true = h
      by false = appended es h

  -- ---- what stands at the place of a name

  pub at_place : (es : List (Text × V)) (n : Text) → slice_get (map (λ e. e.1) es) (position_or_len (bytes_eq n) (map (λ e. e.0) es)) ≡ value_of es n
  at_place [] n = refl
  at_place (e ∷ es) n = by (bytes_eq n e.0) (at_place es n)
    where
      by : (b : Bool) → slice_get (map (λ e. e.1) es) (position_or_len (bytes_eq n) (map (λ e. e.0) es)) ≡ value_of es n
          → slice_get (map (λ e. e.1) (e ∷ es)) (cond (not b) (1 + position_or_len (bytes_eq n) (map (λ e. e.0) es)) 0) ≡ (if b then Some e.1 else value_of es n)
      by true h = refl
      by false h =
          let one : 1 + position_or_len (bytes_eq n) (map (λ e. e.0) es) ≡ suc (position_or_len (bytes_eq n) (map (λ e. e.0) es)) = omega arith in
          ap (slice_get (map (λ e. e.1) (e ∷ es))) one ∙ h

  pub at_place_or : (es : List (Text × V)) (n : Text) (d : V)
      → slice_index_or (map (λ e. e.1) es) (position_or_len (bytes_eq n) (map (λ e. e.0) es)) d ≡ either d (λ v. v) (value_of es n)
  at_place_or [] n d = refl
  at_place_or (e ∷ es) n d = by (bytes_eq n e.0) (at_place_or es n d)
    where
      by : (b : Bool) → slice_index_or (map (λ e. e.1) es) (position_or_len (bytes_eq n) (map (λ e. e.0) es)) d ≡ either d (λ v. v) (value_of es n)
          → slice_index_or (map (λ e. e.1) (e ∷ es)) (cond (not b) (1 + position_or_len (bytes_eq n) (map (λ e. e.0) es)) 0) d ≡ either d (λ v. v) (if b then Some e.1 else value_of es n)
      by true h = refl
      by false h =
          let one : 1 + position_or_len (bytes_eq n) (map (λ e. e.0) es) ≡ suc (position_or_len (bytes_eq n) (map (λ e. e.0) es)) = omega arith in
          ap (λ k. slice_index_or (map (λ e. e.1) (e ∷ es)) k d) one ∙ h

  -- where each name is declared to have what f makes of it
  pub value_of-made : (f : Text → V) (names : List Text) (n : Text) → value_of (map (λ s. (s, f s)) names) n ≡ (if among names n then Some (f n) else None)
  value_of-made f [] n = refl
  value_of-made f (s ∷ names) n = by (bytes_eq n s) refl (value_of-made f names n)
    where
      by : (b : Bool) → bytes_eq n s ≡ b → value_of (map (λ s. (s, f s)) names) n ≡ (if among names n then Some (f n) else None)
          → (if b then Some (f s) else value_of (map (λ s. (s, f s)) names) n) ≡ (if b || among names n then Some (f n) else None)
      by true same h = ap (λ t. Some (f t)) (sym (same_text n s (sym same)))
      by false same h = h

pub each_as : {X Y : Type 0} (f : X → Y) (xs : List X) → flat_map (λ x. f x ∷ []) xs ≡ map f xs
each_as f [] = refl
each_as f (x ∷ xs) = ap (λ l. f x ∷ l) (each_as f xs)
