-- The fluents: which ground fluents are bindings of functions that change, and that in ascending order they are those of all bindings.
use Rattle.std.proofs.Common.{◌≡◌, refl, sym, ap, ap₂, subst, ◌∙◌, ℕ, suc, zero, ◌+◌, ◌<◌, ◌≤◌, arith, Bool, true, false, ◌||◌, ◌&&◌, not, nat_eq, List, [], ◌∷◌, ◌++◌, map, length, take, get_or, Vec, Option, Some, None, is_some, slice_get, if◌then◌else◌}
use Rattle.std.specs.List.{AllByRecursion, flat_map, filter, list_any, enumerate_from}
use Rattle.std.specs.List.Sorted.{IsStrictlySortedBy}
use Rattle.std.specs.Ordering.{nat_cmp}
use Rattle.std.specs.Str.{bytes_eq}
use Rattle.std.specs.Cmp.Lexicographic.{slice_cmp, same_text}
use Rattle.std.specs.declared.alloc.Global.{Global}
use Rattle.std.proofs.lemmas.List.{map-append}
use Rattle.std.proofs.lemmas.List.Folds.{list_any-append}
use Rattle.std.proofs.lemmas.List.Kept.{IsStrictlySortedBy-filter}
use Rattle.std.proofs.lemmas.Map.Views.{any-filter_same}
use Rattle.std.proofs.lemmas.Bool.Decides.{nat_tests}
use Rattle.basics.proofs.Bools.{or_false}
use Rattle.rational.specs.Rational.{ℚ}
use Rattle.pddl_terms.specs.declared.files.Declared.{Declared}
use Rattle.pddl_names.specs.Declarations.{Text, Typed, Signature, among, value_of, with_new, with_firsts}
use Rattle.ground_world.specs.World.{World, GroundAtom, either}
use Rattle.ground_world.specs.Bindings.{choices}
use Rattle.ground_world.specs.FirstState.{signatures_of, places_fitting, all_atoms}
use Rattle.ground_world.specs.Building.{fits_columns, is_changing, IsSortedOut}
use Rattle.ground_world.proofs.Ascending.{list_cmp, has, blocks, sorted-blocks, sorted-enumerate, sorted-map, same-sorted}
use Rattle.ground_world.proofs.FirstDeclared.{known, value_of-firsts}
use Rattle.ground_world.proofs.Steps.{taken}

-- ---- members of blocks

no_empty : (m : ℕ) (rs : List (List ℕ)) → has (map (λ r. m ∷ r) rs) [] ≡ false
no_empty m [] = refl
no_empty m (r ∷ rs) = no_empty m rs

in_block : (o m : ℕ) (os : List ℕ) (rs : List (List ℕ)) → has (map (λ r. m ∷ r) rs) (o ∷ os) ≡ (nat_eq o m && has rs os)
in_block o m os [] = none (nat_eq o m)
  where
    none : (b : Bool) → false ≡ (b && false)
    none true = refl
    none false = refl
in_block o m os (r ∷ rs) = ap (λ b. (nat_eq o m && bytes_eq os r) || b) (in_block o m os rs) ∙ out (nat_eq o m) (bytes_eq os r) (has rs os)
  where
    out : (a b c : Bool) → ((a && b) || (a && c)) ≡ (a && (b || c))
    out true b c = refl
    out false b c = refl

-- ---- ways to choose

no_empty_choice : (cs : List (List ℕ)) (c : List ℕ) → has (flat_map (λ o. map (λ rest. o ∷ rest) (choices cs)) c) [] ≡ false
no_empty_choice cs [] = refl
no_empty_choice cs (o ∷ c) =
    list_any-append (bytes_eq []) (map (λ rest. o ∷ rest) (choices cs)) (flat_map (λ o. map (λ rest. o ∷ rest) (choices cs)) c)
    ∙ ap₂ (λ a b. a || b) (no_empty o (choices cs)) (no_empty_choice cs c)

in_choice : (cs : List (List ℕ)) (o : ℕ) (os : List ℕ) (c : List ℕ)
    → has (flat_map (λ o. map (λ rest. o ∷ rest) (choices cs)) c) (o ∷ os) ≡ (list_any (nat_eq o) c && has (choices cs) os)
in_choice cs o os [] = refl
in_choice cs o os (m ∷ c) =
    list_any-append (bytes_eq (o ∷ os)) (map (λ rest. m ∷ rest) (choices cs)) (flat_map (λ o. map (λ rest. o ∷ rest) (choices cs)) c)
    ∙ ap₂ (λ a b. a || b) (in_block o m os (choices cs)) (in_choice cs o os c) ∙ out (nat_eq o m) (list_any (nat_eq o) c) (has (choices cs) os)
  where
    out : (a b h : Bool) → ((a && h) || (b && h)) ≡ ((a || b) && h)
    out true true true = refl
    out true true false = refl
    out true false true = refl
    out true false false = refl
    out false b h = refl

pub choices-has : (cs : List (List ℕ)) (os : List ℕ) → has (choices cs) os ≡ fits_columns cs os
choices-has [] [] = refl
choices-has [] (o ∷ os) = refl
choices-has (c ∷ cs) [] = no_empty_choice cs c
choices-has (c ∷ cs) (o ∷ os) = in_choice cs o os c ∙ ap (λ b. list_any (nat_eq o) c && b) (choices-has cs os)

one_sorted : IsStrictlySortedBy list_cmp ([] ∷ [])
unfolding IsStrictlySortedBy
one_sorted = (tt, tt)

pub choices-sorted : (cs : List (List ℕ)) → AllByRecursion (IsStrictlySortedBy nat_cmp) cs → IsStrictlySortedBy list_cmp (choices cs)
choices-sorted [] h = one_sorted
choices-sorted (c ∷ cs) h = sorted-blocks (λ o. o) (λ o. choices cs) c h.0 (λ o. choices-sorted cs h.1)

-- ---- bindings of functions

-- what stands at place f of a list whose places are counted from n on
at_from : {X : Type 0} → ℕ → List X → ℕ → Option X
at_from n [] f = None
at_from n (x ∷ xs) f = if nat_eq f n then Some x else at_from (n + 1) xs f

at_from-below : {X : Type 0} (n : ℕ) (xs : List X) (f : ℕ) → f < n → at_from n xs f ≡ None
unfolding at_from
at_from-below n [] f h = refl
at_from-below n (x ∷ xs) f h =
    let e : nat_eq f n ≡ false = grind (arith, nat_tests) in
    ap (λ b. if b then Some x else at_from (n + 1) xs f) e ∙ at_from-below (n + 1) xs f (omega arith)

at_from-is : {X : Type 0} (n : ℕ) (xs : List X) (k f : ℕ) → f ≡ n + k → at_from n xs f ≡ slice_get xs k
unfolding at_from
at_from-is n [] k f e = refl
at_from-is n (x ∷ xs) zero f e =
    let t : nat_eq f n ≡ true = grind (arith, nat_tests) in ap (λ b. if b then Some x else at_from (n + 1) xs f) t
at_from-is n (x ∷ xs) (suc k) f e =
    let t : nat_eq f n ≡ false = grind (arith, nat_tests) in
    ap (λ b. if b then Some x else at_from (n + 1) xs f) t ∙ at_from-is (n + 1) xs k f (omega arith)

module _ {X : Type 0} (passes : ℕ → Bool) (t : X → List (List ℕ)) where
  abbrev numbered_blocks : List (ℕ × X) → List (List ℕ)
  numbered_blocks xs = flat_map (λ x. map (λ os. x.0 ∷ os) (t x.1)) (filter (λ x. passes x.0) xs)

  blocks-no_empty : (xs : List (ℕ × X)) → has (numbered_blocks xs) [] ≡ false
  blocks-no_empty [] = refl
  blocks-no_empty (x ∷ xs) = by (passes x.0) (blocks-no_empty xs)
    where
      by : (b : Bool) → has (numbered_blocks xs) [] ≡ false
          → has (flat_map (λ x. map (λ os. x.0 ∷ os) (t x.1)) (if b then x ∷ filter (λ x. passes x.0) xs else filter (λ x. passes x.0) xs)) [] ≡ false
      by true h = list_any-append (bytes_eq []) (map (λ os. x.0 ∷ os) (t x.1)) (numbered_blocks xs) ∙ ap₂ (λ a b. a || b) (no_empty x.0 (t x.1)) h
      by false h = h

  blocks-has : (n : ℕ) (xs : List X) (f : ℕ) (os : List ℕ)
      → has (numbered_blocks (enumerate_from n xs)) (f ∷ os) ≡ (passes f && either false (λ x. has (t x) os) (at_from n xs f))
  unfolding at_from
  blocks-has n [] f os = nothing (passes f)
    where
      nothing : (b : Bool) → false ≡ (b && false)
      nothing true = refl
      nothing false = refl
  blocks-has n (x ∷ xs) f os = by (passes n) refl (nat_eq f n) refl (blocks-has (n + 1) xs f os)
    where
      later : List (List ℕ)
      later = numbered_blocks (enumerate_from (n + 1) xs)

      one_place : nat_eq f n ≡ true → f ≡ n
      one_place h = grind (arith, nat_tests)

      nothing : (b : Bool) → (b && false) ≡ false
      nothing true = refl
      nothing false = refl

      none_later : f ≡ n → has later (f ∷ os) ≡ (passes f && either false (λ x. has (t x) os) (at_from (n + 1) xs f)) → has later (f ∷ os) ≡ false
      none_later e h =
          h ∙ ap (λ o. passes f && either false (λ x. has (t x) os) o) (at_from-below (n + 1) xs f (omega arith)) ∙ nothing (passes f)

      by : (b : Bool) → passes n ≡ b → (c : Bool) → nat_eq f n ≡ c
          → has later (f ∷ os) ≡ (passes f && either false (λ x. has (t x) os) (at_from (n + 1) xs f))
          → has (flat_map (λ x. map (λ os. x.0 ∷ os) (t x.1)) (if b then (n, x) ∷ filter (λ x. passes x.0) (enumerate_from (n + 1) xs) else filter (λ x. passes x.0) (enumerate_from (n + 1) xs))) (f ∷ os)
          ≡ (passes f && either false (λ x. has (t x) os) (if c then Some x else at_from (n + 1) xs f))
      by true p true c h =
          list_any-append (bytes_eq (f ∷ os)) (map (λ os. n ∷ os) (t x)) later
          ∙ ap₂ (λ a b. a || b) (in_block f n os (t x) ∙ ap (λ a. a && has (t x) os) c) (none_later (one_place c) h)
          ∙ or_false (has (t x) os) ∙ ap (λ a. a && has (t x) os) (sym (ap passes (one_place c) ∙ p))
      by true p false c h =
          list_any-append (bytes_eq (f ∷ os)) (map (λ os. n ∷ os) (t x)) later
          ∙ ap (λ a. a || has later (f ∷ os)) (in_block f n os (t x) ∙ ap (λ a. a && has (t x) os) c)
          ∙ h
      by false p true c h =
          none_later (one_place c) h ∙ ap (λ a. a && has (t x) os) (sym (ap passes (one_place c) ∙ p))
      by false p false c h = h

-- ---- the fluents of a world

among-with_new : (old more : List (List ℕ)) (a : List ℕ) → has (with_new old more) a ≡ (has old a || has more a)
among-with_new old [] a = sym (or_false (has old a))
among-with_new old (n ∷ more) a =
    among-with_new (if among old n then old else old ++ (n ∷ [])) more a ∙ ap (λ b. b || has more a) (one (among old n) refl) ∙ assoc (has old a) (bytes_eq a n) (has more a)
  where
    assoc : (x y z : Bool) → ((x || y) || z) ≡ (x || (y || z))
    assoc true y z = refl
    assoc false y z = refl

    there : (c : Bool) → bytes_eq a n ≡ c → among old n ≡ true → has old a ≡ (has old a || c)
    there true e h = let f : has old a ≡ true = ap (has old) (same_text a n (sym e)) ∙ h in f ∙ sym (ap (λ b. b || true) f)
    there false e h = sym (or_false (has old a))

    one : (b : Bool) → among old n ≡ b → has (if b then old else old ++ (n ∷ [])) a ≡ (has old a || bytes_eq a n)
    one true h = there (bytes_eq a n) refl h
    one false h = list_any-append (bytes_eq a) old (n ∷ []) ∙ ap (λ b. has old a || b) (or_false (bytes_eq a n))

pub among-new : (more : List (List ℕ)) (a : List ℕ) → among (with_new [] more) a ≡ among more a
among-new more a = among-with_new [] more a

-- one more fluent
pub sorted_out-more : (before more after : List (List ℕ)) (a : List ℕ) → after ≡ with_new before more → has after a ≡ (has before a || has more a)
sorted_out-more before more after a e = ap (λ l. has l a) e ∙ among-with_new before more a

-- one more fluent, which is kept where it passes
pub kept-more : (passes : List ℕ → Bool) (xs : List (Vec ℕ Global)) (i : ℕ) (x : Vec ℕ Global) (before after : List (List ℕ)) → i < length xs → x ≡ get_or xs i x
    → ((a : List ℕ) → has before a ≡ (passes a && has (map (λ k. k.items) (take i xs)) a))
    → after ≡ with_new before (if passes x.items then x.items ∷ [] else [])
    → (a : List ℕ) → has after a ≡ (passes a && has (map (λ k. k.items) (take (i + 1) xs)) a)
kept-more passes xs i x before after lt at h e a =
    sorted_out-more before (if passes x.items then x.items ∷ [] else []) after a e
    ∙ ap (λ b. b || has (if passes x.items then x.items ∷ [] else []) a) (h a)
    ∙ by (passes x.items) refl (bytes_eq a x.items) refl
    ∙ ap (λ b. passes a && b) (sym (ap (λ l. has l a) (ap (map (λ k. k.items)) (taken xs i x lt at) ∙ map-append (λ k. k.items) (take i xs) (x ∷ []))
    ∙ list_any-append (bytes_eq a) (map (λ k. k.items) (take i xs)) (x.items ∷ [])))
  where
    old : Bool
    old = has (map (λ k. k.items) (take i xs)) a

    both : (p b o : Bool) → ((p && o) || (p && (b || false))) ≡ (p && (o || (b || false)))
    both true b o = refl
    both false b o = refl

    by : (b : Bool) → passes x.items ≡ b → (c : Bool) → bytes_eq a x.items ≡ c
        → ((passes a && old) || has (if b then x.items ∷ [] else []) a) ≡ (passes a && (old || (c || false)))
    by true p true c =
        let is : passes a ≡ true = ap passes (same_text a x.items (sym c)) ∙ p in
        ap (λ b. (b && old) || has (x.items ∷ []) a) is ∙ ap (λ b. old || (b || false)) c ∙ sym (ap (λ b. b && (old || (true || false))) is)
    by true p false c = ap (λ b. (passes a && old) || (b || false)) c ∙ out (passes a) old
      where
        out : (p o : Bool) → ((p && o) || false) ≡ (p && (o || false))
        out true o = refl
        out false o = refl
    by false p true c =
        let is : passes a ≡ false = ap passes (same_text a x.items (sym c)) ∙ p in
        ap (λ b. (b && old) || false) is ∙ sym (ap (λ b. b && (old || (true || false))) is)
    by false p false c = out (passes a) old
      where
        out : (p o : Bool) → ((p && o) || false) ≡ (p && (o || false))
        out true o = refl
        out false o = refl

pub column-sorted : (types : List Typed) (objects : List Typed) (s : Text) → IsStrictlySortedBy nat_cmp (places_fitting types objects s)
column-sorted types objects s =
    sorted-map (λ x y. nat_cmp x.0 y.0) nat_cmp (λ x. x.0) (λ x y h. h) (filter _ (enumerate_from 0 objects))
    (IsStrictlySortedBy-filter (λ x y. nat_cmp x.0 y.0) _ (enumerate_from 0 objects) (sorted-enumerate objects 0))

columns-sorted : (w : World) → ((s : Text) → IsStrictlySortedBy nat_cmp (w.fitting s)) → (sorts : List Text) → AllByRecursion (IsStrictlySortedBy nat_cmp) (map w.fitting sorts)
columns-sorted w h [] = tt
columns-sorted w h (s ∷ sorts) = (h s, columns-sorted w h sorts)

pub atoms-sorted : (w : World) (passes : ℕ → Bool) (ds : List Declared) → ((s : Text) → IsStrictlySortedBy nat_cmp (w.fitting s)) → IsStrictlySortedBy list_cmp (all_atoms w passes ds)
atoms-sorted w passes ds h =
    sorted-blocks (λ (x : ℕ × Signature). x.0) (λ x. choices (map w.fitting x.1.1)) (filter (λ x. passes x.0) (enumerate_from 0 (signatures_of ds)))
    (IsStrictlySortedBy-filter (λ x y. nat_cmp x.0 y.0) (λ x. passes x.0) (enumerate_from 0 (signatures_of ds)) (sorted-enumerate (signatures_of ds) 0))
    (λ x. choices-sorted (map w.fitting x.1.1) (columns-sorted w h x.1.1))

changing-has : (w : World) (ds : List Declared) (sorts : List (List Text)) (a : GroundAtom) → sorts ≡ map (λ e. e.1) (signatures_of ds)
    → has (all_atoms w (λ f. not (w.is_static_function f)) ds) a ≡ is_changing w sorts a
changing-has w ds sorts [] e = blocks-no_empty (λ f. not (w.is_static_function f)) (λ (s : Signature). choices (map w.fitting s.1)) (enumerate_from 0 (signatures_of ds))
changing-has w ds sorts (f ∷ os) e =
    blocks-has (λ f. not (w.is_static_function f)) (λ (s : Signature). choices (map w.fitting s.1)) 0 (signatures_of ds) f os
    ∙ ap (λ o. not (w.is_static_function f) && either false (λ (s : Signature). has (choices (map w.fitting s.1)) os) o) (at_from-is 0 (signatures_of ds) f f (omega arith))
    ∙ ap (λ b. not (w.is_static_function f) && b) (second (signatures_of ds) f ∙ ap (λ (l : List (List Text)). either false (λ ss. fits_columns (map w.fitting ss) os) (slice_get l f)) (sym e))
    ∙ turn (w.is_static_function f) (either false (λ ss. fits_columns (map w.fitting ss) os) (slice_get sorts f))
  where
    turn : (b c : Bool) → (not b && c) ≡ (if b then false else c)
    turn true c = refl
    turn false c = refl

    second : (sigs : List Signature) (k : ℕ) → either false (λ (s : Signature). has (choices (map w.fitting s.1)) os) (slice_get sigs k)
        ≡ either false (λ ss. fits_columns (map w.fitting ss) os) (slice_get (map (λ e. e.1) sigs) k)
    second [] k = refl
    second (s ∷ sigs) zero = choices-has (map w.fitting s.1) os
    second (s ∷ sigs) (suc k) = second sigs k

-- What is sorted out of the fluents that have a value are the bindings that have one.
pub fluents-are : (w : World) (ds : List Declared) (sorts : List (List Text)) (values : List (GroundAtom × ℚ)) (given out : List GroundAtom)
    → ((s : Text) → IsStrictlySortedBy nat_cmp (w.fitting s)) → sorts ≡ map (λ e. e.1) (signatures_of ds)
    → given ≡ map (λ e. e.0) (with_firsts [] values) → IsSortedOut (is_changing w sorts) given out
    → out ≡ filter (λ f. is_some (value_of values f)) (all_atoms w (λ f. not (w.is_static_function f)) ds)
fluents-are w ds sorts values given out h e g o =
    same-sorted out (filter (λ f. is_some (value_of values f)) changing) o.sorted
    (IsStrictlySortedBy-filter list_cmp (λ f. is_some (value_of values f)) changing (atoms-sorted w (λ f. not (w.is_static_function f)) ds h))
    (λ a. o.members a ∙ ap₂ (λ x y. x && y) (sym (changing-has w ds sorts a e)) (ap (λ l. has l a) g ∙ known (with_firsts [] values) a ∙ ap is_some (value_of-firsts [] values a))
    ∙ round (has changing a) (is_some (value_of values a))
    ∙ sym (any-filter_same (bytes_eq a) (λ f. is_some (value_of values f)) (is_some (value_of values a)) (λ k t. ap (λ m. is_some (value_of values m)) (sym (same_text a k (sym t)))) changing))
  where
    changing : List GroundAtom
    changing = all_atoms w (λ f. not (w.is_static_function f)) ds

    round : (x y : Bool) → (x && y) ≡ (y && x)
    round true true = refl
    round true false = refl
    round false true = refl
    round false false = refl
