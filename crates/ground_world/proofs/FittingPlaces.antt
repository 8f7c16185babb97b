-- Which objects fit a type, and that types which are never asked for are fit by those without a type alone.
use Rattle.std.proofs.Common.{◌≡◌, refl, sym, ap, ap₂, ◌∙◌, ℕ, suc, zero, ◌+◌, ◌<◌, ◌≤◌, arith, Bool, true, false, ◌||◌, not, List, [], ◌∷◌, ◌++◌, map, length, take, get_or, Option, Some, None, slice_index_or, if◌then◌else◌, nat_eq}
use Rattle.std.specs.List.{AllByRecursion, flat_map, filter, list_any, enumerate_from, position_or_len}
use Rattle.std.specs.Option.{option_map_or}
use Rattle.std.specs.Str.{bytes_eq}
use Rattle.std.proofs.lemmas.List.{map-append, length-take-le}
use Rattle.std.proofs.lemmas.List.Folds.{list_any-append}
use Rattle.std.proofs.lemmas.List.Elements.{filter-append}
use Rattle.std.proofs.lemmas.Bool.Decides.{nat_tests}
use Rattle.basics.proofs.Bools.{or_false, or_false_left, or_false_right}
use Rattle.pddl_terms.specs.declared.trees.Name.{Name}
use Rattle.pddl_terms.specs.declared.trees.Group.{Group}
use Rattle.pddl_names.specs.Declarations.{Text, Typed, object_word, type_bytes, typed, typed_of, among, value_of, with_firsts}
use Rattle.pddl_names.specs.Fitting.{above, chain, is_nothing, is_below, fits}
use Rattle.ground_world.specs.World.{either, place_in}
use Rattle.ground_world.specs.FirstState.{places_fitting}
use Rattle.ground_world.specs.Building.{Lists, places_passing, fitting_places, column_of, sorts_above, asked_sorts}
use Rattle.ground_world.proofs.Steps.{taken}
use Rattle.ground_world.proofs.FirstDeclared.{first_of, value_of-firsts, value_of-made, all-firsts, at_place_or}

-- ---- one object more

pub enumerate-append : {X : Type 0} (xs ys : List X) (n : ℕ) → enumerate_from n (xs ++ ys) ≡ enumerate_from n xs ++ enumerate_from (n + length xs) ys
enumerate-append [] ys n = let e : n ≡ n + 0 = omega arith in ap (λ k. enumerate_from k ys) e
enumerate-append (x ∷ xs) ys n =
    let e : n + 1 + length xs ≡ n + suc (length xs) = omega arith in
    ap (λ l. (n, x) ∷ l) (enumerate-append xs ys (n + 1) ∙ ap (λ k. enumerate_from (n + 1) xs ++ enumerate_from k ys) e)

pub one_place_more : (passes : Text → Bool) (sorts : List Text) (i : ℕ) (own : Text) (before after : List ℕ) → i < length sorts → own ≡ get_or sorts i own
    → before ≡ places_passing passes (take i sorts)
    → after ≡ before ++ (if passes own then i ∷ [] else []) → after ≡ places_passing passes (take (i + 1) sorts)
one_place_more passes sorts i own before after lt at h k =
    let len : length (take i sorts) ≡ i = length-take-le i sorts (omega arith) in
    k ∙ ap (λ l. l ++ (if passes own then i ∷ [] else [])) h
    ∙ sym (ap (places_passing passes) (taken sorts i own lt at)
    ∙ ap (λ l. map {A = ℕ × Text} (λ x. x.0) (filter (λ x. passes x.1) l)) (enumerate-append (take i sorts) (own ∷ []) 0)
    ∙ ap (map {A = ℕ × Text} (λ x. x.0)) (filter-append {X = ℕ × Text} (λ x. passes x.1) (enumerate_from 0 (take i sorts)) (enumerate_from (0 + length (take i sorts)) (own ∷ [])))
    ∙ map-append {A = ℕ × Text} (λ x. x.0) (filter (λ x. passes x.1) (enumerate_from 0 (take i sorts))) (filter (λ x. passes x.1) (enumerate_from (0 + length (take i sorts)) (own ∷ [])))
    ∙ ap (λ l. places_passing passes (take i sorts) ++ l) (last (0 + length (take i sorts)) (omega arith)))
  where
    last : (n : ℕ) → n ≡ i → map (λ x. x.0) (filter (λ x. passes x.1) (enumerate_from n (own ∷ []))) ≡ (if passes own then i ∷ [] else [])
    last n e = by (passes own)
      where
        by : (b : Bool) → map {A = ℕ × Text} (λ x. x.0) (if b then (n, own) ∷ [] else []) ≡ (if b then i ∷ [] else [])
        by true = ap (λ k. k ∷ []) e
        by false = refl

-- ---- the places of objects, by their types

places_by_sort : (types : List Typed) (t : Text) (objects : List Typed) (n : ℕ)
    → map (λ x. x.0) (filter (λ x. fits types x.1.1 t) (enumerate_from n objects))
    ≡ map (λ x. x.0) (filter (λ x. fits types x.1 t) (enumerate_from n (map (λ o. o.1) objects)))
places_by_sort types t [] n = refl
places_by_sort types t (o ∷ objects) n = by (fits types o.1 t) (places_by_sort types t objects (n + 1))
  where
    rest : List (ℕ × Typed)
    rest = filter (λ x. fits types x.1.1 t) (enumerate_from (n + 1) objects)

    others : List (ℕ × Text)
    others = filter (λ x. fits types x.1 t) (enumerate_from (n + 1) (map (λ o. o.1) objects))

    by : (b : Bool) → map (λ x. x.0) rest ≡ map (λ x. x.0) others
        → map (λ x. x.0) (if b then (n, o) ∷ rest else rest) ≡ map (λ x. x.0) (if b then (n, o.1) ∷ others else others)
    by true h = ap (λ l. n ∷ l) h
    by false h = h

pub fitting-is : (types : List Typed) (t : Text) (objects : List Typed) → places_fitting types objects t ≡ fitting_places types (map (λ o. o.1) objects) t
fitting-is types t objects = places_by_sort types t objects 0

same_places : (p q : Text → Bool) (sorts : List Text) (n : ℕ) → AllByRecursion (λ s. p s ≡ q s) sorts
    → map (λ x. x.0) (filter (λ x. p x.1) (enumerate_from n sorts)) ≡ map (λ x. x.0) (filter (λ x. q x.1) (enumerate_from n sorts))
same_places p q [] n h = refl
same_places p q (s ∷ sorts) n h =
    ap (λ b. map (λ x. x.0) (if b then (n, s) ∷ filter (λ x. p x.1) (enumerate_from (n + 1) sorts) else filter (λ x. p x.1) (enumerate_from (n + 1) sorts))) h.0
    ∙ by (q s) (same_places p q sorts (n + 1) h.1)
  where
    by : (b : Bool) → map (λ x. x.0) (filter (λ x. p x.1) (enumerate_from (n + 1) sorts)) ≡ map (λ x. x.0) (filter (λ x. q x.1) (enumerate_from (n + 1) sorts))
        → map (λ x. x.0) (if b then (n, s) ∷ filter (λ x. p x.1) (enumerate_from (n + 1) sorts) else filter (λ x. p x.1) (enumerate_from (n + 1) sorts))
        ≡ map (λ x. x.0) (if b then (n, s) ∷ filter (λ x. q x.1) (enumerate_from (n + 1) sorts) else filter (λ x. q x.1) (enumerate_from (n + 1) sorts))
    by true k = ap (λ l. n ∷ l) k
    by false k = k

-- ---- types that are never asked for

abbrev Differs : Text → Text × Text → Type 0
Differs u e = bytes_eq u e.1 ≡ false

not_above : (u : Text) (types : List Typed) (t : Text) (s : Text) → AllByRecursion (Differs u) types → value_of types t ≡ Some s → bytes_eq u s ≡ false
not_above u [] t s h k = cc
not_above u (e ∷ types) t s h k = by (bytes_eq t e.0) k (not_above u types t s h.1)
  where
    by : (b : Bool) → (if b then Some e.1 else value_of types t) ≡ Some s → (value_of types t ≡ Some s → bytes_eq u s ≡ false) → bytes_eq u s ≡ false
    by true l later = ap (bytes_eq u) (sym (let f : e.1 ≡ s = cc in f)) ∙ h.0
    by false l later = later l

chain-absent : (u : Text) (types : List Typed) (n : ℕ) (t : Text) → AllByRecursion (Differs u) types → bytes_eq u t ≡ false → among (chain types n t) u ≡ false
unfolding chain
chain-absent u types zero t h k = ap (λ b. b || false) k
chain-absent u types (suc n) t h k = ap (λ b. b || among (option_map_or (chain types n) (above types t) []) u) k ∙ up (above types t) (above_by (bytes_eq t object_word)) (λ s l. chain-absent u types n s h l)
  where
    above_by : (b : Bool) → (s : Text) → (if b then None else value_of types t) ≡ Some s → bytes_eq u s ≡ false
    above_by true s l = cc
    above_by false s l = not_above u types t s h l

    up : (o : Option Text) → ((s : Text) → o ≡ Some s → bytes_eq u s ≡ false) → ((s : Text) → bytes_eq u s ≡ false → among (chain types n s) u ≡ false)
        → among (option_map_or (chain types n) o []) u ≡ false
    up None l further = refl
    up (Some s) l further = further s (l s refl)

something : (u : Text) → bytes_eq u [] ≡ false → is_nothing u ≡ false
something [] h = cc
something (b ∷ bs) h = let e : 0 < length (b ∷ bs) = omega arith in grind (arith, nat_tests)

unasked-fits : (types : List Typed) (own u : Text) → AllByRecursion (Differs u) types → bytes_eq u object_word ≡ false → bytes_eq u [] ≡ false → bytes_eq u own ≡ false
    → fits types own u ≡ is_nothing own
unfolding fits
unasked-fits types own u h o e k =
    ap₂ (λ a b. is_nothing own || (a || (b || is_below types own u))) (something u e) o
    ∙ ap (λ b. is_nothing own || b) (chain-absent u types (length types) own h k) ∙ or_false (is_nothing own)

typed-differ : (u : Text) (groups : List Group) → among (sorts_above groups) u ≡ false → AllByRecursion (Differs u) (typed groups)
typed-differ u [] h = tt
typed-differ u (g ∷ groups) h = by g.names (typed-differ u groups (or_false_right (bytes_eq u (type_bytes g.of)) (among (sorts_above groups) u) h))
  where
    by : (ns : List Name) → AllByRecursion (Differs u) (typed groups) → AllByRecursion (Differs u) (map {B = Typed} (λ n. (n.bytes, type_bytes g.of)) ns ++ typed groups)
    by [] later = later
    by (n ∷ ns) later = (or_false_left (bytes_eq u (type_bytes g.of)) (among (sorts_above groups) u) h, by ns later)

own-differ : (u : Text) (sorts : List Text) → among sorts u ≡ false → AllByRecursion (λ s. bytes_eq u s ≡ false) sorts
own-differ u [] h = tt
own-differ u (s ∷ sorts) h = (or_false_left (bytes_eq u s) (among sorts u) h, own-differ u sorts (or_false_right (bytes_eq u s) (among sorts u) h))

unasked-each : (types : List Typed) (s : Text) → AllByRecursion (Differs s) types → bytes_eq s object_word ≡ false → bytes_eq s [] ≡ false → (owns : List Text)
    → AllByRecursion (λ own. bytes_eq s own ≡ false) owns → AllByRecursion (λ own. is_nothing own ≡ fits types own s) owns
unasked-each types s d o e [] k = tt
unasked-each types s d o e (own ∷ owns) k = (sym (unasked-fits types own s d o e k.0), unasked-each types s d o e owns k.1)

-- ---- the columns

pub columns-are : (groups : List Group) (sorts names : List Text) (columns : List (List ℕ)) (others : List ℕ)
    → Lists names columns (with_firsts [] (map (column_of (with_firsts [] (typed groups)) sorts) (asked_sorts groups sorts)))
    → others ≡ places_passing is_nothing sorts
    → (s : Text) → slice_index_or columns (place_in names s) others ≡ fitting_places (with_firsts [] (typed groups)) sorts s
columns-are groups sorts names columns others h rest s =
    ap₂ (λ (cs : List (List ℕ)) (ns : List Text). slice_index_or cs (position_or_len (bytes_eq s) ns) others) h.1 h.0
    ∙ at_place_or (with_firsts [] (map (column_of types sorts) (asked_sorts groups sorts))) s others
    ∙ ap (either others (λ v. v)) (value_of-firsts [] (map (column_of types sorts) (asked_sorts groups sorts)) s ∙ value_of-made (fitting_places types sorts) (asked_sorts groups sorts) s)
    ∙ by (among (asked_sorts groups sorts) s) refl
  where
    types : List Typed
    types = with_firsts [] (typed groups)

    by : (b : Bool) → among (asked_sorts groups sorts) s ≡ b → either others (λ v. v) (if b then Some (fitting_places types sorts s) else None) ≡ fitting_places types sorts s
    by true h = refl
    by false h =
        let o : bytes_eq s object_word ≡ false = or_false_left (bytes_eq s object_word) (bytes_eq s [] || among (sorts ++ sorts_above groups) s) h in
        let r : (bytes_eq s [] || among (sorts ++ sorts_above groups) s) ≡ false = or_false_right (bytes_eq s object_word) (bytes_eq s [] || among (sorts ++ sorts_above groups) s) h in
        let e : bytes_eq s [] ≡ false = or_false_left (bytes_eq s []) (among (sorts ++ sorts_above groups) s) r in
        let both : (among sorts s || among (sorts_above groups) s) ≡ false = sym (list_any-append (bytes_eq s) sorts (sorts_above groups)) ∙ or_false_right (bytes_eq s []) (among (sorts ++ sorts_above groups) s) r in
        let differ : AllByRecursion (Differs s) types = all-firsts (Differs s) [] (typed groups) tt (typed-differ s groups (or_false_right (among sorts s) (among (sorts_above groups) s) both)) in
        rest ∙ same_places is_nothing (λ own. fits types own s) sorts 0 (unasked-each types s differ o e sorts (own-differ s sorts (or_false_left (among sorts s) (among (sorts_above groups) s) both)))
