-- Lists of which each chosen element passes a test.
use Rattle.std.proofs.Common.{◌≡◌, refl, sym, ◌∙◌, Bool, true, false, cond, List, [], ◌∷◌, ◌++◌}
use Rattle.std.specs.Prelude.{◌↔◌, IsPermutation}
use Rattle.std.specs.List.{AllByRecursion, list_all, flat_map, filter}
use Rattle.std.proofs.lemmas.List.Sorted.{IsPermutation-sym}
use Rattle.basics.proofs.Bools.{and_left, and_right, and_in}
use Rattle.basics.proofs.Lists.{each_append, each_left, each_right, each_map}
use Rattle.task_types.proofs.Everyone.{all_map}
use Rattle.task_types.proofs.Unordered.{every_reordered}
use Rattle.task_types.proofs.Reordering.{reordered}

pub same-reordered : {X : Type 0} (P : X → Type 0) (xs ys : List X) → IsPermutation xs ys → AllByRecursion P xs ↔ AllByRecursion P ys
same-reordered P xs ys p = (every_reordered P xs ys p, every_reordered P ys xs (IsPermutation-sym xs ys p))

-- one choice for all elements
pub chosen_out : {X : Type 0} (A : Type 0) (p : X → Bool) (xs : List X) → AllByRecursion (λ x. A → p x ≡ true) xs → A → list_all p xs ≡ true
chosen_out A p [] h a = refl
chosen_out A p (x ∷ xs) h a = and_in (p x) (list_all p xs) (h.0 a) (chosen_out A p xs h.1 a)

pub chosen_in : {X : Type 0} (A : Type 0) (p : X → Bool) (xs : List X) → (A → list_all p xs ≡ true) → AllByRecursion (λ x. A → p x ≡ true) xs
chosen_in A p [] h = tt
chosen_in A p (x ∷ xs) h = ((λ a. and_left (p x) (list_all p xs) (h a)), chosen_in A p xs (λ a. and_right (p x) (list_all p xs) (h a)))

-- each element of a list of lists
pub each-flat_in : {X Y : Type 0} (P : Y → Type 0) (f : X → List Y) (xs : List X) → AllByRecursion (λ x. AllByRecursion P (f x)) xs → AllByRecursion P (flat_map f xs)
each-flat_in P f [] h = tt
each-flat_in P f (x ∷ xs) h = each_append P (f x) (flat_map f xs) h.0 (each-flat_in P f xs h.1)

-- two lists gone through in either order
pub each-crossed : {X Y : Type 0} (R : X → Y → Type 0) (xs : List X) (ys : List Y) → AllByRecursion (λ x. AllByRecursion (R x) ys) xs → AllByRecursion (λ y. AllByRecursion (λ x. R x y) xs) ys
each-crossed R xs [] h = tt
each-crossed R xs (y ∷ ys) h = (all_map (λ x. AllByRecursion (R x) (y ∷ ys)) (λ x. R x y) xs (λ x k. k.0) h, each-crossed R xs ys (all_map (λ x. AllByRecursion (R x) (y ∷ ys)) (λ x. AllByRecursion (R x) ys) xs (λ x k. k.1) h))

-- the chosen elements of a filtered list
pub each-filter_in : {X : Type 0} (P : X → Type 0) (r : X → Bool) (xs : List X) → AllByRecursion (λ x. r x ≡ true → P x) xs → AllByRecursion P (filter r xs)
each-filter_in P r [] h = tt
each-filter_in P r (x ∷ xs) h = go (r x) refl (each-filter_in P r xs h.1)
  where
    go : (b : Bool) → r x ≡ b → AllByRecursion P (filter r xs) → AllByRecursion P (cond b (x ∷ filter r xs) (filter r xs))
    go true e k = (h.0 e, k)
    go false e k = k

pub each-filter_out : {X : Type 0} (P : X → Type 0) (r : X → Bool) (xs : List X) → AllByRecursion P (filter r xs) → AllByRecursion (λ x. r x ≡ true → P x) xs
each-filter_out P r [] h = tt
each-filter_out P r (x ∷ xs) h = go (r x) refl h (each-filter_out P r xs)
  where
    go : (b : Bool) → r x ≡ b → AllByRecursion P (cond b (x ∷ filter r xs) (filter r xs)) → (AllByRecursion P (filter r xs) → AllByRecursion (λ x. r x ≡ true → P x) xs) → (r x ≡ true → P x) × AllByRecursion (λ x. r x ≡ true → P x) xs
    go true e k f = ((λ t. k.0), f k.1)
    go false e k f = ((λ t. let c : false ≡ true = sym e ∙ t in cc), f k)

-- ---- pairs of a list

-- each element stands in a relation to each later one
abbrev pub EachPair : {X : Type 0} → (X → X → Type 0) → List X → Type 0
EachPair R [] = Unit {0}
EachPair R (x ∷ xs) = AllByRecursion (R x) xs × EachPair R xs

module _ {X : Type 0} (R : X → X → Type 0) where
  -- each element of one list stands in the relation to each of another
  abbrev pub EachAcross : List X → List X → Type 0
  EachAcross xs ys = AllByRecursion (λ x. AllByRecursion (R x) ys) xs

  pub pairs-append : (xs ys : List X) → EachPair R xs → EachPair R ys → EachAcross xs ys → EachPair R (xs ++ ys)
  pairs-append [] ys p q c = q
  pairs-append (x ∷ xs) ys p q c = (each_append (R x) xs ys p.0 c.0, pairs-append xs ys p.1 q c.1)

  pub pairs-left : (xs ys : List X) → EachPair R (xs ++ ys) → EachPair R xs
  pairs-left [] ys p = tt
  pairs-left (x ∷ xs) ys p = (each_left (R x) xs ys p.0, pairs-left xs ys p.1)

  pub pairs-right : (xs ys : List X) → EachPair R (xs ++ ys) → EachPair R ys
  pairs-right [] ys p = p
  pairs-right (x ∷ xs) ys p = pairs-right xs ys p.1

  pub pairs-across : (xs ys : List X) → EachPair R (xs ++ ys) → EachAcross xs ys
  pairs-across [] ys p = tt
  pairs-across (x ∷ xs) ys p = (each_right (R x) xs ys p.0, pairs-across xs ys p.1)

  -- pairs of a relation that holds both ways round may be taken in any order
  Carries : List X → List X → Type 0
  Carries xs ys = (EachPair R xs → EachPair R ys) × ((z : X) → AllByRecursion (R z) xs → AllByRecursion (R z) ys)

  pub pairs-reordered : ((x y : X) → R x y → R y x) → (xs ys : List X) → IsPermutation xs ys → EachPair R xs → EachPair R ys
  unfolding Carries
  pairs-reordered turn xs ys p h = (reordered Carries (λ xs. (λ e. e, λ z a. a)) (λ xs ys zs h k. (λ e. k.0 (h.0 e), λ z a. k.1 z (h.1 z a)))
      (λ x xs ys h. (λ e. (h.1 x e.0, h.0 e.1), λ z a. (a.0, h.1 z a.1))) (λ x y zs. (λ e. ((turn x y e.0.0, e.1.0), (e.0.1, e.1.1)), λ z a. (a.1.0, (a.0, a.1.1)))) xs ys p).0 h
