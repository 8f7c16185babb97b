-- What two lists have in common where one has the elements of the other in some order.
use Rattle.std.proofs.Common.{◌≡◌, refl, ap, subst, ◌∙◌, ℕ, zero, suc, ◌<◌, ◌≤◌, Bool, true, false, cond, ◌&&◌, ◌||◌, List, [], ◌∷◌, ◌++◌, length, map, arith, append_assoc}
use Rattle.std.specs.Prelude.{slice_index_or, slice_set, swap, IsPermutation}
use Rattle.std.specs.List.{list_all, list_any, filter, flat_map}
use Rattle.std.proofs.lemmas.List.Sorted.{IsPermutation-keeps, IsPermutation-refl, IsPermutation-trans, IsPermutation-cons, IsPermutation-append_comm, IsPermutation-append_left, IsPermutation-append_right}
use Rattle.rational.specs.Rational.{ℚ, ◌+ℚ◌}
use Rattle.rational.proofs.Ring.{law, ◌⊕◌, ◌≐◌}
use Rattle.rational.proofs.Field.{ℚ_ring}
use Rattle.task_types.specs.Tests.{total}

-- a relation that any reordering keeps, since it is kept under a first element and where the first two change places
module _ {X : Type 0} (R : List X → List X → Type 0)
    (same : (xs : List X) → R xs xs)
    (again : (xs ys zs : List X) → R xs ys → R ys zs → R xs zs)
    (under : (x : X) (xs ys : List X) → R xs ys → R (x ∷ xs) (x ∷ ys))
    (crossed : (x y : X) (zs : List X) → R (x ∷ y ∷ zs) (y ∷ x ∷ zs)) where
  exchanged : (d : X) (ys : List X) (k : ℕ) (e : X) → k < length ys → R (d ∷ ys) (slice_index_or ys k e ∷ slice_set ys k d)
  exchanged d [] k e h = absurd (omega arith)
  exchanged d (y ∷ ys) zero e h = crossed d y ys
  exchanged d (y ∷ ys) (suc k) e h = again (d ∷ y ∷ ys) (y ∷ d ∷ ys) (slice_index_or ys k e ∷ y ∷ slice_set ys k d) (crossed d y ys)
      (again (y ∷ d ∷ ys) (y ∷ slice_index_or ys k e ∷ slice_set ys k d) (slice_index_or ys k e ∷ y ∷ slice_set ys k d)
      (under y (d ∷ ys) (slice_index_or ys k e ∷ slice_set ys k d) (exchanged d ys k e (omega arith)))
      (crossed y (slice_index_or ys k e) (slice_set ys k d)))

  -- two places exchanged
  abbrev places : X → List X → ℕ → ℕ → List X
  places e xs i j = slice_set (slice_set xs i (slice_index_or xs j e)) j (slice_index_or xs i e)

  placed : (e : X) (xs : List X) (i j : ℕ) → i < length xs → j < length xs → R xs (places e xs i j)
  placed e [] i j h k = absurd (omega arith)
  placed e (x ∷ xs) zero zero h k = same (x ∷ xs)
  placed e (x ∷ xs) zero (suc j) h k = exchanged x xs j e (omega arith)
  placed e (x ∷ xs) (suc i) zero h k = exchanged x xs i e (omega arith)
  placed e (x ∷ xs) (suc i) (suc j) h k = under x xs (places e xs i j) (placed e xs i j (omega arith) (omega arith))

  swap_kept : (xs : List X) (i j : ℕ) → i < length xs → j < length xs → R xs (swap xs i j)
  swap_kept [] i j h k = absurd (omega arith)
  swap_kept (x ∷ xs) i j h k = placed x (x ∷ xs) i j h k

  pub reordered : (xs ys : List X) → IsPermutation xs ys → R xs ys
  reordered xs ys p = IsPermutation-keeps xs (λ l. R xs l) (same xs) (λ l i j h k r. again xs l (swap l i j) r (swap_kept l i j h k)) ys p

-- ---- tests and sums

pub and_crossed : (a b c : Bool) → (a && (b && c)) ≡ (b && (a && c))
and_crossed true b c = refl
and_crossed false true c = refl
and_crossed false false c = refl

or_crossed : (a b c : Bool) → (a || (b || c)) ≡ (b || (a || c))
or_crossed true true c = refl
or_crossed true false c = refl
or_crossed false b c = refl

pub all_reordered : {X : Type 0} (p : X → Bool) (xs ys : List X) → IsPermutation xs ys → list_all p xs ≡ list_all p ys
all_reordered p = reordered (λ xs ys. list_all p xs ≡ list_all p ys) (λ xs. refl) (λ xs ys zs h k. h ∙ k) (λ x xs ys h. ap (λ b. p x && b) h) (λ x y zs. and_crossed (p x) (p y) (list_all p zs))

pub any_reordered : {X : Type 0} (p : X → Bool) (xs ys : List X) → IsPermutation xs ys → list_any p xs ≡ list_any p ys
any_reordered p = reordered (λ xs ys. list_any p xs ≡ list_any p ys) (λ xs. refl) (λ xs ys zs h k. h ∙ k) (λ x xs ys h. ap (λ b. p x || b) h) (λ x y zs. or_crossed (p x) (p y) (list_any p zs))

pub total_reordered : (xs ys : List ℚ) → IsPermutation xs ys → total xs ≡ total ys
total_reordered = reordered (λ xs ys. total xs ≡ total ys) (λ xs. refl) (λ xs ys zs h k. h ∙ k) (λ x xs ys h. ap (λ q. x +ℚ q) h) (λ x y zs. law ℚ_ring (x ∷ y ∷ (total zs) ∷ []) (λ x y z. (x ⊕ (y ⊕ z)) ≐ (y ⊕ (x ⊕ z))) refl)

-- ---- lists made of a list

module _ {X Y : Type 0} (f : X → List Y) where
  pub flat_map_reordered : (xs ys : List X) → IsPermutation xs ys → IsPermutation (flat_map f xs) (flat_map f ys)
  flat_map_reordered = reordered (λ xs ys. IsPermutation (flat_map f xs) (flat_map f ys)) (λ xs. IsPermutation-refl (flat_map f xs)) (λ xs ys zs h k. IsPermutation-trans (flat_map f xs) (flat_map f ys) (flat_map f zs) h k)
      (λ x xs ys h. IsPermutation-append_right (f x) (flat_map f xs) (flat_map f ys) h)
      (λ x y zs. subst (λ l. IsPermutation l (f y ++ (f x ++ flat_map f zs))) (append_assoc (f x) (f y) (flat_map f zs))
      (subst (λ l. IsPermutation ((f x ++ f y) ++ flat_map f zs) l) (append_assoc (f y) (f x) (flat_map f zs))
      (IsPermutation-append_left (flat_map f zs) (f x ++ f y) (f y ++ f x) (IsPermutation-append_comm (f x) (f y)))))

module _ {X : Type 0} (p : X → Bool) where
  filter_under : (x : X) (xs ys : List X) → IsPermutation (filter p xs) (filter p ys) → (b : Bool) → IsPermutation (cond b (x ∷ filter p xs) (filter p xs)) (cond b (x ∷ filter p ys) (filter p ys))
  filter_under x xs ys h true = IsPermutation-cons x (filter p xs) (filter p ys) h
  filter_under x xs ys h false = h

  filter_crossed : (x y : X) (zs : List X) (a b : Bool) → IsPermutation (cond a (x ∷ cond b (y ∷ zs) zs) (cond b (y ∷ zs) zs)) (cond b (y ∷ cond a (x ∷ zs) zs) (cond a (x ∷ zs) zs))
  filter_crossed x y zs true true = IsPermutation-append_left zs (x ∷ y ∷ []) (y ∷ x ∷ []) (IsPermutation-append_comm (x ∷ []) (y ∷ []))
  filter_crossed x y zs true false = IsPermutation-refl (x ∷ zs)
  filter_crossed x y zs false true = IsPermutation-refl (y ∷ zs)
  filter_crossed x y zs false false = IsPermutation-refl zs

  pub filter_reordered : (xs ys : List X) → IsPermutation xs ys → IsPermutation (filter p xs) (filter p ys)
  filter_reordered = reordered (λ xs ys. IsPermutation (filter p xs) (filter p ys)) (λ xs. IsPermutation-refl (filter p xs)) (λ xs ys zs h k. IsPermutation-trans (filter p xs) (filter p ys) (filter p zs) h k)
      (λ x xs ys h. filter_under x xs ys h (p x)) (λ x y zs. filter_crossed x y (filter p zs) (p x) (p y))

-- a list of at most one element is its only order
pub one_order : {X : Type 0} (xs ys : List X) → IsPermutation xs ys → length xs ≤ 1 → xs ≡ ys
one_order xs ys p = (reordered (λ xs ys. (length xs ≡ length ys) × (length xs ≤ 1 → xs ≡ ys)) (λ xs. (refl, λ h. refl))
    (λ xs ys zs h k. (h.0 ∙ k.0, λ l. h.1 l ∙ k.1 (omega (arith, h.0)))) (λ x xs ys h. (ap suc h.0, λ l. ap (λ zs. x ∷ zs) (h.1 (omega arith)))) (λ x y zs. (refl, λ l. absurd (omega arith))) xs ys p).1

-- ---- elements of a list changed where nothing sees it

module _ {X Y : Type 0} (u : X → X) where
  pub flat_map-unseen : (f : X → List Y) → ((x : X) → f (u x) ≡ f x) → (xs : List X) → flat_map f (map u xs) ≡ flat_map f xs
  flat_map-unseen f h [] = refl
  flat_map-unseen f h (x ∷ xs) = rw (h x, flat_map-unseen f h xs) refl

  filter_unseen : (f : X → List Y) → ((x : X) → f (u x) ≡ f x) → (x : X) (xs : List X) (p : X → Bool) → flat_map f (filter p (map u xs)) ≡ flat_map f (filter p xs) → (b : Bool) → flat_map f (cond b (u x ∷ filter p (map u xs)) (filter p (map u xs))) ≡ flat_map f (cond b (x ∷ filter p xs) (filter p xs))
  filter_unseen f h x xs p e true = rw (h x, e) refl
  filter_unseen f h x xs p e false = e

  pub flat_map-filter-unseen : (f : X → List Y) (p : X → Bool) → ((x : X) → f (u x) ≡ f x) → ((x : X) → p (u x) ≡ p x) → (xs : List X) → flat_map f (filter p (map u xs)) ≡ flat_map f (filter p xs)
  flat_map-filter-unseen f p h k [] = refl
  flat_map-filter-unseen f p h k (x ∷ xs) = ap (λ b. flat_map f (cond b (u x ∷ filter p (map u xs)) (filter p (map u xs)))) (k x) ∙ filter_unseen f h x xs p (flat_map-filter-unseen f p h k xs) (p x)

pub all-unseen : {X : Type 0} (u : X → X) (p : X → Bool) → ((x : X) → p (u x) ≡ p x) → (xs : List X) → list_all p (map u xs) ≡ list_all p xs
all-unseen u p k [] = refl
all-unseen u p k (x ∷ xs) = rw (k x, all-unseen u p k xs) refl
