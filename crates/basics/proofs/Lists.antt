-- Lists: tests of all elements, facts of each, one more element, and elements by their places.
use Rattle.std.proofs.Common.{◌≡◌, ◌⊎◌, inl, inr, ⊎_elim, refl, sym, ap, subst, ◌∙◌, ℕ, zero, suc, ◌+◌, ◌<◌, ◌≤◌, Bool, true, List, [], ◌∷◌, ◌++◌, length, map, drop, get_or, slice_index_or, arith}
use Rattle.std.specs.List.{AllByRecursion, list_all, list_any, filter, flat_map, range_with_len}
use Rattle.std.proofs.lemmas.List.{map-append, drop_more}
use Rattle.std.proofs.lemmas.List.Elements.{filter-append}
use Rattle.std.proofs.lemmas.List.Folds.{list_any-append}
use Rattle.std.proofs.lemmas.List.Sums.{length-filter, count_by-le-length}
use Rattle.basics.proofs.Bools.{and_left, and_right, and_in, or_left, or_right}

-- ---- tests of all elements
pub all_append : {X : Type 0} (p : X → Bool) (xs ys : List X) → list_all p xs ≡ true → list_all p ys ≡ true → list_all p (xs ++ ys) ≡ true
all_append p [] ys h k = k
all_append p (x ∷ xs) ys h k = and_in (p x) (list_all p (xs ++ ys)) (and_left (p x) (list_all p xs) h) (all_append p xs ys (and_right (p x) (list_all p xs) h) k)

pub all_left : {X : Type 0} (p : X → Bool) (xs ys : List X) → list_all p (xs ++ ys) ≡ true → list_all p xs ≡ true
all_left p [] ys h = refl
all_left p (x ∷ xs) ys h = and_in (p x) (list_all p xs) (and_left (p x) (list_all p (xs ++ ys)) h) (all_left p xs ys (and_right (p x) (list_all p (xs ++ ys)) h))

pub all_right : {X : Type 0} (p : X → Bool) (xs ys : List X) → list_all p (xs ++ ys) ≡ true → list_all p ys ≡ true
all_right p [] ys h = h
all_right p (x ∷ xs) ys h = all_right p xs ys (and_right (p x) (list_all p (xs ++ ys)) h)

-- what passes one test passes a weaker one
pub all_weaker : {X : Type 0} (p q : X → Bool) → ((x : X) → p x ≡ true → q x ≡ true) → (xs : List X) → list_all p xs ≡ true → list_all q xs ≡ true
all_weaker p q f [] h = refl
all_weaker p q f (x ∷ xs) h = and_in (q x) (list_all q xs) (f x (and_left (p x) (list_all p xs) h)) (all_weaker p q f xs (and_right (p x) (list_all p xs) h))

-- a filter keeps no more than there is
pub filter-shorter : {X : Type 0} (p : X → Bool) (xs : List X) → length (filter p xs) ≤ length xs
filter-shorter p xs = subst (λ n. n ≤ length xs) (sym (length-filter p xs)) (count_by-le-length p xs)

-- a test of all elements, as a fact of each
pub all_out : {X : Type 0} (p : X → Bool) (xs : List X) → list_all p xs ≡ true → AllByRecursion (λ x. p x ≡ true) xs
all_out p [] e = tt
all_out p (x ∷ xs) e = (and_left (p x) (list_all p xs) e, all_out p xs (and_right (p x) (list_all p xs) e))

pub all_in : {X : Type 0} (p : X → Bool) (xs : List X) → AllByRecursion (λ x. p x ≡ true) xs → list_all p xs ≡ true
all_in p [] h = refl
all_in p (x ∷ xs) h = and_in (p x) (list_all p xs) h.0 (all_in p xs h.1)

-- ---- tests that an element passes
pub any_left : {X : Type 0} (p : X → Bool) (xs ys : List X) → list_any p xs ≡ true → list_any p (xs ++ ys) ≡ true
any_left p xs ys h = list_any-append p xs ys ∙ or_left (list_any p xs) (list_any p ys) h

pub any_right : {X : Type 0} (p : X → Bool) (xs ys : List X) → list_any p ys ≡ true → list_any p (xs ++ ys) ≡ true
any_right p xs ys h = list_any-append p xs ys ∙ or_right (list_any p xs) (list_any p ys) h

-- ---- lists joined to nothing
pub nothing_left : {X : Type 0} (xs ys : List X) → xs ++ ys ≡ [] → xs ≡ []
nothing_left [] ys e = refl
nothing_left (x ∷ xs) ys e = let t : x ∷ (xs ++ ys) ≡ [] = e in cc

pub nothing_right : {X : Type 0} (xs ys : List X) → xs ++ ys ≡ [] → ys ≡ []
nothing_right [] ys e = e
nothing_right (x ∷ xs) ys e = let t : x ∷ (xs ++ ys) ≡ [] = e in cc

pub nothing_each : {X Y : Type 0} (f : X → List Y) (xs : List X) → flat_map f xs ≡ [] → AllByRecursion (λ x. f x ≡ []) xs
nothing_each f [] e = tt
nothing_each f (x ∷ xs) e = (nothing_left (f x) (flat_map f xs) e, nothing_each f xs (nothing_right (f x) (flat_map f xs) e))

-- ---- facts of each element
pub each_append : {X : Type 0} (P : X → Type 0) (xs ys : List X) → AllByRecursion P xs → AllByRecursion P ys → AllByRecursion P (xs ++ ys)
each_append P [] ys h k = k
each_append P (x ∷ xs) ys h k = (h.0, each_append P xs ys h.1 k)

pub each_left : {X : Type 0} (P : X → Type 0) (xs ys : List X) → AllByRecursion P (xs ++ ys) → AllByRecursion P xs
each_left P [] ys h = tt
each_left P (x ∷ xs) ys h = (h.0, each_left P xs ys h.1)

pub each_right : {X : Type 0} (P : X → Type 0) (xs ys : List X) → AllByRecursion P (xs ++ ys) → AllByRecursion P ys
each_right P [] ys h = h
each_right P (x ∷ xs) ys h = each_right P xs ys h.1

pub each_map : {X Y : Type 0} (P : Y → Type 0) (f : X → Y) (xs : List X) → AllByRecursion (λ x. P (f x)) xs → AllByRecursion P (map f xs)
each_map P f [] h = tt
each_map P f (x ∷ xs) h = (h.0, each_map P f xs h.1)

-- elements that come with their facts
pub each_first : {X : Type 0} (P : X → Type 0) (es : List ((x : X) × P x)) → AllByRecursion P (map (λ e. e.0) es)
each_first P [] = tt
each_first P (e ∷ es) = (e.1, each_first P es)

-- where each element has a fact or has its denial, all have it or not all
pub each_decided : {X : Type 0} (P : X → Type 0) → ((x : X) → P x ⊎ (¬ P x)) → (xs : List X) → AllByRecursion P xs ⊎ (¬ AllByRecursion P xs)
each_decided P f [] = inl tt
each_decided P f (x ∷ xs) = ⊎_elim
    (λ p. ⊎_elim (λ all. inl (p, all)) (λ n. inr (λ h. n h.1)) (each_decided P f xs))
    (λ n. inr (λ h. n h.0)) (f x)

-- ---- chosen elements
pub map-filter-append : {X Y : Type 0} (f : X → Y) (p : X → Bool) (xs ys : List X) → map f (filter p (xs ++ ys)) ≡ map f (filter p xs) ++ map f (filter p ys)
map-filter-append f p xs ys = ap (map f) (filter-append p xs ys) ∙ map-append f (filter p xs) (filter p ys)

-- ---- consecutive numbers
pub range-more : (a i : ℕ) → range_with_len a (i + 1) ≡ range_with_len a i ++ (a + i) ∷ []
range-more a zero = let e : a + 0 ≡ a = omega arith in rw e refl
range-more a (suc i) =
    let s : suc i + 1 ≡ suc (i + 1) = omega arith in
    let t : a + 1 + i ≡ a + suc i = omega arith in
    rw s (ap (λ l. a ∷ l) (range-more (a + 1) i ∙ ap (λ k. range_with_len (a + 1) i ++ k ∷ []) t))

-- ---- elements by their places
pub drop_item : {X : Type 0} (xs : List X) (n : ℕ) (x : X) → n < length xs → x ≡ get_or xs n x → drop n xs ≡ x ∷ drop (n + 1) xs
drop_item xs n x h e = drop_more xs n x h ∙ ap (λ y. y ∷ drop (n + 1) xs) (sym e)

-- what holds of each element holds of the one at a place
pub each_at : {X : Type 0} (P : X → Type 0) (xs : List X) (i : ℕ) (d : X) → i < length xs → AllByRecursion P xs → P (slice_index_or xs i d)
each_at P [] i d h a = absurd (omega arith)
each_at P (x ∷ xs) zero d h a = a.0
each_at P (x ∷ xs) (suc i) d h a = each_at P xs i d (omega arith) a.1

pub at_each : {X : Type 0} (P : X → Type 0) (xs : List X) (d : X) → ((i : ℕ) → i < length xs → P (slice_index_or xs i d)) → AllByRecursion P xs
at_each P [] d f = tt
at_each P (x ∷ xs) d f = (f 0 (omega arith), at_each P xs d (λ i h. f (suc i) (omega arith)))
