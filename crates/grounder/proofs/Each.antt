-- Facts of each element of lists that are made of others.
use Rattle.std.proofs.Common.{◌≡◌, refl, sym, ap, subst, ◌∙◌, ℕ, suc, ◌+◌, ◌<◌, ◌≤◌, arith, Bool, true, false, ◌||◌, nat_lt, List, [], ◌∷◌, ◌++◌, map, cond, length, get_or, append_assoc}
use Rattle.std.specs.List.{AllByRecursion as Each, flat_map, filter, enumerate_from, list_any, list_all}
use Rattle.basics.proofs.Bools.{or_left}
use Rattle.basics.proofs.Naturals.{lt_in}
use Rattle.basics.proofs.Lists.{all_out, each_append, each_at, each_left, each_right, any_right, each_map}

pub each_weaker : {X : Type 0} (P Q : X → Type 0) → ((x : X) → P x → Q x) → (xs : List X) → Each P xs → Each Q xs
each_weaker P Q f [] h = tt
each_weaker P Q f (x ∷ xs) h = (f x h.0, each_weaker P Q f xs h.1)

pub each_both : {X : Type 0} (P Q : X → Type 0) (xs : List X) → Each P xs → Each Q xs → Each (λ x. P x × Q x) xs
each_both P Q [] h k = tt
each_both P Q (x ∷ xs) h k = ((h.0, k.0), each_both P Q xs h.1 k.1)

pub map_each : {X Y : Type 0} (P : Y → Type 0) (f : X → Y) (xs : List X) → Each P (map f xs) → Each (λ x. P (f x)) xs
map_each P f [] h = tt
map_each P f (x ∷ xs) h = (h.0, map_each P f xs h.1)

pub each_flat_map : {X Y : Type 0} (P : Y → Type 0) (f : X → List Y) (xs : List X) → Each (λ x. Each P (f x)) xs → Each P (flat_map f xs)
each_flat_map P f [] h = tt
each_flat_map P f (x ∷ xs) h = each_append P (f x) (flat_map f xs) h.0 (each_flat_map P f xs h.1)

pub flat_map_each : {X Y : Type 0} (P : Y → Type 0) (f : X → List Y) (xs : List X) → Each P (flat_map f xs) → Each (λ x. Each P (f x)) xs
flat_map_each P f [] h = tt
flat_map_each P f (x ∷ xs) h = (each_left P (f x) (flat_map f xs) h, flat_map_each P f xs (each_right P (f x) (flat_map f xs) h))

-- what a filter keeps passes its test
pub each_filter : {X : Type 0} (P : X → Type 0) (q : X → Bool) (xs : List X) → Each P xs → Each (λ x. P x × (q x ≡ true)) (filter q xs)
each_filter P q [] h = tt
each_filter P q (x ∷ xs) h = by (q x) refl (each_filter P q xs h.1)
  where
    by : (b : Bool) → q x ≡ b → Each (λ y. P y × (q y ≡ true)) (filter q xs) → Each (λ y. P y × (q y ≡ true)) (cond b (x ∷ filter q xs) (filter q xs))
    by true e k = ((h.0, e), k)
    by false e k = k

pub each_everywhere : {X : Type 0} (P : X → Type 0) → ((x : X) → P x) → (xs : List X) → Each P xs
each_everywhere P f [] = tt
each_everywhere P f (x ∷ xs) = (f x, each_everywhere P f xs)

-- ---- some element

-- each element is found in the list
pub each_found : {X : Type 0} (same : X → X → Bool) → ((x : X) → same x x ≡ true) → (before xs : List X) → Each (λ x. list_any (same x) (before ++ xs) ≡ true) xs
each_found same itself before [] = tt
each_found same itself before (x ∷ xs) = (
  any_right (same x) before (x ∷ xs) (or_left (same x x) (list_any (same x) xs) (itself x)),
  subst (λ ys. Each (λ y. list_any (same y) ys ≡ true) xs) (append_assoc before (x ∷ []) xs) (each_found same itself (before ++ (x ∷ [])) xs),
)

-- an element that passes the test, and a fact of each
pub any_of_each : {X : Type 0} (p : X → Bool) (P : X → Type 0) (Q : Type 0) → ((x : X) → p x ≡ true → P x → Q) → (xs : List X) → Each P xs → list_any p xs ≡ true → Q
any_of_each p P Q f [] h e = cc
any_of_each p P Q f (x ∷ xs) h e = by (p x) refl (any_of_each p P Q f xs h.1)
  where
    by : (b : Bool) → p x ≡ b → (list_any p xs ≡ true → Q) → Q
    by true k m = f x k h.0
    by false k m = m (sym (ap (λ b. b || list_any p xs) k) ∙ e)

-- ---- numbered elements

pub each_number : {X : Type 0} (n m : ℕ) (xs : List X) → n + length xs ≤ m → Each (λ x. nat_lt x.0 m ≡ true) (enumerate_from n xs)
each_number n m [] h = tt
each_number n m (x ∷ xs) h = (lt_in n m (omega arith), each_number (n + 1) m xs (omega arith))

pub each_enumerated : {X : Type 0} (P : X → Type 0) (n : ℕ) (xs : List X) → Each P xs → Each (λ x. P x.1) (enumerate_from n xs)
each_enumerated P n [] h = tt
each_enumerated P n (x ∷ xs) h = (h.0, each_enumerated P (n + 1) xs h.1)

-- each item passes a test that all pass
pub passes : {X : Type 0} (p : X → Bool) (xs : List X) (i : ℕ) (x : X) → i < length xs → x ≡ get_or xs i x → list_all p xs ≡ true → p x ≡ true
passes p xs i x lt at h = subst (λ y. p y ≡ true) (sym at) (each_at (λ y. p y ≡ true) xs i x lt (all_out p xs h))
