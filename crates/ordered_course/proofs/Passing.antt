-- Tests that all pass, and what is blocked.
use Rattle.std.proofs.Common.{◌≡◌, refl, ap, ◌∙◌, ℕ, zero, suc, ◌+◌, ◌<◌, ◌≤◌, Bool, true, cond, not, ◌&&◌, List, [], ◌∷◌, ◌++◌, map, length, take, drop, arith, Some, None}
use Rattle.std.specs.Prelude.{slice_index_or}
use Rattle.std.specs.List.{list_all, flat_map, enumerate_from, range_with_len, find, AllByRecursion}
use Rattle.basics.proofs.Bools.{and_left, and_right}
use Rattle.basics.proofs.Lists.{all_append}
use Rattle.task_types.specs.declared.conditions.Condition.{Condition}
use Rattle.task_types.specs.declared.conditions.Literal.{Literal}
use Rattle.task_types.specs.declared.orderings.Blocked.{Blocked}
use Rattle.task_types.specs.State.{literal_holds}
use Rattle.task_types.specs.Blocking.{literal_tests}

-- no first one fails where all pass
pub none_fails : {X : Type 0} (p : X → Bool) (xs : List X) → list_all p xs ≡ true → find (λ x. not (p x)) xs ≡ None
none_fails p [] h = refl
none_fails p (x ∷ xs) h = ap (λ b. cond (not b) (Some x) (find (λ x. not (p x)) xs)) (and_left (p x) (list_all p xs) h) ∙ none_fails p xs (and_right (p x) (list_all p xs) h)

-- all pass that are made of each number of a range
pub all_of_range : {X : Type 0} (p : X → Bool) (f : ℕ → List X) (i n : ℕ) → ((k : ℕ) → i ≤ k → k < i + n → list_all p (f k) ≡ true) → list_all p (flat_map f (range_with_len i n)) ≡ true
all_of_range p f i zero h = refl
all_of_range p f i (suc n) h = all_append p (f i) (flat_map f (range_with_len (i + 1) n)) (h i (omega arith) (omega arith)) (all_of_range p f (i + 1) n (λ k a b. h k (omega arith) (omega arith)))

-- all pass that are made of each number of a list
pub all_of_each : {X : Type 0} (p : X → Bool) (f : ℕ → List X) (xs : List ℕ) → AllByRecursion (λ x. list_all p (f x) ≡ true) xs → list_all p (flat_map f xs) ≡ true
all_of_each p f [] h = refl
all_of_each p f (x ∷ xs) h = all_append p (f x) (flat_map f xs) h.0 (all_of_each p f xs h.1)

-- what is asked holds
abbrev pub passes : Blocked × Bool → Bool
passes b = b.1

literals_numbered : (place : ℕ → Blocked) (facts : ℕ → Bool) (n : ℕ) (ls : List Literal) → list_all passes (map (λ l. (place l.0, literal_holds l.1 facts)) (enumerate_from n ls)) ≡ list_all (λ l. literal_holds l facts) ls
literals_numbered place facts n [] = refl
literals_numbered place facts n (l ∷ ls) = ap (λ b. literal_holds l facts && b) (literals_numbered place facts (n + 1) ls)

pub literals_pass : (place : ℕ → Blocked) (facts : ℕ → Bool) (c : Condition) → list_all (λ l. literal_holds l facts) c.literals ≡ true → list_all passes (literal_tests place facts c) ≡ true
literals_pass place facts c h = literals_numbered place facts 1 c.literals ∙ h

-- each of a list, numbered
pub numbered_pass : {X : Type 0} (place : ℕ → Blocked) (p : X → Bool) (n : ℕ) (xs : List X) → list_all p xs ≡ true → list_all passes (map (λ x. (place x.0, p x.1)) (enumerate_from n xs)) ≡ true
numbered_pass place p n [] h = refl
numbered_pass place p n (x ∷ xs) h = ap (λ b. b && list_all passes (map (λ x. (place x.0, p x.1)) (enumerate_from (n + 1) xs))) (and_left (p x) (list_all p xs) h) ∙ numbered_pass place p (n + 1) xs (and_right (p x) (list_all p xs) h)

-- ---- a list at a place

pub parted_at : {X : Type 0} (xs : List X) (k : ℕ) (d : X) → k < length xs → take k xs ++ slice_index_or xs k d ∷ drop (suc k) xs ≡ xs
parted_at [] k d h = absurd (omega arith)
parted_at (x ∷ xs) zero d h = refl
parted_at (x ∷ xs) (suc k) d h = ap (λ l. x ∷ l) (parted_at xs k d (omega arith))

pub taken_more : {X : Type 0} (xs : List X) (k : ℕ) (d : X) → k < length xs → take (suc k) xs ≡ take k xs ++ slice_index_or xs k d ∷ []
taken_more [] k d h = absurd (omega arith)
taken_more (x ∷ xs) zero d h = refl
taken_more (x ∷ xs) (suc k) d h = ap (λ l. x ∷ l) (taken_more xs k d (omega arith))
