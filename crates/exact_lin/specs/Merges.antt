-- Private: sums of terms as a merge of two lists in the order of their ids, step by step.
use Rattle.std.specs.Prelude.{◌≡◌, ℕ, ◌<◌, ◌≤◌, [], ◌∷◌, ◌++◌, ⊤}
use Rattle.std.specs.List.{AllByRecursion}
use Rattle.std.specs.Ordering.{nat_cmp, match_ordering, MatchOrdering}
use Rattle.rational.specs.Rational.{ℚ, ◌+ℚ◌, ◌*ℚ◌}
use Rattle.exact_lin.specs.Reckoning.{CanAdd, CanMultiply}
use Rattle.exact_lin.specs.Forms.{Terms, with_term}

-- the terms `ts` with c more at the id v, followed by what `next` makes of the terms behind it
abbrev pub absorb : ℕ → ℚ → (Terms → Terms) → Terms → Terms
absorb v c next [] = with_term v c (next [])
absorb v c next (t ∷ ts) = match_ordering (nat_cmp t.0 v) (t ∷ absorb v c next ts) (with_term v (t.1 +ℚ c) (next ts)) (with_term v c (next (t ∷ ts)))

-- the terms `ts` with y times each of the other terms added, both in the order of their ids
abbrev pub merged : ℚ → Terms → Terms → Terms
merged y [] ts = ts
merged y (u ∷ us) ts = absorb u.0 (y *ℚ u.1) (merged y us) ts

abbrev pub CanAbsorb : ℕ → ℕ → ℚ → (Terms → Type 0) → Terms → Type 0
CanAbsorb limit v c next [] = next []
CanAbsorb limit v c next (t ∷ ts) = MatchOrdering (nat_cmp t.0 v) (CanAbsorb limit v c next ts) (CanAdd limit t.1 c × next ts) (next (t ∷ ts))

-- each product and each sum of the merge is defined
abbrev pub CanMerge : ℕ → ℚ → Terms → Terms → Type 0
CanMerge limit y [] ts = ⊤
CanMerge limit y (u ∷ us) ts = CanMultiply limit y u.1 × CanAbsorb limit u.0 (y *ℚ u.1) (CanMerge limit y us) ts

-- no term comes before the id v
abbrev pub StartsFrom : ℕ → Terms → Type 0
StartsFrom v [] = ⊤
StartsFrom v (t ∷ ts) = v ≤ t.0

-- the terms before the id v go from the front of the list to the end of the sum
pub record KeepsBelow (v : ℕ) (terms before after rest : Terms) : Type 0 where
  pub kept : Terms
  pub split : terms ≡ kept ++ rest
  pub sum : after ≡ before ++ kept
  pub below : AllByRecursion (λ (t : ℕ × ℚ). t.0 < v) kept
  pub starts : StartsFrom v rest

-- where the first term has the id v, c is added to its coefficient, and what is left are the terms behind it
abbrev pub joined_coefficient : ℕ → ℚ → Terms → ℚ
joined_coefficient v c [] = c
joined_coefficient v c (t ∷ ts) = match_ordering (nat_cmp t.0 v) c (t.1 +ℚ c) c

abbrev pub behind : ℕ → Terms → Terms
behind v [] = []
behind v (t ∷ ts) = match_ordering (nat_cmp t.0 v) (t ∷ ts) ts (t ∷ ts)

abbrev pub CanJoin : ℕ → ℕ → ℚ → Terms → Type 0
CanJoin limit v c [] = ⊤
CanJoin limit v c (t ∷ ts) = MatchOrdering (nat_cmp t.0 v) ⊤ (CanAdd limit t.1 c) ⊤

-- one more term u of the other list is merged: the sum goes on from `before` to `after`, and `later` is what is left
pub record MergesTerm (limit : ℕ) (y : ℚ) (left : Terms) (u : ℕ × ℚ) (before after later : Terms) : Type 0 where
  pub terms : (us : Terms) → before ++ merged y (u ∷ us) left ≡ after ++ merged y us later
  pub enough : (us : Terms) → CanMerge limit y us later → CanMerge limit y (u ∷ us) left
  pub needed : (us : Terms) → CanMerge limit y (u ∷ us) left → CanMerge limit y us later
