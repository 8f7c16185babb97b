-- Believed: lists of states that go through the same changes one by one, and may linger.
use Rattle.std.specs.Prelude.{ℕ, zero, suc, ◌≡◌, ◌⊎◌, List, [], ◌∷◌}

-- i, i + 1, .. up to n more
abbrev pub steady : ℕ → ℕ → List ℕ
steady zero i = i ∷ []
steady (suc n) i = i ∷ steady n (suc i)

-- A list walks from i up to n more where it begins with i, each next is the same or one more, and it ends n more.
abbrev pub Walks : ℕ → ℕ → List ℕ → Type 0
Walks n i [] = ⊥
Walks n i (k ∷ []) = (k ≡ i) × (n ≡ 0)
Walks n i (k ∷ l ∷ ls) = (k ≡ i) × (Walks n i (l ∷ ls) ⊎ ((m : ℕ) × ((n ≡ suc m) × Walks m (suc i) (l ∷ ls))))
