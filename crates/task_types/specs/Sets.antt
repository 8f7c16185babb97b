-- Believed: lists of numbers as sets.
use Rattle.std.specs.Prelude.{ℕ, Bool, true, not, ◌&&◌, ◌==◌, List, [], ◌∷◌}
use Rattle.std.specs.List.{list_any, range_with_len}

-- 0, 1, .. below n
abbrev pub numbers : ℕ → List ℕ
numbers n = range_with_len 0 n

-- the number is in the list
abbrev pub is_in : ℕ → List ℕ → Bool
is_in x ys = list_any (λ y. y == x) ys

-- the two lists have a number in common
abbrev pub meet : List ℕ → List ℕ → Bool
meet xs ys = list_any (λ x. is_in x ys) xs

-- no number stands twice
abbrev pub are_distinct : List ℕ → Bool
are_distinct [] = true
are_distinct (x ∷ xs) = not (is_in x xs) && are_distinct xs

-- two different numbers stand in the list
abbrev pub are_several : List ℕ → Bool
are_several xs = list_any (λ x. list_any (λ y. not (y == x)) xs) xs
