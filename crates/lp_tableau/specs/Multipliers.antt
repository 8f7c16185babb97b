-- Believed: the rows that an ended chain gives, as multipliers of the program's rows.
use Rattle.std.specs.Prelude.{ℕ, List, [], ◌∷◌, ◌+◌, length, map}
use Rattle.std.specs.List.{range_with_len}
use Rattle.rational.specs.Rational.{ℚ, zeroℚ, oneℚ, neg_ℚ}
use Rattle.lp_tableau.specs.Dictionaries.{Dictionary, row_of, basic_of}
use Rattle.lp_tableau.specs.Assignments.{look_up}

-- numbers with their places, counted from `start`
abbrev pub numbered : ℕ → List ℚ → List (ℕ × ℚ)
numbered start [] = []
numbered start (y ∷ ys) = (start, y) ∷ numbered (start + 1) ys

-- for each row the number that stands beside its slack, or 0
abbrev pub beside_slacks : Dictionary → List ℕ → List ℚ → List ℚ
beside_slacks d names us = map (look_up names us zeroℚ) (range_with_len (length d.nonbasic) (length d.rows))

-- the dual row: each nonbasic slack has its entry of the cost, each other slack 0
abbrev pub dual_of : Dictionary → List ℚ
dual_of d = beside_slacks d d.nonbasic d.cost

-- the Farkas row of the row at i: each nonbasic slack has minus its entry, the basic variable 1 if it is a slack, each other slack 0
abbrev pub farkas_of : Dictionary → ℕ → List ℚ
farkas_of d i = beside_slacks d (basic_of d i ∷ d.nonbasic) (oneℚ ∷ map neg_ℚ (row_of d i))
