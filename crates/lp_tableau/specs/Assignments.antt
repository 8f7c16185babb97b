-- Believed: values of all variables from those of some, and the point at which the nonbasic variables are 0.
use Rattle.std.specs.Prelude.{ℕ, List, [], ◌∷◌, length, map, nat_eq, if◌then◌else◌}
use Rattle.rational.specs.Lists.{at}
use Rattle.std.specs.List.{range_with_len}
use Rattle.rational.specs.Rational.{ℚ, zeroℚ}
use Rattle.lp_tableau.specs.Dictionaries.{Dictionary}

-- the number that stands beside the name v, or `other` where v is not among the names
abbrev pub look_up : List ℕ → List ℚ → ℚ → ℕ → ℚ
look_up [] us other v = other
look_up (name ∷ names) [] other v = other
look_up (name ∷ names) (u ∷ us) other v = if nat_eq name v then u else look_up names us other v

-- the value of a variable where each nonbasic variable is 0: its constant, if it is basic
abbrev pub basic_value : Dictionary → ℕ → ℚ
basic_value d v = look_up d.basic (map (λ row. at row (length d.nonbasic)) d.rows) zeroℚ v

-- the values of the first n variables there
abbrev pub point_of : Dictionary → ℕ → List ℚ
point_of d n = map (basic_value d) (range_with_len 0 n)
