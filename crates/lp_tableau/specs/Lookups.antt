-- Private: a list of scalars in which each place stands for a variable.
use Rattle.std.specs.Prelude.{◌≡◌, ℕ, ◌+◌, ◌<◌, List, length, map}
use Rattle.rational.specs.Lists.{at}
use Rattle.rational.specs.Rational.{ℚ, zeroℚ}
use Rattle.lp_tableau.specs.Assignments.{look_up}

-- the place of each variable, from `start` on, holds what stands beside its name, or 0
abbrev pub AreLookedUp : {S : Type 0} → (S → ℚ) → ℕ → List ℕ → List ℚ → List S → Type 0
AreLookedUp value start names us out = (w : ℕ) → w < length out → at (map value out) w ≡ look_up names us zeroℚ (start + w)
