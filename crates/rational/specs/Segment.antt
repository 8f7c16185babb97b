-- Believed: linear functions of one number, as of the time, and where they are at least 0.
use Rattle.std.specs.Prelude.{pos}
use Rattle.rational.specs.Rational.{ℚ, zeroℚ, ratio, ◌+ℚ◌, ◌*ℚ◌, ◌≤ℚ◌, ◌<ℚ◌}

-- the value at t of the linear function with value c at 0 and slope m
abbrev pub along : ℚ → ℚ → ℚ → ℚ
along c m t = c +ℚ m *ℚ t

-- the function is at least 0 at every rational number strictly between two
abbrev pub NonnegBetween : ℚ → ℚ → ℚ → ℚ → Type 0
NonnegBetween c m lo hi = (t : ℚ) → lo <ℚ t → t <ℚ hi → zeroℚ ≤ℚ along c m t

-- one half
abbrev pub halfℚ : ℚ
halfℚ = ratio (pos 1) 2

-- the number in the middle of two
abbrev pub halfway : ℚ → ℚ → ℚ
halfway a b = (a +ℚ b) *ℚ halfℚ
