-- Believed: which of the lines by their starts run from one happening to the next; a reader needs only what the calls of a sweep say where this holds.
use Rattle.std.specs.Prelude.{ℕ, ◌≡◌, Bool, true, false, ◌&&◌, if◌then◌else◌, List, [], ◌∷◌, take, drop}
use Rattle.std.specs.List.{AllByRecursion, filter}
use Rattle.rational.specs.Rational.{ℚ}
use Rattle.task_types.specs.Tests.{◌≤?◌}
use Rattle.timed_meaning.specs.declared.placing.PlacedLine.{PlacedLine}

-- a line has begun by a time where it starts no later
abbrev pub has_begun : ℚ → PlacedLine → Bool
has_begun by p = p.line.at ≤? by

-- a line lasts to a time where it ends no earlier
abbrev pub lasts_to : ℚ → PlacedLine → Bool
lasts_to to p = to ≤? p.end

-- a line runs from one time to a later one where it has begun by the one and lasts to the other
abbrev pub runs : ℚ → ℚ → PlacedLine → Bool
runs from to p = has_begun from p && lasts_to to p

-- the lines at the front of a list that have begun by a time
abbrev pub begun_by : ℚ → List PlacedLine → List PlacedLine
begun_by from [] = []
begun_by from (p ∷ ps) = if has_begun from p then (p ∷ begun_by from ps) else []

-- Of the lines by their starts the first ones have begun by one time and the others haven't; those of the first run that
-- last to the later time.
pub record AreRunning (from to : ℚ) (lines : List PlacedLine) (started : ℕ) (running : List PlacedLine) : Type 0 where
  pub begun : AllByRecursion (λ p. has_begun from p ≡ true) (take started lines)
  pub waiting : AllByRecursion (λ p. has_begun from p ≡ false) (drop started lines)
  pub lasting : running ≡ filter (lasts_to to) (take started lines)
