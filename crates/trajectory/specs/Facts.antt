-- Believed: the facts of a state that a list tells.
use Rattle.std.specs.Prelude.{ℕ, ◌<◌, Bool, false, List, length, slice_index_or, All}
use Rattle.rational.specs.Rational.{ℚ}
use Rattle.task_types.specs.Trace.{Moment}

-- A list tells of each fact, at the place of its number, whether it holds; past its end none holds.
abbrev pub facts_told : List Bool → ℕ → Bool
facts_told bs f = slice_index_or bs f false

-- the state of a trace with these facts and this time
abbrev pub moment_of : List Bool → ℚ → Moment
moment_of bs time = record { facts = facts_told bs; time = time }

-- A list covers some facts where it has a place for each of them.
abbrev pub AreCovered : List ℕ → List Bool → Type 0
AreCovered facts bs = All (λ f. f < length bs) facts
