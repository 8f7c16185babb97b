-- Believed: the state that a sweep holds in place, in lists as long as those of its task.
use Rattle.std.specs.Prelude.{◌≡◌, length, replicate}
use Rattle.std.specs.List.{AllByRecursion}
use Rattle.rational.specs.Rational.{zeroℚ}
use Rattle.exact_lin.specs.Reckoning.{Fits, wide_limit}
use Rattle.task_types.specs.declared.parts.TaskParts.{TaskParts}
use Rattle.task_types.specs.State.{State}
use Rattle.timed_meaning.specs.declared.standings.Standing.{Standing}
use Rattle.timed_meaning.specs.Answers.{told}

-- the state that it tells
abbrev pub shown : Standing → State
shown s = told s.facts.items s.fluents.items

-- Its lists have the lengths of the task, its numbers keep to the limit, and the list for rates holds 0.
pub record IsKept (task : TaskParts) (s : Standing) : Type 0 where
  pub facts : length s.facts.items ≡ length task.facts
  pub fluents : length s.fluents.items ≡ length task.fluents
  pub rates : s.rates.items ≡ replicate (length task.fluents) zeroℚ
  pub fits : AllByRecursion (Fits wide_limit) s.fluents.items
