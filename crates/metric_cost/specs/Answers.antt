-- Believed: what a call that reckons a cost answers.
use Rattle.std.specs.Prelude.{ℕ, ◌≡◌, List, Result, Ok, Err}
use Rattle.rational.specs.Rational.{ℚ}
use Rattle.exact_lin.specs.Reckoning.{wide_limit}
use Rattle.exact_lin.specs.Reckonings.{Reckoning, AllDefined, IsFirstUndefined}
use Rattle.exact_lin.specs.declared.scalars.Wide as one
use Rattle.task_types.specs.declared.parts.TaskParts.{TaskParts}
use Rattle.task_types.specs.Plan.{Plan}
use Rattle.task_types.specs.Cost.{cost}
use Rattle.task_types.specs.Reckoned.{course_of_cost}
use Rattle.timed_meaning.specs.declared.faults.MeaningFault.{MeaningFault}
use Rattle.timed_meaning.specs.declared.faults.MeaningFault.TheVariants.{Wide, Memory}
use Rattle.timed_meaning.specs.Answers.{Defined}

-- The answer is Ok exactly where every reckoning of the list is defined, and then it is the number that is meant.
abbrev pub Amounts : {A : Type 0} → Result A one.Wide → List Reckoning → (A → Type 0) → Type 0
Amounts (Ok x) rs Right = Defined rs × Right x
Amounts (Err w) rs Right = ¬ (Defined rs)

-- The answer is the cost of the plan where the whole course of it is defined, and Wide with the first place of the course
-- at which something isn't: a happening, or the number of happenings for what the cost itself reckons.
abbrev pub Costs : Result ℚ MeaningFault → TaskParts → Plan → Type 0
Costs (Ok c) task plan = AllDefined wide_limit (course_of_cost task plan) × (c ≡ cost task plan)
Costs (Err (Wide k)) task plan = IsFirstUndefined wide_limit (course_of_cost task plan) k
Costs (Err Memory) task plan = Unit {0}
