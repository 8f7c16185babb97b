-- Believed: states told by two lists, and answers told by what is reckoned for them.
use Rattle.std.specs.Prelude.{◌≡◌, Bool, false, List, length, slice_index_or, Result, Ok, Err}
use Rattle.rational.specs.Rational.{ℚ, zeroℚ}
use Rattle.exact_lin.specs.Reckoning.{wide_limit}
use Rattle.exact_lin.specs.Reckonings.{Reckoning, AreDefined}
use Rattle.exact_lin.specs.declared.faults.FormFault.{FormFault}
use Rattle.exact_lin.specs.declared.faults.FormFault.TheVariants.{Wide, Memory}
use Rattle.task_types.specs.declared.parts.TaskParts.{TaskParts}
use Rattle.task_types.specs.State.{State}

-- The state that two lists tell: which facts hold, and the values of the fluents, by their numbers. Past the lists no
-- fact holds and fluents are 0, as in every state of a plan of a well made task.
abbrev pub told : List Bool → List ℚ → State
told facts fluents = record { facts = λ f. slice_index_or facts f false; fluents = λ f. slice_index_or fluents f zeroℚ }

-- every reckoning of the list is defined in 128 bits
abbrev pub Defined : List Reckoning → Type 0
Defined rs = AreDefined wide_limit rs

-- The answer is Ok only where the reckonings are defined and it is right, and Wide only where one is undefined.
abbrev pub Tells : {A : Type 0} → Result A FormFault → List Reckoning → (A → Type 0) → Type 0
Tells (Ok x) rs Right = Defined rs × Right x
Tells (Err Wide) rs Right = ¬ (Defined rs)
Tells (Err Memory) rs Right = Unit {0}

-- The lists tell the facts and the fluents of a state of a task, each as long as the task's.
pub record Facts (task : TaskParts) (facts : List Bool) (s : State) : Type 0 where
  pub covers : length facts ≡ length task.facts
  pub tells : (λ f. slice_index_or facts f false) ≡ s.facts

pub record Fluents (task : TaskParts) (fluents : List ℚ) (s : State) : Type 0 where
  pub covers : length fluents ≡ length task.fluents
  pub tells : (λ f. slice_index_or fluents f zeroℚ) ≡ s.fluents
