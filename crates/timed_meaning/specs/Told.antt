-- Believed: how the lists of a state are written.
use Rattle.std.specs.Prelude.{ℕ, ◌<◌, Bool, true, false, List, [], ◌∷◌, map, length, slice_index_or, slice_set, refl}
use Rattle.std.specs.List.{AllByRecursion, flat_map}
use Rattle.std.specs.Coded.{Coded, code_by, coded×, coded_ℕ}
use Rattle.rational.specs.Rational.{ℚ, zeroℚ, ◌+ℚ◌}
use Rattle.exact_lin.specs.Reckoning.{ℚ_code}
use Rattle.exact_lin.specs.Forms.{Covers}
use Rattle.task_types.specs.declared.conditions.Amount.{Amount}
use Rattle.task_types.specs.declared.parts.TaskParts.{TaskParts}
use Rattle.task_types.specs.Course.{amount, effect_of}
use Rattle.task_types.specs.State.{State}
use Rattle.task_types.specs.Plan.{Step}
use Rattle.exact_lin.specs.Reckonings.{Reckoning, Sum}
pub use Rattle.timed_meaning.specs.Answers.{told, Defined, Tells}

-- a step is stored as its time, its snap action and its duration
abbrev pub step_code : Coded Step
step_code = code_by (ℚ × (ℕ × ℚ)) (coded× ℚ_code (coded× coded_ℕ ℚ_code)) (λ s. (s.time, (s.snap, s.duration))) (λ p. record { time = p.0; snap = p.1.0; duration = p.1.1 }) (λ _. refl)

-- the step of a moment of the task
abbrev pub timed_step : ℚ × ℕ → Step
timed_step t = record { time = t.0; snap = t.1; duration = zeroℚ }

-- a state of which only the fluents are read
abbrev pub valued : List ℚ → State
valued fluents = told [] fluents

-- a list with one value at some places
abbrev pub marked : Bool → List Bool → List ℕ → List Bool
marked b xs [] = xs
marked b xs (f ∷ fs) = marked b (slice_set xs f b) fs

-- a list with values written at places, one after the other
abbrev pub written : List ℚ → List (ℕ × ℚ) → List ℚ
written xs [] = xs
written xs (e ∷ es) = written (slice_set xs e.0 e.1) es

-- a list with numbers added at places, one after the other
abbrev pub raised_at : List ℚ → ℕ × ℚ → List ℚ
raised_at xs e = slice_set xs e.0 (slice_index_or xs e.0 zeroℚ +ℚ e.1)

abbrev pub raised : List ℚ → List (ℕ × ℚ) → List ℚ
raised xs [] = xs
raised xs (e ∷ es) = raised (raised_at xs e) es

abbrev pub raised_reckoned : List ℚ → List (ℕ × ℚ) → List Reckoning
raised_reckoned xs [] = []
raised_reckoned xs (e ∷ es) = Sum (slice_index_or xs e.0 zeroℚ) e.1 ∷ raised_reckoned (raised_at xs e) es

-- the entries that a list of changes makes in a state
abbrev pub amounts : Step → State → List (ℕ × Amount) → List (ℕ × ℚ)
amounts step s changes = map (λ e. (e.0, amount step s e.1)) changes

abbrev pub all_assigns : TaskParts → List Step → State → List (ℕ × ℚ)
all_assigns task here s = flat_map (λ step. amounts step s (effect_of task step).assigns) here

abbrev pub all_increases : TaskParts → List Step → State → List (ℕ × ℚ)
all_increases task here s = flat_map (λ step. amounts step s (effect_of task step).increases) here

-- each step is one of a snap action of the task
abbrev pub AreSteps : TaskParts → List Step → Type 0
AreSteps task here = AllByRecursion (λ step. step.snap < length task.snaps) here

-- the lists of facts when the steps have deleted, and when they have added
abbrev pub less : TaskParts → List Bool → List Step → List Bool
less task xs [] = xs
less task xs (step ∷ here) = less task (marked false xs (effect_of task step).deletes) here

abbrev pub more : TaskParts → List Bool → List Step → List Bool
more task xs [] = xs
more task xs (step ∷ here) = more task (marked true xs (effect_of task step).adds) here

-- each change has a form over the fluents of a list of this length
abbrev pub AreCovered : ℕ → List (ℕ × Amount) → Type 0
AreCovered n changes = AllByRecursion (λ e. Covers n e.1.form.terms) changes
