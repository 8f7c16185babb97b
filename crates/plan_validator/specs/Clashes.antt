-- Private: clashes looked for among the steps in the order of their times, from each step on up to those epsilon later.
use Rattle.std.specs.Prelude.{ℕ, Bool, ◌||◌, ◌&&◌, nat_le, if◌then◌else◌, List, [], ◌∷◌, ◌++◌}
use Rattle.rational.specs.Rational.{◌+ℚ◌}
use Rattle.task_types.specs.declared.parts.Rules.{Rules}
use Rattle.task_types.specs.declared.parts.TaskParts.{TaskParts}
use Rattle.task_types.specs.Tests.{◌≤?◌}
use Rattle.task_types.specs.Valid.{are_apart}
use Rattle.task_types.specs.declared.actions.Bound.{Bound}
use Rattle.task_types.specs.declared.actions.SnapKind.{SnapKind}
use Rattle.task_types.specs.Sets.{meet}
use Rattle.task_types.specs.Clash.{form_fluents, is_read_at}
use Rattle.exact_lin.specs.Reckonings.{Sum}
use Rattle.timed_meaning.specs.Answers.{Defined}
use Rattle.timed_meaning.specs.declared.steps.OwnedStep.{OwnedStep}
use Rattle.plan_validator.specs.Firsts.{Place, Note}

-- A step is far behind another where it is at least epsilon later.
abbrev pub is_far : Rules → OwnedStep → OwnedStep → Bool
is_far rules x y = x.step.time +ℚ rules.epsilon ≤? y.step.time

-- its time plus epsilon is defined
abbrev pub SumsFit : Rules → OwnedStep → Type 0
SumsFit rules x = Defined (Sum x.step.time rules.epsilon ∷ [])

-- whether a bound counts at a kind of snap action, and reads one of some fluents
abbrev pub bound_written : SnapKind → List ℕ → Bound → Bool
bound_written kind fluents b = is_read_at kind b && meet (form_fluents b.form) fluents

-- the owners of two steps, the lower first
abbrev pub pair_place : OwnedStep → OwnedStep → Place
pair_place x y = if nat_le x.owner y.owner then (x.owner, y.owner) else (y.owner, x.owner)

-- Two steps behind n lines are timed, and never clash; others are asked to be apart.
abbrev pub is_kept : TaskParts → Rules → ℕ → OwnedStep → OwnedStep → Bool
is_kept task rules n x y = (nat_le n x.owner && nat_le n y.owner) || are_apart task rules x.step y.step

abbrev pub window_notes : TaskParts → Rules → ℕ → OwnedStep → List OwnedStep → List Note
window_notes task rules n x [] = []
window_notes task rules n x (y ∷ ys) = if is_far rules x y then [] else ((pair_place x y, is_kept task rules n x y) ∷ window_notes task rules n x ys)

-- what is noted of all steps
abbrev pub clash_notes : TaskParts → Rules → ℕ → List OwnedStep → List Note
clash_notes task rules n [] = []
clash_notes task rules n (x ∷ xs) = window_notes task rules n x xs ++ clash_notes task rules n xs
