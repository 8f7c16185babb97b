-- Believed: steps that make no difference to a fluent at a time, or to a form.
use Rattle.std.specs.Prelude.{ℕ, ◌≡◌, ◌⊎◌, true, false}
use Rattle.std.specs.List.{AllByRecursion}
use Rattle.rational.specs.Rational.{ℚ}
use Rattle.exact_lin.specs.Forms.{LinearForm}
use Rattle.task_types.specs.declared.parts.TaskParts.{TaskParts}
use Rattle.task_types.specs.Sets.{is_in}
use Rattle.task_types.specs.Plan.{Step, snap_of}
use Rattle.task_types.specs.Clash.{written_fluents}
use Rattle.task_types.specs.Touch.{bent_fluents}
use Rattle.ordering.specs.Along.{changes}

-- A step is quiet about a fluent at a time where it doesn't write it, and turns it at that very time if at all.
pub record IsQuiet (task : TaskParts) (t : ℚ) (f : ℕ) (x : Step) : Type 0 where
  pub writes : is_in f (written_fluents (snap_of task x.snap)) ≡ false
  pub turns : is_in f (bent_fluents task (snap_of task x.snap)) ≡ true → x.time ≡ t

-- A step leaves a form where it changes none of its fluents.
abbrev pub Leaves : TaskParts → LinearForm → Step → Type 0
Leaves task form x = AllByRecursion (λ u. changes task (snap_of task x.snap) u.0 ≡ false) form.terms

-- a step leaves a form, or has a place in time
abbrev pub LeavesOr : TaskParts → LinearForm → (ℚ → Type 0) → Step → Type 0
LeavesOr task form P x = Leaves task form x ⊎ P x.time
