-- What the tests of a snap action say: its kind, its action, and both for one that a well made task numbers.
use Rattle.std.proofs.Common.{◌≡◌, refl, ap, ℕ, true, ◌&&◌, Option, Some, None}
use Rattle.basics.proofs.Bools.{and_left, and_right}
use Rattle.basics.proofs.Naturals.{same_out}
use Rattle.task_types.specs.declared.actions.SnapKind.{SnapKind}
use Rattle.task_types.specs.declared.actions.SnapKind.TheVariants.{Start, End, Instant, Timed}
use Rattle.task_types.specs.declared.parts.TaskParts.{TaskParts}
use Rattle.task_types.specs.Plan.{snap_of, no_snap}
use Rattle.task_types.specs.Touch.{is_timed}
use Rattle.task_types.specs.WellMade.{is_snap_of, is_number, same_kind}
use Rattle.task_types.proofs.Assigning.{at_read}

pub number_out : (o : Option ℕ) (a : ℕ) → is_number o a ≡ true → o ≡ Some a
number_out None a e = cc
number_out (Some m) a e = ap Some (same_out m a e)

pub kind_out : (k l : SnapKind) → same_kind k l ≡ true → k ≡ l
kind_out Start Start e = refl
kind_out Start End e = cc
kind_out Start Instant e = cc
kind_out Start Timed e = cc
kind_out End Start e = cc
kind_out End End e = refl
kind_out End Instant e = cc
kind_out End Timed e = cc
kind_out Instant Start e = cc
kind_out Instant End e = cc
kind_out Instant Instant e = refl
kind_out Instant Timed e = cc
kind_out Timed Start e = cc
kind_out Timed End e = cc
kind_out Timed Instant e = cc
kind_out Timed Timed e = refl

pub timed_out : (k : SnapKind) → is_timed k ≡ true → k ≡ Timed
timed_out Start e = cc
timed_out End e = cc
timed_out Instant e = cc
timed_out Timed e = refl

-- snap action n is of the kind, and that of action a
pub snap_out : (task : TaskParts) (n : ℕ) (kind : SnapKind) (a : ℕ) → is_snap_of task n kind a ≡ true → ((snap_of task n).kind ≡ kind) × ((snap_of task n).action ≡ Some a)
snap_out task n kind a h = (kind_out _ kind (and_left _ _ parts), number_out _ a (and_right _ _ parts))
  where
    parts : (same_kind (snap_of task n).kind kind && is_number (snap_of task n).action a) ≡ true
    parts = at_read (λ s. same_kind s.kind kind && is_number s.action a) no_snap task.snaps n h
