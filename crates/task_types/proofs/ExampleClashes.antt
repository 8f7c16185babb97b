-- Steps that clash or don't, and plans that keep or don't keep them apart.
use Rattle.std.proofs.Common.{refl, [], ◌∷◌, inl, inr}
use Rattle.std.specs.Prelude.{pos}
use Rattle.rational.specs.Gcd.{gcd}
use Rattle.rational.specs.Rational.{ratio, whole, ◌+ℚ◌, ◌*ℚ◌, neg_ℚ, cmp_ℚ}
use Rattle.task_types.specs.State.{value, holds}
use Rattle.task_types.specs.Plan.{happenings}
use Rattle.task_types.specs.Course.{initial, rate, moved, happen, reached, before, after}
use Rattle.task_types.specs.Clash.{clash}
use Rattle.task_types.specs.Trace.{met}
use Rattle.task_types.specs.Cost.{cost}
use Rattle.task_types.specs.Valid.{duties}
use Rattle.task_types.specs.Examples.{n, flags, meters, once}
use Rattle.task_types.specs.ExampleClashes.{ClashesComeOut, ClashingPlansComeOut}
use Rattle.task_types.proofs.ExampleTasks.{no}
use Rattle.task_types.proofs.ExamplePlans.{nothing_asked}

pub clashes_come_out : ClashesComeOut
unfolding clash
clashes_come_out = record {
  adds_deletes = refl;
  adds_twice = refl;
  assigns_raises = refl;
  assigns_twice = refl;
  raises_twice = refl;
  reads_in_effect = refl;
  late_bound_at_end = refl;
  late_bound_at_start = refl;
  early_bound_at_start = refl;
  early_bound_at_end = refl;
}

pub clashing_plans_come_out : ClashingPlansComeOut
unfolding gcd ratio whole ◌+ℚ◌ ◌*ℚ◌ neg_ℚ cmp_ℚ value holds happenings initial rate moved happen reached before after clash met cost duties
clashing_plans_come_out = record {
  too_near = inr (refl, inr (refl, inr (refl, inr (refl, inr (refl, inl ((λ e. no e), refl))))));
  near_enough = record { formed = refl; in_time = refl; durations = refl; apart = refl; starts = refl; ends = refl; over_all = (nothing_asked flags (once 0 (n 1) 1 ∷ once 1 (ratio (pos 1001) 1000) 2 ∷ []) (once 0 (n 1) 1) refl, (nothing_asked flags (once 0 (n 1) 1 ∷ once 1 (ratio (pos 1001) 1000) 2 ∷ []) (once 1 (ratio (pos 1001) 1000) 2) refl, tt)); goal = refl; constraints = refl };
  its_cost = refl;
  both_count = record { formed = refl; in_time = refl; durations = refl; apart = refl; starts = refl; ends = refl; over_all = (nothing_asked meters (once 0 (n 0) 1 ∷ once 1 (n 0) 2 ∷ []) (once 0 (n 0) 1) refl, (nothing_asked meters (once 0 (n 0) 1 ∷ once 1 (n 0) 2 ∷ []) (once 1 (n 0) 2) refl, tt)); goal = refl; constraints = refl };
  both_cost = refl;
}
