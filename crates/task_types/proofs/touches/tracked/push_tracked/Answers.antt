use Rattle.task_types.proofs.Places.{four_put}
use Rattle.task_types.proofs.touches.tracked.push_tracked.Goals as goal

pub returns : goal.returns
returns c = four_put _ _ _ _ _ _ _ _ _ (rw c.as_slice.ensures at (c.in_ok-push_snaps.ensures {u = tt})) (rw c.as_slice-2.ensures at (c.in_ok-push_actions.ensures {u = tt}))
    (c.in_ok-push_fluents.ensures {u = tt}) (rw c.as_slice-3.ensures at (c.in_ok-push_softs.ensures {u = tt}))
