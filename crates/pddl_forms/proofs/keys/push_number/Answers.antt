use Rattle.std.proofs.Common.{arith}
use Rattle.pddl_forms.proofs.KeysApart.{number-step}
use Rattle.pddl_forms.proofs.keys.push_number.Goals as goal

pub loop-left-preserved : goal.loop-left-preserved
loop-left-preserved c = number-step _ _ _ _ _ _ c.loop-left-test.true c.in_ok-push.ensures.items c.in_ok-push-2.ensures.items (omega arith) c.loop-left.invariant
