use Rattle.std.proofs.Common.{ap, arith, get_or}
use Rattle.ground_world.specs.Bindings.{paired}
use Rattle.ground_world.specs.Shown.{env_of, names_of}
use Rattle.grounder.proofs.Pairing.{paired-step, paired-all}
use Rattle.grounder.proofs.actions.pair.Goals as goal

pub loop-at-preserved : goal.loop-at-preserved
loop-at-preserved c =
    paired-step c.args.slots.now c.args.objects.now c.loop-at.at (get_or c.args.slots.now c.loop-at.at c.index-slots-at.result) c.loop-at.env c.push.new.self (paired (names_of c.args.slots.now) c.args.objects.now)
    (omega arith) (omega arith) (ap (get_or c.args.slots.now c.loop-at.at) c.index-slots-at.is) c.loop-at.invariant c.in_ok-push.ensures.ok

pub returns : goal.returns
returns c =
    paired-all c.args.slots.now c.args.objects.now c.loop-at.at (env_of c.loop-at.env) (paired (names_of c.args.slots.now) c.args.objects.now) (omega arith) c.loop-at.invariant
