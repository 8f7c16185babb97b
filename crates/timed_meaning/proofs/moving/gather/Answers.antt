use Rattle.std.proofs.Common.{◌<◌, length, sym, subst}
use Rattle.basics.proofs.Lists.{each_at}
use Rattle.task_types.proofs.Everyone.{all_of_map}
use Rattle.timed_meaning.specs.Moves.{rates_on}
use Rattle.timed_meaning.proofs.Loops.{pushed_of}
use Rattle.timed_meaning.proofs.moving.gather.Goals as goal

pub push_rates-requires : goal.push_rates-requires
push_rates-requires c = subst (λ p. p.line.action < length c.args.parts.now.actions) (sym c.placed-item.is)
    (each_at (λ p. p.line.action < length c.args.parts.now.actions) c.args.running.now c.loop-placed.placed-index c.placed-item.result c.loop-placed-test.true
    (all_of_map (λ l. l.action < length c.args.parts.now.actions) (λ p. p.line) c.args.running.now c.requires))

pub loop-placed-preserved : goal.loop-placed-preserved
loop-placed-preserved c = pushed_of (rates_on c.args.parts.now) (λ p. p.line) c.loop-placed.out.items c.push_rates.new.out.items _ c.args.running.now c.loop-placed.placed-index c.placed-item.result c.loop-placed-test.true c.placed-item.is c.in_ok-push_rates.ensures.1 c.loop-placed.invariant
