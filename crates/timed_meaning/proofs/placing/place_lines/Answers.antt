use Rattle.std.proofs.Common.{[]}
use Rattle.timed_meaning.specs.Owned.{placed}
use Rattle.timed_meaning.proofs.Loops.{one-numbered}
use Rattle.timed_meaning.proofs.placing.place_lines.Goals as goal

pub loop-i-preserved : goal.loop-i-preserved
loop-i-preserved c = one-numbered placed c.loop-i.out.items c.push_placed.new.out.items [] c.args.lines.now c.loop-i.i c.index-lines-i.result c.loop-i-test.true c.index-lines-i.is c.loop-i.invariant c.in_ok-push_placed.ensures
