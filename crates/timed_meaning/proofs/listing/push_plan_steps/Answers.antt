use Rattle.timed_meaning.specs.Owned.{owned_line}
use Rattle.timed_meaning.proofs.Loops.{numbered-lists}
use Rattle.timed_meaning.proofs.listing.push_plan_steps.Goals as goal

pub loop-i-preserved : goal.loop-i-preserved
loop-i-preserved c = numbered-lists (owned_line c.args.parts.now) c.loop-i.out.items c.push_line_steps.new.out.items c.args.out.now.items c.args.lines.now c.loop-i.i c.index-lines-i.result c.loop-i-test.true c.index-lines-i.is c.loop-i.invariant c.in_ok-push_line_steps.ensures
