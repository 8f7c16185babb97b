use Rattle.timed_meaning.specs.Owned.{owned_moment}
use Rattle.timed_meaning.proofs.Loops.{one-numbered}
use Rattle.timed_meaning.proofs.listing.push_timed.Goals as goal

pub loop-i-preserved : goal.loop-i-preserved
loop-i-preserved c = one-numbered (owned_moment c.args.behind) c.loop-i.out.items c.push_moment.new.out.items c.args.out.now.items c.args.timed.now c.loop-i.i c.index-timed-i.result c.loop-i-test.true c.index-timed-i.is c.loop-i.invariant c.in_ok-push_moment.ensures
