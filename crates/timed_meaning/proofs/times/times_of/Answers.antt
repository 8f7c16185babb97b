use Rattle.timed_meaning.proofs.Left.{times-next, rest-shorter}
use Rattle.timed_meaning.proofs.times.times_of.Goals as goal

pub loop-first-preserved : goal.loop-first-preserved
loop-first-preserved c = times-next c.loop-first.rest.now c.after_run-rest.result.now c.in-Some.first.now c.in-Some.field-0-1.now c.time-time.result c.loop-first.out.items c.push.new.self.items _
    c.in-Some.ensures.cases.0 c.time-time.ensures c.after_run-rest.ensures c.in_ok-push.ensures.items c.loop-first.invariant

pub loop-first-smaller : goal.loop-first-smaller
loop-first-smaller c = rest-shorter c.loop-first.rest.now c.after_run-rest.result.now c.in-Some.first.now c.in-Some.field-0-1.now c.time-time.result c.in-Some.ensures.cases.0 c.time-time.ensures c.after_run-rest.ensures
