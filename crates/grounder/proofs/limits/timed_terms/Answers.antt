use Rattle.std.proofs.Common.{◌+◌, ◌≤◌, arith}
use Rattle.grounder.specs.Answer.{is_timed_term}
use Rattle.grounder.proofs.Counting.{count-more, count-fits}
use Rattle.grounder.proofs.limits.timed_terms.Goals as goal

pub overflow_add-count : goal.overflow_add-count
overflow_add-count c =
    let k : c.loop-term.count + c.timed_count-count.result ≤ c.loop-term.term-index + 1 = count-fits is_timed_term c.args.terms.now c.loop-term.term-index c.term-item.result
    c.loop-term.count c.timed_count-count.result c.loop-term-test.true c.loop-term.invariant c.timed_count-count.ensures in
    omega arith

pub loop-term-preserved : goal.loop-term-preserved
loop-term-preserved c = count-more c.args.terms.now c.loop-term.term-index c.term-item.result c.loop-term-test.true c.term-item.is is_timed_term
    c.loop-term.count c.timed_count-count.result c.loop-term.invariant c.timed_count-count.ensures
