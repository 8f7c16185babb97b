use Rattle.std.proofs.Common.{◌+◌, arith, sym, ap, ◌∙◌, drop}
use Rattle.task_types.specs.declared.orderings.Link.{Link}
use Rattle.ordering.specs.Meetings.{stronger, link_with, strongest_link}
use Rattle.ordering.proofs.Meetings.{links_onward, no_rows_left, stronger-free, stronger_assoc}
use Rattle.ordering.proofs.links.strongest.Goals as goal

pub loop-touch-preserved : goal.loop-touch-preserved
loop-touch-preserved c = let next = links_onward c.args.firsts.now c.args.seconds.now c.loop-touch.touch-index c.loop-touch.from c.first_from-from.result c.touch-item.result c.requires.firsts c.loop-touch-test.true c.touch-item.is (λ n t h. c.first_from-from.ensures.skipped n t (omega arith)) in record {
  within = c.first_from-from.ensures.within;
  so_far = c.loop-touch.invariant.so_far ∙ ap (stronger c.loop-touch.link) next ∙ sym (stronger_assoc c.loop-touch.link (link_with c.touch-item.result.0 c.touch-item.result.1 (drop c.first_from-from.result c.args.seconds.now)) (strongest_link (drop (c.loop-touch.touch-index + 1) c.args.firsts.now) (drop c.first_from-from.result c.args.seconds.now))) ∙ ap (λ (l : Link). stronger l (strongest_link (drop (c.loop-touch.touch-index + 1) c.args.firsts.now) (drop c.first_from-from.result c.args.seconds.now))) (cc);
}

pub returns : goal.returns
returns c = sym (c.loop-touch.invariant.so_far ∙ ap (stronger c.loop-touch.link) (no_rows_left c.args.firsts.now (drop c.loop-touch.from c.args.seconds.now) c.loop-touch.touch-index c.loop-touch-test.false) ∙ stronger-free c.loop-touch.link)
