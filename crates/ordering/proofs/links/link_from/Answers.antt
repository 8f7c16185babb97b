use Rattle.std.proofs.Common.{◌+◌, arith, sym, ap, ◌∙◌, drop}
use Rattle.task_types.specs.declared.orderings.Link.{Link}
use Rattle.ordering.specs.Meetings.{stronger, link_of_touches, link_with}
use Rattle.ordering.proofs.Meetings.{rest_onward, same_entry, link_same, link_over, no_links_left, stronger-free, stronger_assoc}
use Rattle.ordering.proofs.links.link_from.Goals as goal

pub loop-at-preserved : goal.loop-at-preserved
loop-at-preserved c = let next = link_same c.args.touch.now.0 c.loop-at.at c.args.touch.now.1 c.args.touches.now c.index-touches-at.result c.loop-at-test.true c.index-touches-at.is (omega (arith, ap (λ x. x.0) c.index-touches-at.is)) in record {
  within = omega arith;
  rest = rest_onward c.args.touch.now.0 c.loop-at.at c.args.touches.now c.index-touches-at.result c.loop-at-test.true c.index-touches-at.is c.loop-at.invariant.rest;
  so_far = c.loop-at.invariant.so_far ∙ ap (stronger c.loop-at.link) next ∙ sym (stronger_assoc c.loop-at.link (link_of_touches c.args.touch.now.1 c.index-touches-at.result.1) (link_with c.args.touch.now.0 c.args.touch.now.1 (drop (c.loop-at.at + 1) c.args.touches.now))) ∙ ap (λ (l : Link). stronger l (link_with c.args.touch.now.0 c.args.touch.now.1 (drop (c.loop-at.at + 1) c.args.touches.now))) (let same = same_entry c.args.touches.now c.loop-at.at c.index-touches-at.result c.index-touches-at-in-loop-at.result c.loop-at-test.true c.index-touches-at.is c.index-touches-at-in-loop-at.is in cc (ap (λ x. x.1) same, ap (λ x. x.1) c.index-touches-at-in-loop-at.is));
}

pub returns-else-number : goal.returns-else-number
returns-else-number c = sym (c.loop-at.invariant.so_far ∙ ap (stronger c.loop-at.link) (link_over c.args.touch.now.0 c.loop-at.at c.args.touch.now.1 c.args.touches.now c.index-touches-at.result c.requires.ascending c.loop-at-test.true c.index-touches-at.is c.loop-at.invariant.rest (λ e. absurd (omega (arith, ap (λ x. x.0) c.index-touches-at.is)))) ∙ stronger-free c.loop-at.link)

pub returns-after-loop-at : goal.returns-after-loop-at
returns-after-loop-at c = sym (c.loop-at.invariant.so_far ∙ ap (stronger c.loop-at.link) (no_links_left c.args.touch.now.0 c.loop-at.at c.args.touch.now.1 c.args.touches.now c.loop-at-test.false) ∙ stronger-free c.loop-at.link)
