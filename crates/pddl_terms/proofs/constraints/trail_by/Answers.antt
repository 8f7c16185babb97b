use Rattle.std.proofs.Common.{◌∙◌, ap}
use Rattle.pddl_terms.specs.declared.trees.Trajectory.TheVariants as trail
use Rattle.pddl_terms.specs.Content.{content_at}
use Rattle.pddl_terms.specs.Formulas.{fact_tree}
use Rattle.pddl_terms.specs.Constraints.{trail_by}
use Rattle.pddl_terms.proofs.Building.{at_head, both}
use Rattle.pddl_terms.proofs.constraints.trail_by.Goals as goal

pub returns-in_ok-fact_tree-in-Always : goal.returns-in_ok-fact_tree-in-Always
returns-in_ok-fact_tree-in-Always c = at_head (λ h. trail_by h c.args.place (content_at c.args.forms.now c.args.from)) c.in-Always.is (ap (trail.Always c.args.place) c.in_ok-fact_tree-in-Always.ensures)

pub returns-in_ok-fact_tree-in-Sometime : goal.returns-in_ok-fact_tree-in-Sometime
returns-in_ok-fact_tree-in-Sometime c = at_head (λ h. trail_by h c.args.place (content_at c.args.forms.now c.args.from)) c.in-Sometime.is (ap (trail.Sometime c.args.place) c.in_ok-fact_tree-in-Sometime.ensures)

pub returns-in_ok-fact_tree-in-AtMostOnce : goal.returns-in_ok-fact_tree-in-AtMostOnce
returns-in_ok-fact_tree-in-AtMostOnce c = at_head (λ h. trail_by h c.args.place (content_at c.args.forms.now c.args.from)) c.in-AtMostOnce.is (ap (trail.AtMostOnce c.args.place) c.in_ok-fact_tree-in-AtMostOnce.ensures)

pub returns-in_ok-fact_tree-in-AtEnd : goal.returns-in_ok-fact_tree-in-AtEnd
returns-in_ok-fact_tree-in-AtEnd c = at_head (λ h. trail_by h c.args.place (content_at c.args.forms.now c.args.from)) c.in-AtEnd.is (ap (trail.AtEnd c.args.place) (c.in_ok-fact_tree-in-AtEnd.ensures ∙ ap fact_tree c.next-second.ensures.behind))

pub returns-in_ok-fact_tree-in-Within : goal.returns-in_ok-fact_tree-in-Within
returns-in_ok-fact_tree-in-Within c = at_head (λ h. trail_by h c.args.place (content_at c.args.forms.now c.args.from)) c.in-Within.is (both (trail.Within c.args.place) c.number_at-limit.ensures (c.in_ok-fact_tree-in-Within.ensures ∙ ap fact_tree c.next-second.ensures.behind))

pub returns-in_ok-fact_tree-in-SometimeAfter : goal.returns-in_ok-fact_tree-in-SometimeAfter
returns-in_ok-fact_tree-in-SometimeAfter c = at_head (λ h. trail_by h c.args.place (content_at c.args.forms.now c.args.from)) c.in-SometimeAfter.is (both (trail.SometimeAfter c.args.place) c.in_ok-first-in-SometimeAfter.ensures (c.in_ok-fact_tree-in-SometimeAfter.ensures ∙ ap fact_tree c.next-second.ensures.behind))

pub returns-in_ok-fact_tree-in-SometimeBefore : goal.returns-in_ok-fact_tree-in-SometimeBefore
returns-in_ok-fact_tree-in-SometimeBefore c = at_head (λ h. trail_by h c.args.place (content_at c.args.forms.now c.args.from)) c.in-SometimeBefore.is (both (trail.SometimeBefore c.args.place) c.in_ok-first-in-SometimeBefore.ensures (c.in_ok-fact_tree-in-SometimeBefore.ensures ∙ ap fact_tree c.next-second.ensures.behind))
