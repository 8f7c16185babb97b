use Rattle.std.proofs.Common.{◌∙◌, ap}
use Rattle.pddl_terms.specs.declared.trees.TimedEff.TheVariants as eff
use Rattle.pddl_domain.specs.Timed.{rate_tree}
use Rattle.pddl_terms.proofs.Building.{both}
use Rattle.pddl_domain.proofs.timed.change_rate.Goals as goal

pub returns : goal.returns
returns c = both (eff.Rate c.args.place c.args.trend) c.in_ok-fluent.ensures (c.in_ok-rate.ensures ∙ ap rate_tree c.next.ensures.behind)
