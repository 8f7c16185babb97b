use Rattle.std.proofs.Common.{◌≡◌, sym, ap, subst, ◌∙◌, true}
use Rattle.std.specs.List.{list_all}
use Rattle.ground_world.specs.Shown.{world_of}
use Rattle.ground_world.specs.ShownLeaves.{constraints_of, costs_of, preferences_of}
use Rattle.grounder.specs.Reach.{cost_fits, leaf_fits, preference_fits}
use Rattle.grounder.proofs.BindingLimits.{constraints-within, costs-within, preferences-within}
use Rattle.grounder.proofs.task_parts.terms.Goals as goal

pub hard_terms-requires : goal.hard_terms-requires
hard_terms-requires c = let w = world_of c.args.grounding.now.tables in
    subst (λ ls. list_all (leaf_fits w) ls ≡ true) (sym (ap constraints_of c.as_slice.ensures ∙ c.in_ok-constraints.ensures))
    (constraints-within w c.args.domain.now c.args.problem.now c.requires)

pub soft_terms-requires-clause-preferences : goal.soft_terms-requires-clause-preferences
soft_terms-requires-clause-preferences c = let w = world_of c.args.grounding.now.tables in
    subst (λ ls. list_all (preference_fits w) ls ≡ true) (sym (ap preferences_of c.as_slice-2.ensures ∙ c.in_ok-preferences.ensures))
    (preferences-within w c.args.domain.now c.args.problem.now c.requires)

pub soft_terms-requires-clause-constraints : goal.soft_terms-requires-clause-constraints
soft_terms-requires-clause-constraints c = let w = world_of c.args.grounding.now.tables in
    subst (λ ls. list_all (leaf_fits w) ls ≡ true) (sym (ap constraints_of c.as_slice-3.ensures ∙ c.in_ok-constraints.ensures))
    (constraints-within w c.args.domain.now c.args.problem.now c.requires)

pub soft_terms-requires-clause-costs : goal.soft_terms-requires-clause-costs
soft_terms-requires-clause-costs c = let w = world_of c.args.grounding.now.tables in
    subst (λ ls. list_all (cost_fits w) ls ≡ true) (sym (ap costs_of c.as_slice-4.ensures ∙ c.in_ok-costs.ensures))
    (costs-within w c.args.domain.now c.args.problem.now c.requires)
