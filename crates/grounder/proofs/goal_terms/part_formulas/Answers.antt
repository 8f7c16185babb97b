use Rattle.std.proofs.Common.{map}
use Rattle.std.specs.List.{flat_map}
use Rattle.ground_world.specs.Shown.{env_of}
use Rattle.grounder.specs.ShownGrounding.{ground_of}
use Rattle.grounder.specs.ShownPreferences.{preference_of, preferences_of}
use Rattle.grounder.specs.Task.{fact_number}
use Rattle.grounder.specs.Terms.{formula, formulas_in}
use Rattle.grounder.proofs.PreferenceSteps.{part_within}
use Rattle.grounder.proofs.Pushing.{grown}
use Rattle.grounder.proofs.TermSteps.{formulas-more}
use Rattle.grounder.proofs.goal_terms.part_formulas.Goals as goal

pub push_formula-requires : goal.push_formula-requires
push_formula-requires c =
    part_within (ground_of c.args.grounding.now).world c.args.parts.now c.loop-part.part-index c.part-item.result c.loop-part-test.true c.part-item.is c.requires

pub loop-part-preserved : goal.loop-part-preserved
loop-part-preserved c =
    let g = ground_of c.args.grounding.now in
    let f = formula g.world (fact_number g) (env_of c.args.env.now) in
    grown (λ xs. map f (flat_map formulas_in (preferences_of xs))) (λ x. map f (formulas_in (preference_of x))) (formulas-more g (env_of c.args.env.now))
    c.loop-part.out c.push_formula.new.out c.args.parts.now c.loop-part.part-index c.part-item.result c.loop-part-test.true c.part-item.is c.loop-part.invariant c.in_ok-push_formula.ensures
