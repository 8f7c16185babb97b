use Rattle.std.proofs.Common.{ap, ap₂, ◌∙◌, List}
use Rattle.exact_lin.specs.Forms.{LinearForm}
use Rattle.task_types.specs.declared.costs.Soft.TheVariants as soft
use Rattle.task_types.specs.declared.formulas.FactTree.{FactTree}
use Rattle.ground_world.specs.Shown.{env_of, parts_of}
use Rattle.grounder.specs.ShownGrounding.{ground_of}
use Rattle.grounder.specs.ShownPreferences.{preferences_of}
use Rattle.grounder.specs.Task.{all_of}
use Rattle.grounder.proofs.TermSteps.{forms-compared}
use Rattle.grounder.proofs.goal_terms.goal_term.Goals as goal

pub returns : goal.returns
returns c =
    let g = ground_of c.args.grounding.now in
    ap₂ (λ (t : FactTree) (fs : List LinearForm). soft.Goal t fs c.args.weight) (c.conjunction.ensures ∙ ap all_of c.in_ok-trees.ensures)
    (forms-compared g (env_of c.args.env.now) (preferences_of c.args.parts.now) (parts_of c.as_slice.result.now) c.in_ok-forms.forms
    (ap parts_of c.as_slice.ensures ∙ c.in_ok-compared.ensures) c.in_ok-forms.ensures)
