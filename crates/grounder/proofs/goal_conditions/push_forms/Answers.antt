use Rattle.std.proofs.Common.{◌≡◌, sym, subst, OnOk, ◌++◌}
use Rattle.ground_world.specs.Shown.{part_of}
use Rattle.ground_world.specs.declared.parts.CondPart.{CondPart}
use Rattle.grounder.specs.ShownGrounding.{ground_of}
use Rattle.grounder.specs.Task.{goal_forms_in}
use Rattle.grounder.proofs.goal_conditions.push_forms.Goals as goal

pub returns-in-Same : goal.returns-in-Same
returns-in-Same c =
    subst (λ (p : CondPart). OnOk c.push_same.result (c.push_same.new.out ≡ c.args.out.now ++ goal_forms_in (ground_of c.args.grounding.now) (part_of p))) (sym c.in-Same.is) c.push_same.ensures

pub returns-in-Compares : goal.returns-in-Compares
returns-in-Compares c =
    subst (λ (p : CondPart). OnOk c.push_compared.result (c.push_compared.new.out ≡ c.args.out.now ++ goal_forms_in (ground_of c.args.grounding.now) (part_of p))) (sym c.in-Compares.is) c.push_compared.ensures
