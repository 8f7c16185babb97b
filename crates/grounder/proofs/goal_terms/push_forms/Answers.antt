use Rattle.std.proofs.Common.{◌≡◌, sym, ap, subst, ◌∙◌, OnOk, List, ◌++◌}
use Rattle.std.specs.List.{flat_map}
use Rattle.std.proofs.lemmas.List.{append-nil}
use Rattle.exact_lin.specs.Forms.{LinearForm}
use Rattle.ground_world.specs.Conditions.{tests_in}
use Rattle.ground_world.specs.Shown.{part_of, test_of}
use Rattle.ground_world.specs.declared.parts.CondPart.{CondPart}
use Rattle.grounder.specs.ShownGrounding.{ground_of}
use Rattle.grounder.specs.Task.{compared}
use Rattle.grounder.proofs.goal_terms.push_forms.Goals as goal

pub returns-in-Compares : goal.returns-in-Compares
returns-in-Compares c =
    let g = ground_of c.args.grounding.now in
    subst (λ (l : List LinearForm). OnOk c.push_compared.result (c.push_compared.new.out ≡ c.args.out.now ++ l))
    (sym (append-nil (compared g (test_of c.in-Compares.test))) ∙ sym (ap (λ (p : CondPart). flat_map (compared g) (tests_in (part_of p))) c.in-Compares.is))
    c.push_compared.ensures
