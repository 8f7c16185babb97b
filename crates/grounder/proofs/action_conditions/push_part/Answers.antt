use Rattle.std.proofs.Common.{sym, ap, ◌∙◌, ℕ, List, ◌++◌}
use Rattle.ground_world.specs.Conditions.{Lit}
use Rattle.ground_world.specs.Shown.{part_of, test_of}
use Rattle.ground_world.specs.declared.parts.CondPart.{CondPart}
use Rattle.grounder.specs.ShownGrounding.{ground_of}
use Rattle.grounder.specs.Building.{with_part}
use Rattle.grounder.specs.Task.{dynamic_literal}
use Rattle.grounder.proofs.BuildingSteps.{literal-part, test-part, same-part}
use Rattle.grounder.proofs.action_conditions.push_part.Goals as goal

pub returns-in_ok-push_literal-in-Literal : goal.returns-in_ok-push_literal-in-Literal
returns-in_ok-push_literal-in-Literal c =
    let g = ground_of c.args.grounding.now in
    let old = c.args.condition.now in
    literal-part g old c.in-Literal.atom c.in-Literal.holds c.push_literal.new.out
    (c.in_ok-push_literal-in-Literal.ensures ∙ ap (λ (a : List ℕ). old.literals ++ dynamic_literal g.world g.facts (Lit a c.in-Literal.holds)) c.as_slice.ensures)
    ∙ sym (ap (λ (p : CondPart). with_part g old (part_of p)) c.in-Literal.is)

pub returns-in-Same : goal.returns-in-Same
returns-in-Same c =
    let g = ground_of c.args.grounding.now in
    let old = c.args.condition.now in
    same-part g old c.in-Same.field-0 ∙ sym (ap (λ (p : CondPart). with_part g old (part_of p)) c.in-Same.is)

pub returns-in_ok-push_compared-in-Compares : goal.returns-in_ok-push_compared-in-Compares
returns-in_ok-push_compared-in-Compares c =
    let g = ground_of c.args.grounding.now in
    let old = c.args.condition.now in
    test-part g old (test_of c.in-Compares.test) c.push_compared.new.out c.in_ok-push_compared-in-Compares.ensures
    ∙ sym (ap (λ (p : CondPart). with_part g old (part_of p)) c.in-Compares.is)
