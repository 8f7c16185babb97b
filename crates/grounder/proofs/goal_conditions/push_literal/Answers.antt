use Rattle.std.proofs.Common.{sym, ap, ◌∙◌, ℕ, [], ◌∷◌, ◌++◌}
use Rattle.ground_world.specs.Shown.{part_of}
use Rattle.ground_world.specs.declared.parts.CondPart.{CondPart}
use Rattle.task_types.specs.declared.conditions.Literal.{Literal}
use Rattle.grounder.specs.ShownGrounding.{ground_of}
use Rattle.grounder.specs.Task.{fact_number, literal_of}
use Rattle.grounder.proofs.goal_conditions.push_literal.Goals as goal

pub returns-in_ok-push-in-Literal : goal.returns-in_ok-push-in-Literal
returns-in_ok-push-in-Literal c =
    let g = ground_of c.args.grounding.now in
    let literal : ℕ → Literal = λ n. record { fact = n; holds = c.in-Literal.holds } in
    let one = λ (n : ℕ). c.args.out.now ++ (literal n ∷ []) in
    c.in_ok-push-in-Literal.ensures.ok ∙ ap one (c.fact_id-fact.ensures ∙ ap (fact_number g) c.as_slice.ensures)
    ∙ sym (ap (λ (p : CondPart). c.args.out.now ++ literal_of g.facts (part_of p)) c.in-Literal.is)
