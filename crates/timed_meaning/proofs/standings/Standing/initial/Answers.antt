use Rattle.std.proofs.Common.{◌∙◌, ap, map}
use Rattle.task_types.specs.Course.{initial}
use Rattle.timed_meaning.specs.Answers.{told}
use Rattle.timed_meaning.proofs.standings.Standing.initial.Goals as goal

pub returns-clause-state : goal.returns-clause-state
unfolding initial
returns-clause-state c = ap (λ fs. told fs c.in_ok-fluents.fluents.items) (c.in_ok-facts.ensures ∙ ap (map (λ x. x.holds)) c.as_slice.ensures)
    ∙ ap (told (map (λ x. x.holds) c.args.parts.now.facts)) (c.in_ok-fluents.ensures.values ∙ ap (map (λ x. x.value)) c.as_slice-2.ensures)
