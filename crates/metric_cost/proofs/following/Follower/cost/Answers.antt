use Rattle.std.proofs.Common.{◌∙◌, ⊎_elim}
use Rattle.task_types.specs.Course.{state_before, state_after}
use Rattle.metric_cost.proofs.Going.{told-is, last-before, last-after}
use Rattle.metric_cost.proofs.following.Follower.cost.Goals as goal

pub end-requires-clause-last : goal.end-requires-clause-last
end-requires-clause-last c = ⊎_elim
    (λ p. told-is c.args.task.now.parts c.facts-facts.result.now c.fluents-fluents.result.now (state_before c.args.task.now.parts c.args.plan.now c.args.self.now.sweep.agenda.place)
    (c.facts-facts.ensures.before c.args.task.now.parts c.args.plan.now p.0.sweep) (c.fluents-fluents.ensures.before c.args.task.now.parts c.args.plan.now p.0.sweep)
    ∙ last-before c.args.task.now.parts c.args.plan.now c.args.self.now.sweep.agenda.place p.0.place p.1)
    (λ p. told-is c.args.task.now.parts c.facts-facts.result.now c.fluents-fluents.result.now (state_after c.args.task.now.parts c.args.plan.now c.args.self.now.sweep.agenda.place)
    (c.facts-facts.ensures.after c.args.task.now.parts c.args.plan.now p.1.sweep) (c.fluents-fluents.ensures.after c.args.task.now.parts c.args.plan.now p.1.sweep)
    ∙ last-after c.args.task.now.parts c.args.plan.now c.args.self.now.sweep.agenda.place p.0 p.1.place p.2)
    c.requires.last
