use Rattle.std.proofs.Common.{◌∙◌, ap, subst, take}
use Rattle.task_types.specs.declared.parts.TaskParts.{TaskParts}
use Rattle.task_types.specs.Plan.{Plan}
use Rattle.task_types.specs.Course.{initial}
use Rattle.timed_meaning.specs.Agendas.{IsAt}
use Rattle.timed_meaning.specs.Standings.{IsKept}
use Rattle.timed_meaning.proofs.Stepping.{first-state}
use Rattle.timed_meaning.proofs.sweeps.Sweep.begin.Goals as goal

pub returns : goal.returns
returns c = (
  record {
    at = subst (λ (p : TaskParts). IsAt p c.args.plan.now c.in_ok-agenda.agenda) c.parts.ensures (subst (λ (l : Plan). IsAt c.parts.result.now l c.in_ok-agenda.agenda) c.lines.ensures c.in_ok-agenda.ensures.0);
    kept = subst (λ (p : TaskParts). IsKept p c.in_ok-standing.standing) c.parts-2.ensures c.in_ok-standing.ensures.kept;
    state = c.in_ok-standing.ensures.state ∙ ap initial c.parts-2.ensures ∙ first-state c.args.task.now.parts c.args.plan.now c.in_ok-agenda.agenda.place c.in_ok-agenda.ensures.1;
  },
  c.in_ok-agenda.ensures.1,
  ap (λ k. take k c.in_ok-agenda.agenda.owned.items) c.in_ok-agenda.ensures.2,
)
