use Rattle.std.proofs.Common.{◌≡◌, ◌∙◌, ap, sym, subst}
use Rattle.std.specs.Prelude.{IfOk}
use Rattle.task_types.specs.Plan.{Plan, steps}
use Rattle.task_types.specs.declared.parts.TaskParts.{TaskParts}
use Rattle.timed_meaning.specs.Owned.{steps_of}
use Rattle.timed_meaning.specs.Sorts.{AreSorted, NeverFall, times}
use Rattle.timed_meaning.proofs.Left.{happenings-sorted}
use Rattle.timed_meaning.proofs.times.happenings.Goals as goal

pub times_of-requires : goal.times_of-requires
times_of-requires c = subst NeverFall (sym (c.as_slice-2.ensures.value ∙ c.in_ok-steps.ensures ∙ ap steps_of c.as_slice.ensures.value)) c.in_ok-owned.ensures.sorted.falls

pub returns : goal.returns
returns c = subst (λ hs. IfOk c.times_of.result (λ ts. ts.items ≡ hs))
    (ap times (c.as_slice-2.ensures.value ∙ c.in_ok-steps.ensures ∙ ap steps_of c.as_slice.ensures.value) ∙ happenings-sorted c.args.task.now.parts c.args.plan.now (steps_of c.in_ok-owned.owned.items)
    (subst (λ (p : TaskParts). AreSorted (steps p c.args.plan.now) (steps_of c.in_ok-owned.owned.items)) c.parts.ensures
    (subst (λ (l : Plan). AreSorted (steps c.parts.result.now l) (steps_of c.in_ok-owned.owned.items)) c.lines.ensures c.in_ok-owned.ensures.sorted)))
    c.times_of.ensures
