use Rattle.std.proofs.Common.{◌∙◌, ◌≤◌, length, refl, ap, subst}
use Rattle.timed_meaning.specs.Agendas.{run_end, Follows}
use Rattle.timed_meaning.proofs.Onward.{at-first}
use Rattle.timed_meaning.proofs.agendas.Agenda.of_lists.Goals as goal

pub returns : goal.returns
returns c = λ task plan listed. (
  at-first task plan _ listed c.requires refl refl (c.run_end-next.ensures.value ∙ ap run_end c.as_slice.ensures.value)
      (subst (λ ls. c.in_ok-started.started ≤ length ls) c.as_slice-2.ensures.value c.in_ok-started.ensures.within)
      (subst (λ old. Follows c.args.steps.items 0 c.run_end-next.result c.args.lines.items 0 c.in_ok-started.started old c.follow.new.running.items) c.new-running.ensures.items
      (subst (λ ls. Follows c.args.steps.items 0 c.run_end-next.result ls 0 c.in_ok-started.started c.new-running.result.items c.follow.new.running.items) c.as_slice-2.ensures.value
      (subst (λ xs. Follows xs 0 c.run_end-next.result c.as_slice-2.result.now 0 c.in_ok-started.started c.new-running.result.items c.follow.new.running.items) c.as_slice-3.ensures.value c.in_ok-started.ensures.follows))),
  refl,
  refl,
)
