use Rattle.std.proofs.Common.{◌≡◌, ◌∙◌, ◌+◌, ◌-◌, ◌≤◌, refl, ap, subst, length, drop, add-one, arith}
use Rattle.std.proofs.lemmas.List.{take_rest, length-drop}
use Rattle.timed_meaning.specs.Agendas.{run_end, Follows}
use Rattle.timed_meaning.proofs.Onward.{at-next, more-in}
use Rattle.timed_meaning.proofs.agendas.Agenda.advance.Goals as goal

pub returns : goal.returns
returns c = λ task plan at.
    let rest : length (drop c.args.self.now.next c.args.self.now.steps.items) ≡ length c.args.self.now.steps.items - c.args.self.now.next = length-drop c.args.self.now.next c.args.self.now.steps.items in
    let left = take_rest c.as_slice.result.now c.args.self.now.next ∙ ap (drop c.args.self.now.next) c.as_slice.ensures.value in
    let ended : c.run_end.result ≤ length (drop c.args.self.now.next c.args.self.now.steps.items) = subst (λ l. c.run_end.result ≤ length l) left c.run_end.ensures.within in
    let inside : c.args.self.now.next + c.run_end.result ≤ length c.args.self.now.steps.items = omega (arith, rest, ended, at.within) in (
      at-next task plan c.args.self.now _ at (more-in task plan c.args.self.now at c.requires.more) refl refl refl (add-one c.args.self.now.place) refl
          (ap (λ n. c.args.self.now.next + n) (c.run_end.ensures.value ∙ ap run_end left))
          inside
          (subst (λ ls. c.in_ok-self.field-0 ≤ length ls) c.as_slice-2.ensures.value c.in_ok-self.ensures.within)
          (subst (λ ls. Follows c.args.self.now.steps.items c.args.self.now.next (c.args.self.now.next + c.run_end.result) ls c.args.self.now.started c.in_ok-self.field-0 c.args.self.now.running.items c.follow.new.running.items) c.as_slice-2.ensures.value
          (subst (λ xs. Follows xs c.args.self.now.next (c.args.self.now.next + c.run_end.result) c.as_slice-2.result.now c.args.self.now.started c.in_ok-self.field-0 c.args.self.now.running.items c.follow.new.running.items) c.as_slice-3.ensures.value c.in_ok-self.ensures.follows)),
      add-one c.args.self.now.place,
      refl,
      refl,
      refl,
    )
