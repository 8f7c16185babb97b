-- A sweep that goes on has met the steps of the happening that it leaves.
use Rattle.std.proofs.Common.{◌≡◌, sym, ap, ◌∙◌, ◌+◌, ◌-◌, ◌≤◌, ◌++◌, length, take, arith}
use Rattle.std.proofs.lemmas.List.{take_all}
use Rattle.task_types.specs.declared.parts.TaskParts.{TaskParts}
use Rattle.task_types.specs.Plan.{Plan}
use Rattle.task_types.specs.Course.{count}
use Rattle.timed_meaning.specs.declared.sweeps.Sweep.{Sweep}
use Rattle.timed_meaning.specs.Agendas.{owned_here_of, IsAt}
use Rattle.timed_meaning.specs.Sweeps.{GoesOn, steps_met, steps_here}
use Rattle.timed_meaning.proofs.Followed.{take-parts}
use Rattle.timed_meaning.proofs.Onward.{all-met}

module _ (task : TaskParts) (plan : Plan) (old : Sweep) (at : IsAt task plan old.agenda) where
  met-here : take old.agenda.next old.agenda.owned.items ≡ steps_met old ++ steps_here old
  met-here = ap (λ k. take k old.agenda.owned.items) (let e : old.agenda.next ≡ old.agenda.first + (old.agenda.next - old.agenda.first) = omega (arith, at.next) in e)
      ∙ take-parts old.agenda.first (old.agenda.next - old.agenda.first) old.agenda.owned.items

  pub goes-on : (new : Sweep) → new.agenda.first ≡ old.agenda.next → new.agenda.owned ≡ old.agenda.owned → new.agenda.lines ≡ old.agenda.lines → GoesOn old new
  goes-on new f o l = record {
    met = ap (λ k. take k new.agenda.owned.items) f ∙ ap (λ v. take old.agenda.next v.items) o ∙ met-here;
    same = o;
    lines = l;
  }

  -- at the last happening the steps met and those here are all
  pub met-all : count task plan ≤ old.agenda.place + 1 → steps_met old ++ steps_here old ≡ old.agenda.owned.items
  met-all h = sym met-here ∙ take_all old.agenda.next old.agenda.owned.items (let e : old.agenda.next ≡ length old.agenda.owned.items = all-met task plan old.agenda at (omega (arith, h)) in omega (arith, e))

pub goes-on-from : (s t new : Sweep) → t.agenda ≡ s.agenda → GoesOn t new → GoesOn s new
goes-on-from s t new e g = record {
  met = g.met ∙ ap (λ a. take a.first a.owned.items ++ owned_here_of a) e;
  same = g.same ∙ ap (λ a. a.owned) e;
  lines = g.lines ∙ ap (λ a. a.lines) e;
}
