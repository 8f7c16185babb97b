use Rattle.std.proofs.Common.{◌≡◌, ◌∙◌, ℕ, suc, ◌++◌, ◌<◌, ap, sym, subst, take, map}
use Rattle.std.specs.Prelude.{None}
use Rattle.exact_lin.specs.Reckoning.{wide_limit}
use Rattle.exact_lin.specs.Reckonings.{IsDefined}
use Rattle.basics.proofs.Lists.{each_left}
use Rattle.task_types.specs.Course.{count, state_after}
use Rattle.task_types.specs.Reckoned.{move_at}
use Rattle.timed_meaning.specs.Answers.{Tells}
use Rattle.timed_meaning.specs.Agendas.{owned_here_of}
use Rattle.timed_meaning.specs.Sweeps.{IsBetween}
use Rattle.timed_meaning.proofs.Amounts.{part-fault, second-part}
use Rattle.plan_validator.specs.Firsts.{all_noted}
use Rattle.plan_validator.specs.Segments.{over_all_note, running_over, over_all_notes}
use Rattle.plan_validator.specs.Watching.{steps_read, end_reckoned, end_notes}
use Rattle.plan_validator.proofs.watching.Watch.leave.Goals as goal

pub note_end-requires : goal.note_end-requires
note_end-requires c = (c.requires.1, c.requires.3.after.at, c.requires.3.after.kept, subst (λ (j : ℕ). suc j < count c.args.task.now.parts c.requires.1) (sym c.requires.3.place) c.requires.4)

pub move_on-requires : goal.move_on-requires
move_on-requires c = (c.requires.1, c.requires.3.after, subst (λ (j : ℕ). suc j < count c.args.task.now.parts c.requires.1) (sym c.requires.3.place) c.requires.4)

pub returns-in-Ok : goal.returns-in-Ok
returns-in-Ok c = λ rules plan k v h.
    let there : suc c.args.self.now.sweep.agenda.place < count c.args.task.now.parts plan = subst (λ (j : ℕ). suc j < count c.args.task.now.parts plan) (sym v.place) h in
    let noted = c.in-Ok.ensures plan k (state_after c.args.task.now.parts plan k) v.after.at v.place h (v.after.state ∙ ap (λ j. state_after c.args.task.now.parts plan j) v.place) in
    second-part c.move_on.result (end_reckoned c.args.task.now.parts plan c.args.self.now (state_after c.args.task.now.parts plan k) k) (move_at c.args.task.now.parts plan k) _ _ noted.0
    (λ u p. (
      record {
        between = p.0;
        place = ap (λ a. a.place) p.1 ∙ v.place;
        readings = v.readings ∙ ap (λ a. steps_read c.args.task.now.parts rules plan (take a.first a.owned.items ++ owned_here_of a)) (sym p.1);
        over_alls = noted.1 ∙ ap (λ o. all_noted o (end_notes c.args.task.now.parts plan c.args.self.now (state_after c.args.task.now.parts plan k) k)) v.over_alls
            ∙ ap (λ a. all_noted (all_noted None (over_all_notes c.args.task.now.parts plan a.lines.items k)) (map (over_all_note c.args.task.now.parts k (state_after c.args.task.now.parts plan k)) (running_over c.args.task.now.parts plan a.lines.items k))) (sym p.1);
        automata = v.automata;
      },
      p.1,
    ))
    (subst (λ j. Tells c.move_on.result (move_at c.args.task.now.parts plan j) (λ _. IsBetween c.args.task.now.parts plan c.move_on.new.self × (c.move_on.new.self.agenda ≡ c.args.self.now.sweep.agenda))) v.place (c.move_on.ensures plan v.after there))

pub returns-in-Err : goal.returns-in-Err
returns-in-Err c = λ rules plan k v h. part-fault c.in-Err.fault _ _ _ _
    (λ d. each_left (IsDefined wide_limit) (end_reckoned c.args.task.now.parts plan c.args.self.now (state_after c.args.task.now.parts plan k) k) (move_at c.args.task.now.parts plan k) d)
    (c.in-Err.ensures plan k (state_after c.args.task.now.parts plan k) v.after.at v.place h (v.after.state ∙ ap (λ j. state_after c.args.task.now.parts plan j) v.place))
