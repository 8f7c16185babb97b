use Rattle.std.proofs.Common.{◌∙◌, ℕ, suc, ◌<◌, ap, sym, subst}
use Rattle.std.specs.Prelude.{None}
use Rattle.task_types.specs.Course.{count, state_after, state_before}
use Rattle.timed_meaning.proofs.Amounts.{part-fault}
use Rattle.plan_validator.specs.Firsts.{all_noted}
use Rattle.plan_validator.specs.Segments.{over_all_notes}
use Rattle.plan_validator.specs.Watching.{steps_read, end_notes}
use Rattle.plan_validator.proofs.Visiting.{all_noted-append, segments-more}
use Rattle.plan_validator.proofs.watching.Watch.arrive.Goals as goal

pub note_end-requires : goal.note_end-requires
note_end-requires c = (c.requires.1, c.requires.3.between.at, c.requires.3.between.kept, subst (λ (j : ℕ). suc j < count c.args.task.now.parts c.requires.1) (sym c.requires.3.place) c.requires.4)

pub turn-requires : goal.turn-requires
turn-requires c = (c.args.task.now.parts, c.requires.1, c.requires.3.between, subst (λ (j : ℕ). suc j < count c.args.task.now.parts c.requires.1) (sym c.requires.3.place) c.requires.4)

pub returns-in-Ok-turn : goal.returns-in-Ok-turn
returns-in-Ok-turn c = λ rules plan k v h.
    let there : suc c.args.self.now.sweep.agenda.place < count c.args.task.now.parts plan = subst (λ (j : ℕ). suc j < count c.args.task.now.parts plan) (sym v.place) h in
    let noted = c.in-Ok.ensures plan k (state_before c.args.task.now.parts plan (suc k)) v.between.at v.place h (v.between.state ∙ ap (λ j. state_before c.args.task.now.parts plan (suc j)) v.place) in
    let turned = c.in-Ok-turn.ensures c.args.task.now.parts plan v.between there in (
      noted.0,
      record {
        before = turned.0;
        place = turned.1 ∙ ap suc v.place;
        readings = v.readings ∙ ap (steps_read c.args.task.now.parts rules plan) (sym turned.2.met);
        over_alls = noted.1 ∙ ap (λ o. all_noted o (end_notes c.args.task.now.parts plan c.args.self.now (state_before c.args.task.now.parts plan (suc k)) k)) v.over_alls
            ∙ sym (all_noted-append (all_noted None (over_all_notes c.args.task.now.parts plan c.args.self.now.sweep.agenda.lines.items k)) (end_notes c.args.task.now.parts plan c.args.self.now (state_after c.args.task.now.parts plan k) k) (end_notes c.args.task.now.parts plan c.args.self.now (state_before c.args.task.now.parts plan (suc k)) k))
            ∙ segments-more c.args.task.now.parts rules plan c.args.self.now.sweep.agenda.lines.items k
            ∙ ap (λ ls. all_noted None (over_all_notes c.args.task.now.parts plan ls.items (suc k))) (sym turned.2.lines);
        automata = v.automata;
      },
    )

pub returns-in-Err : goal.returns-in-Err
returns-in-Err c = λ rules plan k v h. part-fault c.in-Err.fault _ _ _ _ (λ d. d)
    (c.in-Err.ensures plan k (state_before c.args.task.now.parts plan (suc k)) v.between.at v.place h (v.between.state ∙ ap (λ j. state_before c.args.task.now.parts plan (suc j)) v.place))
