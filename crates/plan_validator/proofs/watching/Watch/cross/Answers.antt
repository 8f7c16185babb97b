use Rattle.std.proofs.Common.{suc, ◌++◌, List, ap, subst}
use Rattle.std.specs.List.{flat_map}
use Rattle.exact_lin.specs.Reckoning.{wide_limit}
use Rattle.exact_lin.specs.Reckonings.{IsDefined}
use Rattle.basics.proofs.Lists.{each_append, each_left, each_right}
use Rattle.task_types.specs.Course.{time_of, state_after, state_before}
use Rattle.task_types.specs.Reckoned.{move_at}
use Rattle.timed_meaning.specs.declared.placing.PlacedLine.{PlacedLine}
use Rattle.timed_meaning.specs.Answers.{Tells}
use Rattle.timed_meaning.proofs.Amounts.{part-fault}
use Rattle.plan_validator.specs.Segments.{over_all_values, running_over}
use Rattle.plan_validator.specs.Watching.{end_reckoned, over_all_at, IsWatching}
use Rattle.plan_validator.proofs.Telling.{tells-so}
use Rattle.plan_validator.proofs.Wholes.{over_all_in, over_all_first, over_all_second}
use Rattle.plan_validator.proofs.watching.Watch.cross.Goals as goal

pub arrive-requires : goal.arrive-requires
arrive-requires c = (c.requires.0, c.requires.1, c.requires.2, (c.in-Ok.ensures c.requires.0 c.requires.1 c.requires.2 c.requires.3 c.requires.4).1.0, c.requires.4)

pub returns-in-Ok : goal.returns-in-Ok
returns-in-Ok c = λ rules plan k v h.
    let left = c.in-Ok.ensures rules plan k v h in
    let lines_are = ap (λ a. a.lines.items) left.1.1 in
    tells-so c.arrive.result (flat_map (over_all_values c.args.task.now.parts (state_before c.args.task.now.parts plan (suc k))) (running_over c.args.task.now.parts plan c.args.self.now.sweep.agenda.lines.items k)) (move_at c.args.task.now.parts plan k ++ over_all_at c.args.task.now.parts plan k) _ _
    (λ d. each_append (IsDefined wide_limit) (move_at c.args.task.now.parts plan k) (over_all_at c.args.task.now.parts plan k)
    (each_right (IsDefined wide_limit) (end_reckoned c.args.task.now.parts plan c.args.self.now (state_after c.args.task.now.parts plan k) k) (move_at c.args.task.now.parts plan k) left.0)
    (over_all_in c.args.task.now.parts plan (time_of c.args.task.now.parts plan k) (time_of c.args.task.now.parts plan (suc k)) c.args.self.now.sweep.agenda.lines.items v.after.at.listed.placed (state_after c.args.task.now.parts plan k) (state_before c.args.task.now.parts plan (suc k))
    (each_left (IsDefined wide_limit) (end_reckoned c.args.task.now.parts plan c.args.self.now (state_after c.args.task.now.parts plan k) k) (move_at c.args.task.now.parts plan k) left.0) d))
    (λ d. over_all_second c.args.task.now.parts plan (time_of c.args.task.now.parts plan k) (time_of c.args.task.now.parts plan (suc k)) c.args.self.now.sweep.agenda.lines.items v.after.at.listed.placed (state_after c.args.task.now.parts plan k) (state_before c.args.task.now.parts plan (suc k))
    (each_right (IsDefined wide_limit) (move_at c.args.task.now.parts plan k) (over_all_at c.args.task.now.parts plan k) d))
    (λ u p. p)
    (subst (λ (ls : List PlacedLine). Tells c.arrive.result (flat_map (over_all_values c.args.task.now.parts (state_before c.args.task.now.parts plan (suc k))) (running_over c.args.task.now.parts plan ls k)) (λ _. IsWatching c.args.task.now.parts rules plan c.arrive.new.self (suc k))) lines_are (c.arrive.ensures rules plan k left.1.0 h))

pub returns-in-Err : goal.returns-in-Err
returns-in-Err c = λ rules plan k v h. part-fault c.in-Err.fault _ _ _ _
    (λ d. each_append (IsDefined wide_limit) (end_reckoned c.args.task.now.parts plan c.args.self.now (state_after c.args.task.now.parts plan k) k) (move_at c.args.task.now.parts plan k)
    (over_all_first c.args.task.now.parts plan (time_of c.args.task.now.parts plan k) (time_of c.args.task.now.parts plan (suc k)) c.args.self.now.sweep.agenda.lines.items v.after.at.listed.placed (state_after c.args.task.now.parts plan k) (state_before c.args.task.now.parts plan (suc k))
    (each_right (IsDefined wide_limit) (move_at c.args.task.now.parts plan k) (over_all_at c.args.task.now.parts plan k) d)) (each_left (IsDefined wide_limit) (move_at c.args.task.now.parts plan k) (over_all_at c.args.task.now.parts plan k) d))
    (c.in-Err.ensures rules plan k v h)
