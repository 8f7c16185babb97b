use Rattle.std.proofs.Common.{◌++◌, ◌<◌, arith}
use Rattle.exact_lin.specs.Reckoning.{wide_limit}
use Rattle.exact_lin.specs.Reckonings.{IsDefined}
use Rattle.basics.proofs.Lists.{each_append, each_left, each_right}
use Rattle.task_types.specs.Course.{count}
use Rattle.task_types.specs.Reckoned.{move_at, whole_at}
use Rattle.timed_meaning.proofs.Amounts.{part-fault}
use Rattle.plan_validator.specs.Watching.{over_all_at}
use Rattle.plan_validator.proofs.Telling.{tells-so}
use Rattle.plan_validator.proofs.Wholes.{whole_in, whole_visit, whole_move, whole_overs}
use Rattle.plan_validator.proofs.watching.Watch.step.Goals as goal

pub visit-requires : goal.visit-requires
visit-requires c = (c.requires.0, c.requires.1, c.requires.2, c.requires.3, (let h : c.requires.1 < count c.args.task.now.parts c.requires.0 = omega (arith, c.requires.4) in h))

pub cross-requires : goal.cross-requires
cross-requires c = (c.args.rules.now, c.requires.0, c.requires.1, (c.in-Ok.ensures c.requires.0 c.requires.1 c.requires.2 (let h : c.requires.1 < count c.args.task.now.parts c.requires.0 = omega (arith, c.requires.4) in h)).1.0, c.requires.4)

pub returns-in-Ok : goal.returns-in-Ok
returns-in-Ok c = λ plan k b h.
    let visited = c.in-Ok.ensures plan k b (omega (arith, h)) in
    tells-so c.cross.result (move_at c.args.task.now.parts plan k ++ over_all_at c.args.task.now.parts plan k) (whole_at c.args.task.now.parts c.args.rules.now plan k) _ _
    (λ d. whole_in c.args.task.now.parts c.args.rules.now plan k h visited.0 (each_left (IsDefined wide_limit) (move_at c.args.task.now.parts plan k) (over_all_at c.args.task.now.parts plan k) d) (each_right (IsDefined wide_limit) (move_at c.args.task.now.parts plan k) (over_all_at c.args.task.now.parts plan k) d))
    (λ d. each_append (IsDefined wide_limit) (move_at c.args.task.now.parts plan k) (over_all_at c.args.task.now.parts plan k) (whole_move c.args.task.now.parts c.args.rules.now plan k h d) (whole_overs c.args.task.now.parts c.args.rules.now plan k h d))
    (λ u p. p)
    (c.cross.ensures c.args.rules.now plan k visited.1.0 h)

pub returns-in-Err : goal.returns-in-Err
returns-in-Err c = λ plan k b h. part-fault c.in-Err.fault _ _ _ _ (λ d. whole_visit c.args.task.now.parts c.args.rules.now plan k h d) (c.in-Err.ensures plan k b (omega (arith, h)))
