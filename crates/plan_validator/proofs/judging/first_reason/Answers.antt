use Rattle.std.proofs.Common.{◌≡◌, ◌≤◌, ap, subst, length, arith, vec_len}
use Rattle.task_types.specs.Plan.{Plan}
use Rattle.task_types.specs.Course.{count}
use Rattle.task_types.specs.Valid.{duties}
use Rattle.timed_meaning.proofs.Listed.{few-happenings}
use Rattle.plan_validator.specs.Judged.{Judged}
use Rattle.plan_validator.proofs.Answering.{judges-fault, judges-goal, judges-plan}
use Rattle.plan_validator.proofs.judging.first_reason.Goals as goal

pub returns-in-Err-watch_all : goal.returns-in-Err-watch_all
returns-in-Err-watch_all c = judges-fault c.args.task.now.parts c.args.rules.now c.args.plan.now c.in-Err-watch_all.fault c.in-Err-watch_all.ensures

pub returns-in-Ok-goal_holds : goal.returns-in-Ok-goal_holds
returns-in-Ok-goal_holds c = judges-plan c.args.task.now.parts c.args.rules.now c.args.plan.now c.reason_of.result c.requires.formed c.in-Ok-watch_all.ensures.0
    (c.in-Ok-goal_holds.ensures c.args.rules.now c.args.plan.now c.in-Ok-watch_all.ensures.1).0
    (subst (λ (p : Plan). Judged (duties c.args.task.now.parts c.args.rules.now p) c.reason_of.result) c.lines.ensures c.reason_of.ensures)

pub overflow_cast-result : goal.overflow_cast-result
overflow_cast-result c =
    let few : count c.args.task.now.parts c.args.plan.now ≤ 8256 = few-happenings c.args.task.now.parts c.args.plan.now c.args.task.now.well_made c.requires in
    let e : length c.in-Ok.times.items ≡ count c.args.task.now.parts c.args.plan.now = ap length c.in-Ok.ensures in
    let f : vec_len c.in-Ok.times ≡ length c.in-Ok.times.items = c.in-Ok.times.ok.0 in
    omega (arith, few, e, f, c.len-in-Err-Wide.ensures)

pub returns-in-Err-Wide : goal.returns-in-Err-Wide
returns-in-Err-Wide c =
    let e : length c.in-Ok.times.items ≡ count c.args.task.now.parts c.args.plan.now = ap length c.in-Ok.ensures in
    let f : vec_len c.in-Ok.times ≡ length c.in-Ok.times.items = c.in-Ok.times.ok.0 in
    let n : c.len-in-Err-Wide.result ≡ count c.args.task.now.parts c.args.plan.now = omega (arith, e, f, c.len-in-Err-Wide.ensures) in
    judges-goal c.args.task.now.parts c.args.rules.now c.args.plan.now c.len-in-Err-Wide.result n c.in-Ok-watch_all.ensures.0
    (λ d. let t = rw c.in-Err-Wide.field-0-is at (c.in-Err-Wide.ensures c.args.rules.now c.args.plan.now c.in-Ok-watch_all.ensures.1) in t d)
