use Rattle.std.proofs.Common.{ℕ, ◌<◌, inr, ◌∙◌, sym, add-one, arith}
use Rattle.task_types.specs.Course.{count}
use Rattle.metric_cost.proofs.Counting.{few_happenings}
use Rattle.metric_cost.proofs.Going.{all-gone, last-stopped, stopped-before}
use Rattle.metric_cost.proofs.costing.follow_all.Goals as goal

pub returns-in-Err : goal.returns-in-Err
returns-in-Err c = stopped-before c.args.task.now.parts c.args.plan.now c.args.k c.requires.last c.in-Err.fault c.in-Err.ensures

pub happen-requires : goal.happen-requires
happen-requires c = (c.args.plan.now, c.args.k, c.in-Ok.ensures.1, omega (arith, c.requires.last), few_happenings c.args.task.now.parts c.args.plan.now c.args.task.now.well_made c.requires.built)

pub returns-in-Ok-happen : goal.returns-in-Ok-happen
returns-in-Ok-happen c =
    let there : c.args.k < count c.args.task.now.parts c.args.plan.now = omega (arith, c.requires.last) in
    let after = c.in-Ok-happen.ensures c.args.plan.now c.args.k c.in-Ok.ensures.1 there in
    (all-gone c.args.task.now.parts c.args.plan.now c.args.k c.requires.last c.in-Ok.ensures.0 after.0, inr (c.args.k, after.1, sym c.requires.last ∙ add-one c.args.k))

pub returns-in-Err-Wide : goal.returns-in-Err-Wide
returns-in-Err-Wide c =
    let there : c.args.k < count c.args.task.now.parts c.args.plan.now = omega (arith, c.requires.last) in
    last-stopped c.args.task.now.parts c.args.plan.now c.args.k c.requires.last c.in-Ok.ensures.0
    (λ d. let t = rw c.in-Err-Wide.field-0-is at (c.in-Err-Wide.ensures c.args.plan.now c.args.k c.in-Ok.ensures.1 there) in t d)
