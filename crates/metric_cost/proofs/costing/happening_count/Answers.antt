use Rattle.std.proofs.Common.{◌≡◌, ◌<◌, ◌^◌, ◌∙◌, ap, length, arith, vec_len}
use Rattle.task_types.specs.Course.{count}
use Rattle.metric_cost.proofs.Counting.{few_happenings}
use Rattle.metric_cost.proofs.costing.happening_count.Goals as goal

pub overflow_cast-result : goal.overflow_cast-result
overflow_cast-result c =
    let few : count c.args.task.now.parts c.args.plan.now < 2 ^ 31 = few_happenings c.args.task.now.parts c.args.plan.now c.args.task.now.well_made c.requires in
    let e : length c.in_ok-times.times.items ≡ count c.args.task.now.parts c.args.plan.now = ap length c.in_ok-times.ensures in
    let f : vec_len c.in_ok-times.times ≡ length c.in_ok-times.times.items = c.in_ok-times.times.ok.0 in
    omega (arith, c.len.ensures)

pub returns : goal.returns
returns c =
    let few : count c.args.task.now.parts c.args.plan.now < 2 ^ 31 = few_happenings c.args.task.now.parts c.args.plan.now c.args.task.now.well_made c.requires in
    let e : length c.in_ok-times.times.items ≡ count c.args.task.now.parts c.args.plan.now = ap length c.in_ok-times.ensures in
    let f : vec_len c.in_ok-times.times ≡ length c.in_ok-times.times.items = c.in_ok-times.times.ok.0 in
    (omega (arith, c.len.ensures), omega (arith, c.len.ensures))
