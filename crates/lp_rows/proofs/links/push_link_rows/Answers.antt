use Rattle.std.proofs.Common.{◌∙◌}
use Rattle.task_types.specs.Order.{Order}
use Rattle.lp_rows.proofs.Placing.{linked-more}
use Rattle.lp_rows.proofs.links.push_link_rows.Goals as goal

pub loop-number-preserved : goal.loop-number-preserved
loop-number-preserved c =
    let o : Order = record { steps = c.args.steps.now; extra = c.args.extra.now } in
    linked-more c.args.task.now.parts c.args.rules.now o c.args.second c.args.out.now c.loop-number.out c.push_pair.new.out c.loop-number.number c.of-first.result c.as_slice.result.now c.is_among-is_extra.result
    c.of-first.ensures (c.as_slice.ensures ∙ c.in_ok-firsts.ensures) c.is_among-is_extra.ensures c.loop-number.invariant c.in_ok-push_pair.ensures
