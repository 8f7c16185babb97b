use Rattle.std.proofs.Common.{◌≤◌, ◌+◌, subst, arith}
use Rattle.plan_files.specs.Lines.{lines_of, written_from, written_lines}
use Rattle.plan_files.specs.BegunOrders.{begun_seen}
use Rattle.plan_files.proofs.Progress.{first_number}
use Rattle.plan_files.proofs.OrderProgress.{Going, going-next}
use Rattle.plan_files.proofs.orders.order_from.Goals as goal

pub loop-written-smaller : goal.loop-written-smaller
loop-written-smaller c =
    let later : c.loop-written.number ≤ c.in-Some.written.number = first_number c.loop-written.number (lines_of c.loop-written.rest.now) c.in-Some.written.number _ _ c.in-Some.ensures.lines in
    omega (arith, c.in-Some.ensures.within)

pub loop-written-preserved : goal.loop-written-preserved
loop-written-preserved c =
    let task = c.args.names.now.task.now.parts in
    let left = written_from (c.in-Some.written.number + 1) (lines_of c.in-Some.written.rest.now) in
    record {
      going = going-next task (written_lines c.args.text.now) (begun_seen c.loop-written.begun) (begun_seen c.take_order.new.begun) (c.in-Some.written.number, c.in-Some.written.line.now) left
          (subst (Going task (written_lines c.args.text.now) (begun_seen c.loop-written.begun)) c.in-Some.ensures.lines c.loop-written.invariant.going) c.in-Ok.field-0 c.in-Ok.ensures.taken;
      over = c.take_order.ensures.over;
      within = omega (arith, c.in-Some.ensures.within, c.loop-written.invariant.within);
    }
