use Rattle.std.proofs.Common.{◌≤◌, ◌+◌, subst, arith}
use Rattle.plan_files.specs.Lines.{lines_of, written_from, written_lines}
use Rattle.plan_files.proofs.Progress.{Reading, reading-next, reading-end, first_number}
use Rattle.plan_files.proofs.plans.plan_of.Goals as goal

pub loop-written-smaller : goal.loop-written-smaller
loop-written-smaller c =
    let later : c.loop-written.number ≤ c.in-Some.written.number = first_number c.loop-written.number (lines_of c.loop-written.rest.now) c.in-Some.written.number _ _ c.in-Some.ensures.lines in
    omega (arith, c.in-Some.ensures.within)

pub loop-written-preserved : goal.loop-written-preserved
loop-written-preserved c =
    let task = c.args.names.now.task.now.parts in
    let left = written_from (c.in-Some.written.number + 1) (lines_of c.in-Some.written.rest.now) in
    record {
      reading = reading-next task (written_lines c.args.text.now) c.loop-written.plan c.take_line.new.plan (c.in-Some.written.number, c.in-Some.written.line.now) left
          (subst (Reading task (written_lines c.args.text.now) c.loop-written.plan) c.in-Some.ensures.lines c.loop-written.invariant.reading) c.in-Ok.field-0 c.in-Ok.ensures;
      built = c.in-Ok.ensures.2 c.loop-written.invariant.built;
      within = omega (arith, c.in-Some.ensures.within, c.loop-written.invariant.within);
    }

pub returns-clause-plan : goal.returns-clause-plan
returns-clause-plan c = reading-end c.args.names.now.task.now.parts c.args.text.now c.loop-written.plan
    (subst (Reading c.args.names.now.task.now.parts (written_lines c.args.text.now) c.loop-written.plan) c.in_default.ensures c.loop-written.invariant.reading)
