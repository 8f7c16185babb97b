use Rattle.std.proofs.Common.{sym, ◌∙◌, subst}
use Rattle.task_types.specs.Plan.{snap_of}
use Rattle.ordering.specs.Meetings.{Ascend}
use Rattle.ordering.proofs.Meetings.{link_free, link_by_rows, touches_ascend}
use Rattle.ordering.proofs.links.link_of.Goals as goal

pub returns-then-are_timed : goal.returns-then-are_timed
returns-then-are_timed c = sym (link_free c.args.task.now.parts (snap_of c.args.task.now.parts c.args.first) (snap_of c.args.task.now.parts c.args.second) (sym c.are_timed.ensures ∙ c.if-are_timed.true))

pub strongest-requires-clause-firsts : goal.strongest-requires-clause-firsts
strongest-requires-clause-firsts c = subst Ascend (sym c.touches.ensures) (touches_ascend c.args.task.now.parts (snap_of c.args.task.now.parts c.args.first))

pub strongest-requires-clause-seconds : goal.strongest-requires-clause-seconds
strongest-requires-clause-seconds c = subst Ascend (sym c.touches-2.ensures) (touches_ascend c.args.task.now.parts (snap_of c.args.task.now.parts c.args.second))

pub returns : goal.returns
returns c = let by_rows = link_by_rows c.args.task.now.parts (snap_of c.args.task.now.parts c.args.first) (snap_of c.args.task.now.parts c.args.second) (sym c.are_timed.ensures ∙ c.if-are_timed.false) in rw (by_rows, ← c.touches.ensures, ← c.touches-2.ensures) c.strongest.ensures
