use Rattle.task_types.proofs.ExampleOrderings.{built_orderings, closed_orderings, times_come_out, blocked_orderings}
use Rattle.task_types.proofs.laws.orderings_come_out.Goals as goal

pub returns : goal.returns
returns c = record {
  built = built_orderings;
  closed = closed_orderings;
  times = times_come_out;
  blocked = blocked_orderings;
}
