use Rattle.task_types.proofs.ExampleTouches.{touches_come_out as come_out, tokens_come_out}
use Rattle.task_types.proofs.laws.touches_come_out.Goals as goal

pub returns : goal.returns
returns c = record {
  touches = come_out;
  tokens = tokens_come_out;
}
