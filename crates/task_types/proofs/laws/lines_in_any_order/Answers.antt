use Rattle.task_types.proofs.Alike.{SameLines-IsAlike, before-same, after-same}
use Rattle.task_types.proofs.Assigning.{valid-assigns_once}
use Rattle.task_types.proofs.Unordered.{valid-same, cost-same}
use Rattle.task_types.proofs.laws.lines_in_any_order.Goals as goal

pub returns : goal.returns
returns c = record {
  states = λ task plan other t same once. (before-same task plan other (SameLines-IsAlike task plan other same) once t, after-same task plan other (SameLines-IsAlike task plan other same) once t);
  assigns_once = λ task rules plan w p v. valid-assigns_once task rules plan w p.epsilon v;
  valid = λ task rules plan other w p same v. valid-same task rules plan other same (valid-assigns_once task rules plan w p.epsilon v) v;
  costs = cost-same;
}
