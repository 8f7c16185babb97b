use Rattle.ordered_course.proofs.Telling.{placed_so, tells}
use Rattle.ordered_course.proofs.laws.agreeing_times_tell.Goals as goal

pub returns : goal.returns
returns c = λ task rules o times w p ordering h. tells task rules o times w ordering (placed_so task rules o times h) p
