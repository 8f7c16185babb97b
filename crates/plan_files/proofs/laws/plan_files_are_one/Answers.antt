use Rattle.basics.proofs.Duties.{AllMet-no_first, first_unmet-one}
use Rattle.plan_files.specs.Lines.{written_lines}
use Rattle.plan_files.specs.PlanFiles.{duties_from}
use Rattle.plan_files.proofs.LineDuties.{plans-one}
use Rattle.plan_files.proofs.laws.plan_files_are_one.Goals as goal

pub returns : goal.returns
returns c = record {
  plans = λ task text p q s t. plans-one task (written_lines text) p q s.tells t.tells;
  refusals = λ task text f g. first_unmet-one (duties_from task 0 (written_lines text)) f g;
  either = λ task text p f s. AllMet-no_first (duties_from task 0 (written_lines text)) f s.met;
}
