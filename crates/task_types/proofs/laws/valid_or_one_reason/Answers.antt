use Rattle.basics.proofs.Duties.{first_unmet-one}
use Rattle.task_types.specs.Valid.{duties}
use Rattle.task_types.proofs.Verdicts.{valid_or_reason, valid-no_reason}
use Rattle.task_types.proofs.laws.valid_or_one_reason.Goals as goal

pub returns : goal.returns
returns c = record {
  some = valid_or_reason;
  not_both = λ task rules plan r v. valid-no_reason task rules plan v r;
  one = λ task rules plan r s. first_unmet-one (duties task rules plan) r s;
}
