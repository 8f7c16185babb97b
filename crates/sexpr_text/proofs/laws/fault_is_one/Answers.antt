use Rattle.sexpr_text.proofs.Unique.{no_fault, one_fault}
use Rattle.sexpr_text.proofs.laws.fault_is_one.Goals as goal

pub returns-clause-none : goal.returns-clause-none
returns-clause-none c text tokens wrong are fault = no_fault text tokens are wrong fault

pub returns-clause-one : goal.returns-clause-one
returns-clause-one c = one_fault
