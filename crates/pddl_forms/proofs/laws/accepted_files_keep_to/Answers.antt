use Rattle.pddl_forms.proofs.Accepting.{moments_lie_above, literals_agree, parameters_are_few, objects_are_few}
use Rattle.pddl_forms.proofs.laws.accepted_files_keep_to.Goals as goal

pub returns-clause-moments : goal.returns-clause-moments
returns-clause-moments c = moments_lie_above

pub returns-clause-literals : goal.returns-clause-literals
returns-clause-literals c = literals_agree

pub returns-clause-parameters : goal.returns-clause-parameters
returns-clause-parameters c = parameters_are_few

pub returns-clause-objects : goal.returns-clause-objects
returns-clause-objects c = objects_are_few
