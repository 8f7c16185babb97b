use Rattle.pddl_forms.specs.Requirements.{requirement_offences}
use Rattle.pddl_forms.proofs.Least.{least-next}
use Rattle.pddl_forms.proofs.requirements.least_of_requirements.Goals as goal

pub loop-flag-preserved : goal.loop-flag-preserved
loop-flag-preserved c = least-next requirement_offences c.args.found c.loop-flag.found c.least_of_requirement-found.result c.args.requirements.now c.loop-flag.flag-index c.flag-item.result c.loop-flag-test.true c.flag-item.is c.loop-flag.invariant c.least_of_requirement-found.ensures
