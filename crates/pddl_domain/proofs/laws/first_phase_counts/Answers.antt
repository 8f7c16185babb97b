use Rattle.pddl_domain.proofs.FirstPhase.{first_phase_counts}
use Rattle.pddl_domain.proofs.laws.first_phase_counts.Goals as goal

pub returns : goal.returns
returns c = first_phase_counts
