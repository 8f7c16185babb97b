use Rattle.trajectory.proofs.Times.{trace-NeverFall}
use Rattle.trajectory.proofs.Possible.{verdict-possible}
use Rattle.trajectory.proofs.Verdicts.{verdict_tells, verdict-facts}
use Rattle.trajectory.proofs.laws.verdicts_tell_what_is_met.Goals as goal

pub returns : goal.returns
returns c = record { met = verdict_tells; plans = trace-NeverFall; facts = verdict-facts; orderings = verdict-possible }
