use Rattle.std.proofs.Common.{◌∙◌, ap}
use Rattle.timed_meaning.specs.Owned.{steps_of}
use Rattle.timed_meaning.proofs.Onward.{here-is, owned-here}
use Rattle.timed_meaning.proofs.sweeps.Sweep.owned_here.Goals as goal

pub returns-clause-steps : goal.returns-clause-steps
returns-clause-steps c = λ task plan at h. ap steps_of c.owned_here.ensures ∙ owned-here task plan c.args.self.now.agenda at ∙ here-is task plan c.args.self.now.agenda at h
