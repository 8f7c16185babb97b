use Rattle.std.proofs.Common.{◌∙◌}
use Rattle.timed_meaning.proofs.Onward.{here-is}
use Rattle.timed_meaning.proofs.sweeps.Sweep.here.Goals as goal

pub returns : goal.returns
returns c = λ task plan at h. c.here.ensures ∙ here-is task plan c.args.self.now.agenda at h
