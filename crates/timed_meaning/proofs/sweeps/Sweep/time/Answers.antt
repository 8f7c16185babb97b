use Rattle.std.proofs.Common.{◌∙◌, sym}
use Rattle.timed_meaning.proofs.Onward.{time-first, first-within}
use Rattle.timed_meaning.proofs.sweeps.Sweep.time.Goals as goal

pub time-requires : goal.time-requires
time-requires c = first-within c.requires.0 c.requires.1 c.args.self.now.agenda c.requires.2 c.requires.3

pub returns : goal.returns
returns c = λ task plan at h. c.time.ensures ∙ sym (time-first task plan c.args.self.now.agenda at (first-within task plan c.args.self.now.agenda at h))
