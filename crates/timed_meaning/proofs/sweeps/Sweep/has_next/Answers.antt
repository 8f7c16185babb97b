use Rattle.std.proofs.Common.{◌<◌, subst, sym, length}
use Rattle.basics.proofs.Naturals.{lt_in, lt_out}
use Rattle.timed_meaning.proofs.Onward.{more-in, more-out}
use Rattle.timed_meaning.proofs.sweeps.Sweep.has_next.Goals as goal

pub returns : goal.returns
returns c = λ task plan at. (
  λ t. more-in task plan c.args.self.now.agenda at (subst (λ xs. c.args.self.now.agenda.next < length xs) c.as_slice.ensures.value (lt_out c.args.self.now.agenda.next (length c.as_slice.result.now) t)),
  λ h. lt_in c.args.self.now.agenda.next (length c.as_slice.result.now) (subst (λ xs. c.args.self.now.agenda.next < length xs) (sym c.as_slice.ensures.value) (more-out task plan c.args.self.now.agenda at h)),
)
