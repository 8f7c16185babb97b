use Rattle.std.proofs.Common.{subst, sym}
use Rattle.std.specs.Prelude.{IsPermutation}
use Rattle.timed_meaning.specs.Owned.{owned_steps, steps_of}
use Rattle.timed_meaning.specs.Sorts.{NeverFall}
use Rattle.timed_meaning.proofs.sweeps.Sweep.all_owned.Goals as goal

pub returns-clause-steps : goal.returns-clause-steps
returns-clause-steps c = λ task plan at. subst (IsPermutation (owned_steps task plan)) (sym c.as_slice.ensures.value) at.listed.owned

pub returns-clause-falls : goal.returns-clause-falls
returns-clause-falls c = λ task plan at. subst (λ l. NeverFall (steps_of l)) (sym c.as_slice.ensures.value) at.listed.falls
