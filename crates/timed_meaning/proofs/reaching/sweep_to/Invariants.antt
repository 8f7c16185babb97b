use Rattle.std.proofs.Common.{◌≡◌}
use Rattle.exact_lin.specs.Reckoning.{wide_limit}
use Rattle.exact_lin.specs.Reckonings.{AllDefined}
use Rattle.task_types.specs.Reckoned.{course_before}
use Rattle.timed_meaning.specs.Sweeps.{IsBefore}
use Rattle.timed_meaning.proofs.reaching.sweep_to.Given as goal

abbrev pub invariant-loop-j : goal.invariant-loop-j
invariant-loop-j l = AllDefined wide_limit (course_before l.task.parts l.plan l.j) × IsBefore l.task.parts l.plan l.sweep × (l.sweep.agenda.place ≡ l.j)
