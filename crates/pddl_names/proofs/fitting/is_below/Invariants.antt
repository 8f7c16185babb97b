use Rattle.std.proofs.Common.{◌≡◌, ◌-◌, length}
use Rattle.pddl_names.specs.Declarations.{among}
use Rattle.pddl_names.specs.Fitting.{chain}
use Rattle.pddl_names.proofs.fitting.is_below.Given as goal

abbrev pub invariant-loop-step : goal.invariant-loop-step
invariant-loop-step l = among (chain l.types (length l.types - l.step) l.at) l.sup ≡ among (chain l.types (length l.types) l.sub) l.sup
