use Rattle.std.proofs.Common.{refl}
use Rattle.pddl_names.specs.Files.{valued_fluent}
use Rattle.pddl_names.proofs.Doubling.{doubled-loop}
use Rattle.pddl_names.proofs.problems.first_double_of_entries.Goals as goal

pub loop-item-init : goal.loop-item-init
loop-item-init c = record { offences = refl; names = refl }

pub loop-item-preserved : goal.loop-item-preserved
loop-item-preserved c =
    doubled-loop valued_fluent _ _ _ _ _ c.item-item.result _ _ _ c.loop-item-test.true c.item-item.is c.loop-item.invariant c.earlier-found.ensures c.in_ok-other.ensures.offence c.in_ok-other.ensures.names
