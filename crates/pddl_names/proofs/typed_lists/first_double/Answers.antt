use Rattle.std.proofs.Common.{◌∙◌, ap, refl}
use Rattle.pddl_names.specs.Declarations.{with_new}
use Rattle.pddl_names.specs.Offences.{least}
use Rattle.pddl_names.specs.Calls.{doubles}
use Rattle.pddl_names.proofs.Doubling.{doubled-loop, texts}
use Rattle.pddl_names.proofs.typed_lists.first_double.Goals as goal

pub loop-group-init : goal.loop-group-init
loop-group-init c = record { offences = refl; names = refl }

pub loop-group-preserved : goal.loop-group-preserved
loop-group-preserved c = doubled-loop (λ g. g.names) _ _ _ _ _ c.group-item.result _ _ _ c.loop-group-test.true c.group-item.is c.loop-group.invariant c.earlier-found.ensures
    (c.in_ok-other.ensures.offence ∙ ap (λ l. least (doubles c.loop-group.seen l)) c.as_slice.ensures) (c.in_ok-other.ensures.names ∙ ap (λ l. with_new c.loop-group.seen (texts l)) c.as_slice.ensures)
