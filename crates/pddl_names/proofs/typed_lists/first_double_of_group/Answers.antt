use Rattle.std.proofs.Common.{◌∙◌, ap, ◌∷◌, [], refl}
use Rattle.std.proofs.lemmas.List.{take_all}
use Rattle.pddl_names.specs.Declarations.{with_new}
use Rattle.pddl_names.specs.Offences.{least}
use Rattle.pddl_names.specs.Calls.{doubles}
use Rattle.pddl_names.proofs.Doubling.{doubled-loop, each_alone, texts}
use Rattle.pddl_names.proofs.typed_lists.first_double_of_group.Goals as goal

pub loop-name-init : goal.loop-name-init
loop-name-init c = record { offences = refl; names = refl }

pub loop-name-preserved : goal.loop-name-preserved
loop-name-preserved c = doubled-loop (λ n. n ∷ []) _ _ _ _ _ c.name-item.result _ _ _ c.loop-name-test.true c.name-item.is c.loop-name.invariant c.earlier-found.ensures c.in_ok-other.ensures.offence c.in_ok-other.ensures.names

pub returns-clause-offence : goal.returns-clause-offence
returns-clause-offence c = c.loop-name.invariant.offences ∙ ap (λ l. least (doubles c.args.seen.now l)) (each_alone _ ∙ take_all _ _ c.loop-name-test.false)

pub returns-clause-names : goal.returns-clause-names
returns-clause-names c = c.loop-name.invariant.names ∙ ap (λ l. with_new c.args.seen.now (texts l)) (each_alone _ ∙ take_all _ _ c.loop-name-test.false)
