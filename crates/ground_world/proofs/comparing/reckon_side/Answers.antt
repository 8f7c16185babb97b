use Rattle.std.proofs.Common.{sym, ap, ◌∙◌, [], ◌++◌, Some}
use Rattle.std.proofs.lemmas.List.{append-nil}
use Rattle.pddl_terms.specs.declared.trees.Atom.{Atom}
use Rattle.pddl_terms.specs.declared.trees.Side.{Side}
use Rattle.ground_world.specs.Expressions.{Reckoned}
use Rattle.ground_world.specs.Conditions.{side_expression}
use Rattle.ground_world.specs.Readings.{world_in, unknowns_in, env_in, reckoned_in}
use Rattle.ground_world.proofs.Walks as walk
use Rattle.ground_world.proofs.comparing.reckon_side.Goals as goal

pub returns-in-Variable-clause-value : goal.returns-in-Variable-clause-value
returns-in-Variable-clause-value c =
    let r = c.args.reading.now in
    sym (ap (λ (s : Side). (reckoned_in r (side_expression s)).value) c.in-Variable.is
    ∙ ap (λ (x : Reckoned). x.value) (walk.reckoned-LeftOut (world_in r) (unknowns_in r) (env_in r) c.in-Variable.field-0.at))

pub returns-in-Variable-clause-flaws : goal.returns-in-Variable-clause-flaws
returns-in-Variable-clause-flaws c =
    let r = c.args.reading.now in
    sym (append-nil c.args.flaws.now)
    ∙ ap (λ l. c.args.flaws.now ++ l) (sym (ap (λ (s : Side). (reckoned_in r (side_expression s)).flaws) c.in-Variable.is
    ∙ ap (λ (x : Reckoned). x.flaws) (walk.reckoned-LeftOut (world_in r) (unknowns_in r) (env_in r) c.in-Variable.field-0.at)))

pub returns-in_ok-form-in-Bare-clause-value : goal.returns-in_ok-form-in-Bare-clause-value
returns-in_ok-form-in-Bare-clause-value c =
    let r = c.args.reading.now in
    let a : Atom = record { at = c.in-Bare.name.at; name = c.in-Bare.name; terms = [] } in
    ap Some c.in_ok-form-in-Bare.ensures
    ∙ sym (ap (λ (s : Side). (reckoned_in r (side_expression s)).value) c.in-Bare.is
    ∙ ap (λ (x : Reckoned). x.value) (walk.reckoned-Fluent (world_in r) (unknowns_in r) (env_in r) a))

pub returns-in_ok-form-in-Bare-clause-flaws : goal.returns-in_ok-form-in-Bare-clause-flaws
returns-in_ok-form-in-Bare-clause-flaws c =
    let r = c.args.reading.now in
    let a : Atom = record { at = c.in-Bare.name.at; name = c.in-Bare.name; terms = [] } in
    sym (append-nil c.args.flaws.now)
    ∙ ap (λ l. c.args.flaws.now ++ l) (sym (ap (λ (s : Side). (reckoned_in r (side_expression s)).flaws) c.in-Bare.is
    ∙ ap (λ (x : Reckoned). x.flaws) (walk.reckoned-Fluent (world_in r) (unknowns_in r) (env_in r) a)))
