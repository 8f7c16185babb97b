use Rattle.std.proofs.Common.{◌∙◌, sym, ap, [], ◌++◌}
use Rattle.std.specs.Option.{option_map_or}
use Rattle.pddl_names.specs.Offences.{least}
use Rattle.pddl_names.specs.Scopes.{variables_of}
use Rattle.pddl_names.specs.Walks.{duration_offences, condition_offences, effect_offences, timed_condition_offences, timed_effect_offences}
use Rattle.pddl_names.specs.Files.{body_offences}
use Rattle.pddl_names.proofs.Least.{least-both}
use Rattle.pddl_names.proofs.domains.first_in_body.Goals as goal

pub returns-in_ok-first-in-Instant : goal.returns-in_ok-first-in-Instant
returns-in_ok-first-in-Instant c =
    let p = c.args.phase in
    let w = c.args.tables.now in
    let scope = variables_of c.args.scope.now in
    c.earlier.ensures
    ∙ least-both _ _ (option_map_or (condition_offences p w scope) c.in-Instant.condition []) (option_map_or (effect_offences p w scope) c.in-Instant.effect [])
    c.in_ok-first-in-Instant.ensures c.first_in_some_effect-second.ensures
    ∙ ap (λ b. least (body_offences p w scope b)) (sym c.in-Instant.is)

pub returns-in_ok-asked-in-Durative : goal.returns-in_ok-asked-in-Durative
returns-in_ok-asked-in-Durative c =
    let p = c.args.phase in
    let w = c.args.tables.now in
    let scope = variables_of c.args.scope.now in
    let bounds = duration_offences p w scope c.in-Durative.duration in
    let asked = option_map_or (timed_condition_offences p w scope) c.in-Durative.condition [] in
    c.earlier-in-Durative-2.ensures
    ∙ least-both _ _ (bounds ++ asked) (option_map_or (timed_effect_offences p w scope) c.in-Durative.effect [])
    (c.earlier-in-Durative.ensures ∙ least-both _ _ bounds asked c.first_in_duration-bounds.ensures c.in_ok-asked-in-Durative.ensures) c.first_in_some_timed_effect-done.ensures
    ∙ ap (λ b. least (body_offences p w scope b)) (sym c.in-Durative.is)
