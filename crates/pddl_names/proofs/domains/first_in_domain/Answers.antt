use Rattle.std.proofs.Common.{◌∙◌, ap, [], ◌∷◌, ◌++◌}
use Rattle.pddl_names.specs.Declarations.{object_word}
use Rattle.pddl_names.specs.Offences.{least}
use Rattle.pddl_names.specs.Files.{listed_offences, all_declared_offences, all_action_offences, constraints_offences}
use Rattle.pddl_names.proofs.Least.{least-both}
use Rattle.pddl_names.proofs.domains.first_in_domain.Goals as goal

pub returns : goal.returns
returns c =
    let p = c.args.phase in
    let w = c.args.tables.now in
    let d = c.args.domain.now in
    let types = listed_offences p w (object_word ∷ []) d.types in
    let constants = listed_offences p w [] d.constants in
    let predicates = all_declared_offences p w d.predicates in
    let functions = all_declared_offences p w d.functions in
    let constraints = constraints_offences p w d.constraints in
    let actions = all_action_offences p w d.actions in
    c.earlier.ensures
    ∙ least-both _ _ ((types ++ constants) ++ (predicates ++ functions)) (constraints ++ actions)
    (c.earlier-declared.ensures
    ∙ least-both _ _ (types ++ constants) (predicates ++ functions)
    (c.earlier-kinds.ensures
    ∙ least-both _ _ types constants (c.in_ok-types.ensures ∙ ap (λ l. least (listed_offences p w (object_word ∷ []) l)) c.as_slice-type_list.ensures)
    (c.in_ok-constants.ensures ∙ ap (λ l. least (listed_offences p w [] l)) c.as_slice-constant_list.ensures))
    (c.earlier-symbols.ensures
    ∙ least-both _ _ predicates functions (c.in_ok-predicates.ensures ∙ ap (λ l. least (all_declared_offences p w l)) c.as_slice-predicate_list.ensures)
    (c.in_ok-functions.ensures ∙ ap (λ l. least (all_declared_offences p w l)) c.as_slice-function_list.ensures)))
    (c.earlier-rules.ensures
    ∙ least-both _ _ constraints actions c.in_ok-constraints.ensures (c.in_ok-actions.ensures ∙ ap (λ l. least (all_action_offences p w l)) c.as_slice-action_list.ensures))
