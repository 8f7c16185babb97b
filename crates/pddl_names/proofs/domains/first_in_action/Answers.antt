use Rattle.std.proofs.Common.{◌∙◌, ap, List, [], ◌++◌}
use Rattle.pddl_names.specs.Offences.{least}
use Rattle.pddl_names.specs.Declarations.{Typed}
use Rattle.pddl_names.specs.Calls.{variables_offences, bind}
use Rattle.pddl_names.specs.Files.{body_offences}
use Rattle.pddl_names.proofs.Least.{least-both}
use Rattle.pddl_names.proofs.domains.first_in_action.Goals as goal

pub returns : goal.returns
returns c =
    let p = c.args.phase in
    let w = c.args.tables.now in
    let a = c.args.action.now in
    c.earlier.ensures
    ∙ least-both _ _ (variables_offences p w a.parameters) (body_offences p w (bind a.parameters []) a.body)
    (c.in_ok-own.ensures ∙ ap (λ g. least (variables_offences p w g)) c.as_slice-groups.ensures)
    (c.in_ok-rest.ensures ∙ ap (λ (s : List Typed). least (body_offences p w (s ++ []) a.body)) c.in_ok-parameters.ensures ∙ ap (λ g. least (body_offences p w (bind g []) a.body)) c.as_slice-groups.ensures)
