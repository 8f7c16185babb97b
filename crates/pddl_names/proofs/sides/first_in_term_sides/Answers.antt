use Rattle.std.proofs.Common.{◌∙◌}
use Rattle.pddl_names.specs.Scopes.{variables_of}
use Rattle.pddl_names.specs.Walks.{term_side_offences}
use Rattle.pddl_names.proofs.Least.{least-both}
use Rattle.pddl_names.proofs.sides.first_in_term_sides.Goals as goal

pub returns : goal.returns
returns c =
    let scope = variables_of c.args.scope.now in
    c.earlier.ensures ∙ least-both _ _ (term_side_offences c.args.phase c.args.tables.now scope c.args.left.now) (term_side_offences c.args.phase c.args.tables.now scope c.args.right.now)
    c.first_in_term_side-first.ensures c.first_in_term_side-second.ensures
