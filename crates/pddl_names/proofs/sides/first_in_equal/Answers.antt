use Rattle.std.proofs.Common.{◌∙◌, sym, ap, ◌++◌, if◌then◌else◌}
use Rattle.pddl_names.specs.Scopes.{variables_of}
use Rattle.pddl_names.specs.Offences.{least}
use Rattle.pddl_names.specs.Walks.{term_side_offences, number_side_offences}
use Rattle.pddl_names.proofs.sides.first_in_equal.Goals as goal

pub returns-then-is_equality : goal.returns-then-is_equality
returns-then-is_equality c =
    let scope = variables_of c.args.scope.now in
    let terms = term_side_offences c.args.phase c.args.tables.now scope c.args.left.now ++ term_side_offences c.args.phase c.args.tables.now scope c.args.right.now in
    let numbers = number_side_offences c.args.phase c.args.tables.now scope c.args.left.now ++ number_side_offences c.args.phase c.args.tables.now scope c.args.right.now in
    c.first_in_term_sides.ensures ∙ ap (λ b. least (if b then terms else numbers)) (sym (sym c.is_equality.ensures ∙ c.if-is_equality.true))

pub returns-else-is_equality : goal.returns-else-is_equality
returns-else-is_equality c =
    let scope = variables_of c.args.scope.now in
    let terms = term_side_offences c.args.phase c.args.tables.now scope c.args.left.now ++ term_side_offences c.args.phase c.args.tables.now scope c.args.right.now in
    let numbers = number_side_offences c.args.phase c.args.tables.now scope c.args.left.now ++ number_side_offences c.args.phase c.args.tables.now scope c.args.right.now in
    c.first_in_number_sides.ensures ∙ ap (λ b. least (if b then terms else numbers)) (sym (sym c.is_equality.ensures ∙ c.if-is_equality.false))
