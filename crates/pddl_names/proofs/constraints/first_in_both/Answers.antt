use Rattle.std.proofs.Common.{◌∙◌}
use Rattle.pddl_names.specs.Scopes.{variables_of}
use Rattle.pddl_names.specs.Walks.{formula_offences}
use Rattle.pddl_names.proofs.Least.{least-both}
use Rattle.pddl_names.proofs.constraints.first_in_both.Goals as goal

pub returns : goal.returns
returns c =
    let walk = formula_offences c.args.phase c.args.tables.now (variables_of c.args.scope.now) in
    c.earlier.ensures ∙ least-both _ _ (walk c.args.one.now) (walk c.args.other.now) c.in_ok-first.ensures c.in_ok-second.ensures
