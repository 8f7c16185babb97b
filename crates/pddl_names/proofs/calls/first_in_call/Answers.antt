use Rattle.std.proofs.Common.{◌∙◌, ap}
use Rattle.pddl_names.specs.Scopes.{variables_of}
use Rattle.pddl_names.specs.Declarations.{value_of}
use Rattle.pddl_names.specs.Offences.{least}
use Rattle.pddl_names.specs.Calls.{sorts_offences}
use Rattle.pddl_names.proofs.Calling.{call-names, call-unknown, call-types}
use Rattle.pddl_names.proofs.calls.first_in_call.Goals as goal

pub returns-in-Names : goal.returns-in-Names
returns-in-Names c = call-names c.args.tables.now (variables_of c.args.scope.now) c.args.declared.now c.args.at c.args.name.now c.args.terms.now _ _ _ _ _ c.in-Names.is
    c.is_declared.ensures c.undeclared-own.ensures c.first_in_terms.ensures c.earlier.ensures

pub returns-in-None : goal.returns-in-None
returns-in-None c = call-unknown c.args.tables.now (variables_of c.args.scope.now) c.args.declared.now c.args.at c.args.name.now c.args.terms.now _ c.in-Types.is (c.in-None.ensures ∙ ap (value_of c.args.declared.now) c.as_slice.ensures)

pub returns-in-Some : goal.returns-in-Some
returns-in-Some c = call-types c.args.tables.now (variables_of c.args.scope.now) c.args.declared.now c.args.at c.args.name.now c.args.terms.now _ c.in-Some.sorts.now _ c.in-Types.is (c.in-Some.ensures ∙ ap (value_of c.args.declared.now) c.as_slice.ensures)
    (c.first_in_sorts.ensures ∙ ap (λ s. least (sorts_offences c.args.tables.now (variables_of c.args.scope.now) c.args.at c.args.terms.now s)) c.as_slice-in-Some.ensures)
