use Rattle.std.proofs.Common.{◌∙◌, sym, ap}
use Rattle.pddl_names.specs.Declarations.{value_of}
use Rattle.pddl_names.specs.Scopes.{variables_of}
use Rattle.pddl_names.proofs.Tabled.{value_of-there, value_of-absent}
use Rattle.pddl_names.proofs.scope.+sort_in.Goals as goal

pub returns-in-Some : goal.returns-in-Some
returns-in-Some t c = value_of-there c.in-Inner.variables.now (variables_of c.in-Inner.outer.now) c.args.name.now c.in-Some.sort.now c.in-Some.ensures
    ∙ sym (ap (λ s. value_of (variables_of s) c.args.name.now) c.in-Inner.is)

pub returns-in-None : goal.returns-in-None
returns-in-None t c = c.sort_in.ensures ∙ value_of-absent c.in-Inner.variables.now (variables_of c.in-Inner.outer.now) c.args.name.now c.in-None.ensures
    ∙ sym (ap (λ s. value_of (variables_of s) c.args.name.now) c.in-Inner.is)
