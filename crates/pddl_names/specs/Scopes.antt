-- Private: what the scope of the code stands for.
use Rattle.std.specs.Prelude.{List, [], ◌++◌}
use Rattle.pddl_names.specs.Declarations.{Typed}
use Rattle.pddl_names.specs.declared.scope.Scope.{Scope, Top, Inner'}

-- the variables with their types, inner ones first
abbrev pub variables_of : Scope → List Typed
variables_of Top = []
variables_of (Inner' variables at outer) = variables.now ++ variables_of outer
