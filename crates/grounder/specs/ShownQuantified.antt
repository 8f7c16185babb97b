-- Private: the bindings of quantified variables, in the order of their numbers.
use Rattle.std.specs.Prelude.{List, ◌++◌, map}
use Rattle.ground_world.specs.World.{Env}
use Rattle.ground_world.specs.Bindings.{choices, paired}
use Rattle.ground_world.specs.Shown.{names_of, columns_of}
use Rattle.grounder.specs.declared.quantified.Quantified.{Quantified}

abbrev pub envs_of : Quantified → Env → List Env
envs_of q env = map (λ os. env ++ paired (names_of q.variables) os) (choices (columns_of q.variables))
