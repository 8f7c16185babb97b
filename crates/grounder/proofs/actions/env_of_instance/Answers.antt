use Rattle.std.proofs.Common.{◌≡◌, ap, ap₂, subst, ◌∙◌, List}
use Rattle.std.specs.Prelude.{IfOk}
use Rattle.ground_world.specs.World.{Env, variable_names}
use Rattle.ground_world.specs.Bindings.{paired}
use Rattle.ground_world.specs.Shown.{env_of, names_of}
use Rattle.ground_world.specs.declared.binding.Bound.{Bound}
use Rattle.grounder.proofs.actions.env_of_instance.Goals as goal

pub returns : goal.returns
returns c =
    subst (λ (x : Env). IfOk c.pair.result (λ (bs : List Bound). env_of bs ≡ x))
    (ap₂ paired (ap names_of c.as_slice-2.ensures ∙ c.in_ok-slots.ensures.names ∙ ap variable_names c.as_slice.ensures) c.as_slice-3.ensures) c.pair.ensures
