-- Private: the least places at which units of a problem are at fault.
use Rattle.std.specs.Prelude.{◌≡◌, List}
use Rattle.std.specs.List.{flat_map}
use Rattle.ground_world.specs.World.{World}
use Rattle.grounder.specs.Answer.{Unit, least, wide_in, none_in}
use Rattle.grounder.specs.declared.fault_places.FaultPlaces.{FaultPlaces}

-- the least places of undefined reckonings, and of fluents without a value and divisors of value 0, among some units
pub record AreLeast (w : World) (us : List Unit) (found : FaultPlaces) : Type 0 where
  pub wide : found.wide ≡ least (flat_map (wide_in w) us)
  pub none : found.none ≡ least (flat_map (none_in w) us)
