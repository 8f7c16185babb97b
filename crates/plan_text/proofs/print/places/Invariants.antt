use Rattle.std.proofs.Common.{◌≡◌, ◌-◌, ◌^◌}
use Rattle.plan_text.specs.Numbers.{places_from, places_of}
use Rattle.plan_text.proofs.print.places.Given as goal

abbrev pub invariant-loop-places : goal.invariant-loop-places
invariant-loop-places l = record {
  power : l.power ≡ 10 ^ l.places;
  left : places_from (19 - l.places) l.places l.den ≡ places_of l.den;
}
