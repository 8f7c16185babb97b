-- Believed: what the code's bounds of durations stand for.
use Rattle.std.specs.Prelude.{List, map}
use Rattle.ground_world.specs.Conditions as conditions
use Rattle.ground_world.specs.declared.durations.DurationBound.{DurationBound}

abbrev pub bounds_of : List DurationBound → List conditions.DurationBound
bounds_of bs = map (λ b. record { at_end = b.at_end; order = b.order; expression = b.expression.now }) bs
