-- What is found of a binding by its static conditions and by whether its fluents have values.
use Rattle.std.proofs.Common.{◌≡◌, sym, ap, ap₂, ℕ, Bool, true, false, ◌&&◌, not, [], Option, None}
use Rattle.std.specs.Prelude.{if◌then◌else◌}
use Rattle.std.specs.List.{list_all}
use Rattle.ground_world.specs.World.{World, Env}
use Rattle.ground_world.specs.Conditions.{static_part_holds}
use Rattle.ground_world.specs.Expressions.{wide_places, zero_divisors}
use Rattle.ground_world.specs.FirstState.{no_places}
use Rattle.grounder.specs.Answer.{least}
use Rattle.grounder.specs.Bindings.{Pieces, flaws_in, has_values, keeps, keeps_reckoned, wides_in, twice_in}

abbrev pub static_among : World → Pieces → Bool
static_among w x = list_all (λ p. static_part_holds w p.part) x.conditions

module _ (w : World) (env : Env) (x : Pieces) where
  kept_by : Bool → Bool → Bool
  kept_by s v = (s && v) && no_places (zero_divisors (flaws_in w env x)) && not (twice_in w env x.changes)

  wide_by : Bool → Bool → Option ℕ
  wide_by s v = least (if s && v then wide_places (flaws_in w env x) else [])

  -- a static condition fails
  pub unstatic-kept : static_among w x ≡ false → false ≡ keeps w env x
  unfolding kept_by
  unstatic-kept h = sym (ap (λ s. kept_by s (has_values w env x)) h)

  pub unstatic-wide : static_among w x ≡ false → None ≡ least (wides_in w env x)
  unfolding wide_by
  unstatic-wide h = sym (ap (λ s. wide_by s (has_values w env x)) h)

  -- a fluent has no value
  pub unvalued-kept : static_among w x ≡ true → has_values w env x ≡ false → false ≡ keeps w env x
  unfolding kept_by
  unvalued-kept h k = sym (ap₂ kept_by h k)

  pub unvalued-wide : static_among w x ≡ true → has_values w env x ≡ false → None ≡ least (wides_in w env x)
  unfolding wide_by
  unvalued-wide h k = sym (ap₂ wide_by h k)

  -- it reckons
  pub reckoned-kept : static_among w x ≡ true → has_values w env x ≡ true → keeps_reckoned w env x ≡ keeps w env x
  unfolding kept_by
  reckoned-kept h k = sym (ap₂ kept_by h k)

  pub reckoned-wide : static_among w x ≡ true → has_values w env x ≡ true → least (wide_places (flaws_in w env x)) ≡ least (wides_in w env x)
  unfolding wide_by
  reckoned-wide h k = sym (ap₂ wide_by h k)
