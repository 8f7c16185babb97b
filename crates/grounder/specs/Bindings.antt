-- Private: what is found of one binding of an action, by its conditions, bounds and changes in flat lists.
use Rattle.std.specs.Prelude.{ℕ, Bool, ◌&&◌, ◌||◌, not, if◌then◌else◌, List, [], ◌++◌, map, Option, None, Some, min}
use Rattle.std.specs.List.{flat_map, list_all}
use Rattle.pddl_terms.specs.declared.files.ActionDef.{ActionDef}
use Rattle.ground_world.specs.World.{World, Env, GroundAtom, either, columns}
use Rattle.ground_world.specs.Bindings.{choice_at}
use Rattle.ground_world.specs.declared.changes.Stage.{Stage}
use Rattle.ground_world.specs.declared.changes.Stage.TheVariants.{AtStart, AtEnd}
use Rattle.ground_world.specs.declared.operations.Flaw.{Flaw}
use Rattle.ground_world.specs.Changes.{Staged, parts_at, Change}
use Rattle.ground_world.specs.FirstState.{has_value, no_places}
use Rattle.ground_world.specs.Expressions.{reckoned, mentioned, wide_places, zero_divisors}
use Rattle.ground_world.specs.Conditions.{DurationBound, Part, Test, tests_in, static_part_holds, difference}
use Rattle.grounder.specs.Instances.{Instance, no_unknowns, change_mentions, change_reckons, test_mentions, flaws_of, assigned_by, is_twice}

-- the conditions of a binding, the bounds of its duration and its changes
pub record Pieces : Type 0 where
  pub conditions : List (Staged Part)
  pub bounds : List DurationBound
  pub changes : List (Staged Change)

abbrev pub tests_among : List (Staged Part) → List Test
tests_among ps = flat_map (λ p. tests_in p.part) ps

abbrev pub bound_flaws : World → Env → List DurationBound → List Flaw
bound_flaws w env bs = flaws_of (map (λ l. reckoned w no_unknowns env l.expression) bs)

abbrev pub test_flaws : World → List Test → List Flaw
test_flaws w ts = flaws_of (map (difference w no_unknowns) ts)

abbrev pub change_flaws : World → Env → List (Staged Change) → List Flaw
change_flaws w env cs = flaws_of (flat_map (λ c. change_reckons w env c.part) cs)

abbrev pub flaws_in : World → Env → Pieces → List Flaw
flaws_in w env x = bound_flaws w env x.bounds ++ test_flaws w (tests_among x.conditions) ++ change_flaws w env x.changes

abbrev pub mentions_in : World → Env → Pieces → List (ℕ × GroundAtom)
mentions_in w env x = flat_map (λ l. mentioned w env l.expression) x.bounds
    ++ flat_map (test_mentions w) (tests_among x.conditions)
    ++ flat_map (λ c. change_mentions w env c.part) x.changes

abbrev pub has_values : World → Env → Pieces → Bool
has_values w env x = list_all (λ f. has_value w f.1) (mentions_in w env x)

abbrev pub reckons_in : World → Env → Pieces → Bool
reckons_in w env x = list_all (λ p. static_part_holds w p.part) x.conditions && has_values w env x

abbrev pub twice_at : World → Env → Stage → List (Staged Change) → Bool
twice_at w env s cs = is_twice (flat_map (assigned_by w env) (parts_at s cs))

abbrev pub twice_in : World → Env → List (Staged Change) → Bool
twice_in w env cs = twice_at w env AtStart cs || twice_at w env AtEnd cs

-- whether it is kept where it reckons
abbrev pub keeps_reckoned : World → Env → Pieces → Bool
keeps_reckoned w env x = no_places (zero_divisors (flaws_in w env x)) && not (twice_in w env x.changes)

abbrev pub keeps : World → Env → Pieces → Bool
keeps w env x = reckons_in w env x && no_places (zero_divisors (flaws_in w env x)) && not (twice_in w env x.changes)

abbrev pub wides_in : World → Env → Pieces → List ℕ
wides_in w env x = if reckons_in w env x then wide_places (flaws_in w env x) else []

-- binding number k of an action
abbrev pub numbered : World → ActionDef → ℕ → Instance
numbered w a k = record { action = a; args = choice_at (columns w a.parameters) k }

-- the lesser of two places, where there are any
abbrev pub lower : Option ℕ → Option ℕ → Option ℕ
lower None b = b
lower (Some p) b = Some (either p (min p) b)
