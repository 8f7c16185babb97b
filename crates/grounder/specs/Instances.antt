-- Believed: the ground actions: the bindings whose static conditions hold and which no rule drops.
use Rattle.std.specs.Prelude.{ℕ, Bool, false, ◌&&◌, ◌||◌, not, if◌then◌else◌, List, [], ◌∷◌, ◌++◌, map}
use Rattle.std.specs.List.{flat_map, filter, list_all, list_any}
use Rattle.pddl_terms.specs.declared.trees.ChangeKind.TheVariants.{Increase, Decrease, Assign}
use Rattle.pddl_terms.specs.declared.trees.RateTree.TheVariants as rate
use Rattle.pddl_terms.specs.declared.files.ActionDef.{ActionDef}
use Rattle.ground_world.specs.World.{World, Env, columns, GroundAtom, ground_fluent, same_atom, variable_names}
use Rattle.ground_world.specs.Bindings.{choices, paired}
use Rattle.ground_world.specs.declared.changes.Stage.TheVariants.{AtStart, AtEnd}
use Rattle.ground_world.specs.Changes.{Staged, parts_at, Change, Adds, Deletes, Moves, Flows, changes}
use Rattle.ground_world.specs.FirstState.{has_value, no_places}
use Rattle.ground_world.specs.Expressions.{Unknowns, Reckoned, reckoned, mentioned, wide_places, zero_divisors}
use Rattle.ground_world.specs.declared.operations.Flaw.{Flaw}
use Rattle.ground_world.specs.Conditions.{Part, Test, tests_in, body_conditions, body_bounds, static_part_holds, difference}

-- a binding of an action's parameters
pub record Instance : Type 0 where
  pub action : ActionDef
  pub args : List ℕ

abbrev pub env_of : Instance → Env
env_of i = paired (variable_names i.action.parameters) i.args

-- all bindings of an action, the last parameter fastest
abbrev pub instances_of : World → ActionDef → List Instance
instances_of w a = map (λ os. record { action = a; args = os }) (choices (columns w a.parameters))

abbrev pub conditions_of : World → Instance → List (Staged Part)
conditions_of w i = body_conditions w (env_of i) i.action.body

abbrev pub tests_of : World → Instance → List Test
tests_of w i = flat_map (λ p. tests_in p.part) (conditions_of w i)

-- no names of preferences or time costs stand in an action
abbrev pub no_unknowns : Unknowns
no_unknowns = record { preferences = []; costs = [] }

-- ---- what is reckoned of a binding, in the order of the text: bounds, conditions, effects

abbrev pub change_mentions : World → Env → Change → List (ℕ × GroundAtom)
change_mentions w env (Adds a) = []
change_mentions w env (Deletes a) = []
change_mentions w env (Moves kind f e) = (f.at, ground_fluent w env f) ∷ mentioned w env e
change_mentions w env (Flows trend f (rate.One at)) = (f.at, ground_fluent w env f) ∷ []
change_mentions w env (Flows trend f (rate.Times at e)) = (f.at, ground_fluent w env f) ∷ mentioned w env e
change_mentions w env (Flows trend f (rate.LeftOut at)) = (f.at, ground_fluent w env f) ∷ []

abbrev pub change_reckons : World → Env → Change → List Reckoned
change_reckons w env (Adds a) = []
change_reckons w env (Deletes a) = []
change_reckons w env (Moves kind f e) = reckoned w no_unknowns env e ∷ []
change_reckons w env (Flows trend f (rate.One at)) = []
change_reckons w env (Flows trend f (rate.Times at e)) = reckoned w no_unknowns env e ∷ []
change_reckons w env (Flows trend f (rate.LeftOut at)) = []

-- the fluents that the two sides of a comparison mention
abbrev pub test_mentions : World → Test → List (ℕ × GroundAtom)
test_mentions w t = mentioned w t.env t.left ++ mentioned w t.env t.right

-- the fluents that a binding mentions, those that it changes among them
abbrev pub instance_mentions : World → Instance → List (ℕ × GroundAtom)
instance_mentions w i = flat_map (λ l. mentioned w (env_of i) l.expression) (body_bounds i.action.body)
    ++ flat_map (test_mentions w) (tests_of w i)
    ++ flat_map (λ c. change_mentions w (env_of i) c.part) (changes i.action)

abbrev pub instance_reckons : World → Instance → List Reckoned
instance_reckons w i = map (λ l. reckoned w no_unknowns (env_of i) l.expression) (body_bounds i.action.body)
    ++ map (difference w no_unknowns) (tests_of w i)
    ++ flat_map (λ c. change_reckons w (env_of i) c.part) (changes i.action)

abbrev pub flaws_of : List Reckoned → List Flaw
flaws_of rs = flat_map (λ r. r.flaws) rs

-- ---- which bindings are kept

abbrev pub static_holds : World → Instance → Bool
static_holds w i = list_all (λ p. static_part_holds w p.part) (conditions_of w i)

-- A binding reckons only where its static conditions hold and its fluents all have values.
abbrev pub reckons : World → Instance → Bool
reckons w i = static_holds w i && list_all (λ f. has_value w f.1) (instance_mentions w i)

abbrev pub assigned_by : World → Env → Change → List GroundAtom
assigned_by w env (Adds a) = []
assigned_by w env (Deletes a) = []
assigned_by w env (Moves Increase f e) = []
assigned_by w env (Moves Decrease f e) = []
assigned_by w env (Moves Assign f e) = ground_fluent w env f ∷ []
assigned_by w env (Flows trend f r) = []

abbrev pub is_twice : List GroundAtom → Bool
is_twice [] = false
is_twice (a ∷ rest) = list_any (same_atom a) rest || is_twice rest

-- one snap action assigns a fluent twice
abbrev pub assigns_twice : World → Instance → Bool
assigns_twice w i = is_twice (flat_map (assigned_by w (env_of i)) (parts_at AtStart (changes i.action)))
    || is_twice (flat_map (assigned_by w (env_of i)) (parts_at AtEnd (changes i.action)))

unfoldable pub is_kept : World → Instance → Bool
is_kept w i = reckons w i && no_places (zero_divisors (flaws_of (instance_reckons w i))) && not (assigns_twice w i)

-- The ground actions, action by action.
unfoldable pub kept : World → List ActionDef → List Instance
kept w actions = flat_map (λ a. filter (is_kept w) (instances_of w a)) actions

-- the places of the undefined reckonings of a binding that count: none where it doesn't reckon
abbrev pub wide_in_instance : World → Instance → List ℕ
wide_in_instance w i = if reckons w i then wide_places (flaws_of (instance_reckons w i)) else []

-- the places of undefined reckonings in all bindings that reckon, also in one that is dropped
unfoldable pub wide_in_actions : World → List ActionDef → List ℕ
wide_in_actions w actions = flat_map (λ a. flat_map (wide_in_instance w) (instances_of w a)) actions
