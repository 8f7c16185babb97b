-- Believed: what grounding asks of a domain and a problem, which their readers see to.
use Rattle.std.specs.Prelude.{Bool, true, ◌&&◌, ◌||◌, nat_lt, nat_le, IsTrue, List, [], ◌∷◌, ◌++◌, map, length}
use Rattle.std.specs.List.{flat_map, list_all}
use Rattle.rational.specs.Rational.{zeroℚ}
use Rattle.task_types.specs.Tests.{◌<?◌, ◌≤?◌}
use Rattle.task_types.specs.WellMade.{is_short, are_below, are_names, piece_limit, pieces_rise}
use Rattle.pddl_terms.specs.declared.files.ActionDef.{ActionDef}
use Rattle.pddl_terms.specs.declared.files.CostCurve.{CostCurve}
use Rattle.pddl_terms.specs.declared.files.CostCurve.TheVariants as curve
use Rattle.pddl_terms.specs.declared.files.Declared.{Declared}
use Rattle.pddl_terms.specs.declared.files.Domain.{Domain}
use Rattle.pddl_terms.specs.declared.files.Problem.{Problem}
use Rattle.pddl_names.specs.Declarations.{among, sorts_of}
use Rattle.exact_lin.specs.Forms.{LinearForm}
use Rattle.ground_world.specs.World.{World, Env, GroundAtom, either, ground_atom, arguments}
use Rattle.ground_world.specs.Changes.{Change, Adds, Deletes, Moves, Flows, changes}
use Rattle.ground_world.specs.FirstState.{signatures_of, all_atoms, given_value, world}
use Rattle.ground_world.specs.Conditions.{body_bounds}
use Rattle.ground_world.specs.Expressions.{own_unknown}
use Rattle.ground_world.specs.Leaves.{costs, unknowns, minimised_value}
use Rattle.grounder.specs.Instances.{Instance, env_of, instances_of, conditions_of}
use Rattle.grounder.specs.Terms.{part_atoms}
use Rattle.grounder.specs.Task.{mentioned_atoms, timings, piece_of}

-- an action with few parameters, few bounds of its duration and few changes
abbrev pub is_small : ActionDef → Bool
is_small a = is_short (sorts_of a.parameters) && nat_le (length (body_bounds a.body)) 524288 && is_short (changes a)

-- ---- atoms and fluents that fit their declarations

-- the ground atom, or fluent, is a binding of its predicate, or function: its objects are of the parameters' types
abbrev pub is_binding : World → List Declared → GroundAtom → Bool
is_binding w ds a = among (all_atoms w (λ x. true) ds) a

-- the atoms that a binding's changes make true or false
abbrev pub changed_atoms : World → Env → Change → List GroundAtom
changed_atoms w env (Adds a) = ground_atom w env a ∷ []
changed_atoms w env (Deletes a) = ground_atom w env a ∷ []
changed_atoms w env (Moves kind f e) = []
changed_atoms w env (Flows trend f r) = []

-- the atoms of the conditions and the changes of a binding
abbrev pub instance_atoms : World → Instance → List GroundAtom
instance_atoms w i = flat_map (λ p. part_atoms p.part) (conditions_of w i)
    ++ flat_map (λ c. changed_atoms w (env_of i) c.part) (changes i.action)

-- ---- time costs

-- A time cost in three numbers has 0 ≤ soft < hard and 0 ≤ top, one in pieces has 1 to 16 of them, which rise.
abbrev pub curve_fits : CostCurve → Bool
curve_fits (curve.Three s h t) = (zeroℚ ≤? s) && (s <? h) && (zeroℚ ≤? t)
curve_fits (curve.Pieces ps) = nat_lt 0 (length (flat_map piece_of ps)) && nat_le (length (flat_map piece_of ps)) piece_limit
    && pieces_rise zeroℚ zeroℚ (flat_map piece_of ps)

-- ---- weights

-- no preference, time cost or total time has a weight below 0 in the form
abbrev pub weighs_right : World → LinearForm → Bool
weighs_right w f = list_all (λ t. nat_lt t.0 (own_unknown w) || (zeroℚ ≤? t.1)) f.terms

-- What readers promise of what they accept: names are names, each once; lists are no longer than texts can make them;
-- atoms and fluents fit their declarations, in an action under each binding; moments are above 0; no preference, time
-- cost or total time has a weight below 0 in a metric that has a value; time costs rise.
pub record IsAccepted (d : Domain) (p : Problem) : Type 0 where
  pub objects : IsTrue (is_short (world d p).objects && are_names (world d p).objects)
  pub schemas : IsTrue (is_short d.actions && are_names (map (λ a. a.name.bytes) d.actions))
  pub small : IsTrue (list_all is_small d.actions)
  pub names : IsTrue (list_all is_short (world d p).predicates && list_all is_short (world d p).functions)
  pub parameters : IsTrue (list_all (λ s. is_short s.1) (signatures_of d.predicates) && list_all (λ s. is_short s.1) (signatures_of d.functions))
  pub bound : IsTrue (list_all (λ a. list_all (λ i. list_all (is_binding (world d p) d.predicates) (instance_atoms (world d p) i)) (instances_of (world d p) a)) d.actions)
  pub mentioned : IsTrue (list_all (λ a. are_below (length (world d p).objects) (arguments a)) (mentioned_atoms (world d p) d p))
  pub valued : IsTrue (list_all (λ e. is_binding (world d p) d.functions e.0) (flat_map (given_value (world d p)) p.init))
  pub timed : IsTrue (is_short (timings (world d p) p.init) && list_all (λ l. (zeroℚ <? l.moment) && is_binding (world d p) d.predicates l.atom) (timings (world d p) p.init))
  pub weights : IsTrue (either true (weighs_right (world d p)) (minimised_value (world d p) (unknowns d p) p.metric))
  pub late : IsTrue (list_all (λ c. curve_fits c.curve) (costs p))
