-- Believed: formulas over ground atoms, what goal preferences and constraints ask, and the atoms that are mentioned.
use Rattle.std.specs.Prelude.{ℕ, Bool, true, false, ◌==◌, if◌then◌else◌, List, [], ◌∷◌, ◌++◌, map}
use Rattle.std.specs.List.{flat_map}
use Rattle.rational.specs.Rational.{ℚ, zeroℚ}
use Rattle.task_types.specs.declared.constraints.TrailKind.{TrailKind}
use Rattle.task_types.specs.declared.constraints.TrailKind.TheVariants as kind
use Rattle.task_types.specs.declared.formulas.FactTree.{FactTree}
use Rattle.task_types.specs.declared.formulas.FactTree.TheVariants as fact
use Rattle.pddl_terms.specs.declared.trees.Side.{Side}
use Rattle.pddl_terms.specs.declared.trees.CondTree.{CondTree}
use Rattle.pddl_terms.specs.declared.trees.CondTree.TheVariants as cond
use Rattle.pddl_terms.specs.declared.trees.FactForm.{FactForm, fold-FactForm}
use Rattle.pddl_terms.specs.declared.trees.FactForm.TheOpen.{FactForm-F}
use Rattle.pddl_terms.specs.declared.trees.FactForm.TheVariants as form
use Rattle.pddl_terms.specs.declared.trees.SoftTree.{SoftTree, fold-SoftTree}
use Rattle.pddl_terms.specs.declared.trees.SoftTree.TheOpen.{SoftTree-F}
use Rattle.pddl_terms.specs.declared.trees.GoalTree.{GoalTree, fold-GoalTree}
use Rattle.pddl_terms.specs.declared.trees.GoalTree.TheOpen.{GoalTree-F}
use Rattle.pddl_terms.specs.declared.trees.Trajectory.{Trajectory}
use Rattle.pddl_terms.specs.declared.trees.Trajectory.TheVariants as trail
use Rattle.pddl_terms.specs.declared.trees.ConForm.{ConForm, fold-ConForm}
use Rattle.pddl_terms.specs.declared.trees.ConForm.TheOpen.{ConForm-F}
use Rattle.pddl_names.specs.Equalities.{is_equality}
use Rattle.ground_world.specs.World.{World, Env, GroundAtom, ground_atom}
use Rattle.ground_world.specs.Bindings.{bindings}
use Rattle.ground_world.specs.Conditions.{Part, Lit, Same, Compares, Test, tests_in, side_object, condition_parts}

-- ---- formulas

abbrev pub same_tree : Bool → FactTree
same_tree true = fact.True
same_tree false = fact.Not fact.True

-- A formula over ground atoms that are numbered: an equality of terms is true, or the negation of true; a quantifier is
-- the list of its instances.
abbrev pub formula_layer : World → (GroundAtom → ℕ) → FactForm-F (Env → FactTree) → Env → FactTree
formula_layer w number (FactForm-F.Empty at) env = fact.True
formula_layer w number (FactForm-F.Atom a) env = fact.Is (record { fact = number (ground_atom w env a); holds = true })
formula_layer w number (FactForm-F.Equal at l r) env = same_tree (side_object w env l == side_object w env r)
formula_layer w number (FactForm-F.And at parts) env = fact.And (map (λ part. part env) parts)
formula_layer w number (FactForm-F.Or at parts) env = fact.Or (map (λ part. part env) parts)
formula_layer w number (FactForm-F.Not at part) env = fact.Not (part env)
formula_layer w number (FactForm-F.Imply at a b) env = fact.Or (fact.Not (a env) ∷ b env ∷ [])
formula_layer w number (FactForm-F.Exists at vars body) env = fact.Or (map body (bindings w env vars))
formula_layer w number (FactForm-F.Forall at vars body) env = fact.And (map body (bindings w env vars))
formula_layer w number (FactForm-F.LeftOut at) env = fact.True

unfoldable pub formula : World → (GroundAtom → ℕ) → Env → FactForm → FactTree
formula w number env f = fold-FactForm (Env → FactTree) (formula_layer w number) f env

-- the ground atoms that a formula mentions, in the order of the text
abbrev pub atoms_layer : World → FactForm-F (Env → List GroundAtom) → Env → List GroundAtom
atoms_layer w (FactForm-F.Empty at) env = []
atoms_layer w (FactForm-F.Atom a) env = ground_atom w env a ∷ []
atoms_layer w (FactForm-F.Equal at l r) env = []
atoms_layer w (FactForm-F.And at parts) env = flat_map (λ part. part env) parts
atoms_layer w (FactForm-F.Or at parts) env = flat_map (λ part. part env) parts
atoms_layer w (FactForm-F.Not at part) env = part env
atoms_layer w (FactForm-F.Imply at a b) env = a env ++ b env
atoms_layer w (FactForm-F.Exists at vars body) env = flat_map body (bindings w env vars)
atoms_layer w (FactForm-F.Forall at vars body) env = flat_map body (bindings w env vars)
atoms_layer w (FactForm-F.LeftOut at) env = []

unfoldable pub formula_atoms : World → Env → FactForm → List GroundAtom
formula_atoms w env f = fold-FactForm (Env → List GroundAtom) (atoms_layer w) f env

-- ---- goal preferences

-- what a goal preference asks: a formula, or a comparison
pub data PreferencePart : Type 0 where
  OfFacts : FactForm → PreferencePart
  OfNumbers : CondTree → PreferencePart

abbrev pub equal_preference : World → ℕ → Side → Side → PreferencePart
equal_preference w at l r = if is_equality w.functions l r then OfFacts (form.Equal at l r) else OfNumbers (cond.Equal at l r)

abbrev pub preference_part_layer : World → SoftTree-F (List PreferencePart) → List PreferencePart
preference_part_layer w (SoftTree-F.Formula f) = OfFacts f ∷ []
preference_part_layer w (SoftTree-F.Equal at l r) = equal_preference w at l r ∷ []
preference_part_layer w (SoftTree-F.Comparison c) = OfNumbers c ∷ []
preference_part_layer w (SoftTree-F.And at parts) = flat_map (λ part. part) parts

unfoldable pub preference_parts : World → SoftTree → List PreferencePart
preference_parts w s = fold-SoftTree (List PreferencePart) (preference_part_layer w) s

abbrev pub formulas_in : PreferencePart → List FactForm
formulas_in (OfFacts f) = f ∷ []
formulas_in (OfNumbers c) = []

abbrev pub comparisons_in : World → Env → PreferencePart → List Test
comparisons_in w env (OfFacts f) = []
comparisons_in w env (OfNumbers c) = flat_map tests_in (condition_parts w env c)

-- ---- the goal without its preferences

abbrev pub goal_layer : World → GoalTree-F (Env → List Part) → Env → List Part
goal_layer w (GoalTree-F.Condition c) env = condition_parts w env c
goal_layer w (GoalTree-F.And at parts) env = flat_map (λ part. part env) parts
goal_layer w (GoalTree-F.Forall at vars body) env = flat_map body (bindings w env vars)
goal_layer w (GoalTree-F.Preference at name s) env = []

unfoldable pub goal_parts : World → Env → GoalTree → List Part
goal_parts w env g = fold-GoalTree (Env → List Part) (goal_layer w) g env

-- ---- the atoms of goals and constraints, preferences at their place in the text and quantifiers written out

abbrev pub part_atoms : Part → List GroundAtom
part_atoms (Lit a holds) = a ∷ []
part_atoms (Same holds) = []
part_atoms (Compares t) = []

abbrev pub preference_atoms : World → Env → PreferencePart → List GroundAtom
preference_atoms w env x = flat_map (formula_atoms w env) (formulas_in x)

abbrev pub goal_atoms_layer : World → GoalTree-F (Env → List GroundAtom) → Env → List GroundAtom
goal_atoms_layer w (GoalTree-F.Condition c) env = flat_map part_atoms (condition_parts w env c)
goal_atoms_layer w (GoalTree-F.And at parts) env = flat_map (λ part. part env) parts
goal_atoms_layer w (GoalTree-F.Forall at vars body) env = flat_map body (bindings w env vars)
goal_atoms_layer w (GoalTree-F.Preference at name s) env = flat_map (preference_atoms w env) (preference_parts w s)

unfoldable pub goal_atoms : World → Env → GoalTree → List GroundAtom
goal_atoms w env g = fold-GoalTree (Env → List GroundAtom) (goal_atoms_layer w) g env

-- a trajectory constraint with its formulas; the second is `( )` where the constraint has one formula, the moment 0
-- where it has none
pub record Watched : Type 0 where
  pub kind : TrailKind
  pub first : FactForm
  pub second : FactForm
  pub moment : ℚ

abbrev pub one_formula : TrailKind → FactForm → ℚ → Watched
one_formula k f t = record { kind = k; first = f; second = form.Empty 0; moment = t }

abbrev pub two_formulas : TrailKind → FactForm → FactForm → Watched
two_formulas k f g = record { kind = k; first = f; second = g; moment = zeroℚ }

abbrev pub watched : Trajectory → Watched
watched (trail.Always at f) = one_formula kind.Always f zeroℚ
watched (trail.Sometime at f) = one_formula kind.Sometime f zeroℚ
watched (trail.Within at t f) = one_formula kind.Within f t
watched (trail.AtMostOnce at f) = one_formula kind.AtMostOnce f zeroℚ
watched (trail.SometimeAfter at f g) = two_formulas kind.SometimeAfter f g
watched (trail.SometimeBefore at f g) = two_formulas kind.SometimeBefore f g
watched (trail.AtEnd at f) = one_formula kind.AtEnd f zeroℚ
watched (trail.LeftOut at) = one_formula kind.Always (form.LeftOut at) zeroℚ

abbrev pub watched_atoms : World → Env → Watched → List GroundAtom
watched_atoms w env t = formula_atoms w env t.first ++ formula_atoms w env t.second

abbrev pub constraint_atoms_layer : World → ConForm-F (Env → List GroundAtom) → Env → List GroundAtom
constraint_atoms_layer w (ConForm-F.And at parts) env = flat_map (λ part. part env) parts
constraint_atoms_layer w (ConForm-F.Forall at vars body) env = flat_map body (bindings w env vars)
constraint_atoms_layer w (ConForm-F.Hard t) env = watched_atoms w env (watched t)
constraint_atoms_layer w (ConForm-F.Preference at name t) env = watched_atoms w env (watched t)

unfoldable pub constraint_atoms : World → Env → ConForm → List GroundAtom
constraint_atoms w env c = fold-ConForm (Env → List GroundAtom) (constraint_atoms_layer w) c env
