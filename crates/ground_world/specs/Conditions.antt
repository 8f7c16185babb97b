-- Believed: the parts of conditions and the bounds of durations, quantifiers written out, in the order of the text.
use Rattle.std.specs.Prelude.{ℕ, Bool, true, false, ◌||◌, not, ◌==◌, if◌then◌else◌, List, [], ◌∷◌, map, Option, None}
use Rattle.std.specs.List.{flat_map}
use Rattle.exact_lin.specs.Forms.{LinearForm}
use Rattle.pddl_terms.specs.declared.trees.Comparison.{Comparison}
use Rattle.pddl_terms.specs.declared.trees.Comparison.TheVariants.{Equal, AtMost, AtLeast, Below, Above}
use Rattle.pddl_terms.specs.declared.trees.Side.{Side}
use Rattle.pddl_terms.specs.declared.trees.Side.TheVariants.{Variable, Bare, Expression}
use Rattle.pddl_terms.specs.declared.trees.ExprTree.{ExprTree}
use Rattle.pddl_terms.specs.declared.trees.ExprTree.TheVariants as expr
use Rattle.pddl_terms.specs.declared.trees.CondTree.{CondTree, fold-CondTree}
use Rattle.pddl_terms.specs.declared.trees.CondTree.TheOpen.{CondTree-F}
use Rattle.pddl_terms.specs.declared.trees.TimedCond.{TimedCond, fold-TimedCond}
use Rattle.pddl_terms.specs.declared.trees.TimedCond.TheOpen.{TimedCond-F}
use Rattle.pddl_terms.specs.declared.trees.DurTree.{DurTree, fold-DurTree}
use Rattle.pddl_terms.specs.declared.trees.DurTree.TheOpen.{DurTree-F}
use Rattle.pddl_terms.specs.declared.files.ActionBody.{ActionBody}
use Rattle.pddl_terms.specs.declared.files.ActionBody.TheVariants.{Instant, Durative}
use Rattle.pddl_names.specs.Equalities.{is_equality}
use Rattle.ground_world.specs.declared.changes.Stage.TheVariants.{AtStart, OverAll, AtEnd}
use Rattle.ground_world.specs.World.{either, World, Env, bound, place_in, GroundAtom, ground_atom, symbol}
use Rattle.ground_world.specs.Bindings.{bindings}
use Rattle.ground_world.specs.Changes.{Staged, staged}
use Rattle.ground_world.specs.Expressions.{Unknowns, Reckoned, reckoned, operated, added, minus_one, minus_form, form_or_zero, negative}

-- ---- sides of an `=`

-- the object that a side of an equality of terms stands for
abbrev pub side_object : World → Env → Side → ℕ
side_object w env (Variable n) = bound env n.bytes
side_object w env (Bare n) = place_in w.objects n.bytes
side_object w env (Expression e) = 0

-- a bare name is a fluent without arguments; a variable has no value
abbrev pub side_expression : Side → ExprTree
side_expression (Variable n) = expr.LeftOut n.at
side_expression (Bare n) = expr.Fluent (record { at = n.at; name = n; terms = [] })
side_expression (Expression e) = e

-- ---- conditions

-- A comparison with its place and the binding under which it stands.
pub record Test : Type 0 where
  pub place : ℕ
  pub order : Comparison
  pub left : ExprTree
  pub right : ExprTree
  pub env : Env

-- A part of a condition is a literal, an equality of terms that holds or not, or a comparison.
pub data Part : Type 0 where
  Lit : (atom : GroundAtom) (holds : Bool) → Part
  Same : (holds : Bool) → Part
  Compares : Test → Part

abbrev pub negated : Part → Part
negated (Lit a holds) = Lit a (not holds)
negated (Same holds) = Same (not holds)
negated (Compares t) = Compares t

abbrev pub test : Env → ℕ → Comparison → ExprTree → ExprTree → Test
test env at order l r = record { place = at; order = order; left = l; right = r; env = env }

abbrev pub equal_part : World → Env → ℕ → Side → Side → Part
equal_part w env at l r = if is_equality w.functions l r then Same (side_object w env l == side_object w env r)
    else Compares (test env at Equal (side_expression l) (side_expression r))

abbrev pub condition_layer : World → CondTree-F (Env → List Part) → Env → List Part
condition_layer w (CondTree-F.Empty at) env = []
condition_layer w (CondTree-F.And at parts) env = flat_map (λ part. part env) parts
condition_layer w (CondTree-F.Forall at vars body) env = flat_map body (bindings w env vars)
condition_layer w (CondTree-F.Atom a) env = Lit (ground_atom w env a) true ∷ []
condition_layer w (CondTree-F.Not at part) env = map negated (part env)
condition_layer w (CondTree-F.Equal at l r) env = equal_part w env at l r ∷ []
condition_layer w (CondTree-F.Compare at order l r) env = Compares (test env at order l r) ∷ []
condition_layer w (CondTree-F.LeftOut at) env = []

-- The parts of a condition under a binding; a quantifier is written out.
unfoldable pub condition_parts : World → Env → CondTree → List Part
condition_parts w env c = fold-CondTree (Env → List Part) (condition_layer w) c env

abbrev pub timed_condition_layer : World → Env → TimedCond-F (List (Staged Part)) → List (Staged Part)
timed_condition_layer w env (TimedCond-F.Empty at) = []
timed_condition_layer w env (TimedCond-F.And at parts) = flat_map (λ part. part) parts
timed_condition_layer w env (TimedCond-F.AtStart at c) = staged AtStart (condition_parts w env c)
timed_condition_layer w env (TimedCond-F.OverAll at c) = staged OverAll (condition_parts w env c)
timed_condition_layer w env (TimedCond-F.AtEnd at c) = staged AtEnd (condition_parts w env c)
timed_condition_layer w env (TimedCond-F.LeftOut at) = []

unfoldable pub timed_condition_parts : World → Env → TimedCond → List (Staged Part)
timed_condition_parts w env c = fold-TimedCond (List (Staged Part)) (timed_condition_layer w env) c

abbrev pub body_conditions : World → Env → ActionBody → List (Staged Part)
body_conditions w env (Instant cond effect) = either [] (λ c. staged AtStart (condition_parts w env c)) cond
body_conditions w env (Durative dur cond effect) = either [] (timed_condition_parts w env) cond

-- ---- durations

-- a bound of the duration, read at the start or at the end
pub record DurationBound : Type 0 where
  pub at_end : Bool
  pub order : Comparison
  pub expression : ExprTree

abbrev pub duration_layer : DurTree-F (Bool → List DurationBound) → Bool → List DurationBound
duration_layer (DurTree-F.And at parts) at_end = flat_map (λ part. part at_end) parts
duration_layer (DurTree-F.AtStart at part) at_end = part false
duration_layer (DurTree-F.AtEnd at part) at_end = part true
duration_layer (DurTree-F.Bound at order e) at_end = record { at_end = at_end; order = order; expression = e } ∷ []
duration_layer (DurTree-F.LeftOut at) at_end = []

-- The bounds of a duration in the order of the text, each read where its tag says, or where none stands as `at_end` says.
unfoldable pub duration_bounds : Bool → DurTree → List DurationBound
duration_bounds at_end d = fold-DurTree (Bool → List DurationBound) duration_layer d at_end

-- a bound without a tag is read at the start
abbrev pub body_bounds : ActionBody → List DurationBound
body_bounds (Instant cond effect) = []
body_bounds (Durative dur cond effect) = duration_bounds false dur

-- ---- what conditions come to

-- A static condition holds: a literal over a static predicate by the first state, an equality of terms by its objects.
abbrev pub static_part_holds : World → Part → Bool
static_part_holds w (Lit a holds) = not (w.is_static (symbol a)) || (if holds then w.is_held a else not (w.is_held a))
static_part_holds w (Same holds) = holds
static_part_holds w (Compares t) = true

-- the comparisons among some parts
abbrev pub tests_in : Part → List Test
tests_in (Lit a holds) = []
tests_in (Same holds) = []
tests_in (Compares t) = t ∷ []

-- The difference of the two sides: of `(<= a b)` it is b - a, of any other comparison a - b.
abbrev pub difference_form : Comparison → List LinearForm → Option LinearForm
difference_form AtMost (f ∷ g ∷ []) = added g minus_one f
difference_form AtMost _ = None
difference_form _ fs = minus_form fs

-- A comparison reckons its left side, its right side, then their difference.
abbrev pub difference : World → Unknowns → Test → Reckoned
difference w us t = operated t.place (difference_form t.order) (reckoned w us t.env t.left ∷ reckoned w us t.env t.right ∷ [])

-- The forms of a comparison, each to be at least 0; an equality is both differences.
abbrev pub forms_of : Comparison → LinearForm → List LinearForm
forms_of Equal d = d ∷ negative d ∷ []
forms_of AtMost d = d ∷ []
forms_of AtLeast d = d ∷ []
forms_of Below d = []
forms_of Above d = []

abbrev pub test_forms : World → Unknowns → Test → List LinearForm
test_forms w us t = forms_of t.order (form_or_zero (difference w us t))
