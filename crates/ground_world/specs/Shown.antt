-- Believed: what the tables say, and what the code's bindings, variables and parts of conditions stand for.
use Rattle.std.specs.Prelude.{ℕ, Bool, List, map, not, nat_eq, slice_get, slice_index_or, if◌then◌else◌}
use Rattle.std.specs.List.{list_any}
use Rattle.pddl_terms.specs.declared.trees.ExprTree.{ExprTree}
use Rattle.pddl_names.specs.Declarations.{Text, among}
use Rattle.ground_world.specs.World.{World, Env, place_in, number_in}
use Rattle.ground_world.specs.Conditions.{Part, Test, Lit, Same, Compares, negated, side_expression}
use Rattle.ground_world.specs.declared.tables.Tables.{Tables}
use Rattle.ground_world.specs.declared.binding.Bound.{Bound}
use Rattle.ground_world.specs.declared.choosing.Variable.{Variable}
use Rattle.ground_world.specs.declared.parts.Operand.{Operand}
use Rattle.ground_world.specs.declared.parts.Operand.TheVariants as operand
use Rattle.ground_world.specs.declared.parts.CondTest.{CondTest}
use Rattle.ground_world.specs.declared.parts.CondPart.{CondPart}
use Rattle.ground_world.specs.declared.parts.CondPart.TheVariants as part

-- what the tables say
abbrev pub world_of : Tables → World
world_of t = record {
  objects = t.objects;
  predicates = t.predicates;
  functions = t.functions;
  fitting = λ s. slice_index_or t.columns (place_in t.sorts s) t.others;
  is_static = λ p. not (list_any (nat_eq p) t.changed_predicates);
  is_static_function = λ f. not (list_any (nat_eq f) t.changed_functions);
  is_held = among t.held;
  value_of = λ f. slice_get t.values (number_in t.given f);
  fluents = t.fluents;
}

abbrev pub env_of : List Bound → Env
env_of bs = map (λ b. (b.name.now, b.object)) bs

abbrev pub names_of : List Variable → List Text
names_of vs = map (λ v. v.name.now) vs

abbrev pub columns_of : List Variable → List (List ℕ)
columns_of vs = map (λ v. v.column.now) vs

-- the expression that an operand of a comparison is
abbrev pub expression_of : Operand → ExprTree
expression_of (operand.Tree e) = e.now
expression_of (operand.Side s) = side_expression s.now

abbrev pub test_of : CondTest → Test
test_of t = record {
  place = t.place;
  order = t.order;
  left = expression_of t.left;
  right = expression_of t.right;
  env = env_of t.env;
}

abbrev pub part_of : CondPart → Part
part_of (part.Literal atom holds) = Lit atom holds
part_of (part.Same holds) = Same holds
part_of (part.Compares t) = Compares (test_of t)

abbrev pub parts_of : List CondPart → List Part
parts_of ps = map part_of ps

-- the part, or that with the opposite truth
abbrev pub turned : Bool → Part → Part
turned opposite p = if opposite then negated p else p
