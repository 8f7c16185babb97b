-- Private: the parts of a task that are read off its world, item by item.
use Rattle.std.specs.Prelude.{[], slice_index_or}
use Rattle.rational.specs.Rational.{zeroℚ}
use Rattle.task_types.specs.declared.actions.Schema.{Schema}
use Rattle.task_types.specs.declared.parts.Fact.{Fact}
use Rattle.task_types.specs.declared.parts.Fluent.{Fluent}
use Rattle.pddl_terms.specs.declared.files.ActionDef.{ActionDef}
use Rattle.ground_world.specs.World.{World, GroundAtom, either, columns, symbol, arguments}
use Rattle.grounder.specs.Task.{is_durative}

abbrev pub schema_of : World → ActionDef → Schema
schema_of w a = record {
  name = a.name.bytes;
  durative = is_durative a.body;
  params = columns w a.parameters;
}

abbrev pub fact_of : World → GroundAtom → Fact
fact_of w a = record {
  name = slice_index_or w.predicates (symbol a) [];
  args = arguments a;
  holds = w.is_held a;
}

abbrev pub fluent_of : World → GroundAtom → Fluent
fluent_of w f = record {
  name = slice_index_or w.functions (symbol f) [];
  args = arguments f;
  value = either zeroℚ (λ q. q) (w.value_of f);
}
