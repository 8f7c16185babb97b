use Rattle.ordered_course.proofs.States.{fluent_before, fluent_after, fact_before, fact_after}
use Rattle.ordered_course.proofs.laws.parts_tell_states.Goals as goal

pub returns : goal.returns
returns c = record { fluent_before = fluent_before; fluent_after = fluent_after; fact_before = fact_before; fact_after = fact_after }
