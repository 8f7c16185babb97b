use Rattle.std.proofs.Common.{[]}
use Rattle.pddl_forms.specs.Functions.{declared_name}
use Rattle.pddl_forms.proofs.Changes.{new-next}
use Rattle.pddl_forms.proofs.functions.declared_names.Goals as goal

pub loop-function-preserved : goal.loop-function-preserved
loop-function-preserved c = new-next declared_name [] c.loop-function.names c.add_declared.new.names c.args.functions.now c.loop-function.function-index c.function-item.result c.loop-function-test.true c.function-item.is c.loop-function.invariant c.in_ok-add_declared.ensures
