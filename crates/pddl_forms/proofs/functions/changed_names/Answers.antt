use Rattle.std.proofs.Common.{[]}
use Rattle.pddl_forms.specs.Functions.{changed_by_action}
use Rattle.pddl_forms.proofs.Changes.{new-next}
use Rattle.pddl_forms.proofs.functions.changed_names.Goals as goal

pub loop-action-preserved : goal.loop-action-preserved
loop-action-preserved c = new-next changed_by_action [] c.loop-action.names c.add_changed_by_action.new.names c.args.actions.now c.loop-action.action-index c.action-item.result c.loop-action-test.true c.action-item.is c.loop-action.invariant c.in_ok-add_changed_by_action.ensures
