use Rattle.pddl_names.specs.Scopes.{variables_of}
use Rattle.pddl_names.specs.Walks.{effect_offences}
use Rattle.pddl_names.proofs.Least.{least-loop}
use Rattle.pddl_names.proofs.WalkSteps.{effect-Empty, effect-And, effect-Add, effect-Delete, effect-Change, effect-LeftOut}
use Rattle.pddl_names.proofs.effects.+first_in_effect.Goals as goal

pub returns-in-Empty : goal.returns-in-Empty
returns-in-Empty t c = effect-Empty c.args.phase c.args.tables.now (variables_of c.args.scope.now) c.in-Empty.is

pub loop-part-preserved : goal.loop-part-preserved
loop-part-preserved t c = least-loop (effect_offences c.args.phase c.args.tables.now (variables_of c.args.scope.now)) _ _ c.part-item.result _ _ _ c.loop-part-test.true c.part-item.is c.loop-part.invariant c.earlier-found.ensures c.first_in_effect-other.ensures

pub returns-after-loop-part : goal.returns-after-loop-part
returns-after-loop-part t c = effect-And c.args.phase c.args.tables.now (variables_of c.args.scope.now) c.in-And.is c.as_slice-part-items.ensures c.loop-part-test.false c.loop-part.invariant

pub returns-in-Add : goal.returns-in-Add
returns-in-Add t c = effect-Add c.args.phase c.args.tables.now (variables_of c.args.scope.now) c.in-Add.is c.first_in_atom.ensures

pub returns-in-Delete : goal.returns-in-Delete
returns-in-Delete t c = effect-Delete c.args.phase c.args.tables.now (variables_of c.args.scope.now) c.in-Delete.is c.first_in_called_atom.ensures

pub returns-in-Change : goal.returns-in-Change
returns-in-Change t c = effect-Change c.args.phase c.args.tables.now (variables_of c.args.scope.now) c.in-Change.is c.first_in_called_fluent-first.ensures c.first_in_expression-second.ensures c.earlier.ensures

pub returns-in-LeftOut : goal.returns-in-LeftOut
returns-in-LeftOut t c = effect-LeftOut c.args.phase c.args.tables.now (variables_of c.args.scope.now) c.in-LeftOut.is
