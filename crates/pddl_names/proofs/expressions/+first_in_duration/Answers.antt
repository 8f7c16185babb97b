use Rattle.pddl_names.specs.Scopes.{variables_of}
use Rattle.pddl_names.specs.Walks.{duration_offences}
use Rattle.pddl_names.proofs.Least.{least-loop}
use Rattle.pddl_names.proofs.WalkSteps.{duration-And, duration-AtStart, duration-AtEnd, duration-Bound, duration-LeftOut}
use Rattle.pddl_names.proofs.expressions.+first_in_duration.Goals as goal

pub loop-part-preserved : goal.loop-part-preserved
loop-part-preserved t c = least-loop (duration_offences c.args.phase c.args.tables.now (variables_of c.args.scope.now)) _ _ c.part-item.result _ _ _ c.loop-part-test.true c.part-item.is c.loop-part.invariant c.earlier-found.ensures c.first_in_duration-other.ensures

pub returns-after-loop-part : goal.returns-after-loop-part
returns-after-loop-part t c = duration-And c.args.phase c.args.tables.now (variables_of c.args.scope.now) c.in-And.is c.as_slice-part-items.ensures c.loop-part-test.false c.loop-part.invariant

pub returns-in-AtStart : goal.returns-in-AtStart
returns-in-AtStart t c = duration-AtStart c.args.phase c.args.tables.now (variables_of c.args.scope.now) c.in-AtStart.is c.get.ensures c.first_in_duration.ensures

pub returns-in-AtEnd : goal.returns-in-AtEnd
returns-in-AtEnd t c = duration-AtEnd c.args.phase c.args.tables.now (variables_of c.args.scope.now) c.in-AtEnd.is c.get-in-AtEnd.ensures c.first_in_duration-in-AtEnd.ensures

pub returns-in-Bound : goal.returns-in-Bound
returns-in-Bound t c = duration-Bound c.args.phase c.args.tables.now (variables_of c.args.scope.now) c.in-Bound.is c.first_in_expression.ensures

pub returns-in-LeftOut : goal.returns-in-LeftOut
returns-in-LeftOut t c = duration-LeftOut c.args.phase c.args.tables.now (variables_of c.args.scope.now) c.in-LeftOut.is
