use Rattle.pddl_names.specs.Scopes.{variables_of}
use Rattle.pddl_names.specs.Walks.{timed_condition_offences}
use Rattle.pddl_names.proofs.Least.{least-loop}
use Rattle.pddl_names.proofs.WalkSteps.{timed_condition-Empty, timed_condition-And, timed_condition-AtStart, timed_condition-OverAll, timed_condition-AtEnd, timed_condition-LeftOut}
use Rattle.pddl_names.proofs.conditions.+first_in_timed_condition.Goals as goal

pub returns-in-Empty : goal.returns-in-Empty
returns-in-Empty t c = timed_condition-Empty c.args.phase c.args.tables.now (variables_of c.args.scope.now) c.in-Empty.is

pub loop-part-preserved : goal.loop-part-preserved
loop-part-preserved t c = least-loop (timed_condition_offences c.args.phase c.args.tables.now (variables_of c.args.scope.now)) _ _ c.part-item.result _ _ _ c.loop-part-test.true c.part-item.is c.loop-part.invariant c.earlier-found.ensures c.in_ok-other-in-And.ensures

pub returns-after-loop-part : goal.returns-after-loop-part
returns-after-loop-part t c = timed_condition-And c.args.phase c.args.tables.now (variables_of c.args.scope.now) c.in-And.is c.as_slice-part-items.ensures c.loop-part-test.false c.loop-part.invariant

pub returns-in_ok-first_in_condition-in-AtStart : goal.returns-in_ok-first_in_condition-in-AtStart
returns-in_ok-first_in_condition-in-AtStart t c = timed_condition-AtStart c.args.phase c.args.tables.now (variables_of c.args.scope.now) c.in-AtStart.is c.in_ok-first_in_condition-in-AtStart.ensures

pub returns-in_ok-first_in_condition-in-OverAll : goal.returns-in_ok-first_in_condition-in-OverAll
returns-in_ok-first_in_condition-in-OverAll t c = timed_condition-OverAll c.args.phase c.args.tables.now (variables_of c.args.scope.now) c.in-OverAll.is c.in_ok-first_in_condition-in-OverAll.ensures

pub returns-in_ok-first_in_condition-in-AtEnd : goal.returns-in_ok-first_in_condition-in-AtEnd
returns-in_ok-first_in_condition-in-AtEnd t c = timed_condition-AtEnd c.args.phase c.args.tables.now (variables_of c.args.scope.now) c.in-AtEnd.is c.in_ok-first_in_condition-in-AtEnd.ensures

pub returns-in-LeftOut : goal.returns-in-LeftOut
returns-in-LeftOut t c = timed_condition-LeftOut c.args.phase c.args.tables.now (variables_of c.args.scope.now) c.in-LeftOut.is
