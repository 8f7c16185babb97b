use Rattle.pddl_names.specs.Scopes.{variables_of}
use Rattle.pddl_names.specs.Walks.{goal_offences}
use Rattle.pddl_names.proofs.Least.{least-loop}
use Rattle.pddl_names.proofs.WalkSteps.{goal-Condition, goal-And, goal-Forall, goal-Preference}
use Rattle.pddl_names.proofs.goals.+first_in_goal.Goals as goal

pub returns-in_ok-first_in_condition-in-Condition : goal.returns-in_ok-first_in_condition-in-Condition
returns-in_ok-first_in_condition-in-Condition t c = goal-Condition c.args.phase c.args.tables.now (variables_of c.args.scope.now) c.in-Condition.is c.in_ok-first_in_condition-in-Condition.ensures

pub loop-part-preserved : goal.loop-part-preserved
loop-part-preserved t c = least-loop (goal_offences c.args.phase c.args.tables.now (variables_of c.args.scope.now)) _ _ c.part-item.result _ _ _ c.loop-part-test.true c.part-item.is c.loop-part.invariant c.earlier-found.ensures c.in_ok-other-in-And.ensures

pub returns-after-loop-part : goal.returns-after-loop-part
returns-after-loop-part t c = goal-And c.args.phase c.args.tables.now (variables_of c.args.scope.now) c.in-And.is c.as_slice-part-items.ensures c.loop-part-test.false c.loop-part.invariant

pub returns-in_ok-rest-in-Forall : goal.returns-in_ok-rest-in-Forall
returns-in_ok-rest-in-Forall t c = goal-Forall c.args.phase c.args.tables.now (variables_of c.args.scope.now) c.in-Forall.is c.as_slice-groups.ensures c.in_ok-variables-in-Forall.ensures c.get.ensures c.in_ok-own-in-Forall.ensures c.in_ok-rest-in-Forall.ensures c.earlier.ensures

pub returns-in_ok-first_in_soft-in-Preference : goal.returns-in_ok-first_in_soft-in-Preference
returns-in_ok-first_in_soft-in-Preference t c = goal-Preference c.args.phase c.args.tables.now (variables_of c.args.scope.now) c.in-Preference.is c.in_ok-first_in_soft-in-Preference.ensures
