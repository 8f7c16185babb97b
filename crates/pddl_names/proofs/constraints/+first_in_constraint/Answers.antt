use Rattle.pddl_names.specs.Scopes.{variables_of}
use Rattle.pddl_names.specs.Walks.{constraint_offences}
use Rattle.pddl_names.proofs.Least.{least-loop}
use Rattle.pddl_names.proofs.WalkSteps.{constraint-And, constraint-Forall, constraint-Hard, constraint-Preference}
use Rattle.pddl_names.proofs.constraints.+first_in_constraint.Goals as goal

pub loop-part-preserved : goal.loop-part-preserved
loop-part-preserved t c = least-loop (constraint_offences c.args.phase c.args.tables.now (variables_of c.args.scope.now)) _ _ c.part-item.result _ _ _ c.loop-part-test.true c.part-item.is c.loop-part.invariant c.earlier-found.ensures c.in_ok-other-in-And.ensures

pub returns-after-loop-part : goal.returns-after-loop-part
returns-after-loop-part t c = constraint-And c.args.phase c.args.tables.now (variables_of c.args.scope.now) c.in-And.is c.as_slice-part-items.ensures c.loop-part-test.false c.loop-part.invariant

pub returns-in_ok-rest-in-Forall : goal.returns-in_ok-rest-in-Forall
returns-in_ok-rest-in-Forall t c = constraint-Forall c.args.phase c.args.tables.now (variables_of c.args.scope.now) c.in-Forall.is c.as_slice-groups.ensures c.in_ok-variables-in-Forall.ensures c.get.ensures c.in_ok-own-in-Forall.ensures c.in_ok-rest-in-Forall.ensures c.earlier.ensures

pub returns-in_ok-first_in_trajectory-in-Hard : goal.returns-in_ok-first_in_trajectory-in-Hard
returns-in_ok-first_in_trajectory-in-Hard t c = constraint-Hard c.args.phase c.args.tables.now (variables_of c.args.scope.now) c.in-Hard.is c.in_ok-first_in_trajectory-in-Hard.ensures

pub returns-in_ok-first_in_trajectory-in-Preference : goal.returns-in_ok-first_in_trajectory-in-Preference
returns-in_ok-first_in_trajectory-in-Preference t c = constraint-Preference c.args.phase c.args.tables.now (variables_of c.args.scope.now) c.in-Preference.is c.in_ok-first_in_trajectory-in-Preference.ensures
