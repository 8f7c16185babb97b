use Rattle.pddl_names.specs.Scopes.{variables_of}
use Rattle.pddl_names.specs.Walks.{condition_offences}
use Rattle.pddl_names.proofs.Least.{least-loop}
use Rattle.pddl_names.proofs.WalkSteps.{condition-Empty, condition-And, condition-Forall, condition-Atom, condition-Not, condition-Equal, condition-Compare, condition-LeftOut}
use Rattle.pddl_names.proofs.conditions.+first_in_condition.Goals as goal

pub returns-in-Empty : goal.returns-in-Empty
returns-in-Empty t c = condition-Empty c.args.phase c.args.tables.now (variables_of c.args.scope.now) c.in-Empty.is

pub loop-part-preserved : goal.loop-part-preserved
loop-part-preserved t c = least-loop (condition_offences c.args.phase c.args.tables.now (variables_of c.args.scope.now)) _ _ c.part-item.result _ _ _ c.loop-part-test.true c.part-item.is c.loop-part.invariant c.earlier-found.ensures c.in_ok-other-in-And.ensures

pub returns-after-loop-part : goal.returns-after-loop-part
returns-after-loop-part t c = condition-And c.args.phase c.args.tables.now (variables_of c.args.scope.now) c.in-And.is c.as_slice-part-items.ensures c.loop-part-test.false c.loop-part.invariant

pub returns-in_ok-rest-in-Forall : goal.returns-in_ok-rest-in-Forall
returns-in_ok-rest-in-Forall t c = condition-Forall c.args.phase c.args.tables.now (variables_of c.args.scope.now) c.in-Forall.is c.as_slice-groups.ensures c.in_ok-variables-in-Forall.ensures c.get.ensures c.in_ok-own-in-Forall.ensures c.in_ok-rest-in-Forall.ensures c.earlier.ensures

pub returns-in-Atom : goal.returns-in-Atom
returns-in-Atom t c = condition-Atom c.args.phase c.args.tables.now (variables_of c.args.scope.now) c.in-Atom.is c.first_in_atom.ensures

pub returns-in_ok-first_in_condition-in-Not : goal.returns-in_ok-first_in_condition-in-Not
returns-in_ok-first_in_condition-in-Not t c = condition-Not c.args.phase c.args.tables.now (variables_of c.args.scope.now) c.in-Not.is c.get-in-Not.ensures c.in_ok-first_in_condition-in-Not.ensures

pub returns-in-Equal : goal.returns-in-Equal
returns-in-Equal t c = condition-Equal c.args.phase c.args.tables.now (variables_of c.args.scope.now) c.in-Equal.is c.first_in_equal.ensures

pub returns-in-Compare : goal.returns-in-Compare
returns-in-Compare t c = condition-Compare c.args.phase c.args.tables.now (variables_of c.args.scope.now) c.in-Compare.is c.first_in_expression-first.ensures c.first_in_expression-second.ensures c.earlier-in-Compare.ensures

pub returns-in-LeftOut : goal.returns-in-LeftOut
returns-in-LeftOut t c = condition-LeftOut c.args.phase c.args.tables.now (variables_of c.args.scope.now) c.in-LeftOut.is
