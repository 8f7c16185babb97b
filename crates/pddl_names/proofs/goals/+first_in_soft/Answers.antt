use Rattle.pddl_names.specs.Scopes.{variables_of}
use Rattle.pddl_names.specs.Walks.{soft_offences}
use Rattle.pddl_names.proofs.Least.{least-loop}
use Rattle.pddl_names.proofs.WalkSteps.{soft-Formula, soft-Equal, soft-Comparison, soft-And}
use Rattle.pddl_names.proofs.goals.+first_in_soft.Goals as goal

pub returns-in_ok-first_in_formula-in-Formula : goal.returns-in_ok-first_in_formula-in-Formula
returns-in_ok-first_in_formula-in-Formula t c = soft-Formula c.args.phase c.args.tables.now (variables_of c.args.scope.now) c.in-Formula.is c.in_ok-first_in_formula-in-Formula.ensures

pub returns-in-Equal : goal.returns-in-Equal
returns-in-Equal t c = soft-Equal c.args.phase c.args.tables.now (variables_of c.args.scope.now) c.in-Equal.is c.first_in_equal.ensures

pub returns-in_ok-first_in_condition-in-Comparison : goal.returns-in_ok-first_in_condition-in-Comparison
returns-in_ok-first_in_condition-in-Comparison t c = soft-Comparison c.args.phase c.args.tables.now (variables_of c.args.scope.now) c.in-Comparison.is c.in_ok-first_in_condition-in-Comparison.ensures

pub loop-part-preserved : goal.loop-part-preserved
loop-part-preserved t c = least-loop (soft_offences c.args.phase c.args.tables.now (variables_of c.args.scope.now)) _ _ c.part-item.result _ _ _ c.loop-part-test.true c.part-item.is c.loop-part.invariant c.earlier-found.ensures c.in_ok-other-in-And.ensures

pub returns-after-loop-part : goal.returns-after-loop-part
returns-after-loop-part t c = soft-And c.args.phase c.args.tables.now (variables_of c.args.scope.now) c.in-And.is c.as_slice-part-items.ensures c.loop-part-test.false c.loop-part.invariant
