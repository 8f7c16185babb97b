use Rattle.std.proofs.Common.{◌∙◌, ap}
use Rattle.pddl_names.specs.Declarations.{among}
use Rattle.pddl_names.specs.Offences.{least}
use Rattle.pddl_names.specs.Calls.{undeclared, in_names}
use Rattle.pddl_names.specs.Scopes.{variables_of}
use Rattle.pddl_names.specs.Walks.{expression_offences}
use Rattle.pddl_names.proofs.Least.{least-loop}
use Rattle.pddl_names.proofs.WalkSteps.{expression-Number, expression-Fluent, expression-Duration, expression-Sum, expression-Product, expression-Negative, expression-Difference, expression-Quotient, expression-LeftOut, expression-TotalTime, expression-Violated, expression-TimeCost}
use Rattle.pddl_names.proofs.expressions.+expressions.Goals as goal

pub first_in_expression-returns-in-Number : goal.first_in_expression-returns-in-Number
first_in_expression-returns-in-Number t c = expression-Number c.args.phase c.args.tables.now (variables_of c.args.scope.now) c.in-Number.is

pub first_in_expression-returns-in-Fluent : goal.first_in_expression-returns-in-Fluent
first_in_expression-returns-in-Fluent t c = expression-Fluent c.args.phase c.args.tables.now (variables_of c.args.scope.now) c.in-Fluent.is c.first_in_fluent.ensures

pub first_in_expression-returns-in-Duration : goal.first_in_expression-returns-in-Duration
first_in_expression-returns-in-Duration t c = expression-Duration c.args.phase c.args.tables.now (variables_of c.args.scope.now) c.in-Duration.is

pub first_in_expression-returns-in-Sum : goal.first_in_expression-returns-in-Sum
first_in_expression-returns-in-Sum t c = expression-Sum c.args.phase c.args.tables.now (variables_of c.args.scope.now) c.in-Sum.is c.as_slice.ensures c.first_in_expressions.ensures

pub first_in_expression-returns-in-Product : goal.first_in_expression-returns-in-Product
first_in_expression-returns-in-Product t c = expression-Product c.args.phase c.args.tables.now (variables_of c.args.scope.now) c.in-Product.is c.as_slice-in-Product.ensures c.first_in_expressions-in-Product.ensures

pub first_in_expression-returns-in-Negative : goal.first_in_expression-returns-in-Negative
first_in_expression-returns-in-Negative t c = expression-Negative c.args.phase c.args.tables.now (variables_of c.args.scope.now) c.in-Negative.is c.get.ensures c.first_in_expression.ensures

pub first_in_expression-returns-in-Difference : goal.first_in_expression-returns-in-Difference
first_in_expression-returns-in-Difference t c = expression-Difference c.args.phase c.args.tables.now (variables_of c.args.scope.now) c.in-Difference.is c.get-in-Difference.ensures c.get-in-Difference-2.ensures c.first_in_expression-first.ensures c.first_in_expression-second.ensures c.earlier.ensures

pub first_in_expression-returns-in-Quotient : goal.first_in_expression-returns-in-Quotient
first_in_expression-returns-in-Quotient t c = expression-Quotient c.args.phase c.args.tables.now (variables_of c.args.scope.now) c.in-Quotient.is c.get-in-Quotient.ensures c.get-in-Quotient-2.ensures c.first_in_expression-first-in-Quotient.ensures c.first_in_expression-second-in-Quotient.ensures c.earlier-in-Quotient.ensures

pub first_in_expression-returns-in-LeftOut : goal.first_in_expression-returns-in-LeftOut
first_in_expression-returns-in-LeftOut t c = expression-LeftOut c.args.phase c.args.tables.now (variables_of c.args.scope.now) c.in-LeftOut.is

pub first_in_expression-returns-in-TotalTime : goal.first_in_expression-returns-in-TotalTime
first_in_expression-returns-in-TotalTime t c = expression-TotalTime c.args.phase c.args.tables.now (variables_of c.args.scope.now) c.in-TotalTime.is

pub first_in_expression-returns-in-Violated : goal.first_in_expression-returns-in-Violated
first_in_expression-returns-in-Violated t c = expression-Violated c.args.phase c.args.tables.now (variables_of c.args.scope.now) c.in-Violated.is (c.named.ensures ∙ ap (λ b. least (in_names c.args.phase (undeclared b c.in-Violated.name))) (c.has.ensures ∙ ap (among c.args.tables.now.preferences) c.as_slice-in-Violated.ensures))

pub first_in_expression-returns-in-TimeCost : goal.first_in_expression-returns-in-TimeCost
first_in_expression-returns-in-TimeCost t c = expression-TimeCost c.args.phase c.args.tables.now (variables_of c.args.scope.now) c.in-TimeCost.is (c.named-in-TimeCost.ensures ∙ ap (λ b. least (in_names c.args.phase (undeclared b c.in-TimeCost.name))) (c.has-in-TimeCost.ensures ∙ ap (among c.args.tables.now.time_costs) c.as_slice-in-TimeCost.ensures))

pub first_in_expressions-loop-part-preserved : goal.first_in_expressions-loop-part-preserved
first_in_expressions-loop-part-preserved t c = least-loop (expression_offences c.args.phase c.args.tables.now (variables_of c.args.scope.now)) _ _ c.part-item.result _ _ _ c.loop-part-test.true c.part-item.is c.loop-part.invariant c.earlier-found.ensures c.first_in_expression-other.ensures
