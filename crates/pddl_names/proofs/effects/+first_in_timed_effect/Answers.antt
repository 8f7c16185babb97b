use Rattle.pddl_names.specs.Scopes.{variables_of}
use Rattle.pddl_names.specs.Walks.{timed_effect_offences}
use Rattle.pddl_names.proofs.Least.{least-loop}
use Rattle.pddl_names.proofs.WalkSteps.{timed_effect-Empty, timed_effect-And, timed_effect-AtStart, timed_effect-AtEnd, timed_effect-Rate, timed_effect-LeftOut}
use Rattle.pddl_names.proofs.effects.+first_in_timed_effect.Goals as goal

pub returns-in-Empty : goal.returns-in-Empty
returns-in-Empty t c = timed_effect-Empty c.args.phase c.args.tables.now (variables_of c.args.scope.now) c.in-Empty.is

pub loop-part-preserved : goal.loop-part-preserved
loop-part-preserved t c = least-loop (timed_effect_offences c.args.phase c.args.tables.now (variables_of c.args.scope.now)) _ _ c.part-item.result _ _ _ c.loop-part-test.true c.part-item.is c.loop-part.invariant c.earlier-found.ensures c.first_in_timed_effect-other.ensures

pub returns-after-loop-part : goal.returns-after-loop-part
returns-after-loop-part t c = timed_effect-And c.args.phase c.args.tables.now (variables_of c.args.scope.now) c.in-And.is c.as_slice-part-items.ensures c.loop-part-test.false c.loop-part.invariant

pub returns-in-AtStart : goal.returns-in-AtStart
returns-in-AtStart t c = timed_effect-AtStart c.args.phase c.args.tables.now (variables_of c.args.scope.now) c.in-AtStart.is c.first_in_effect.ensures

pub returns-in-AtEnd : goal.returns-in-AtEnd
returns-in-AtEnd t c = timed_effect-AtEnd c.args.phase c.args.tables.now (variables_of c.args.scope.now) c.in-AtEnd.is c.first_in_effect-in-AtEnd.ensures

pub returns-in-Rate : goal.returns-in-Rate
returns-in-Rate t c = timed_effect-Rate c.args.phase c.args.tables.now (variables_of c.args.scope.now) c.in-Rate.is c.first_in_called_fluent-first.ensures c.first_in_rate-second.ensures c.earlier.ensures

pub returns-in-LeftOut : goal.returns-in-LeftOut
returns-in-LeftOut t c = timed_effect-LeftOut c.args.phase c.args.tables.now (variables_of c.args.scope.now) c.in-LeftOut.is
