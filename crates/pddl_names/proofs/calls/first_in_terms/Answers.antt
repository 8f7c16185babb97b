use Rattle.pddl_names.specs.Scopes.{variables_of}
use Rattle.pddl_names.specs.Calls.{term_offences}
use Rattle.pddl_names.proofs.Least.{least-loop}
use Rattle.pddl_names.proofs.calls.first_in_terms.Goals as goal

pub loop-term-preserved : goal.loop-term-preserved
loop-term-preserved c = least-loop (term_offences c.args.tables.now (variables_of c.args.scope.now)) _ _ c.term-item.result _ _ _ c.loop-term-test.true c.term-item.is c.loop-term.invariant c.earlier-found.ensures c.first_in_term.ensures
