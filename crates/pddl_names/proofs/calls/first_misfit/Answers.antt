use Rattle.std.proofs.Common.{◌∙◌, ap}
use Rattle.pddl_names.specs.Scopes.{variables_of}
use Rattle.pddl_names.proofs.Calling.{misfits-next, misfits-end, misfits-unasked}
use Rattle.pddl_names.specs.Fitting.{fits}
use Rattle.pddl_names.specs.Calls.{term_sort}
use Rattle.pddl_names.proofs.calls.first_misfit.Goals as goal

pub returns-in_default-split_first : goal.returns-in_default-split_first
returns-in_default-split_first c = misfits-unasked c.args.tables.now (variables_of c.args.scope.now) _ _ _ _ _ _ c.in-Some.ensures.cases.0 c.in_default-split_first.ensures.cases c.loop-term.invariant

pub loop-term-preserved : goal.loop-term-preserved
loop-term-preserved c = misfits-next c.args.tables.now (variables_of c.args.scope.now) _ _ _ _ _ _ _ _ _ _ _ c.in-Some.ensures.cases.0 c.in-Some-split_first.ensures.cases.0
    (c.term_fits-fit.ensures ∙ ap (fits c.args.tables.now.types (term_sort c.args.tables.now (variables_of c.args.scope.now) c.in-Some.term.now)) c.as_slice.ensures)
    c.misfit.ensures c.earlier-found.ensures c.loop-term.invariant

pub returns : goal.returns
returns c = misfits-end c.args.tables.now (variables_of c.args.scope.now) _ _ _ _ c.in_default.ensures.cases c.loop-term.invariant
