use Rattle.std.proofs.Common.{◌≡◌, refl, sym, ap, ◌∙◌, true, false, List}
use Rattle.std.specs.List.{list_all}
use Rattle.std.proofs.lemmas.Result.{IfOk-weaker}
use Rattle.pddl_terms.specs.declared.files.TimeCost.{TimeCost}
use Rattle.ground_world.specs.Leaves.{cost_of}
use Rattle.ground_world.specs.Counts as counts
use Rattle.ground_world.specs.Counting.{action_fits, cost_fits}
use Rattle.ground_world.specs.Shown.{world_of}
use Rattle.ground_world.proofs.WithinLimits.{bindings-fit}
use Rattle.ground_world.proofs.bindings_limit.bindings_fit.Goals as goal

pub returns-then-not-branch : goal.returns-then-not-branch
returns-then-not-branch c =
    let w = world_of c.args.tables.now in
    bindings-fit w c.args.domain.now c.args.problem.now false _ _ _ _ _
    (sym c.if-not-branch.true ∙ c.in_ok-actions_fit.ensures ∙ ap (list_all (action_fits w)) c.as_slice.ensures) refl refl refl refl refl

pub returns-then-not-branch-2 : goal.returns-then-not-branch-2
returns-then-not-branch-2 c =
    let w = world_of c.args.tables.now in
    bindings-fit w c.args.domain.now c.args.problem.now true false _ _ _ _
    (sym c.if-not-branch.false ∙ c.in_ok-actions_fit.ensures ∙ ap (list_all (action_fits w)) c.as_slice.ensures)
    (sym c.if-not-branch-2.true ∙ c.in_ok-preferences_fit.ensures 1 refl) refl refl refl refl

pub returns-then-not-branch-3 : goal.returns-then-not-branch-3
returns-then-not-branch-3 c =
    let w = world_of c.args.tables.now in
    bindings-fit w c.args.domain.now c.args.problem.now true true false _ _ _
    (sym c.if-not-branch.false ∙ c.in_ok-actions_fit.ensures ∙ ap (list_all (action_fits w)) c.as_slice.ensures)
    (sym c.if-not-branch-2.false ∙ c.in_ok-preferences_fit.ensures 1 refl)
    (sym c.if-not-branch-3.true ∙ c.in_ok-some_constraints_fit.ensures) refl refl refl

pub returns-then-not-branch-4 : goal.returns-then-not-branch-4
returns-then-not-branch-4 c =
    let w = world_of c.args.tables.now in
    bindings-fit w c.args.domain.now c.args.problem.now true true true false _ _
    (sym c.if-not-branch.false ∙ c.in_ok-actions_fit.ensures ∙ ap (list_all (action_fits w)) c.as_slice.ensures)
    (sym c.if-not-branch-2.false ∙ c.in_ok-preferences_fit.ensures 1 refl)
    (sym c.if-not-branch-3.false ∙ c.in_ok-some_constraints_fit.ensures)
    (sym c.if-not-branch-4.true ∙ c.in_ok-some_constraints_fit-2.ensures) refl refl

pub returns-then-not-branch-5 : goal.returns-then-not-branch-5
returns-then-not-branch-5 c =
    let w = world_of c.args.tables.now in
    bindings-fit w c.args.domain.now c.args.problem.now true true true true false _
    (sym c.if-not-branch.false ∙ c.in_ok-actions_fit.ensures ∙ ap (list_all (action_fits w)) c.as_slice.ensures)
    (sym c.if-not-branch-2.false ∙ c.in_ok-preferences_fit.ensures 1 refl)
    (sym c.if-not-branch-3.false ∙ c.in_ok-some_constraints_fit.ensures)
    (sym c.if-not-branch-4.false ∙ c.in_ok-some_constraints_fit-2.ensures)
    (sym c.if-not-branch-5.true ∙ c.in_ok-goal_fits.ensures) refl

pub returns : goal.returns
returns c =
    let w = world_of c.args.tables.now in
    IfOk-weaker c.costs_fit.result
    (λ fit. fit ≡ list_all (λ t. list_all (cost_fits w) (cost_of t)) c.as_slice-2.result.now)
    (λ fit. fit ≡ counts.bindings_fit w c.args.domain.now c.args.problem.now)
    (λ fit h. bindings-fit w c.args.domain.now c.args.problem.now true true true true true fit
    (sym c.if-not-branch.false ∙ c.in_ok-actions_fit.ensures ∙ ap (list_all (action_fits w)) c.as_slice.ensures)
    (sym c.if-not-branch-2.false ∙ c.in_ok-preferences_fit.ensures 1 refl)
    (sym c.if-not-branch-3.false ∙ c.in_ok-some_constraints_fit.ensures)
    (sym c.if-not-branch-4.false ∙ c.in_ok-some_constraints_fit-2.ensures)
    (sym c.if-not-branch-5.false ∙ c.in_ok-goal_fits.ensures)
    (h ∙ ap (λ (ts : List TimeCost). list_all (λ t. list_all (cost_fits w) (cost_of t)) ts) c.as_slice-2.ensures))
    c.costs_fit.ensures
