use Rattle.std.proofs.Common.{sym, ap, ◌∙◌, [], ◌∷◌, ◌++◌}
use Rattle.exact_lin.specs.Forms.{LinearForm}
use Rattle.pddl_terms.specs.declared.trees.ChangeKind.{ChangeKind}
use Rattle.ground_world.specs.World.{ground_fluent}
use Rattle.ground_world.specs.Changes.{Moves}
use Rattle.ground_world.specs.Expressions.{negative}
use Rattle.ground_world.specs.Shown.{env_of}
use Rattle.grounder.specs.ShownGrounding.{ground_of}
use Rattle.grounder.specs.Building.{with_change}
use Rattle.grounder.specs.Task.{amount, fluent_number}
use Rattle.grounder.proofs.BuildingSteps.{assigns-change, increases-change, decreases-change}
use Rattle.grounder.proofs.action_effects.push_move.Goals as goal

pub returns-in-Increase : goal.returns-in-Increase
returns-in-Increase c =
    let g = ground_of c.args.grounding.now in
    let d = c.args.durative in
    let e = env_of c.args.env.now in
    let f = c.args.fluent.now in
    let old = c.args.effect.now in
    increases-change g d e old f c.args.tree.now c.push_amount.new.out
    (c.in_ok-push_amount-in-Increase.ensures ∙ ap (λ (x : LinearForm). old.increases ++ ((fluent_number g (ground_fluent g.world e f), amount g d x) ∷ [])) c.in_ok-form.ensures)
    ∙ ap (λ (k : ChangeKind). with_change g d e old (Moves k f c.args.tree.now)) (sym c.in-Increase.is)

pub returns-in-Decrease : goal.returns-in-Decrease
returns-in-Decrease c =
    let g = ground_of c.args.grounding.now in
    let d = c.args.durative in
    let e = env_of c.args.env.now in
    let f = c.args.fluent.now in
    let old = c.args.effect.now in
    decreases-change g d e old f c.args.tree.now c.push_amount-in-Decrease.new.out
    (c.in_ok-push_amount-in-Decrease.ensures ∙ ap (λ (x : LinearForm). old.increases ++ ((fluent_number g (ground_fluent g.world e f), amount g d x) ∷ [])) (c.in_ok-opposite-in-Decrease.ensures ∙ ap negative c.in_ok-form.ensures))
    ∙ ap (λ (k : ChangeKind). with_change g d e old (Moves k f c.args.tree.now)) (sym c.in-Decrease.is)

pub returns : goal.returns
returns c =
    let g = ground_of c.args.grounding.now in
    let d = c.args.durative in
    let e = env_of c.args.env.now in
    let f = c.args.fluent.now in
    let old = c.args.effect.now in
    assigns-change g d e old f c.args.tree.now c.push_amount-in-Assign.new.out
    (c.in_ok-push_amount-in-Assign.ensures ∙ ap (λ (x : LinearForm). old.assigns ++ ((fluent_number g (ground_fluent g.world e f), amount g d x) ∷ [])) c.in_ok-form.ensures)
    ∙ ap (λ (k : ChangeKind). with_change g d e old (Moves k f c.args.tree.now)) (sym c.in-Assign.is)
