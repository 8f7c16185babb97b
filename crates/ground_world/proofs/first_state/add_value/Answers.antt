use Rattle.std.proofs.Common.{sym, ap, ◌∙◌, List, ℕ, ◌∷◌, []}
use Rattle.pddl_names.specs.Declarations.{with_new}
use Rattle.ground_world.proofs.FirstDeclared.{lists-there, lists-new}
use Rattle.ground_world.proofs.first_state.add_value.Goals as goal

pub returns-then-has : goal.returns-then-has
returns-then-has c = lists-there c.args.found.now.fluents c.args.found.now.values c.args.fluent.now c.args.value (sym c.has.ensures ∙ c.if-has.true)

pub returns : goal.returns
returns c =
    lists-new c.args.found.now.fluents _ c.args.found.now.values _ c.args.fluent.now c.args.value (sym c.has.ensures ∙ c.if-has.false)
    (c.in_ok-add.ensures ∙ ap (λ (k : List ℕ). with_new c.args.found.now.fluents (k ∷ [])) c.in_ok-from_slice.ensures.items) c.in_ok-push.ensures.ok
