use Rattle.std.proofs.Common.{ℕ, List, ◌+◌, ◌-◌, ◌/◌, ◌%◌, ◌++◌, ◌∷◌, [], ap, ◌∙◌, sym, append_assoc}
use Rattle.plan_text.specs.Numbers.{padded}
use Rattle.plan_text.proofs.Printing.{padded_more}
use Rattle.plan_text.proofs.print.+push_places.Goals as goal

pub returns-in_ok-push : goal.returns-in_ok-push
returns-in_ok-push t c =
    c.in_ok-push.ensures.items ∙ ap (λ (l : List ℕ). l ++ (48 + c.args.n % 10) ∷ []) c.in_ok-push_places.ensures ∙ append_assoc c.args.text.now.items (padded (c.args.places - 1) (c.args.n / 10)) ((48 + c.args.n % 10) ∷ []) ∙ ap (λ (l : List ℕ). c.args.text.now.items ++ l) (sym (padded_more _ _ c.if-places-gt0.true))
