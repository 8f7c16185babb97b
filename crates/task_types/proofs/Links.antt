-- Links and clashes are symmetric.
use Rattle.std.proofs.Common.{◌≡◌, refl, ap, ◌∙◌, Bool, true, false, ◌&&◌, ◌||◌, List, [], ◌∷◌}
use Rattle.std.specs.List.{list_any}
use Rattle.std.proofs.Math.Bool.{or_comm, and_comm}
use Rattle.task_types.specs.declared.parts.TaskParts.{TaskParts}
use Rattle.task_types.specs.declared.actions.Snap.{Snap}
use Rattle.task_types.specs.Clash.{clash, disturbs}
use Rattle.task_types.specs.declared.tokens.Token.{Token}
use Rattle.task_types.specs.Touch.{looks, marks, bends, tokens, is_timed}
use Rattle.task_types.specs.Order.{sets_apart, sets_order, touches, link}

pub clash_comm : (task : TaskParts) (x y : Snap) → clash task x y ≡ clash task y x
unfolding clash
clash_comm task x y = or_comm (disturbs task y x) (disturbs task x y)

any_same : {X : Type 0} (p q : X → Bool) (xs : List X) → ((x : X) → p x ≡ q x) → list_any p xs ≡ list_any q xs
any_same p q [] h = refl
any_same p q (x ∷ xs) h = rw (h x, any_same p q xs h) refl

apart_comm : (task : TaskParts) (x y : Snap) (t : Token) → sets_apart task x y t ≡ sets_apart task y x t
apart_comm task x y t = go (marks task x t) (marks task y t) (looks task x t) (looks task y t)
  where
    go : (a b c d : Bool) → (a && (b || d) || c && b) ≡ (b && (a || c) || d && a)
    go true true c d = refl
    go true false true true = refl
    go true false true false = refl
    go true false false true = refl
    go true false false false = refl
    go false true true true = refl
    go false true true false = refl
    go false true false true = refl
    go false true false false = refl
    go false false true true = refl
    go false false true false = refl
    go false false false true = refl
    go false false false false = refl

order_comm : (task : TaskParts) (x y : Snap) (t : Token) → sets_order task x y t ≡ sets_order task y x t
order_comm task x y t = or_comm (bends task x t && touches task y t) (touches task x t && bends task y t)
    ∙ ap (λ b. b || bends task x t && touches task y t) (and_comm (touches task x t) (bends task y t))
    ∙ ap (λ b. bends task y t && touches task x t || b) (and_comm (bends task x t) (touches task y t))

pub link_comm : (task : TaskParts) (x y : Snap) → link task x y ≡ link task y x
unfolding link
link_comm task x y = rw (and_comm (is_timed x.kind) (is_timed y.kind), any_same (sets_apart task x y) (sets_apart task y x) (tokens task) (apart_comm task x y), any_same (sets_order task x y) (sets_order task y x) (tokens task) (order_comm task x y)) refl
