-- Believed: the exact value of an expression, where each unknown has a value.
use Rattle.std.specs.Prelude.{ℕ, ◌≡◌, if◌then◌else◌, List, [], ◌∷◌, Some, pos}
use Rattle.rational.specs.Rational.{ℚ, zeroℚ, whole, ◌+ℚ◌, ◌*ℚ◌, ◌-ℚ◌, neg_ℚ, inverse}
use Rattle.exact_lin.specs.Forms.{LinearForm, form_at}
use Rattle.pddl_terms.specs.declared.trees.ExprTree.{ExprTree, fold-ExprTree}
use Rattle.pddl_terms.specs.declared.trees.ExprTree.TheOpen.{ExprTree-F}
use Rattle.ground_world.specs.World.{World, Env, either, GroundAtom, ground_fluent, symbol, number_in}
use Rattle.ground_world.specs.Expressions.{Unknowns, own_unknown, preference_unknown, cost_unknown, reckoned}

-- the exact value of a fluent where each unknown has a value
abbrev pub fluent_value : World → (ℕ → ℚ) → GroundAtom → ℚ
fluent_value w x f = if w.is_static_function (symbol f) then either zeroℚ (λ q. q) (w.value_of f)
    else x (number_in w.fluents f)

abbrev pub sum_of : List ℚ → ℚ
sum_of [] = zeroℚ
sum_of (q ∷ qs) = q +ℚ sum_of qs

abbrev pub product_of : List ℚ → ℚ
product_of [] = whole (pos 1)
product_of (q ∷ qs) = q *ℚ product_of qs

abbrev pub exact_layer : World → Unknowns → Env → (ℕ → ℚ) → ExprTree-F ℚ → ℚ
exact_layer w us env x (ExprTree-F.Number at q) = q
exact_layer w us env x (ExprTree-F.Fluent a) = fluent_value w x (ground_fluent w env a)
exact_layer w us env x (ExprTree-F.Duration at) = x (own_unknown w)
exact_layer w us env x (ExprTree-F.Sum at parts) = sum_of parts
exact_layer w us env x (ExprTree-F.Product at parts) = product_of parts
exact_layer w us env x (ExprTree-F.Negative at q) = neg_ℚ q
exact_layer w us env x (ExprTree-F.Difference at q r) = q -ℚ r
exact_layer w us env x (ExprTree-F.Quotient at q r) = q *ℚ inverse r
exact_layer w us env x (ExprTree-F.LeftOut at) = zeroℚ
exact_layer w us env x (ExprTree-F.TotalTime at) = x (own_unknown w)
exact_layer w us env x (ExprTree-F.Violated at n) = x (preference_unknown w us n.bytes)
exact_layer w us env x (ExprTree-F.TimeCost at n) = x (cost_unknown w us n.bytes)

unfoldable pub exact : World → Unknowns → Env → (ℕ → ℚ) → ExprTree → ℚ
exact w us env x e = fold-ExprTree ℚ (exact_layer w us env x) e

-- Where an expression is reckoned, the form has the exact value of the expression, whatever the values of the unknowns.
abbrev pub ReckonedIsExact : Type 0
ReckonedIsExact = (w : World) (us : Unknowns) (env : Env) (e : ExprTree) (f : LinearForm) (x : ℕ → ℚ)
    → (reckoned w us env e).value ≡ Some f → form_at f x ≡ exact w us env x e
