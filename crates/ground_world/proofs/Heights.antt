-- The height of an expression, which falls at each step down.
use Rattle.std.proofs.Common.{◌≡◌, sym, ap, ◌∙◌, ℕ, suc, zero, ◌<◌, ◌≤◌, max, List, [], ◌∷◌, map, length, get_or, arith}
use Rattle.pddl_terms.specs.declared.trees.ExprTree.{ExprTree, fold-ExprTree, fold-roll-ExprTree}
use Rattle.pddl_terms.specs.declared.trees.ExprTree.TheOpen.{ExprTree-F}
use Rattle.pddl_terms.specs.declared.trees.ExprTree.TheVariants as expr

abbrev pub greatest : List ℕ → ℕ
greatest [] = 0
greatest (n ∷ ns) = max n (greatest ns)

abbrev layer_height : ExprTree-F ℕ → ℕ
layer_height (ExprTree-F.Sum at parts) = suc (greatest parts)
layer_height (ExprTree-F.Product at parts) = suc (greatest parts)
layer_height (ExprTree-F.Negative at part) = suc part
layer_height (ExprTree-F.Difference at l r) = suc (max l r)
layer_height (ExprTree-F.Quotient at l r) = suc (max l r)
layer_height _ = 0

unfoldable pub height : ExprTree → ℕ
height e = fold-ExprTree ℕ layer_height e

pub below_greatest : (ts : List ExprTree) (i : ℕ) (t : ExprTree) → i < length ts → t ≡ get_or ts i t → height t ≤ greatest (map height ts)
below_greatest [] i t h e = absurd (omega arith)
below_greatest (x ∷ xs) zero t h e = omega (arith, ap height e)
below_greatest (x ∷ xs) (suc i) t h e = omega (arith, below_greatest xs i t (omega arith) e)

pub height-Sum : (at : ℕ) (parts : List ExprTree) → height (expr.Sum at parts) ≡ suc (greatest (map height parts))
unfolding height
height-Sum at parts = ap (fold-ExprTree ℕ layer_height) (sym (expr.rolls-Sum at parts)) ∙ fold-roll-ExprTree ℕ layer_height (ExprTree-F.Sum at parts)

pub height-Product : (at : ℕ) (parts : List ExprTree) → height (expr.Product at parts) ≡ suc (greatest (map height parts))
unfolding height
height-Product at parts = ap (fold-ExprTree ℕ layer_height) (sym (expr.rolls-Product at parts)) ∙ fold-roll-ExprTree ℕ layer_height (ExprTree-F.Product at parts)

pub height-Negative : (at : ℕ) (part : ExprTree) → height (expr.Negative at part) ≡ suc (height part)
unfolding height
height-Negative at part = ap (fold-ExprTree ℕ layer_height) (sym (expr.rolls-Negative at part)) ∙ fold-roll-ExprTree ℕ layer_height (ExprTree-F.Negative at part)

pub height-Difference : (at : ℕ) (l r : ExprTree) → height (expr.Difference at l r) ≡ suc (max (height l) (height r))
unfolding height
height-Difference at l r = ap (fold-ExprTree ℕ layer_height) (sym (expr.rolls-Difference at l r)) ∙ fold-roll-ExprTree ℕ layer_height (ExprTree-F.Difference at l r)

pub height-Quotient : (at : ℕ) (l r : ExprTree) → height (expr.Quotient at l r) ≡ suc (max (height l) (height r))
unfolding height
height-Quotient at l r = ap (fold-ExprTree ℕ layer_height) (sym (expr.rolls-Quotient at l r)) ∙ fold-roll-ExprTree ℕ layer_height (ExprTree-F.Quotient at l r)
