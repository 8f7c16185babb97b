-- The height of a formula, which falls at each step down.
use Rattle.std.proofs.Common.{◌≡◌, sym, ap, ◌∙◌, ℕ, suc, zero, ◌<◌, ◌≤◌, max, List, [], ◌∷◌, map, length, get_or, arith}
use Rattle.task_types.specs.declared.formulas.FactTree.{FactTree, fold-FactTree, fold-roll-FactTree}
use Rattle.task_types.specs.declared.formulas.FactTree.TheOpen.{FactTree-F}
use Rattle.task_types.specs.declared.formulas.FactTree.TheVariants as tree
use Rattle.task_types.specs.declared.formulas.FactTree.TheVariants.{rolls-Not, rolls-And, rolls-Or}

abbrev greatest : List ℕ → ℕ
greatest [] = 0
greatest (n ∷ ns) = max n (greatest ns)

abbrev layer_height : FactTree-F ℕ → ℕ
layer_height FactTree-F.True = 0
layer_height (FactTree-F.Is l) = 0
layer_height (FactTree-F.Not part) = suc part
layer_height (FactTree-F.And parts) = suc (greatest parts)
layer_height (FactTree-F.Or parts) = suc (greatest parts)

unfoldable pub height : FactTree → ℕ
height t = fold-FactTree ℕ layer_height t

below_greatest : (ts : List FactTree) (i : ℕ) (t : FactTree) → i < length ts → t ≡ get_or ts i t → height t ≤ greatest (map height ts)
below_greatest [] i t h e = absurd (omega arith)
below_greatest (x ∷ xs) zero t h e = omega (arith, ap height e)
below_greatest (x ∷ xs) (suc i) t h e = omega (arith, below_greatest xs i t (omega arith) e)

height-and : (parts : List FactTree) → height (tree.And parts) ≡ suc (greatest (map height parts))
unfolding height
height-and parts = ap (fold-FactTree ℕ layer_height) (sym (rolls-And parts)) ∙ fold-roll-FactTree ℕ layer_height (FactTree-F.And parts)

height-or : (parts : List FactTree) → height (tree.Or parts) ≡ suc (greatest (map height parts))
unfolding height
height-or parts = ap (fold-FactTree ℕ layer_height) (sym (rolls-Or parts)) ∙ fold-roll-FactTree ℕ layer_height (FactTree-F.Or parts)

height-not : (part : FactTree) → height (tree.Not part) ≡ suc (height part)
unfolding height
height-not part = ap (fold-FactTree ℕ layer_height) (sym (rolls-Not part)) ∙ fold-roll-FactTree ℕ layer_height (FactTree-F.Not part)

pub lower_not : (t part given : FactTree) → t ≡ tree.Not part → given ≡ part → height given < height t
lower_not t part given e f = let same = ap height e ∙ height-not part in omega (arith, same, ap height f)

module _ (t : FactTree) (parts items : List FactTree) (i : ℕ) (part : FactTree) (shown : items ≡ parts) (lt : i < length items) (at : part ≡ get_or items i part) where
  pub lower_and : t ≡ tree.And parts → height part < height t
  lower_and e = let same = ap height e ∙ height-and parts ∙ ap (λ (ts : List FactTree). suc (greatest (map height ts))) (sym shown) in omega (arith, same, below_greatest items i part lt at)

  pub lower_or : t ≡ tree.Or parts → height part < height t
  lower_or e = let same = ap height e ∙ height-or parts ∙ ap (λ (ts : List FactTree). suc (greatest (map height ts))) (sym shown) in omega (arith, same, below_greatest items i part lt at)
