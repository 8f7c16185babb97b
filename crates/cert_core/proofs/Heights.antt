-- The height of a tree, which falls at each step down.
use Rattle.std.proofs.Common.{◌≡◌, refl, sym, ap, ◌∙◌, ℕ, suc, zero, ◌<◌, ◌≤◌, max, List, [], ◌∷◌, map, length, get_or, arith}
use Rattle.cert_core.specs.declared.tree.DualTree.{DualTree}
use Rattle.cert_core.specs.declared.tree.DualTree.TheFolds.{fold-DualTree, fold-roll-DualTree}
use Rattle.cert_core.specs.declared.tree.DualTree.TheOpen.{DualTree-F}
use Rattle.cert_core.specs.declared.tree.DualTree.TheVariants as tree
use Rattle.cert_core.specs.declared.tree.DualTree.TheVariants.{rolls-Split}

abbrev greatest : List ℕ → ℕ
greatest [] = 0
greatest (n ∷ ns) = max n (greatest ns)

abbrev layer_height : {T R S : Type 0} → DualTree-F T R S ℕ → ℕ
layer_height (DualTree-F.Split t children) = suc (greatest children)
layer_height (DualTree-F.None pairs) = 0
layer_height (DualTree-F.AtLeast pairs) = 0

unfoldable pub height : {T R S : Type 0} → DualTree T R S → ℕ
height {T} {R} {S} t = fold-DualTree T R S ℕ layer_height t

-- the height of the highest of these trees
abbrev pub highest : {T R S : Type 0} → List (DualTree T R S) → ℕ
highest [] = 0
highest (c ∷ cs) = max (height c) (highest cs)

module _ {T R S : Type 0} where
  greatest-highest : (cs : List (DualTree T R S)) → greatest (map height cs) ≡ highest cs
  greatest-highest [] = refl
  greatest-highest (c ∷ cs) = ap (λ (n : ℕ). max (height c) n) (greatest-highest cs)

  pub height-split : (part : DualTree T R S) (t : T) (children given : List (DualTree T R S)) → part ≡ tree.Split t children → given ≡ children → height part ≡ suc (highest given)
  unfolding height
  height-split part t children given e f = ap (fold-DualTree T R S ℕ layer_height) (e ∙ sym (rolls-Split t children)) ∙ fold-roll-DualTree T R S ℕ layer_height (DualTree-F.Split t children) ∙ ap suc (greatest-highest children) ∙ ap (λ (cs : List (DualTree T R S)). suc (highest cs)) (sym f)

  pub height-child : (children : List (DualTree T R S)) (i : ℕ) (child : DualTree T R S) → i < length children → child ≡ get_or children i child → height child ≤ highest children
  height-child [] i child h e = absurd (omega arith)
  height-child (c ∷ cs) zero child h e = omega (arith, ap height e)
  height-child (c ∷ cs) (suc i) child h e = omega (arith, height-child cs i child (omega arith) e)
