-- The leaves of a tree, form by form.
use Rattle.std.proofs.Common.{◌≡◌, sym, ap, subst, ◌∙◌, ℕ, List, [], ◌∷◌, map}
use Rattle.std.specs.List.{AllByRecursion}
use Rattle.rational.specs.Rational.{ℚ}
use Rattle.cert_core.specs.declared.claim.Claim.TheVariants.{Empty, AtLeast}
use Rattle.cert_core.specs.declared.tree.DualTree.{DualTree}
use Rattle.cert_core.specs.declared.tree.DualTree.TheFolds.{fold-DualTree, fold-roll-DualTree, ind-DualTree, map-DualTree}
use Rattle.cert_core.specs.declared.tree.DualTree.TheViews.{roll-DualTree}
use Rattle.cert_core.specs.declared.tree.DualTree.TheOpen.{DualTree-F}
use Rattle.cert_core.specs.declared.tree.DualTree.TheVariants as tree
use Rattle.cert_core.specs.declared.tree.DualTree.TheVariants.{rolls-Split, rolls-None, rolls-AtLeast}
use Rattle.cert_core.specs.Soft.{SoftProgram}
use Rattle.cert_core.specs.Faults.{multipliers_of}
use Rattle.cert_core.specs.Trees.{Above, Leaf, Shows, leaf_under, split_leaves, layer_leaves, leaves_of}

module _ {T R S : Type 0} (term : T → ℕ) (row : R → ℕ) (value : S → ℚ) (p : SoftProgram) (q : ℚ) where
  pub leaves_of-split : (t : T) (children : List (DualTree T R S)) → leaves_of term row value p q (tree.Split t children) ≡ (λ above. split_leaves p above (term t) (map (leaves_of term row value p q) children))
  unfolding leaves_of
  leaves_of-split t children = ap (fold-DualTree T R S (Above → List Leaf) (layer_leaves term row value p q)) (sym (rolls-Split t children)) ∙ fold-roll-DualTree T R S (Above → List Leaf) (layer_leaves term row value p q) (DualTree-F.Split t children)

  pub leaves_of-none : (pairs : List (R × S)) → leaves_of term row value p q (tree.None pairs) ≡ (λ above. leaf_under above (Shows Empty (multipliers_of row value pairs)) ∷ [])
  unfolding leaves_of
  leaves_of-none pairs = ap (fold-DualTree T R S (Above → List Leaf) (layer_leaves term row value p q)) (sym (rolls-None pairs)) ∙ fold-roll-DualTree T R S (Above → List Leaf) (layer_leaves term row value p q) (DualTree-F.None pairs)

  pub leaves_of-at_least : (pairs : List (R × S)) → leaves_of term row value p q (tree.AtLeast pairs) ≡ (λ above. leaf_under above (Shows (AtLeast q) (multipliers_of row value pairs)) ∷ [])
  unfolding leaves_of
  leaves_of-at_least pairs = ap (fold-DualTree T R S (Above → List Leaf) (layer_leaves term row value p q)) (sym (rolls-AtLeast pairs)) ∙ fold-roll-DualTree T R S (Above → List Leaf) (layer_leaves term row value p q) (DualTree-F.AtLeast pairs)

-- what holds of each tree with its children already holding it, holds of every tree
pub each_tree : {T R S : Type 0} (P : DualTree T R S → Type 0)
    → ((t : T) (children : List (DualTree T R S)) → AllByRecursion P children → P (tree.Split t children))
    → ((pairs : List (R × S)) → P (tree.None pairs)) → ((pairs : List (R × S)) → P (tree.AtLeast pairs)) → (t : DualTree T R S) → P t
each_tree {T} {R} {S} P split none at_least = ind-DualTree T R S P (λ x y is. subst (λ z. P (roll-DualTree T R S z)) is (layer y))
  where
    both : (es : List ((t : DualTree T R S) × P t)) → AllByRecursion P (map (λ e. e.0) es)
    both [] = tt
    both (e ∷ es) = (e.1, both es)

    layer : (y : DualTree-F T R S ((t : DualTree T R S) × P t)) → P (roll-DualTree T R S (map-DualTree T R S ((t : DualTree T R S) × P t) (DualTree T R S) (λ e. e.0) y))
    layer (DualTree-F.Split t es) = subst P (sym (rolls-Split t (map (λ e. e.0) es))) (split t (map (λ e. e.0) es) (both es))
    layer (DualTree-F.None pairs) = subst P (sym (rolls-None pairs)) (none pairs)
    layer (DualTree-F.AtLeast pairs) = subst P (sym (rolls-AtLeast pairs)) (at_least pairs)
