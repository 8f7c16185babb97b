-- The weight of a condition, which falls at each step down.
use Rattle.std.proofs.Common.{◌≡◌, sym, ap, ◌∙◌, ℕ, zero, suc, ◌+◌, ◌<◌, ◌≤◌, arith, List, [], ◌∷◌, map, length, get_or}
use Rattle.ground_world.specs.Counts.{together}
use Rattle.pddl_terms.specs.declared.trees.Group.{Group}
use Rattle.pddl_terms.specs.declared.trees.CondTree.{CondTree, fold-CondTree, fold-roll-CondTree}
use Rattle.pddl_terms.specs.declared.trees.CondTree.TheOpen.{CondTree-F}
use Rattle.pddl_terms.specs.declared.trees.CondTree.TheVariants as tree
use Rattle.pddl_terms.specs.declared.trees.CondTree.TheVariants.{rolls-And, rolls-Forall, rolls-Not}

abbrev pub weight_layer : CondTree-F ℕ → ℕ
weight_layer (CondTree-F.And at parts) = 1 + together parts
weight_layer (CondTree-F.Forall at vars body) = 1 + body
weight_layer (CondTree-F.Not at part) = 1 + part
weight_layer _ = 1

unfoldable pub weight : CondTree → ℕ
weight c = fold-CondTree ℕ weight_layer c

pub summand : {X : Type 0} (f : X → ℕ) (xs : List X) (i : ℕ) (x : X) → i < length xs → x ≡ get_or xs i x → f x ≤ together (map f xs)
summand f [] i x h e = absurd (omega arith)
summand f (y ∷ ys) zero x h e = let k : f x ≡ f y = ap f e in omega arith
summand f (y ∷ ys) (suc i) x h e = let k : f x ≤ together (map f ys) = summand f ys i x (omega arith) e in omega arith

weight-and : (at : ℕ) (cs : List CondTree) → weight (tree.And at cs) ≡ 1 + together (map weight cs)
unfolding weight
weight-and at cs = ap (λ t. fold-CondTree ℕ weight_layer t) (sym (rolls-And at cs)) ∙ fold-roll-CondTree ℕ weight_layer (CondTree-F.And at cs)

pub lighter_in_and : (at : ℕ) (cs : List CondTree) (i : ℕ) (c : CondTree) → i < length cs → c ≡ get_or cs i c → weight c < weight (tree.And at cs)
lighter_in_and at cs i c h e =
    let a : weight c ≤ together (map weight cs) = summand weight cs i c h e in
    let b : weight (tree.And at cs) ≡ 1 + together (map weight cs) = weight-and at cs in
    omega arith

pub lighter_in_forall : (at : ℕ) (vars : List Group) (c : CondTree) → weight c < weight (tree.Forall at vars c)
unfolding weight
lighter_in_forall at vars c = let b : fold-CondTree ℕ weight_layer (tree.Forall at vars c) ≡ 1 + fold-CondTree ℕ weight_layer c = ap (λ t. fold-CondTree ℕ weight_layer t) (sym (rolls-Forall at vars c)) ∙ fold-roll-CondTree ℕ weight_layer (CondTree-F.Forall at vars c) in omega arith

pub lighter_in_not : (at : ℕ) (c : CondTree) → weight c < weight (tree.Not at c)
unfolding weight
lighter_in_not at c = let b : fold-CondTree ℕ weight_layer (tree.Not at c) ≡ 1 + fold-CondTree ℕ weight_layer c = ap (λ t. fold-CondTree ℕ weight_layer t) (sym (rolls-Not at c)) ∙ fold-roll-CondTree ℕ weight_layer (CondTree-F.Not at c) in omega arith
