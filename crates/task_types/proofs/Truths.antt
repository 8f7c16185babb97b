-- What a formula's truth is, form by form.
use Rattle.std.proofs.Common.{◌≡◌, refl, sym, ap, ◌∙◌, ℕ, Bool, true, not, List, [], ◌∷◌, map, ◌&&◌, ◌||◌}
use Rattle.std.specs.List.{list_all, list_any}
use Rattle.task_types.specs.declared.conditions.Literal.{Literal}
use Rattle.task_types.specs.declared.formulas.FactTree.{FactTree, fold-FactTree, fold-roll-FactTree}
use Rattle.task_types.specs.declared.formulas.FactTree.TheOpen.{FactTree-F}
use Rattle.task_types.specs.declared.formulas.FactTree.TheVariants as tree
use Rattle.task_types.specs.declared.formulas.FactTree.TheVariants.{rolls-True, rolls-Is, rolls-Not, rolls-And, rolls-Or}
use Rattle.task_types.specs.State.{truth, literal_holds, tree_holds}

pub tree_holds-true : (facts : ℕ → Bool) → tree_holds tree.True facts ≡ true
unfolding tree_holds
tree_holds-true facts = ap (λ t. fold-FactTree Bool (truth facts) t) (sym rolls-True) ∙ fold-roll-FactTree Bool (truth facts) FactTree-F.True

pub tree_holds-is : (l : Literal) → tree_holds (tree.Is l) ≡ literal_holds l
unfolding tree_holds
tree_holds-is l = ap (λ t facts. fold-FactTree Bool (truth facts) t) (sym (rolls-Is l)) ∙ ext (λ facts. fold-roll-FactTree Bool (truth facts) (FactTree-F.Is l))
  where
    ext : {f g : (ℕ → Bool) → Bool} → ((x : ℕ → Bool) → f x ≡ g x) → f ≡ g
    ext h = λ i x. h x i

pub tree_holds-is_at : (l : Literal) (facts : ℕ → Bool) → tree_holds (tree.Is l) facts ≡ literal_holds l facts
tree_holds-is_at l facts = ap (λ f. f facts) (tree_holds-is l)

pub tree_holds-not : (part : FactTree) (facts : ℕ → Bool) → tree_holds (tree.Not part) facts ≡ not (tree_holds part facts)
unfolding tree_holds
tree_holds-not part facts = ap (λ t. fold-FactTree Bool (truth facts) t) (sym (rolls-Not part)) ∙ fold-roll-FactTree Bool (truth facts) (FactTree-F.Not part)

all_of_map : {X : Type 0} (f : X → Bool) (xs : List X) → list_all (λ b. b) (map f xs) ≡ list_all f xs
all_of_map f [] = refl
all_of_map f (x ∷ xs) = ap (λ b. f x && b) (all_of_map f xs)

any_of_map : {X : Type 0} (f : X → Bool) (xs : List X) → list_any (λ b. b) (map f xs) ≡ list_any f xs
any_of_map f [] = refl
any_of_map f (x ∷ xs) = ap (λ b. f x || b) (any_of_map f xs)

pub tree_holds-and : (parts : List FactTree) (facts : ℕ → Bool) → tree_holds (tree.And parts) facts ≡ list_all (λ t. tree_holds t facts) parts
unfolding tree_holds
tree_holds-and parts facts = ap (λ t. fold-FactTree Bool (truth facts) t) (sym (rolls-And parts)) ∙ fold-roll-FactTree Bool (truth facts) (FactTree-F.And parts) ∙ all_of_map (λ t. fold-FactTree Bool (truth facts) t) parts

pub tree_holds-or : (parts : List FactTree) (facts : ℕ → Bool) → tree_holds (tree.Or parts) facts ≡ list_any (λ t. tree_holds t facts) parts
unfolding tree_holds
tree_holds-or parts facts = ap (λ t. fold-FactTree Bool (truth facts) t) (sym (rolls-Or parts)) ∙ fold-roll-FactTree Bool (truth facts) (FactTree-F.Or parts) ∙ any_of_map (λ t. fold-FactTree Bool (truth facts) t) parts
