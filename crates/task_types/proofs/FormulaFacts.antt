-- The facts of a formula, form by form.
use Rattle.std.proofs.Common.{◌≡◌, refl, sym, ap, ◌∙◌, ℕ, List, [], ◌∷◌, ◌++◌, map}
use Rattle.std.specs.List.{flat_map}
use Rattle.task_types.specs.declared.conditions.Literal.{Literal}
use Rattle.task_types.specs.declared.formulas.FactTree.{FactTree, fold-FactTree, fold-roll-FactTree}
use Rattle.task_types.specs.declared.formulas.FactTree.TheOpen.{FactTree-F}
use Rattle.task_types.specs.declared.formulas.FactTree.TheVariants as tree
use Rattle.task_types.specs.declared.formulas.FactTree.TheVariants.{rolls-True, rolls-Is, rolls-Not, rolls-And, rolls-Or}
use Rattle.task_types.specs.Touch.{facts_of_parts, tree_facts}

pub tree_facts-true : tree_facts tree.True ≡ []
unfolding tree_facts
tree_facts-true = ap (λ t. fold-FactTree (List ℕ) facts_of_parts t) (sym rolls-True) ∙ fold-roll-FactTree (List ℕ) facts_of_parts FactTree-F.True

pub tree_facts-is : (l : Literal) → tree_facts (tree.Is l) ≡ l.fact ∷ []
unfolding tree_facts
tree_facts-is l = ap (λ t. fold-FactTree (List ℕ) facts_of_parts t) (sym (rolls-Is l)) ∙ fold-roll-FactTree (List ℕ) facts_of_parts (FactTree-F.Is l)

pub tree_facts-not : (part : FactTree) → tree_facts (tree.Not part) ≡ tree_facts part
unfolding tree_facts
tree_facts-not part = ap (λ t. fold-FactTree (List ℕ) facts_of_parts t) (sym (rolls-Not part)) ∙ fold-roll-FactTree (List ℕ) facts_of_parts (FactTree-F.Not part)

joined_of_map : (f : FactTree → List ℕ) (ts : List FactTree) → flat_map (λ part. part) (map f ts) ≡ flat_map f ts
joined_of_map f [] = refl
joined_of_map f (t ∷ ts) = ap (λ l. f t ++ l) (joined_of_map f ts)

pub tree_facts-and : (parts : List FactTree) → tree_facts (tree.And parts) ≡ flat_map tree_facts parts
unfolding tree_facts
tree_facts-and parts = ap (λ t. fold-FactTree (List ℕ) facts_of_parts t) (sym (rolls-And parts)) ∙ fold-roll-FactTree (List ℕ) facts_of_parts (FactTree-F.And parts) ∙ joined_of_map (λ t. fold-FactTree (List ℕ) facts_of_parts t) parts

pub tree_facts-or : (parts : List FactTree) → tree_facts (tree.Or parts) ≡ flat_map tree_facts parts
unfolding tree_facts
tree_facts-or parts = ap (λ t. fold-FactTree (List ℕ) facts_of_parts t) (sym (rolls-Or parts)) ∙ fold-roll-FactTree (List ℕ) facts_of_parts (FactTree-F.Or parts) ∙ joined_of_map (λ t. fold-FactTree (List ℕ) facts_of_parts t) parts

pub ruleset formula_facts = (tree_facts-true, tree_facts-is, tree_facts-not, tree_facts-and, tree_facts-or)
