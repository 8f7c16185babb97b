-- What holds of every formula by its parts, and whether a formula fits a task, form by form.
use Rattle.std.proofs.Common.{◌≡◌, refl, sym, ap, subst, ◌∙◌, ℕ, Bool, true, ◌&&◌, nat_lt, List, [], ◌∷◌, map, length}
use Rattle.std.specs.List.{AllByRecursion, list_all}
use Rattle.basics.proofs.Lists.{each_first}
use Rattle.task_types.specs.declared.conditions.Literal.{Literal}
use Rattle.task_types.specs.declared.formulas.FactTree.{FactTree, fold-FactTree, fold-roll-FactTree, ind-FactTree, map-FactTree, roll-FactTree}
use Rattle.task_types.specs.declared.formulas.FactTree.TheOpen.{FactTree-F}
use Rattle.task_types.specs.declared.formulas.FactTree.TheVariants as tree
use Rattle.task_types.specs.declared.formulas.FactTree.TheVariants.{rolls-True, rolls-Is, rolls-Not, rolls-And, rolls-Or}
use Rattle.task_types.specs.declared.parts.TaskParts.{TaskParts}
use Rattle.task_types.specs.WellMade.{is_short, parts_fit, tree_fits}

-- what holds of each formula where it holds of its parts, holds of every formula
pub each_formula : (P : FactTree → Type 0) → P tree.True → ((l : Literal) → P (tree.Is l)) → ((part : FactTree) → P part → P (tree.Not part))
    → ((parts : List FactTree) → AllByRecursion P parts → P (tree.And parts)) → ((parts : List FactTree) → AllByRecursion P parts → P (tree.Or parts)) → (t : FactTree) → P t
each_formula P of_true of_is of_not of_and of_or = ind-FactTree P (λ x y is. subst (λ z. P (roll-FactTree z)) is (layer y))
  where
    layer : (y : FactTree-F ((t : FactTree) × P t)) → P (roll-FactTree (map-FactTree ((t : FactTree) × P t) FactTree (λ e. e.0) y))
    layer FactTree-F.True = subst P (sym rolls-True) of_true
    layer (FactTree-F.Is l) = subst P (sym (rolls-Is l)) (of_is l)
    layer (FactTree-F.Not e) = subst P (sym (rolls-Not e.0)) (of_not e.0 e.1)
    layer (FactTree-F.And es) = subst P (sym (rolls-And (map (λ e. e.0) es))) (of_and (map (λ e. e.0) es) (each_first P es))
    layer (FactTree-F.Or es) = subst P (sym (rolls-Or (map (λ e. e.0) es))) (of_or (map (λ e. e.0) es) (each_first P es))

pub tree_fits-true : (task : TaskParts) → tree_fits task tree.True ≡ true
unfolding tree_fits
tree_fits-true task = ap (λ t. fold-FactTree Bool (parts_fit (length task.facts)) t) (sym rolls-True) ∙ fold-roll-FactTree Bool (parts_fit (length task.facts)) FactTree-F.True

pub tree_fits-is : (task : TaskParts) (l : Literal) → tree_fits task (tree.Is l) ≡ nat_lt l.fact (length task.facts)
unfolding tree_fits
tree_fits-is task l = ap (λ t. fold-FactTree Bool (parts_fit (length task.facts)) t) (sym (rolls-Is l)) ∙ fold-roll-FactTree Bool (parts_fit (length task.facts)) (FactTree-F.Is l)

pub tree_fits-not : (task : TaskParts) (part : FactTree) → tree_fits task (tree.Not part) ≡ tree_fits task part
unfolding tree_fits
tree_fits-not task part = ap (λ t. fold-FactTree Bool (parts_fit (length task.facts)) t) (sym (rolls-Not part)) ∙ fold-roll-FactTree Bool (parts_fit (length task.facts)) (FactTree-F.Not part)

module _ (task : TaskParts) where
  abbrev n : ℕ
  n = length task.facts

  all_of_map : (ts : List FactTree) → list_all (λ b. b) (map (tree_fits task) ts) ≡ list_all (tree_fits task) ts
  all_of_map [] = refl
  all_of_map (t ∷ ts) = ap (λ b. tree_fits task t && b) (all_of_map ts)

  pub tree_fits-and : (parts : List FactTree) → tree_fits task (tree.And parts) ≡ (is_short (map (tree_fits task) parts) && list_all (tree_fits task) parts)
  unfolding tree_fits
  tree_fits-and parts = ap (fold-FactTree Bool (parts_fit n)) (sym (rolls-And parts)) ∙ fold-roll-FactTree Bool (parts_fit n) (FactTree-F.And parts) ∙ ap (λ b. is_short (map (fold-FactTree Bool (parts_fit n)) parts) && b) (all_of_map parts)

  pub tree_fits-or : (parts : List FactTree) → tree_fits task (tree.Or parts) ≡ (is_short (map (tree_fits task) parts) && list_all (tree_fits task) parts)
  unfolding tree_fits
  tree_fits-or parts = ap (fold-FactTree Bool (parts_fit n)) (sym (rolls-Or parts)) ∙ fold-roll-FactTree Bool (parts_fit n) (FactTree-F.Or parts) ∙ ap (λ b. is_short (map (fold-FactTree Bool (parts_fit n)) parts) && b) (all_of_map parts)
