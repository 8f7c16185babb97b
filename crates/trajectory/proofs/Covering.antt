-- A list with a place for each fact of a task covers what fits the task.
use Rattle.std.proofs.Common.{◌≡◌, sym, ◌∙◌, ℕ, ◌<◌, ◌≤◌, Bool, true, ◌&&◌, nat_lt, List, [], ◌∷◌, map, length, arith}
use Rattle.std.specs.List.{All, AllByRecursion, list_all, flat_map}
use Rattle.std.proofs.lemmas.List.Elements.{All-nil, All-cons, All-append, All-same, All-weaker}
use Rattle.std.proofs.lemmas.Bool.Decides.{nat_tests}
use Rattle.basics.proofs.Bools.{and_left, and_right}
use Rattle.task_types.specs.declared.formulas.FactTree.{FactTree}
use Rattle.task_types.specs.declared.formulas.FactTree.TheVariants as tree
use Rattle.task_types.specs.declared.parts.TaskParts.{TaskParts}
use Rattle.task_types.specs.Touch.{tree_facts}
use Rattle.task_types.specs.WellMade.{is_short, tree_fits}
use Rattle.task_types.proofs.FormulaFacts.{tree_facts-true, tree_facts-is, tree_facts-not, tree_facts-and, tree_facts-or}
use Rattle.task_types.proofs.FormulaParts.{each_formula, tree_fits-is, tree_fits-not, tree_fits-and, tree_fits-or}
use Rattle.trajectory.specs.Facts.{AreCovered}
use Rattle.trajectory.specs.Laws.{TasksAreCovered}

module _ (task : TaskParts) where
  abbrev n : ℕ
  n = length task.facts

  abbrev IsBelow : FactTree → Type 0
  IsBelow t = tree_fits task t ≡ true → All (λ f. f < n) (tree_facts t)

  below-out : (f : ℕ) → nat_lt f n ≡ true → f < n
  below-out f e = grind (arith, nat_tests)

  all_below : (ts : List FactTree) → AllByRecursion IsBelow ts → list_all (tree_fits task) ts ≡ true → All (λ f. f < n) (flat_map tree_facts ts)
  all_below [] h e = All-nil (λ f. f < n)
  all_below (t ∷ ts) h e = All-append (λ f. f < n) (tree_facts t) (flat_map tree_facts ts) (h.0 (and_left (tree_fits task t) (list_all (tree_fits task) ts) e)) (all_below ts h.1 (and_right (tree_fits task t) (list_all (tree_fits task) ts) e))

  facts_below : (t : FactTree) → IsBelow t
  facts_below = each_formula IsBelow
      (λ e. All-same (λ f. f < n) (tree_facts tree.True) [] tree_facts-true (All-nil (λ f. f < n)))
      (λ l e. All-same (λ f. f < n) (tree_facts (tree.Is l)) (l.fact ∷ []) (tree_facts-is l) (All-cons (λ f. f < n) l.fact [] (below-out l.fact (sym (tree_fits-is task l) ∙ e)) (All-nil (λ f. f < n))))
      (λ part h e. All-same (λ f. f < n) (tree_facts (tree.Not part)) (tree_facts part) (tree_facts-not part) (h (sym (tree_fits-not task part) ∙ e)))
      (λ parts h e. All-same (λ f. f < n) (tree_facts (tree.And parts)) (flat_map tree_facts parts) (tree_facts-and parts) (all_below parts h (and_right (is_short (map (tree_fits task) parts)) (list_all (tree_fits task) parts) (sym (tree_fits-and task parts) ∙ e))))
      (λ parts h e. All-same (λ f. f < n) (tree_facts (tree.Or parts)) (flat_map tree_facts parts) (tree_facts-or parts) (all_below parts h (and_right (is_short (map (tree_fits task) parts)) (list_all (tree_fits task) parts) (sym (tree_fits-or task parts) ∙ e))))

  covered : (t : FactTree) (bs : List Bool) → n ≤ length bs → tree_fits task t ≡ true → AreCovered (tree_facts t) bs
  covered t bs le e = All-weaker (λ f. f < n) (λ f. f < length bs) (λ f l. omega arith) (tree_facts t) (facts_below t e)

pub tasks_are_covered : TasksAreCovered
tasks_are_covered = record {
  formulas = λ task t bs le e. covered task t bs le e;
  constraints = λ task c bs le e. All-append (λ f. f < length bs) (tree_facts c.first) (tree_facts c.second)
      (covered task c.first bs le (and_left (tree_fits task c.first) (tree_fits task c.second) e)) (covered task c.second bs le (and_right (tree_fits task c.first) (tree_fits task c.second) e));
}
