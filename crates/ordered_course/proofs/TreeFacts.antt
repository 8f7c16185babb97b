-- The truth of a formula depends on its facts alone.
use Rattle.std.proofs.Common.{◌≡◌, refl, sym, ap, ap₂, subst, ◌∙◌, ℕ, Bool, true, false, not, ◌&&◌, ◌||◌, ◌==◌, List, [], ◌∷◌}
use Rattle.std.specs.Prelude.{if◌then◌else◌}
use Rattle.std.specs.List.{list_all, list_any, flat_map, AllByRecursion}
use Rattle.basics.proofs.Bools.{or_left}
use Rattle.basics.proofs.Naturals.{same_itself}
use Rattle.task_types.specs.declared.formulas.FactTree.{FactTree}
use Rattle.task_types.specs.declared.formulas.FactTree.TheVariants as tree
use Rattle.task_types.specs.Sets.{is_in}
use Rattle.task_types.specs.State.{truth, tree_holds}
use Rattle.task_types.specs.Touch.{tree_facts}
use Rattle.task_types.proofs.Assigning.{is_in-left}
use Rattle.task_types.proofs.FormulaFacts.{tree_facts-is, tree_facts-not, tree_facts-and, tree_facts-or}
use Rattle.task_types.proofs.SetApart.{in_right}
use Rattle.task_types.proofs.Truths.{tree_holds-is_at, tree_holds-not, tree_holds-and, tree_holds-or, tree_holds-true}
use Rattle.task_types.proofs.FormulaParts.{each_formula}

module _ (facts there : ℕ → Bool) where
  abbrev AreSame : List ℕ → Type 0
  AreSame fs = (f : ℕ) → is_in f fs ≡ true → facts f ≡ there f

  abbrev HoldsAlike : FactTree → Type 0
  HoldsAlike t = AreSame (tree_facts t) → tree_holds t facts ≡ tree_holds t there

  all_parts : (parts : List FactTree) → AllByRecursion HoldsAlike parts → AreSame (flat_map tree_facts parts) → list_all (λ t. tree_holds t facts) parts ≡ list_all (λ t. tree_holds t there) parts
  all_parts [] a h = refl
  all_parts (t ∷ ts) a h = ap₂ (λ b c. b && c) (a.0 (λ f i. h f (is_in-left f (tree_facts t) (flat_map tree_facts ts) i))) (all_parts ts a.1 (λ f i. h f (in_right f (tree_facts t) (flat_map tree_facts ts) i)))

  any_part : (parts : List FactTree) → AllByRecursion HoldsAlike parts → AreSame (flat_map tree_facts parts) → list_any (λ t. tree_holds t facts) parts ≡ list_any (λ t. tree_holds t there) parts
  any_part [] a h = refl
  any_part (t ∷ ts) a h = ap₂ (λ b c. b || c) (a.0 (λ f i. h f (is_in-left f (tree_facts t) (flat_map tree_facts ts) i))) (any_part ts a.1 (λ f i. h f (in_right f (tree_facts t) (flat_map tree_facts ts) i)))

  along_facts : (fs gs : List ℕ) → fs ≡ gs → AreSame fs → AreSame gs
  along_facts fs gs e h f i = h f (subst (λ l. is_in f l ≡ true) (sym e) i)

  -- formulas hold alike where their facts do
  pub holds_alike : (t : FactTree) → HoldsAlike t
  holds_alike = each_formula HoldsAlike
      (λ h. tree_holds-true facts ∙ sym (tree_holds-true there))
      (λ l h. tree_holds-is_at l facts ∙ ap (λ b. if l.holds then b else not b) (along_facts (tree_facts (tree.Is l)) (l.fact ∷ []) (tree_facts-is l) h l.fact (or_left (l.fact == l.fact) false (same_itself l.fact))) ∙ sym (tree_holds-is_at l there))
      (λ part r h. tree_holds-not part facts ∙ ap not (r (along_facts (tree_facts (tree.Not part)) (tree_facts part) (tree_facts-not part) h)) ∙ sym (tree_holds-not part there))
      (λ parts a h. tree_holds-and parts facts ∙ all_parts parts a (along_facts (tree_facts (tree.And parts)) (flat_map tree_facts parts) (tree_facts-and parts) h) ∙ sym (tree_holds-and parts there))
      (λ parts a h. tree_holds-or parts facts ∙ any_part parts a (along_facts (tree_facts (tree.Or parts)) (flat_map tree_facts parts) (tree_facts-or parts) h) ∙ sym (tree_holds-or parts there))
