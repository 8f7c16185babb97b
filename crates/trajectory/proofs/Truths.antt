-- The facts and the truth of a formula from those of its parts.
use Rattle.std.proofs.Common.{◌≡◌, sym, ap, subst, ◌∙◌, ℕ, zero, suc, ◌<◌, ◌≤◌, Bool, true, false, List, [], ◌∷◌, ◌++◌, length, get_or, take, arith}
use Rattle.std.specs.List.{All, flat_map, list_all, list_any}
use Rattle.std.proofs.lemmas.List.{take_all}
use Rattle.std.proofs.lemmas.List.Folds.{list_all_at, list_any_at}
use Rattle.std.proofs.lemmas.List.Elements.{All-head, All-tail, All-nil, All-cons, All-same}
use Rattle.task_types.specs.declared.conditions.Literal.{Literal}
use Rattle.task_types.specs.declared.formulas.FactTree.{FactTree}
use Rattle.task_types.specs.declared.formulas.FactTree.TheVariants as tree
use Rattle.task_types.specs.State.{truth, tree_holds}
use Rattle.task_types.specs.Touch.{tree_facts}
use Rattle.task_types.proofs.Truths.{tree_holds-is_at, tree_holds-not, tree_holds-and, tree_holds-or, tree_holds-true}
use Rattle.task_types.proofs.FormulaFacts.{tree_facts-is, tree_facts-not, tree_facts-and, tree_facts-or}
use Rattle.trajectory.specs.Facts.{AreCovered}

pub ruleset formula_truths = (tree_holds-true, tree_holds-is_at, tree_holds-not, tree_holds-and, tree_holds-or)

module _ {X : Type 0} (P : X → Type 0) where
  all_left : (xs ys : List X) → All P (xs ++ ys) → All P xs
  all_left [] ys h = All-nil P
  all_left (x ∷ xs) ys h = All-cons P x xs (All-head P x (xs ++ ys) h) (all_left xs ys (All-tail P x (xs ++ ys) h))

  all_right : (xs ys : List X) → All P (xs ++ ys) → All P ys
  all_right [] ys h = h
  all_right (x ∷ xs) ys h = all_right xs ys (All-tail P x (xs ++ ys) h)

  all_of_part : {T : Type 0} (f : T → List X) (ts : List T) (k : ℕ) (d : T) → k < length ts → All P (flat_map f ts) → All P (f (get_or ts k d))
  all_of_part f [] k d lt h = absurd (omega arith)
  all_of_part f (t ∷ ts) zero d lt h = all_left (f t) (flat_map f ts) h
  all_of_part f (t ∷ ts) (suc k) d lt h = all_of_part f ts k d (omega arith) (all_right (f t) (flat_map f ts) h)

-- ---- a slice that covers a formula covers its parts
module _ (t : FactTree) (bs : List Bool) (h : AreCovered (tree_facts t) bs) where
  same : (xs : List ℕ) → tree_facts t ≡ xs → AreCovered xs bs
  same xs e = All-same (λ f. f < length bs) xs (tree_facts t) (sym e) h

  pub covered_is : (l : Literal) → t ≡ tree.Is l → l.fact < length bs
  covered_is l e = All-head (λ f. f < length bs) l.fact [] (same (l.fact ∷ []) (ap tree_facts e ∙ tree_facts-is l))

  pub covered_not : (part given : FactTree) → t ≡ tree.Not part → given ≡ part → AreCovered (tree_facts given) bs
  covered_not part given e f = same (tree_facts given) (ap tree_facts e ∙ tree_facts-not part ∙ ap tree_facts (sym f))

  module _ (parts items : List FactTree) (k : ℕ) (part : FactTree) (shown : items ≡ parts) (lt : k < length items) (is : part ≡ get_or items k part) where
    covered_part : tree_facts t ≡ flat_map tree_facts parts → AreCovered (tree_facts part) bs
    covered_part e = subst (λ p. AreCovered (tree_facts p) bs) (sym is)
        (all_of_part (λ f. f < length bs) tree_facts items k part lt (same (flat_map tree_facts items) (e ∙ ap (flat_map tree_facts) (sym shown))))

    pub covered_and : t ≡ tree.And parts → AreCovered (tree_facts part) bs
    covered_and e = covered_part (ap tree_facts e ∙ tree_facts-and parts)

    pub covered_or : t ≡ tree.Or parts → AreCovered (tree_facts part) bs
    covered_or e = covered_part (ap tree_facts e ∙ tree_facts-or parts)

pub covered_first : (xs ys : List ℕ) (bs : List Bool) → AreCovered (xs ++ ys) bs → AreCovered xs bs
covered_first xs ys bs h = all_left (λ f. f < length bs) xs ys h

pub covered_second : (xs ys : List ℕ) (bs : List Bool) → AreCovered (xs ++ ys) bs → AreCovered ys bs
covered_second xs ys bs h = all_right (λ f. f < length bs) xs ys h

-- ---- the truth of a formula, found part by part
module _ (t : FactTree) (facts : ℕ → Bool) (parts items : List FactTree) (shown : items ≡ parts) where
  pub and_fails : (k : ℕ) (x : FactTree) → t ≡ tree.And parts → k < length items → x ≡ get_or items k x → tree_holds x facts ≡ false → tree_holds t facts ≡ false
  and_fails k x e lt at h = ap (λ t. tree_holds t facts) e ∙ tree_holds-and parts facts ∙ ap (list_all (λ t. tree_holds t facts)) (sym shown)
      ∙ list_all_at (λ t. tree_holds t facts) items k x lt (ap (λ t. tree_holds t facts) (sym at) ∙ h)

  pub or_holds : (k : ℕ) (x : FactTree) → t ≡ tree.Or parts → k < length items → x ≡ get_or items k x → tree_holds x facts ≡ true → tree_holds t facts ≡ true
  or_holds k x e lt at h = ap (λ t. tree_holds t facts) e ∙ tree_holds-or parts facts ∙ ap (list_any (λ t. tree_holds t facts)) (sym shown)
      ∙ list_any_at (λ t. tree_holds t facts) items k x lt (ap (λ t. tree_holds t facts) (sym at) ∙ h)

  pub and_holds : (k : ℕ) → t ≡ tree.And parts → length items ≤ k → list_all (λ t. tree_holds t facts) (take k items) ≡ true → tree_holds t facts ≡ true
  and_holds k e le h = ap (λ t. tree_holds t facts) e ∙ tree_holds-and parts facts ∙ ap (list_all (λ t. tree_holds t facts)) (sym shown ∙ sym (take_all k items le)) ∙ h

  pub or_fails : (k : ℕ) → t ≡ tree.Or parts → length items ≤ k → list_any (λ t. tree_holds t facts) (take k items) ≡ false → tree_holds t facts ≡ false
  or_fails k e le h = ap (λ t. tree_holds t facts) e ∙ tree_holds-or parts facts ∙ ap (list_any (λ t. tree_holds t facts)) (sym shown ∙ sym (take_all k items le)) ∙ h
