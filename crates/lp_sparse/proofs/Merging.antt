-- A merge of terms on its way, behind what the sum already held.
use Rattle.std.proofs.Common.{◌≡◌, ℕ, [], ◌∷◌, ◌++◌, sym, subst, ap, ◌∙◌}
use Rattle.rational.specs.Rational.{ℚ}
use Rattle.exact_lin.specs.Forms.{Terms, AscendFrom, increased_by, CanAddTerms}
use Rattle.exact_lin.specs.Merges.{merged, CanMerge, MergesTerm}
use Rattle.exact_lin.proofs.MergeTerms.{increased_by-is_merged, CanAddTerms-from_merge, merge-from_CanAddTerms}

-- what the sum holds and what is left give the whole
pub record MergingOnto (limit : ℕ) (y : ℚ) (one other before sum left right : Terms) : Type 0 where
  pub terms : sum ++ merged y right left ≡ before ++ merged y other one
  pub enough : CanMerge limit y right left → CanMerge limit y other one
  pub needed : CanMerge limit y other one → CanMerge limit y right left

module _ (limit : ℕ) (y : ℚ) (one other before sum left right : Terms) (m : MergingOnto limit y one other before sum left right) where
  -- it goes on with the next term
  pub onto-next : (after later us : Terms) (u : ℕ × ℚ) → right ≡ u ∷ us → MergesTerm limit y left u sum after later → MergingOnto limit y one other before after later us
  onto-next after later us u e n = record {
    terms = sym (n.terms us) ∙ ap (λ (rs : Terms). sum ++ merged y rs left) (sym e) ∙ m.terms;
    enough = λ h. m.enough (subst (λ (rs : Terms). CanMerge limit y rs left) (sym e) (n.enough us h));
    needed = λ h. n.needed us (subst (λ (rs : Terms). CanMerge limit y rs left) e (m.needed h));
  }

  module _ (a : AscendFrom 0 one) (b : AscendFrom 0 other) where
    pub onto-needed : (us : Terms) (u : ℕ × ℚ) → right ≡ u ∷ us → CanAddTerms limit one y other → CanMerge limit y (u ∷ us) left
    onto-needed us u e h = subst (λ (ts : Terms). CanMerge limit y ts left) e (m.needed (merge-from_CanAddTerms limit y other 0 0 one b a h))

    -- at its end all terms are added, and could be
    pub onto-defined : right ≡ [] → CanAddTerms limit one y other
    onto-defined e = CanAddTerms-from_merge limit y other 0 0 one b a (m.enough (subst (λ (rs : Terms). CanMerge limit y rs left) (sym e) tt))

    pub onto-terms : right ≡ [] → sum ++ left ≡ before ++ increased_by one y other
    onto-terms e = subst (λ (rs : Terms). sum ++ merged y rs left ≡ before ++ merged y other one) e m.terms ∙ ap (λ (ts : Terms). before ++ ts) (sym (increased_by-is_merged y other 0 one b))
