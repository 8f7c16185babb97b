-- A reckoned sum of products, one more product done.
use Rattle.std.proofs.Common.{◌≡◌, ℕ, List, ◌∷◌, sym, ap, ◌∙◌, subst}
use Rattle.rational.specs.Rational.{ℚ, ◌+ℚ◌, ◌*ℚ◌}
use Rattle.exact_lin.specs.Reckonings.{AreDefined, product_sum, product_sums}
use Rattle.exact_lin.proofs.Reckonings.{GoesOn, GoesOn-next, GoesOn-stop}

module _ (limit : ℕ) (start : ℚ) (all : List (ℚ × ℚ)) where
  -- the next product, of y and the number a that was read for the entry, is added
  pub GoesOn-read : (now next y a entry : ℚ) (rest : List (ℚ × ℚ)) → a ≡ entry → next ≡ now +ℚ y *ℚ a → AreDefined limit (product_sum now y a) → GoesOn limit start all now ((y, entry) ∷ rest) → GoesOn limit start all next rest
  GoesOn-read now next y a entry rest is sum can before = subst (λ q. GoesOn limit start all q rest) (sym (sum ∙ ap (λ q. now +ℚ y *ℚ q) is))
      (GoesOn-next limit start all now y entry rest before (subst (λ q. AreDefined limit (product_sum now y q)) is can))

  -- or it isn't defined, and then all is not
  pub GoesOn-wide : (now y a entry : ℚ) (rest : List (ℚ × ℚ)) → a ≡ entry → ¬ AreDefined limit (product_sum now y a) → GoesOn limit start all now ((y, entry) ∷ rest) → ¬ AreDefined limit (product_sums start all)
  GoesOn-wide now y a entry rest is never before = GoesOn-stop limit start all now y entry rest before (λ h. never (subst (λ q. AreDefined limit (product_sum now y q)) (sym is) h))

  -- what is left, written otherwise
  pub GoesOn-rest : (now : ℚ) {rest other : List (ℚ × ℚ)} → rest ≡ other → GoesOn limit start all now rest → GoesOn limit start all now other
  GoesOn-rest now same before = subst (λ (ts : List (ℚ × ℚ)). GoesOn limit start all now ts) same before
