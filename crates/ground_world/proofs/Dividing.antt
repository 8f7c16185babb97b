-- What a quotient takes from its operands: their values, and the place of the divisor.
use Rattle.std.proofs.Common.{◌≡◌, refl, sym, ap, ◌∙◌, ℕ, Bool, true, false, List, [], ◌∷◌, ◌++◌, Option, None, if◌then◌else◌}
use Rattle.exact_lin.specs.Forms.{LinearForm, is_zero}
use Rattle.std.proofs.lemmas.List.{append-nil}
use Rattle.ground_world.specs.declared.operations.Flaw.TheVariants.{ZeroDivisor}
use Rattle.ground_world.specs.World.{either}
use Rattle.ground_world.specs.Expressions.{Reckoned, all_values, own_flaw, operated, divided, quotient_form}
use Rattle.ground_world.specs.Operations.{bare}

module _ (p : ℕ) (r s : Reckoned) where
  abbrev is_zero_at : Bool
  is_zero_at = either false (λ (g : LinearForm). is_zero g.constant) s.value

  abbrev by_zero : Reckoned
  by_zero = record { place = p; value = None; flaws = r.flaws ++ s.flaws ++ (ZeroDivisor s.place ∷ []) }

  abbrev by_other : Reckoned
  by_other = operated p quotient_form (r ∷ s ∷ [])

  place_by : (b : Bool) → (if b then by_zero else by_other).place ≡ p
  place_by true = refl
  place_by false = refl

  pub divided-place : (divided p r s).place ≡ p
  divided-place = place_by is_zero_at

  pub divided-value : (q : ℕ) → (divided p (bare 0 r.value) (bare q s.value)).value ≡ (divided p r s).value
  divided-value q = by is_zero_at
    where
      other : Reckoned
      other = operated p quotient_form (bare 0 r.value ∷ bare q s.value ∷ [])

      by : (b : Bool)
          → (if b then record { place = p; value = None; flaws = ZeroDivisor q ∷ [] } else other).value
          ≡ (if b then by_zero else by_other).value
      by true = refl
      by false = refl

  -- what an operation on two operands adds to their flaws
  pub two-flaws : (operation : List LinearForm → Option LinearForm)
      → (r.flaws ++ s.flaws) ++ (operated p operation (bare 0 r.value ∷ bare 0 s.value ∷ [])).flaws
      ≡ (operated p operation (r ∷ s ∷ [])).flaws
  two-flaws operation =
      ap (λ l. (r.flaws ++ l) ++ either [] (λ fs. own_flaw p (operation fs)) (all_values (r ∷ s ∷ []))) (sym (append-nil s.flaws))

  pub divided-flaws : (q : ℕ) → q ≡ s.place
      → (r.flaws ++ s.flaws) ++ (divided p (bare 0 r.value) (bare q s.value)).flaws ≡ (divided p r s).flaws
  divided-flaws q e =
      ap (λ k. (r.flaws ++ s.flaws) ++ (divided p (bare 0 r.value) (bare k s.value)).flaws) e ∙ by is_zero_at
    where
      other : Reckoned
      other = operated p quotient_form (bare 0 r.value ∷ bare s.place s.value ∷ [])

      by : (b : Bool)
          → (r.flaws ++ s.flaws) ++ (if b then record { place = p; value = None; flaws = ZeroDivisor s.place ∷ [] } else other).flaws
          ≡ (if b then by_zero else by_other).flaws
      by true = refl
      by false = two-flaws quotient_form

-- what an operation on one operand adds to its flaws
pub one-flaws : (p : ℕ) (r : Reckoned) (operation : List LinearForm → Option LinearForm)
    → r.flaws ++ (operated p operation (bare 0 r.value ∷ [])).flaws ≡ (operated p operation (r ∷ [])).flaws
one-flaws p r operation =
    ap (λ l. l ++ either [] (λ fs. own_flaw p (operation fs)) (all_values (r ∷ []))) (sym (append-nil r.flaws))
