-- Loops over the pairs of a row and a multiplier: the next pair, and what its sign asks.
use Rattle.std.proofs.Common.{◌≡◌, ℕ, ◌+◌, ◌<◌, ◌∙◌, subst, List, ◌∷◌, length, drop, get_or}
use Rattle.rational.specs.Rational.{ℚ, zeroℚ, ◌≤ℚ◌}
use Rattle.cert_core.specs.declared.program.CertFault.TheVariants.{Negative}
use Rattle.basics.specs.Duties.{IsFirstUnmet}
use Rattle.basics.proofs.Duties.{ComesDownTo, ComesDownTo-next, ComesDownTo-stop}
use Rattle.basics.proofs.Lists.{drop_item}
use Rattle.cert_core.specs.Checks.{sign_duties}
use Rattle.cert_core.specs.Faults.{multipliers_of}

module _ {R S : Type 0} (row : R → ℕ) (value : S → ℚ) (pairs : List (R × S)) (i : ℕ) (x : R × S) (inside : i < length pairs) (is : x ≡ get_or pairs i x) where
  sign-head : ComesDownTo (sign_duties (multipliers_of row value pairs)) (sign_duties (multipliers_of row value (drop i pairs))) → ComesDownTo (sign_duties (multipliers_of row value pairs)) (sign_duties (multipliers_of row value (x ∷ drop (i + 1) pairs)))
  sign-head c = subst (λ (ys : List (R × S)). ComesDownTo (sign_duties (multipliers_of row value pairs)) (sign_duties (multipliers_of row value ys))) (drop_item pairs i x inside is) c

  pub sign-next : zeroℚ ≤ℚ value x.1 → ComesDownTo (sign_duties (multipliers_of row value pairs)) (sign_duties (multipliers_of row value (drop i pairs))) → ComesDownTo (sign_duties (multipliers_of row value pairs)) (sign_duties (multipliers_of row value (drop (i + 1) pairs)))
  sign-next m c = ComesDownTo-next (sign_duties (multipliers_of row value pairs)) _ (sign_duties (multipliers_of row value (drop (i + 1) pairs))) (sign-head c) m

  pub sign-unmet : ¬ (zeroℚ ≤ℚ value x.1) → ComesDownTo (sign_duties (multipliers_of row value pairs)) (sign_duties (multipliers_of row value (drop i pairs))) → IsFirstUnmet (sign_duties (multipliers_of row value pairs)) (Negative (row x.0))
  sign-unmet n c = ComesDownTo-stop (sign_duties (multipliers_of row value pairs)) _ (sign_duties (multipliers_of row value (drop (i + 1) pairs))) (sign-head c) n
