-- Private: proofs of the laws that the two impls of `Scalar` show.
use Rattle.std.proofs.Common.{◌≡◌, ◌&&◌, int_eq, nat_eq, ℤ, pos, ◌*ℤ◌, ℕ, ap₂, sym, subst, arith}
use Rattle.std.specs.Prelude.{◌↔◌, IsTrue}
use Rattle.std.proofs.lemmas.Bool.Decides.{nat_tests}
use Rattle.rational.specs.Rational.{ℚ}
use Rattle.rational.proofs.Fractions.{equal_from_cross}

-- numbers are equal exactly where both parts are
pub parts-decide : (q r : ℚ) → IsTrue (int_eq q.num r.num && nat_eq q.den r.den) ↔ (q ≡ r)
parts-decide q r = (
  λ t. equal_from_cross q r (ap₂ (λ (x : ℤ) (d : ℕ). x *ℤ pos d) (both_parts q.num r.num q.den r.den t).0 (sym (both_parts q.num r.num q.den r.den t).1)),
  λ e. subst (λ (x : ℚ). IsTrue (int_eq q.num x.num && nat_eq q.den x.den)) e (itself q.num q.den),
)
  where
    both_parts : (x y : ℤ) (d e : ℕ) → IsTrue (int_eq x y && nat_eq d e) → (x ≡ y) × (d ≡ e)
    both_parts x y d e t = grind (arith, nat_tests)

    itself : (x : ℤ) (d : ℕ) → IsTrue (int_eq x x && nat_eq d d)
    itself x d = grind (arith, nat_tests)
