-- What a comparison says, and that it is a total order in the library's sense.
use Rattle.std.proofs.Common.{ap, ap₂, sym, subst, ℕ, ℤ, Bool, true, false, ◌&&◌, int_eq, nat_eq, arith, ◌≡◌, refl, pos, ◌*ℤ◌, ◌<ℤ◌, Less, Equal, Greater}
use Rattle.std.specs.Ordering.{MatchOrdering, int_cmp}
use Rattle.std.specs.declared.cmp.Ordering.{Ordering}
use Rattle.std.specs.Cmp.{int_ranks}
use Rattle.rational.specs.Rational.{ℚ, ◌<ℚ◌, cmp_ℚ}
use Rattle.std.specs.Ordering.{ordering_reverse, eq_by_cmp, is_eq}
use Rattle.std.proofs.lemmas.Bool.Decides.{nat_tests}
use Rattle.rational.proofs.Order.{lt_irrefl}
use Rattle.std.specs.Cmp.{int_cmp_is, int_cmp_total, IsTotalOrder}
use Rattle.rational.proofs.Inequalities.{lt_trans}
use Rattle.rational.proofs.Fractions.{equal_from_cross}

ranks_of : (o : Ordering) (q r : ℚ) → MatchOrdering o ((q.num *ℤ pos r.den) <ℤ (r.num *ℤ pos q.den)) (q.num *ℤ pos r.den ≡ r.num *ℤ pos q.den) ((r.num *ℤ pos q.den) <ℤ (q.num *ℤ pos r.den)) → MatchOrdering o (q <ℚ r) (q ≡ r) (r <ℚ q)
ranks_of Less q r m = record { lt = m }
ranks_of Equal q r m = equal_from_cross q r m
ranks_of Greater q r m = record { lt = m }

-- a comparison says which of the three holds
pub cmp_ranks : (q r : ℚ) → MatchOrdering (cmp_ℚ q r) (q <ℚ r) (q ≡ r) (r <ℚ q)
unfolding cmp_ℚ
cmp_ranks q r = ranks_of (int_cmp (q.num *ℤ pos r.den) (r.num *ℤ pos q.den)) q r (int_ranks (q.num *ℤ pos r.den) (r.num *ℤ pos q.den))

from_less : (o : Ordering) (A B C : Type 0) → MatchOrdering o A B C → o ≡ Less → A
from_less Less A B C m e = m
from_less Equal A B C m e = cc
from_less Greater A B C m e = cc

from_equal : (o : Ordering) (A B C : Type 0) → MatchOrdering o A B C → o ≡ Equal → B
from_equal Less A B C m e = cc
from_equal Equal A B C m e = m
from_equal Greater A B C m e = cc

pub lt_is_less : (q r : ℚ) → q <ℚ r → cmp_ℚ q r ≡ Less
unfolding cmp_ℚ
lt_is_less q r h = sym (int_cmp_is (q.num *ℤ pos r.den) (r.num *ℤ pos q.den) Less h.lt)

cmp_turned : (q r : ℚ) → cmp_ℚ q r ≡ ordering_reverse (cmp_ℚ r q)
unfolding cmp_ℚ
cmp_turned q r = int_cmp_total.antisymm (q.num *ℤ pos r.den) (r.num *ℤ pos q.den)

-- the law that `Ord` asks for
pub cmp_total : IsTotalOrder cmp_ℚ
cmp_total = record {
  antisymm = cmp_turned;
  trans = λ q r s h k. lt_is_less q s (lt_trans q r s (from_less (cmp_ℚ q r) (q <ℚ r) (q ≡ r) (r <ℚ q) (cmp_ranks q r) h) (from_less (cmp_ℚ r s) (r <ℚ s) (r ≡ s) (s <ℚ r) (cmp_ranks r s) k));
  congr = λ q r s h. ap (λ x. cmp_ℚ x s) (from_equal (cmp_ℚ q r) (q <ℚ r) (q ≡ r) (r <ℚ q) (cmp_ranks q r) h);
}

both_parts : (q r : ℚ) (b : Bool) → (q ≡ r → b ≡ true) → (b ≡ true → q ≡ r) → b ≡ eq_by_cmp cmp_ℚ q r
both_parts q r b f g = go (cmp_ℚ q r) b (cmp_ranks q r) f g
  where
    go : (o : Ordering) (b : Bool) → MatchOrdering o (q <ℚ r) (q ≡ r) (r <ℚ q) → (q ≡ r → b ≡ true) → (b ≡ true → q ≡ r) → b ≡ is_eq o
    go Less true m f g = absurd (lt_irrefl r (subst (λ z. z <ℚ r) (g refl) m))
    go Less false m f g = refl
    go Equal b m f g = f m
    go Greater true m f g = absurd (lt_irrefl r (subst (λ z. r <ℚ z) (g refl) m))
    go Greater false m f g = refl

ties_true : (q r : ℚ) → (int_eq q.num r.num && nat_eq q.den r.den) ≡ true → q ≡ r
ties_true q r e = equal_from_cross q r (ap₂ (λ x (d : ℕ). x *ℤ pos d) (and_parts e).0 (sym (and_parts e).1))
  where
    and_parts : (int_eq q.num r.num && nat_eq q.den r.den) ≡ true → (q.num ≡ r.num) × (q.den ≡ r.den)
    and_parts e = grind (arith, nat_tests)

-- what the derived `==` says is what `cmp` says
pub cmp_ties : (q r : ℚ) → (int_eq q.num r.num && nat_eq q.den r.den) ≡ eq_by_cmp cmp_ℚ q r
cmp_ties q r = both_parts q r (int_eq q.num r.num && nat_eq q.den r.den) (λ e. subst (λ (x : ℚ). (int_eq q.num x.num && nat_eq q.den x.den) ≡ true) e (itself q.num q.den)) (ties_true q r)
  where
    itself : (x : ℤ) (d : ℕ) → (int_eq x x && nat_eq d d) ≡ true
    itself x d = grind (arith, nat_tests)
