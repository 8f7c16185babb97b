-- What the tests on numbers say.
use Rattle.std.proofs.Common.{◌≡◌, refl, sym, ap, subst, Bool, true, false, not}
use Rattle.std.specs.declared.cmp.Ordering.{Ordering}
use Rattle.std.specs.declared.cmp.Ordering.TheVariants.{Less, Equal, Greater}
use Rattle.std.specs.Ordering.{MatchOrdering}
use Rattle.rational.specs.Rational.{ℚ, cmp_ℚ, ◌≤ℚ◌, ◌<ℚ◌}
use Rattle.rational.proofs.Comparisons.{cmp_ranks, lt_is_less}
use Rattle.rational.proofs.Order.{lt_irrefl, lt_le}
use Rattle.rational.proofs.Inequalities.{le_from_eq, lt_not_le}
use Rattle.task_types.specs.Tests.{is_less, is_equal, ◌<?◌, ◌≤?◌, ◌=?◌}

pub lt_out : (q r : ℚ) → (q <? r) ≡ true → q <ℚ r
lt_out q r = go (cmp_ℚ q r) (cmp_ranks q r)
  where
    go : (o : Ordering) → MatchOrdering o (q <ℚ r) (q ≡ r) (r <ℚ q) → is_less o ≡ true → q <ℚ r
    go Less m e = m
    go Equal m e = cc
    go Greater m e = cc

pub lt_in : (q r : ℚ) → q <ℚ r → (q <? r) ≡ true
lt_in q r h = ap is_less (lt_is_less q r h)

pub eq_le : (q r : ℚ) → q ≡ r → r ≤ℚ q
eq_le q r e = le_from_eq r q (sym e)

pub not_lt_out : (q r : ℚ) → (q <? r) ≡ false → r ≤ℚ q
not_lt_out q r = go (cmp_ℚ q r) (cmp_ranks q r)
  where
    go : (o : Ordering) → MatchOrdering o (q <ℚ r) (q ≡ r) (r <ℚ q) → is_less o ≡ false → r ≤ℚ q
    go Less m e = cc
    go Equal m e = eq_le q r m
    go Greater m e = lt_le r q m

pub lt_le_absurd : (q r : ℚ) → q <ℚ r → r ≤ℚ q → ⊥
lt_le_absurd q r h k = lt_not_le q r h k

pub not_lt_in : (q r : ℚ) → r ≤ℚ q → (q <? r) ≡ false
not_lt_in q r h = go (q <? r) refl
  where
    go : (b : Bool) → (q <? r) ≡ b → b ≡ false
    go true e = absurd (lt_le_absurd q r (lt_out q r e) h)
    go false e = refl

pub le_out : (q r : ℚ) → (q ≤? r) ≡ true → q ≤ℚ r
le_out q r e = not_lt_out r q (flip (r <? q) e)
  where
    flip : (b : Bool) → not b ≡ true → b ≡ false
    flip true e = sym e
    flip false e = refl

pub le_in : (q r : ℚ) → q ≤ℚ r → (q ≤? r) ≡ true
le_in q r h = ap not (not_lt_in r q h)

pub eq_out : (q r : ℚ) → (q =? r) ≡ true → q ≡ r
eq_out q r = go (cmp_ℚ q r) (cmp_ranks q r)
  where
    go : (o : Ordering) → MatchOrdering o (q <ℚ r) (q ≡ r) (r <ℚ q) → is_equal o ≡ true → q ≡ r
    go Less m e = cc
    go Equal m e = m
    go Greater m e = cc

pub eq_in : (q r : ℚ) → q ≡ r → (q =? r) ≡ true
eq_in q r h = go (cmp_ℚ q r) (cmp_ranks q r)
  where
    go : (o : Ordering) → MatchOrdering o (q <ℚ r) (q ≡ r) (r <ℚ q) → is_equal o ≡ true
    go Less m = absurd (lt_irrefl r (subst (λ x. x <ℚ r) h m))
    go Equal m = refl
    go Greater m = absurd (lt_irrefl r (subst (λ x. r <ℚ x) h m))

pub later_out : (q r : ℚ) → (q ≤? r) ≡ false → r <ℚ q
later_out q r e = lt_out r q (flip (r <? q) e)
  where
    flip : (b : Bool) → not b ≡ false → b ≡ true
    flip true e = refl
    flip false e = sym e
