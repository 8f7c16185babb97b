-- The lesser and the greater of two numbers are one of them.
use Rattle.std.proofs.Common.{◌≡◌, refl, sym, ⊎_elim, Less, Equal, Greater}
use Rattle.std.specs.Ordering.{MatchOrdering, match_ordering}
use Rattle.std.specs.declared.cmp.Ordering.{Ordering}
use Rattle.rational.specs.Rational.{ℚ, ◌≤ℚ◌, ◌<ℚ◌, cmp_ℚ}
use Rattle.rational.specs.Extremes.{min_ℚ, max_ℚ}
use Rattle.rational.proofs.Order.{le_or_gt, lt_le}
use Rattle.rational.proofs.Inequalities.{lt_not_le, le_from_eq, le_trans}
use Rattle.rational.proofs.Comparisons.{cmp_ranks}

pub min_left : (q r : ℚ) → q ≤ℚ r → min_ℚ q r ≡ q
unfolding min_ℚ
min_left q r h = go (cmp_ℚ q r) (cmp_ranks q r)
  where
    go : (o : Ordering) → MatchOrdering o (q <ℚ r) (q ≡ r) (r <ℚ q) → match_ordering o q q r ≡ q
    go Less m = refl
    go Equal m = refl
    go Greater m = absurd (lt_not_le r q m h)

pub min_right : (q r : ℚ) → r ≤ℚ q → min_ℚ q r ≡ r
unfolding min_ℚ
min_right q r h = go (cmp_ℚ q r) (cmp_ranks q r)
  where
    go : (o : Ordering) → MatchOrdering o (q <ℚ r) (q ≡ r) (r <ℚ q) → match_ordering o q q r ≡ r
    go Less m = absurd (lt_not_le q r m h)
    go Equal m = m
    go Greater m = refl

pub max_left : (q r : ℚ) → r ≤ℚ q → max_ℚ q r ≡ q
unfolding max_ℚ
max_left q r h = go (cmp_ℚ q r) (cmp_ranks q r)
  where
    go : (o : Ordering) → MatchOrdering o (q <ℚ r) (q ≡ r) (r <ℚ q) → match_ordering o r q q ≡ q
    go Less m = absurd (lt_not_le q r m h)
    go Equal m = refl
    go Greater m = refl

pub max_right : (q r : ℚ) → q ≤ℚ r → max_ℚ q r ≡ r
unfolding max_ℚ
max_right q r h = go (cmp_ℚ q r) (cmp_ranks q r)
  where
    go : (o : Ordering) → MatchOrdering o (q <ℚ r) (q ≡ r) (r <ℚ q) → match_ordering o r q q ≡ r
    go Less m = refl
    go Equal m = m
    go Greater m = absurd (lt_not_le r q m h)

pub min_le_left : (q r : ℚ) → min_ℚ q r ≤ℚ q
min_le_left q r = ⊎_elim (λ h. le_from_eq (min_ℚ q r) q (min_left q r h)) (λ h. le_trans (min_ℚ q r) r q (le_from_eq (min_ℚ q r) r (min_right q r (lt_le r q h))) (lt_le r q h)) (le_or_gt q r)

pub min_le_right : (q r : ℚ) → min_ℚ q r ≤ℚ r
min_le_right q r = ⊎_elim (λ h. le_trans (min_ℚ q r) q r (le_from_eq (min_ℚ q r) q (min_left q r h)) h) (λ h. le_from_eq (min_ℚ q r) r (min_right q r (lt_le r q h))) (le_or_gt q r)

pub max_le_left : (q r : ℚ) → q ≤ℚ max_ℚ q r
max_le_left q r = ⊎_elim (λ h. le_trans q r (max_ℚ q r) h (le_from_eq r (max_ℚ q r) (sym (max_right q r h)))) (λ h. le_from_eq q (max_ℚ q r) (sym (max_left q r (lt_le r q h)))) (le_or_gt q r)

pub max_le_right : (q r : ℚ) → r ≤ℚ max_ℚ q r
max_le_right q r = ⊎_elim (λ h. le_from_eq r (max_ℚ q r) (sym (max_right q r h))) (λ h. le_trans r q (max_ℚ q r) (lt_le r q h) (le_from_eq q (max_ℚ q r) (sym (max_left q r (lt_le r q h))))) (le_or_gt q r)
