-- Believed: the laws of the rational numbers that this crate claims, each a clause of a public function.
use Rattle.std.specs.Prelude.{◌≡◌, ◌≢◌, ◌↔◌, ℕ, ◌<◌, ◌⊎◌, List, ℤ, pos, ◌*ℤ◌}
use Rattle.std.specs.Ordering.{MatchOrdering}
use Rattle.rational.specs.Rational.{ℚ, ratio, zeroℚ, oneℚ, ◌+ℚ◌, ◌*ℚ◌, neg_ℚ, ◌-ℚ◌, inverse, ◌≤ℚ◌, ◌<ℚ◌, cmp_ℚ}
use Rattle.rational.specs.Lists.{dot, add_list, Nonneg}
use Rattle.rational.specs.Rows.{Row, sum_rows, Meets}
use Rattle.rational.specs.Segment.{along}

-- two fractions are one number exactly where they are equal when multiplied out
abbrev pub FractionsAreEqual : Type 0
FractionsAreEqual = (a : ℤ) (b : ℕ) (c : ℤ) (d : ℕ) → 0 < b → 0 < d → (ratio a b ≡ ratio c d) ↔ (a *ℤ pos d ≡ c *ℤ pos b)

-- each number is its own numerator over its own denominator
abbrev pub NumbersAreFractions : Type 0
NumbersAreFractions = (q : ℚ) → ratio q.num q.den ≡ q

-- ---- sums and products
-- three numbers have one sum, whichever two are added first
abbrev pub SumsAssociate : Type 0
SumsAssociate = (a b c : ℚ) → (a +ℚ b) +ℚ c ≡ a +ℚ (b +ℚ c)

-- a sum doesn't depend on the order of its parts
abbrev pub SumsCommute : Type 0
SumsCommute = (a b : ℚ) → a +ℚ b ≡ b +ℚ a

-- 0 adds nothing
abbrev pub ZeroIsNeutral : Type 0
ZeroIsNeutral = (a : ℚ) → zeroℚ +ℚ a ≡ a

-- a number and its negative sum to 0
abbrev pub NegativesCancel : Type 0
NegativesCancel = (a : ℚ) → a +ℚ neg_ℚ a ≡ zeroℚ

-- three numbers have one product, whichever two are multiplied first
abbrev pub ProductsAssociate : Type 0
ProductsAssociate = (a b c : ℚ) → (a *ℚ b) *ℚ c ≡ a *ℚ (b *ℚ c)

-- a product doesn't depend on the order of its factors
abbrev pub ProductsCommute : Type 0
ProductsCommute = (a b : ℚ) → a *ℚ b ≡ b *ℚ a

-- times 1 is the number itself
abbrev pub OneIsNeutral : Type 0
OneIsNeutral = (a : ℚ) → oneℚ *ℚ a ≡ a

-- a multiple of a sum is the sum of the multiples
abbrev pub ProductsDistribute : Type 0
ProductsDistribute = (a b c : ℚ) → a *ℚ (b +ℚ c) ≡ a *ℚ b +ℚ a *ℚ c

-- each number but 0 times its reciprocal is 1
abbrev pub InversesCancel : Type 0
InversesCancel = (a : ℚ) → a ≢ zeroℚ → a *ℚ inverse a ≡ oneℚ

-- 1 is not 0, so that there are at least two numbers
abbrev pub OneIsNotZero : Type 0
OneIsNotZero = oneℚ ≢ zeroℚ

-- ---- the order
-- of two numbers one is at most the other
abbrev pub OrderIsTotal : Type 0
OrderIsTotal = (a b : ℚ) → (a ≤ℚ b) ⊎ (b ≤ℚ a)

-- what is at most a number is at most whatever that number is at most
abbrev pub OrderIsTransitive : Type 0
OrderIsTransitive = (a b c : ℚ) → a ≤ℚ b → b ≤ℚ c → a ≤ℚ c

-- two numbers, each at most the other, are one
abbrev pub OrderIsAntisymmetric : Type 0
OrderIsAntisymmetric = (a b : ℚ) → a ≤ℚ b → b ≤ℚ a → a ≡ b

-- below is at most and not equal
abbrev pub BelowIsStrict : Type 0
BelowIsStrict = (a b : ℚ) → (a <ℚ b) ↔ ((a ≤ℚ b) × (a ≢ b))

-- a comparison says which of two numbers is below the other, or that they are equal
abbrev pub ComparisonsTell : Type 0
ComparisonsTell = (a b : ℚ) → MatchOrdering (cmp_ℚ a b) (a <ℚ b) (a ≡ b) (b <ℚ a)

-- where one part of a sum grows, the sum doesn't fall
abbrev pub SumsKeepOrder : Type 0
SumsKeepOrder = (a b c : ℚ) → a ≤ℚ b → (a +ℚ c) ≤ℚ (b +ℚ c)

-- the product of two numbers of at least 0 is at least 0
abbrev pub ProductsKeepSign : Type 0
ProductsKeepSign = (a b : ℚ) → zeroℚ ≤ℚ a → zeroℚ ≤ℚ b → zeroℚ ≤ℚ (a *ℚ b)

-- ---- linear functions: `along c m t` is c + m t
-- at least 0 at both ends, so at every rational number between them
abbrev pub EndsDecideBetween : Type 0
EndsDecideBetween = (c m lo hi : ℚ) → zeroℚ ≤ℚ along c m lo → zeroℚ ≤ℚ along c m hi → (t : ℚ) → lo ≤ℚ t → t ≤ℚ hi → zeroℚ ≤ℚ along c m t

-- at least 0 at every rational number strictly between two different ends, so at both ends
abbrev pub BetweenDecidesEnds : Type 0
BetweenDecidesEnds = (c m lo hi : ℚ) → lo <ℚ hi → ((t : ℚ) → lo <ℚ t → t <ℚ hi → zeroℚ ≤ℚ along c m t) → (zeroℚ ≤ℚ along c m lo) × (zeroℚ ≤ℚ along c m hi)

-- ---- rows `A x ≤ b` with multipliers y ≥ 0; the rows' sum is `y A ≤ y b`
-- where y A is at least 0 and y b below 0, no x ≥ 0 meets the rows (Farkas, the easy direction)
abbrev pub FarkasRefutes : Type 0
FarkasRefutes = (y : List ℚ) (rows : List Row) → Nonneg y → Nonneg (sum_rows y rows).factors → (sum_rows y rows).bound <ℚ zeroℚ
    → (x : List ℚ) → Nonneg x → ¬ (Meets x rows)

-- where c + y A is at least 0, each x ≥ 0 that meets the rows costs at least base - y b (weak duality)
abbrev pub DualBounds : Type 0
DualBounds = (base : ℚ) (c y : List ℚ) (rows : List Row) → Nonneg y → Nonneg (add_list c (sum_rows y rows).factors)
    → (x : List ℚ) → Nonneg x → Meets x rows → (base -ℚ (sum_rows y rows).bound) ≤ℚ (base +ℚ dot c x)
