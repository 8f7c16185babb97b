-- Believed: what the check of a certificate asks, in order, and the faults that it names.
use Rattle.std.specs.Prelude.{ℕ, suc, zero, ◌+◌, ◌<◌, ◌≤◌, List, [], ◌∷◌, ◌++◌, length, map}
use Rattle.rational.specs.Rational.{ℚ, zeroℚ, neg_ℚ, ◌≤ℚ◌, ◌<ℚ◌}
use Rattle.cert_core.specs.declared.program.CertFault.{CertFault}
use Rattle.cert_core.specs.declared.program.CertFault.TheVariants.{Negative, Column, Constant, Bound, Range, Wide}
use Rattle.cert_core.specs.declared.claim.Claim.{Claim}
use Rattle.cert_core.specs.declared.claim.Claim.TheVariants.{Empty, AtLeast}
use Rattle.cert_core.specs.Programs.{Program, entry_of, bound_of, cost_of, ProvesEmpty, ProvesCost}
use Rattle.exact_lin.specs.Reckonings.{sum_of_products, AreDefined, product_sums}
use Rattle.basics.specs.Duties.{Duty}

-- the multipliers prove the claim of the program: that it has no solution, or that each costs at least so much
abbrev pub Proves : Program → Claim ℚ → List (ℕ × ℚ) → Type 0
Proves p Empty ys = ProvesEmpty p ys
Proves p (AtLeast q) ys = ProvesCost p ys q

-- a claim in exact numbers
abbrev pub claim_of : {S : Type 0} → (S → ℚ) → Claim S → Claim ℚ
claim_of value Empty = Empty
claim_of value (AtLeast q) = AtLeast (value q)

-- where the sum of a column begins: the cost's factor, where there is a cost
abbrev pub column_start : Program → Claim ℚ → ℕ → ℚ
column_start p Empty v = zeroℚ
column_start p (AtLeast q) v = cost_of p v

-- each multiplier with its row's entry in the column
abbrev pub column_terms : Program → List (ℕ × ℚ) → ℕ → List (ℚ × ℚ)
column_terms p ys v = map (λ y. (y.1, entry_of p y.0 v)) ys

-- each multiplier with its row's bound, the bounds negated where they are taken off the base
abbrev pub constant_start : Program → Claim ℚ → ℚ
constant_start p Empty = zeroℚ
constant_start p (AtLeast q) = p.base

abbrev pub signed_bound : Program → Claim ℚ → ℕ → ℚ
signed_bound p Empty r = bound_of p r
signed_bound p (AtLeast q) r = neg_ℚ (bound_of p r)

abbrev pub constant_terms : Program → Claim ℚ → List (ℕ × ℚ) → List (ℚ × ℚ)
constant_terms p claim ys = map (λ y. (y.1, signed_bound p claim y.0)) ys

-- the sum of column v, and of the constant
abbrev pub column_sum : Program → Claim ℚ → List (ℕ × ℚ) → ℕ → ℚ
column_sum p claim ys v = sum_of_products (column_start p claim v) (column_terms p ys v)

abbrev pub constant_sum : Program → Claim ℚ → List (ℕ × ℚ) → ℚ
constant_sum p claim ys = sum_of_products (constant_start p claim) (constant_terms p claim ys)

-- each row is in range and above the one before; the fault names the row
abbrev pub range_duties : ℕ → ℕ → List (ℕ × ℚ) → List (Duty (CertFault ℕ ℕ))
range_duties count least [] = []
range_duties count least (y ∷ ys) = record { fault = Range y.0; Met = (least ≤ y.0) × (y.0 < count) } ∷ range_duties count (y.0 + 1) ys

abbrev pub sign_duties : List (ℕ × ℚ) → List (Duty (CertFault ℕ ℕ))
sign_duties ys = map (λ y. record { fault = Negative y.0; Met = zeroℚ ≤ℚ y.1 }) ys

-- the column's sum is defined and at least 0
abbrev pub column_duties : ℕ → Program → Claim ℚ → List (ℕ × ℚ) → ℕ → List (Duty (CertFault ℕ ℕ))
column_duties limit p claim ys v =
    record { fault = Wide; Met = AreDefined limit (product_sums (column_start p claim v) (column_terms p ys v)) }
    ∷ record { fault = Column v; Met = zeroℚ ≤ℚ column_sum p claim ys v } ∷ []

-- the n columns from variable v on, in ascending order
abbrev pub columns_duties : ℕ → Program → Claim ℚ → List (ℕ × ℚ) → ℕ → ℕ → List (Duty (CertFault ℕ ℕ))
columns_duties limit p claim ys v zero = []
columns_duties limit p claim ys v (suc n) = column_duties limit p claim ys v ++ columns_duties limit p claim ys (v + 1) n

-- the constant's sum is defined, and below 0 or at least the claimed cost
abbrev pub constant_duty : Program → Claim ℚ → List (ℕ × ℚ) → Duty (CertFault ℕ ℕ)
constant_duty p Empty ys = record { fault = Constant; Met = constant_sum p Empty ys <ℚ zeroℚ }
constant_duty p (AtLeast q) ys = record { fault = Bound; Met = q ≤ℚ constant_sum p (AtLeast q) ys }

abbrev pub constant_duties : ℕ → Program → Claim ℚ → List (ℕ × ℚ) → List (Duty (CertFault ℕ ℕ))
constant_duties limit p claim ys =
    record { fault = Wide; Met = AreDefined limit (product_sums (constant_start p claim) (constant_terms p claim ys)) }
    ∷ constant_duty p claim ys ∷ []

-- all that a check asks: rows, signs, columns in ascending order, then the constant
unfoldable pub duties : ℕ → Program → Claim ℚ → List (ℕ × ℚ) → List (Duty (CertFault ℕ ℕ))
duties limit p claim ys =
    range_duties (length p.rows) 0 ys
    ++ (sign_duties ys
    ++ (columns_duties limit p claim ys 0 (length p.costs)
    ++ constant_duties limit p claim ys))

-- each sum that the check reckons is defined within the limit
pub record AreReckoned (limit : ℕ) (p : Program) (claim : Claim ℚ) (ys : List (ℕ × ℚ)) : Type 0 where
  pub columns : (v : ℕ) → v < length p.costs → AreDefined limit (product_sums (column_start p claim v) (column_terms p ys v))
  pub constant : AreDefined limit (product_sums (constant_start p claim) (constant_terms p claim ys))
