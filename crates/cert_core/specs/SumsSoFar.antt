-- Private: the sums of all columns in room of the caller's, each a number or None where it isn't defined.
use Rattle.std.specs.Prelude.{◌≡◌, ℕ, ◌<◌, Option, Some, None, List, [], ◌∷◌, length, get_or}
use Rattle.rational.specs.Rational.{ℚ, zeroℚ, ◌+ℚ◌, ◌*ℚ◌, ◌≤ℚ◌}
use Rattle.basics.specs.Duties.{Duty}
use Rattle.exact_lin.specs.Reckoning.{Fits}
use Rattle.exact_lin.specs.Reckonings.{AreDefined, product_sum, product_sums, sum_of_products}
use Rattle.cert_core.specs.declared.program.CertFault.{CertFault}
use Rattle.cert_core.specs.declared.program.CertFault.TheVariants.{Column, Wide}
use Rattle.cert_core.specs.declared.claim.Claim.{Claim}
use Rattle.cert_core.specs.Programs.{Program}
use Rattle.cert_core.specs.Checks.{column_start, column_terms}

-- the sum at a place; None past the end
abbrev pub sum_at : {S : Type 0} → List (Option S) → ℕ → Option S
sum_at sums k = get_or sums k None

module _ {S : Type 0} (value : S → ℚ) (limit : ℕ) where
  -- a sum that is there keeps to the limit
  abbrev pub FitsIfThere : Option S → Type 0
  FitsIfThere None = Unit {0}
  FitsIfThere (Some s) = Fits limit (value s)

  abbrev pub AllFit : List (Option S) → Type 0
  AllFit sums = (k : ℕ) → k < length sums → FitsIfThere (sum_at sums k)

  -- what y a makes of a sum
  abbrev pub IsAdded : ℚ → ℚ → Option S → Option S → Type 0
  IsAdded y a None now = now ≡ None
  IsAdded y a (Some s) None = ¬ AreDefined limit (product_sum (value s) y a)
  IsAdded y a (Some s) (Some now) = AreDefined limit (product_sum (value s) y a) × (value now ≡ value s +ℚ y *ℚ a)

  -- what y times the numbers of a row makes of all sums
  pub record AreAdded (y : ℚ) (row : ℕ → ℚ) (sums now : List (Option S)) : Type 0 where
    pub same_length : length now ≡ length sums
    pub each : (k : ℕ) → k < length sums → IsAdded y (row k) (sum_at sums k) (sum_at now k)

  -- the sum from `start` of these products
  abbrev pub IsSum : ℚ → List (ℚ × ℚ) → Option S → Type 0
  IsSum start terms None = ¬ AreDefined limit (product_sums start terms)
  IsSum start terms (Some s) = AreDefined limit (product_sums start terms) × (value s ≡ sum_of_products start terms) × Fits limit (value s)

  -- the sums of the columns under these multipliers
  pub record AreSums (p : Program) (claim : Claim ℚ) (ys : List (ℕ × ℚ)) (sums : List (Option S)) : Type 0 where
    pub one_each : length sums ≡ length p.costs
    pub each : (v : ℕ) → v < length p.costs → IsSum (column_start p claim v) (column_terms p ys v) (sum_at sums v)

-- the sum is defined and at least 0
abbrev pub sum_duties : ℕ → ℚ → List (ℚ × ℚ) → ℕ → List (Duty (CertFault ℕ ℕ))
sum_duties limit start terms v =
    record { fault = Wide; Met = AreDefined limit (product_sums start terms) }
    ∷ record { fault = Column v; Met = zeroℚ ≤ℚ sum_of_products start terms } ∷ []
