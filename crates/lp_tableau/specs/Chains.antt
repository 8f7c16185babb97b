-- Believed: the chain of dictionaries that two rules of least numbers make (Bland 1977), which pivot is next, and where the chain ends.
use Rattle.std.specs.Prelude.{◌≡◌, ℕ, zero, suc, ◌<◌, length, ◌⊎◌}
use Rattle.rational.specs.Lists.{at}
use Rattle.rational.specs.Rational.{ℚ, zeroℚ, ◌*ℚ◌, neg_ℚ, inverse, ◌<ℚ◌}
use Rattle.exact_lin.specs.Reckoning.{CanMultiply}
use Rattle.lp_tableau.specs.Places.{IsFirst, NonePasses, IsLesser}
use Rattle.lp_tableau.specs.Dictionaries.{Dictionary, constant_of, entry_of}
use Rattle.lp_tableau.specs.Pivots.{pivoted, CanPivot}

-- ---- the first rule: where a constant is negative
abbrev pub IsNegative : Dictionary → ℕ → Type 0
IsNegative d i = constant_of d i <ℚ zeroℚ

-- the basic variable of least number with a negative constant
abbrev pub LeavesFirst : Dictionary → ℕ → Type 0
LeavesFirst d i = IsFirst (IsNegative d) (IsLesser d.basic) (length d.rows) i

abbrev pub IsRaising : Dictionary → ℕ → ℕ → Type 0
IsRaising d i j = zeroℚ <ℚ entry_of d i j

-- the nonbasic variable of least number with a positive entry in the row
abbrev pub EntersRow : Dictionary → ℕ → ℕ → Type 0
EntersRow d i j = IsFirst (IsRaising d i) (IsLesser d.nonbasic) (length d.nonbasic) j

-- ---- the second rule: where no constant is negative
abbrev pub IsFeasible : Dictionary → Type 0
IsFeasible d = NonePasses (IsNegative d) (length d.rows)

abbrev pub IsCheaper : Dictionary → ℕ → Type 0
IsCheaper d j = at d.cost j <ℚ zeroℚ

-- the nonbasic variable of least number with a negative entry in the cost
abbrev pub EntersCost : Dictionary → ℕ → Type 0
EntersCost d j = IsFirst (IsCheaper d) (IsLesser d.nonbasic) (length d.nonbasic) j

abbrev pub IsFalling : Dictionary → ℕ → ℕ → Type 0
IsFalling d j i = entry_of d i j <ℚ zeroℚ

-- how far the entering variable can rise before the basic variable reaches 0: its constant over minus its entry
abbrev pub ratio_of : Dictionary → ℕ → ℕ → ℚ
ratio_of d j i = constant_of d i *ℚ inverse (neg_ℚ (entry_of d i j))

-- the lesser ratio, or with the same ratio the lesser number
abbrev pub IsTighter : Dictionary → ℕ → ℕ → ℕ → Type 0
IsTighter d j i k = (ratio_of d j i <ℚ ratio_of d j k) ⊎ ((ratio_of d j i ≡ ratio_of d j k) × IsLesser d.basic i k)

-- among the basic variables with a negative entry in the column, the one of least ratio, and of these the one of least number
abbrev pub LeavesTightest : Dictionary → ℕ → ℕ → Type 0
LeavesTightest d j i = IsFirst (IsFalling d j) (IsTighter d j) (length d.rows) i

-- the ratio is defined within the limit
abbrev pub CanRatio : ℕ → Dictionary → ℕ → ℕ → Type 0
CanRatio limit d j i = CanMultiply limit (constant_of d i) (inverse (neg_ℚ (entry_of d i j)))

-- each ratio of the column is
abbrev pub CanCompare : ℕ → Dictionary → ℕ → Type 0
CanCompare limit d j = (i : ℕ) → i < length d.rows → IsFalling d j i → CanRatio limit d j i

-- ---- one turn
-- a constant is negative, and no entry in its row is positive
pub record EndsInfeasible (d : Dictionary) (i : ℕ) : Type 0 where
  pub leaves : LeavesFirst d i
  pub stuck : NonePasses (IsRaising d i) (length d.nonbasic)

-- no constant is negative, and no entry of the cost is
pub record EndsOptimal (d : Dictionary) : Type 0 where
  pub feasible : IsFeasible d
  pub cheapest : NonePasses (IsCheaper d) (length d.nonbasic)

-- by the first rule the variable at i leaves and the one at j enters
pub record PivotsFirst (d : Dictionary) (i j : ℕ) : Type 0 where
  pub leaves : LeavesFirst d i
  pub enters : EntersRow d i j

-- by the second rule the variable at j enters
pub record EntersSecond (d : Dictionary) (j : ℕ) : Type 0 where
  pub feasible : IsFeasible d
  pub enters : EntersCost d j

-- no variable enters without a limit: some basic variable falls as it rises
abbrev pub NeverUnlimited : Dictionary → Type 0
NeverUnlimited d = (j : ℕ) → EntersSecond d j → ¬ NonePasses (IsFalling d j) (length d.rows)

-- by the second rule the variable at i leaves and the one at j enters
pub record PivotsSecond (d : Dictionary) (i j : ℕ) : Type 0 where
  pub enters : EntersSecond d j
  pub leaves : LeavesTightest d j i

-- the rules name this pivot, and what choosing it takes is defined
abbrev pub Chooses : ℕ → Dictionary → ℕ → ℕ → Type 0
Chooses limit d i j = PivotsFirst d i j ⊎ (PivotsSecond d i j × CanCompare limit d j)

-- the next pivot leads to the dictionary e, and all its reckoning is defined
pub record Steps (limit : ℕ) (d e : Dictionary) : Type 0 where
  pub leaving : ℕ
  pub entering : ℕ
  pub chosen : Chooses limit d leaving entering
  pub defined : CanPivot limit d leaving entering
  pub gives : e ≡ pivoted d leaving entering

-- the rules ask for a pivot, and one of its ratios, products or sums is not defined
abbrev pub IsUndefined : ℕ → Dictionary → Type 0
IsUndefined limit d =
    ((j : ℕ) × EntersSecond d j × ¬ CanCompare limit d j)
    ⊎ ((i : ℕ) × (j : ℕ) × Chooses limit d i j × ¬ CanPivot limit d i j)

-- ---- the chain
-- n pivots, each of them defined, lead from d to e
abbrev pub Leads : ℕ → Dictionary → ℕ → Dictionary → Type 0
Leads limit d zero e = e ≡ d
Leads limit d (suc n) e = (f : Dictionary) × Leads limit d n f × Steps limit f e

-- the chain has ended
abbrev pub HasEnded : Dictionary → Type 0
HasEnded d = EndsOptimal d ⊎ ((i : ℕ) × EndsInfeasible d i)
