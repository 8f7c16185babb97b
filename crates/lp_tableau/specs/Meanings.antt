-- Believed: what a dictionary says, as equations that each point can meet or not, and when it stands for a program.
use Rattle.std.specs.Prelude.{◌≡◌, ℕ, ◌+◌, ◌<◌, ◌↔◌, List, [], ◌∷◌, ◌++◌, length, map}
use Rattle.rational.specs.Rational.{ℚ, zeroℚ, oneℚ, ◌≤ℚ◌}
use Rattle.rational.specs.Lists.{dot}
use Rattle.cert_core.specs.Programs.{Program}
use Rattle.cert_core.specs.Programs.{IsEven as IsEvenProgram}
use Rattle.lp_tableau.specs.Dictionaries.{Dictionary, IsEven, initial, row_of, basic_of, nonbasic_of}

-- the nonbasic variables' values, and 1 for the constant
abbrev pub values_of : Dictionary → (ℕ → ℚ) → List ℚ
values_of d x = map x d.nonbasic ++ oneℚ ∷ []

-- where each variable v has the value x v, each basic variable is what its row says, and the cost z is what its row says
pub record Holds (d : Dictionary) (x : ℕ → ℚ) (z : ℚ) : Type 0 where
  pub rows : (i : ℕ) → i < length d.rows → x (basic_of d i) ≡ dot (row_of d i) (values_of d x)
  pub cost : z ≡ dot d.cost (values_of d x)

-- each value is at least 0
abbrev pub IsNonneg : (ℕ → ℚ) → Type 0
IsNonneg x = (v : ℕ) → zeroℚ ≤ℚ x v

-- each variable is basic once or nonbasic once, and there are no others than the program's variables and slacks
pub record AreNumbered (d : Dictionary) : Type 0 where
  pub basic : (i k : ℕ) → i < length d.rows → k < length d.rows → basic_of d i ≡ basic_of d k → i ≡ k
  pub nonbasic : (j k : ℕ) → j < length d.nonbasic → k < length d.nonbasic → nonbasic_of d j ≡ nonbasic_of d k → j ≡ k
  pub apart : (i j : ℕ) → i < length d.rows → j < length d.nonbasic → ¬ (basic_of d i ≡ nonbasic_of d j)
  pub basic_range : (i : ℕ) → i < length d.rows → basic_of d i < length d.nonbasic + length d.rows
  pub nonbasic_range : (j : ℕ) → j < length d.nonbasic → nonbasic_of d j < length d.nonbasic + length d.rows

-- the cost has a bound below
abbrev pub IsLimited : Dictionary → Type 0
IsLimited d = (q : ℚ) × ((x : ℕ → ℚ) (z : ℚ) → Holds d x z → IsNonneg x → q ≤ℚ z)

-- what is true of each dictionary
pub record IsDictionary (d : Dictionary) : Type 0 where
  pub even : IsEven d
  pub numbered : AreNumbered d
  pub limited : IsLimited d

-- the dictionary says of the program's variables, its slacks and its cost what the program says: it has the same solutions
pub record StandsFor (p : Program) (d : Dictionary) : Type 0 where
  pub even : IsEvenProgram p
  pub variables : length d.nonbasic ≡ length p.costs
  pub rows : length d.rows ≡ length p.rows
  pub solutions : (x : ℕ → ℚ) (z : ℚ) → Holds d x z ↔ Holds (initial p) x z
