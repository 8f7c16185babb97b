-- Believed: programs with terms to decide, preferences and costs of times, each to be met or paid for.
use Rattle.std.specs.Prelude.{◌≡◌, ℕ, ◌-◌, ◌<◌, ◌≤◌, Option, Some, None, List, length, slice_index_or, slice_set}
use Rattle.std.specs.List.{AllByRecursion}
use Rattle.rational.specs.Rational.{ℚ, zeroℚ, ◌≤ℚ◌}
use Rattle.rational.specs.Rows.{Row, row_at}
use Rattle.cert_core.specs.Programs.{Program, IsEven, Solves, cost_at}

-- the row is one of the rows
abbrev pub Among : Row → List Row → Type 0
Among r rows = (i : ℕ) × ((i < length rows) × (row_at rows i ≡ r))

-- for each term the way in which it is decided, or None
abbrev pub Decisions : Type 0
Decisions = List (Option ℕ)

pub record SoftProgram : Type 1 where
  -- for each term, in how many ways it can be decided
  pub ways : List ℕ
  pub costs : List ℚ
  -- the rows, and the cost's constant, under decisions
  pub rows : Decisions → List Row
  pub base : Decisions → ℚ
  -- the sum that makes up the base is defined
  pub CanReckonBase : Decisions → Type 0
  -- the term costs nothing at the point, whatever it is decided
  pub IsFree : List ℚ → ℕ → Type 0
  -- the reckoning that tells so is defined
  pub CanTellFree : List ℚ → ℕ → Type 0

abbrev pub ways_of : SoftProgram → ℕ → ℕ
ways_of p t = slice_index_or p.ways t 0

-- the cost's factor of variable v, whatever is decided
abbrev pub factor_of : SoftProgram → ℕ → ℚ
factor_of p v = slice_index_or p.costs v zeroℚ

abbrev pub decision_of : Decisions → ℕ → Option ℕ
decision_of made t = slice_index_or made t None

-- one entry for each term, and each way that is there is one of its term's
pub record AreDecisions (p : SoftProgram) (made : Decisions) : Type 0 where
  pub one_each : length made ≡ length p.ways
  pub in_range : (t w : ℕ) → decision_of made t ≡ Some w → w < ways_of p t

-- the same decisions with term t decided in way w
abbrev pub decide : Decisions → ℕ → ℕ → Decisions
decide made t w = slice_set made t (Some w)

-- the program under decisions
abbrev pub program_under : SoftProgram → Decisions → Program
program_under p made = record { rows = p.rows made; costs = p.costs; base = p.base made }

-- what is decided is decided the same way with more decisions
abbrev pub IsMore : Decisions → Decisions → Type 0
IsMore made more = (t w : ℕ) → decision_of made t ≡ Some w → decision_of more t ≡ Some w

abbrev pub IsComplete : SoftProgram → Decisions → Type 0
IsComplete p made = (t : ℕ) → t < length p.ways → (w : ℕ) × (decision_of made t ≡ Some w)

-- what every program with terms keeps to
pub record IsLawful (p : SoftProgram) : Type 0 where
  pub two_ways : AllByRecursion (λ n. 2 ≤ n) p.ways
  pub even : (made : Decisions) → AreDecisions p made → IsEven (program_under p made)
  -- each row under fewer decisions is a row under more
  pub rows_grow : (made more : Decisions) → AreDecisions p made → AreDecisions p more → IsMore made more → (r : Row) → Among r (p.rows made) → Among r (p.rows more)
  -- a decision never lowers the base
  pub base_grows : (made more : Decisions) → AreDecisions p made → AreDecisions p more → IsMore made more → p.base made ≤ℚ p.base more
  -- the last way of an undecided term leaves the rows as they were
  pub last_way : (made : Decisions) (t : ℕ) → AreDecisions p made → t < length p.ways → decision_of made t ≡ None → p.rows (decide made t (ways_of p t - 1)) ≡ p.rows made
  -- where an undecided term is free at a solution, some way of it leaves that point a solution and the base as it was
  pub free_stays : (made : Decisions) (t : ℕ) (x : List ℚ) → AreDecisions p made → t < length p.ways → decision_of made t ≡ None → Solves (program_under p made) x → p.IsFree x t
      → (w : ℕ) × ((w < ways_of p t) × (Solves (program_under p (decide made t w)) x) × (p.base (decide made t w) ≡ p.base made))

-- every solution under every complete list of decisions costs at least q
abbrev pub AlwaysCosts : SoftProgram → ℚ → Type 0
AlwaysCosts p q = (made : Decisions) → AreDecisions p made → IsComplete p made → (x : List ℚ) → Solves (program_under p made) x → q ≤ℚ cost_at (program_under p made) x

-- no term is decided yet
pub record AreUndecided (p : SoftProgram) (made : Decisions) : Type 0 where
  pub one_each : length made ≡ length p.ways
  pub none : (t : ℕ) → decision_of made t ≡ None
