-- Believed: linear programs, among the points x ≥ 0 with A x ≤ b the least cost `base + c x`, and what proves that they have no solution or that each costs so much.
use Rattle.std.specs.Prelude.{◌≡◌, ℕ, ◌+◌, ◌<◌, ◌≤◌, List, [], ◌∷◌, length, map, slice_index_or}
use Rattle.std.specs.List.{AllByRecursion}
use Rattle.rational.specs.Rational.{ℚ, zeroℚ, ◌+ℚ◌, ◌-ℚ◌, ◌≤ℚ◌, ◌<ℚ◌}
use Rattle.rational.specs.Lists.{dot, add_list, Nonneg}
use Rattle.rational.specs.Rows.{Row, row_at, sum_rows, Meets}
use Rattle.exact_lin.specs.Forms.{Terms, AscendFrom, Covers, coefficient}

-- the rows `A x ≤ b`, the cost's factors c, one for each variable, and its constant
pub record Program : Type 0 where
  pub rows : List Row
  pub costs : List ℚ
  pub base : ℚ

-- each row has one factor for each variable
pub record IsEven (p : Program) : Type 0 where
  pub even : AllByRecursion (λ (r : Row). length r.factors ≡ length p.costs) p.rows

-- the entry of row r in the column of variable v
abbrev pub entry_of : Program → ℕ → ℕ → ℚ
entry_of p r v = slice_index_or (row_at p.rows r).factors v zeroℚ

abbrev pub bound_of : Program → ℕ → ℚ
bound_of p r = (row_at p.rows r).bound

abbrev pub cost_of : Program → ℕ → ℚ
cost_of p v = slice_index_or p.costs v zeroℚ

-- the terms tell row r: its variables ascend, no number is 0, and each entry is the coefficient of its variable
pub record TellsRow (p : Program) (r : ℕ) (terms : Terms) : Type 0 where
  pub ascends : AscendFrom 0 terms
  pub within : Covers (length p.costs) terms
  pub entries : (v : ℕ) → v < length p.costs → coefficient terms v ≡ entry_of p r v

-- x solves the program: one number of at least 0 for each variable, and each row is met
pub record Solves (p : Program) (x : List ℚ) : Type 0 where
  pub one_each : length x ≡ length p.costs
  pub nonneg : Nonneg x
  pub meets : Meets x p.rows

abbrev pub cost_at : Program → List ℚ → ℚ
cost_at p x = p.base +ℚ dot p.costs x

-- the rows that the pairs name
abbrev pub named_rows : List Row → List (ℕ × ℚ) → List Row
named_rows rows ys = map (λ y. row_at rows y.0) ys

-- the named rows, each times its multiplier, added up: `y A x ≤ y b`
unfoldable pub combination : List Row → List (ℕ × ℚ) → Row
combination rows ys = sum_rows (map (λ y. y.1) ys) (named_rows rows ys)

-- each named row is in range and above the one before, `least` being the least that may come
abbrev pub Ascends : ℕ → ℕ → List (ℕ × ℚ) → Type 0
Ascends count least [] = Unit {0}
Ascends count least (y ∷ ys) = ((least ≤ y.0) × (y.0 < count)) × Ascends count (y.0 + 1) ys

-- what both kinds of certificate ask of their multipliers: rows in range, ascending, none below 0
pub record AreMultipliers (p : Program) (ys : List (ℕ × ℚ)) : Type 0 where
  pub ascending : Ascends (length p.rows) 0 ys
  pub nonneg : AllByRecursion (λ (y : ℕ × ℚ). zeroℚ ≤ℚ y.1) ys

-- a Farkas row: multipliers y ≥ 0 with y A ≥ 0 and y b < 0, so that no point solves the program (Farkas 1902)
pub record ProvesEmpty (p : Program) (ys : List (ℕ × ℚ)) : Type 0 where
  pub multipliers : AreMultipliers p ys
  pub columns : Nonneg (combination p.rows ys).factors
  pub constant : (combination p.rows ys).bound <ℚ zeroℚ

-- a dual row: multipliers y ≥ 0 with c + y A ≥ 0 and base - y b ≥ q, so that each solution costs at least q (weak duality)
pub record ProvesCost (p : Program) (ys : List (ℕ × ℚ)) (q : ℚ) : Type 0 where
  pub multipliers : AreMultipliers p ys
  pub columns : Nonneg (add_list p.costs (combination p.rows ys).factors)
  pub constant : q ≤ℚ (p.base -ℚ (combination p.rows ys).bound)

-- no point solves the program
abbrev pub HasNoSolution : Program → Type 0
HasNoSolution p = (x : List ℚ) → Solves p x → ⊥

-- each solution costs at least q
abbrev pub CostsAtLeast : Program → ℚ → Type 0
CostsAtLeast p q = (x : List ℚ) → Solves p x → q ≤ℚ cost_at p x
