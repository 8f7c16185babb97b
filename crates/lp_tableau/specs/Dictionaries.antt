-- Believed: dictionaries of a linear program (Chvátal 1983), each basic variable and the cost as a linear function of the nonbasic variables.
use Rattle.std.specs.Prelude.{◌≡◌, ℕ, ◌+◌, List, [], ◌∷◌, ◌++◌, length, map, slice_index_or}
use Rattle.rational.specs.Lists.{at}
use Rattle.std.specs.List.{All, range_with_len}
use Rattle.rational.specs.Rational.{ℚ, neg_ℚ}
use Rattle.rational.specs.Rows.{Row}
use Rattle.cert_core.specs.Programs.{Program}
use Rattle.lp_tableau.specs.Places.{variable_at}

-- the variables' numbers, a row for each basic variable and the row of the cost; a row holds the entries of the nonbasic variables, in their order, and at the end its constant
pub record Dictionary : Type 0 where
  pub basic : List ℕ
  pub nonbasic : List ℕ
  pub rows : List (List ℚ)
  pub cost : List ℚ

-- the row at a place
abbrev pub row_in : List (List ℚ) → ℕ → List ℚ
row_in rows i = slice_index_or rows i []

abbrev pub row_of : Dictionary → ℕ → List ℚ
row_of d i = row_in d.rows i

-- the constant of a basic variable
abbrev pub constant_of : Dictionary → ℕ → ℚ
constant_of d i = at (row_of d i) (length d.nonbasic)

-- the entry of a basic variable in the column of a nonbasic one
abbrev pub entry_of : Dictionary → ℕ → ℕ → ℚ
entry_of d i j = at (row_of d i) j

-- the number of the basic variable, and of the nonbasic variable, at a place
abbrev pub basic_of : Dictionary → ℕ → ℕ
basic_of d i = variable_at d.basic i

abbrev pub nonbasic_of : Dictionary → ℕ → ℕ
nonbasic_of d j = variable_at d.nonbasic j

-- the cost where each nonbasic variable is 0
abbrev pub value_of : Dictionary → ℚ
value_of d = at d.cost (length d.nonbasic)

-- each row has an entry for each nonbasic variable, and a constant
pub record IsEven (d : Dictionary) : Type 0 where
  pub rows : All (λ (row : List ℚ). length row ≡ length d.nonbasic + 1) d.rows
  pub cost : length d.cost ≡ length d.nonbasic + 1
  pub basic : length d.basic ≡ length d.rows

-- a row of the program as a row of its slack: the bound less the row's factors times the variables
abbrev pub slack_row : Row → List ℚ
slack_row r = map neg_ℚ r.factors ++ r.bound ∷ []

-- the first dictionary of a program: its variables have the numbers from 0 on and are nonbasic; then come the slacks of its rows, which are basic
abbrev pub initial : Program → Dictionary
initial p = record {
  basic = range_with_len (length p.costs) (length p.rows);
  nonbasic = range_with_len 0 (length p.costs);
  rows = map slack_row p.rows;
  cost = p.costs ++ p.base ∷ [];
}
