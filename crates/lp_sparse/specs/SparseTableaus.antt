-- Private: the dictionary that rows without their zeros stand for.
use Rattle.std.specs.Prelude.{◌≡◌, ℕ, ◌+◌, length, map}
use Rattle.std.specs.List.{All}
use Rattle.rational.specs.Rational.{ℚ}
use Rattle.lp_sparse.specs.declared.tableau.Tableau.{Tableau}
use Rattle.lp_tableau.specs.Dictionaries.{Dictionary}
use Rattle.lp_tableau.specs.Meanings.{IsDictionary}
use Rattle.lp_sparse.specs.SparseRows.{filled, terms_of, terms_of_rows, IsRow}
use Rattle.lp_sparse.specs.ColumnMarks.{marks_of, AreMarked}

-- an entry for each nonbasic variable, and the constant
abbrev pub width_of : {S : Type 0} → Tableau S → ℕ
width_of t = length t.nonbasic.items + 1

-- the dictionary in exact numbers
abbrev pub dictionary_of : {S : Type 0} → (S → ℚ) → Tableau S → Dictionary
dictionary_of value t = record {
  basic = t.basic.items;
  nonbasic = t.nonbasic.items;
  rows = map (filled (width_of t)) (terms_of_rows value t.rows.items);
  cost = filled (width_of t) (terms_of value t.cost.items);
}

-- the rows are those of so many numbers without their zeros, each number keeps to the limit, there is a row for each basic variable, and each row's columns are marked
pub record AreRows {S : Type 0} (value : S → ℚ) (limit : ℕ) (t : Tableau S) : Type 0 where
  pub rows : All (IsRow limit (width_of t)) (terms_of_rows value t.rows.items)
  pub cost : IsRow limit (width_of t) (terms_of value t.cost.items)
  pub basic : length t.basic.items ≡ length t.rows.items
  pub marked : AreMarked (marks_of t.marks.items) (terms_of_rows value t.rows.items)

-- the numbers are a dictionary
pub record IsSound {S : Type 0} (value : S → ℚ) (limit : ℕ) (t : Tableau S) : Type 0 where
  pub rows : AreRows value limit t
  pub dictionary : IsDictionary (dictionary_of value t)
