-- Private: the dictionary that the numbers of the code stand for, and the room that a pivot has.
use Rattle.std.specs.Prelude.{◌≡◌, ℕ, ◌+◌, ◌<◌, length, map}
use Rattle.rational.specs.Rational.{ℚ}
use Rattle.lp_tableau.specs.declared.tableau.Tableau.{Tableau}
use Rattle.lp_tableau.specs.declared.pivot.Room.{Room}
use Rattle.lp_tableau.specs.Dictionaries.{Dictionary, row_of}
use Rattle.lp_tableau.specs.Meanings.{IsDictionary}
use Rattle.lp_tableau.specs.RowLists.{shown_rows, HaveWidth, RowsFit, AreReady}
use Rattle.lp_tableau.specs.Pivots.{pivoted, solved, CanPivot}

-- the dictionary in exact numbers
abbrev pub dictionary_of : {S : Type 0} → (S → ℚ) → Tableau S → Dictionary
dictionary_of value t = record { basic = t.basic.items; nonbasic = t.nonbasic.items; rows = shown_rows value t.rows.items; cost = map value t.cost.items }

-- each row has an entry for each nonbasic variable and a constant, and there is a row for each basic variable
pub record AreEven {S : Type 0} (t : Tableau S) : Type 0 where
  pub rows : HaveWidth (length t.nonbasic.items + 1) t.rows.items
  pub cost : length t.cost.items ≡ length t.nonbasic.items + 1
  pub basic : length t.basic.items ≡ length t.rows.items

-- there is room for the solved row, for the cost after a pivot, and for one row or more
pub record IsRoomFor {S : Type 0} (t : Tableau S) (room : Room S) : Type 0 where
  pub solution : length room.solution.items ≡ length t.nonbasic.items + 1
  pub some : 0 < length room.rows.items
  pub rows : HaveWidth (length t.nonbasic.items + 1) room.rows.items
  pub cost : length room.cost.items ≡ length t.nonbasic.items + 1

-- the pivot is defined, and the room holds what it needs of it: the solved row, the cost, and the rows that are ready
pub record IsReckoned {S : Type 0} (value : S → ℚ) (limit : ℕ) (t : Tableau S) (room : Room S) (i j : ℕ) : Type 0 where
  pub defined : CanPivot limit (dictionary_of value t) i j
  pub solution : map value room.solution.items ≡ solved (row_of (dictionary_of value t) i) j
  pub rows : AreReady (map value room.solution.items) i j (shown_rows value t.rows.items) (shown_rows value room.rows.items)
  pub cost : map value room.cost.items ≡ (pivoted (dictionary_of value t) i j).cost

-- the numbers are a dictionary, each of them keeps to the limit, and there is room beside them
pub record IsSound {S : Type 0} (value : S → ℚ) (limit : ℕ) (t : Tableau S) (spare : Room S) : Type 0 where
  pub even : AreEven t
  pub room : IsRoomFor t spare
  pub fits : RowsFit limit (shown_rows value t.rows.items)
  pub dictionary : IsDictionary (dictionary_of value t)
