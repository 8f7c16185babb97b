-- Private: a row around one of its columns, and what is reckoned of a pivot before it is made.
use Rattle.std.specs.Prelude.{ℕ, ◌∷◌, ◌++◌}
use Rattle.rational.specs.Rational.{ℚ}
use Rattle.exact_lin.specs.Forms.{Terms}
use Rattle.lp_sparse.specs.declared.rows.Halves.{Halves}
use Rattle.lp_sparse.specs.declared.pivot.Reckoned.{Reckoned}
use Rattle.lp_sparse.specs.declared.tableau.Tableau.{Tableau}
use Rattle.lp_sparse.specs.SparseRows.{terms_of, terms_of_rows, IsReplaced}
use Rattle.lp_sparse.specs.SparseChanges.{AreChanges, Becomes, changes_of, row_or}
use Rattle.lp_sparse.specs.SparseTableaus.{width_of}

-- the terms of the whole row
abbrev pub whole_of : {S : Type 0} → (S → ℚ) → ℕ → Halves S → Terms
whole_of value j h = terms_of value h.front.now ++ (j, value h.number) ∷ terms_of value h.back.now

-- the rows that change and the cost are those after the pivot
pub record IsReckoned {S : Type 0} (value : S → ℚ) (limit : ℕ) (t : Tableau S) (solution : Terms) (i j : ℕ) (r : Reckoned S) : Type 0 where
  pub rows : AreChanges (Becomes limit (width_of t) solution i j) 0 (terms_of_rows value t.rows.items) (changes_of value r.rows.items)
  pub cost : IsReplaced limit (width_of t) solution j (terms_of value t.cost.items) (row_or value (terms_of value t.cost.items) r.cost)
