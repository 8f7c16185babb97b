-- Rows that a pivot passes over, since no mark says that they hold the entering variable.
use Rattle.std.proofs.Common.{◌≡◌, ℕ, ◌<◌, ◌≤◌, inl, inr, ⊎_elim, false, List, [], length, take, refl, arith}
use Rattle.rational.specs.Rational.{ℚ}
use Rattle.exact_lin.specs.Forms.{Terms}
use Rattle.lp_tableau.proofs.Solving.{same_or_not}
use Rattle.lp_sparse.specs.declared.tableau.Tableau.{Tableau}
use Rattle.lp_sparse.specs.SparseRows.{terms_of_rows}
use Rattle.lp_sparse.specs.SparseChanges.{terms_in, AreChanges, Becomes}
use Rattle.lp_sparse.specs.ColumnMarks.{marks_of, may_hold}
use Rattle.lp_sparse.specs.SparseTableaus.{width_of, AreRows}
use Rattle.lp_sparse.proofs.Changes.{passed-to}
use Rattle.lp_sparse.proofs.Replacing.{without-replaces}
use Rattle.lp_sparse.proofs.RowReads.{in_range, unheld-is, length-terms_of_rows}

module _ {S : Type 0} (value : S → ℚ) (limit : ℕ) (t : Tableau S) (rows : AreRows value limit t) (solution : Terms) (i j : ℕ) (h : j < length t.nonbasic.items) where
  abbrev all : List Terms
  all = terms_of_rows value t.rows.items

  -- such a row stays as it is
  stays : (k : ℕ) → k < length t.rows.items → may_hold (marks_of t.marks.items) j k ≡ false → Becomes limit (width_of t) solution i j k (terms_in all k) (terms_in all k)
  stays k l f = ⊎_elim
      (λ (e : k ≡ i). inl (e, refl))
      (λ n. inr (n, without-replaces limit (width_of t) j solution (terms_in all k) (omega (arith, h)) (rows.rows k [] (in_range value limit t rows k l)) (unheld-is value limit t rows k j l f)))
      (same_or_not k i)

  -- the rows from k on up to m are such
  pub rows-passed : (k m : ℕ) (cs : List (ℕ × Terms)) → k ≤ m → m ≤ length t.rows.items → ((e : ℕ) → k ≤ e → e < m → may_hold (marks_of t.marks.items) j e ≡ false)
      → AreChanges (Becomes limit (width_of t) solution i j) 0 (take k all) cs → AreChanges (Becomes limit (width_of t) solution i j) 0 (take m all) cs
  rows-passed k m cs f l unmarked a = passed-to (Becomes limit (width_of t) solution i j) all cs k m f (omega (arith, l, length-terms_of_rows value t.rows.items))
      (λ e g b. stays e (omega (arith, b, l)) (unmarked e g b)) a
