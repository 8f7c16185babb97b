-- What is read of the rows of a tableau.
use Rattle.std.proofs.Common.{◌≡◌, ℕ, ◌<◌, false, List, [], length, sym, ap, subst, ◌∙◌, get_or, arith}
use Rattle.std.specs.Prelude.{Vec}
use Rattle.std.proofs.lemmas.List.{length-map, get_or-map}
use Rattle.rational.specs.Rational.{ℚ, zeroℚ}
use Rattle.rational.specs.Lists.{at}
use Rattle.exact_lin.specs.Forms.{coefficient}
use Rattle.lp_tableau.specs.Dictionaries.{row_of}
use Rattle.lp_sparse.specs.declared.tableau.Tableau.{Tableau}
use Rattle.lp_sparse.specs.SparseRows.{filled, terms_of, terms_of_rows, IsRow}
use Rattle.lp_sparse.specs.SparseChanges.{terms_in}
use Rattle.lp_sparse.specs.ColumnMarks.{marks_of, may_hold}
use Rattle.lp_sparse.specs.SparseTableaus.{width_of, dictionary_of, AreRows}
use Rattle.lp_sparse.proofs.Coefficients.{at-filled}

pub length-terms_of_rows : {S Z : Type 0} (value : S → ℚ) (rows : List (Vec (ℕ × S) Z)) → length (terms_of_rows value rows) ≡ length rows
length-terms_of_rows {S} {Z} value rows = length-map rows (λ (row : Vec (ℕ × S) Z). terms_of value row.items)

-- the terms of the row that is read
pub terms_in-read : {S Z : Type 0} (value : S → ℚ) (rows : List (Vec (ℕ × S) Z)) (i : ℕ) (row : Vec (ℕ × S) Z) (xs : List (ℕ × S)) → i < length rows → row ≡ get_or rows i row → xs ≡ row.items → terms_in (terms_of_rows value rows) i ≡ terms_of value xs
terms_in-read {S} {Z} value rows i row xs h is e = get_or-map (λ (r : Vec (ℕ × S) Z). terms_of value r.items) rows i row [] h ∙ ap (λ (r : Vec (ℕ × S) Z). terms_of value r.items) (sym is) ∙ ap (terms_of value) (sym e)

module _ {S : Type 0} (value : S → ℚ) (limit : ℕ) (t : Tableau S) (rows : AreRows value limit t) where
  -- the cost's numbers
  pub cost-at : (k : ℕ) (xs : List (ℕ × S)) → k < width_of t → xs ≡ t.cost.items → coefficient (terms_of value xs) k ≡ at (dictionary_of value t).cost k
  cost-at k xs h e = ap (λ (ys : List (ℕ × S)). coefficient (terms_of value ys) k) e ∙ sym (at-filled (width_of t) k (terms_of value t.cost.items) h)

  pub cost-is : (xs : List (ℕ × S)) → xs ≡ t.cost.items → IsRow limit (width_of t) (terms_of value xs)
  cost-is xs e = subst (λ (ys : List (ℕ × S)). IsRow limit (width_of t) (terms_of value ys)) (sym e) rows.cost

  pub in_range : (i : ℕ) → i < length t.rows.items → i < length (terms_of_rows value t.rows.items)
  in_range i h = omega (arith, h, length-terms_of_rows value t.rows.items)

  pub row-is : (i : ℕ) → i < length t.rows.items → row_of (dictionary_of value t) i ≡ filled (width_of t) (terms_in (terms_of_rows value t.rows.items) i)
  row-is i h = get_or-map (filled (width_of t)) (terms_of_rows value t.rows.items) i [] [] (in_range i h)

  -- a row that doesn't hold a column has 0 there
  pub unheld-is : (i k : ℕ) → i < length t.rows.items → may_hold (marks_of t.marks.items) k i ≡ false → coefficient (terms_in (terms_of_rows value t.rows.items) i) k ≡ zeroℚ
  unheld-is i k h f = rows.marked i k f

  pub unheld-at : (i k : ℕ) → i < length t.rows.items → k < width_of t → may_hold (marks_of t.marks.items) k i ≡ false → at (row_of (dictionary_of value t) i) k ≡ zeroℚ
  unheld-at i k h l f = ap (λ (u : List ℚ). at u k) (row-is i h) ∙ at-filled (width_of t) k (terms_in (terms_of_rows value t.rows.items) i) l ∙ unheld-is i k h f

  module _ (i : ℕ) (xs : List (ℕ × S)) (h : i < length t.rows.items) (read : terms_in (terms_of_rows value t.rows.items) i ≡ terms_of value xs) where
    -- the row that is read has its numbers
    pub read-is : IsRow limit (width_of t) (terms_of value xs)
    read-is = subst (IsRow limit (width_of t)) read (rows.rows i [] (in_range i h))

    pub read-row : row_of (dictionary_of value t) i ≡ filled (width_of t) (terms_of value xs)
    read-row = row-is i h ∙ ap (filled (width_of t)) read

    pub read-at : (k : ℕ) → k < width_of t → coefficient (terms_of value xs) k ≡ at (row_of (dictionary_of value t) i) k
    read-at k l = sym (ap (λ (u : List ℚ). at u k) read-row ∙ at-filled (width_of t) k (terms_of value xs) l)

pub rows-length : {S : Type 0} (value : S → ℚ) (t : Tableau S) → length (dictionary_of value t).rows ≡ length t.rows.items
rows-length value t = length-map (terms_of_rows value t.rows.items) (filled (width_of t)) ∙ length-terms_of_rows value t.rows.items
