-- The same rows in parts of 128 bits.
use Rattle.std.proofs.Common.{◌≡◌, ℕ, ◌+◌, ◌<◌, ◌≤◌, List, [], ◌∷◌, ◌++◌, length, map, take, sym, ap, subst, ◌∙◌, get_or, arith}
use Rattle.std.specs.Prelude.{Vec}
use Rattle.std.proofs.lemmas.List.{get_or-map, take_more}
use Rattle.rational.specs.Rational.{ℚ}
use Rattle.exact_lin.specs.Reckoning.{Fits, narrow_limit, wide_limit}
use Rattle.exact_lin.specs.Limits.{narrow-below_wide}
use Rattle.exact_lin.specs.Forms.{Terms}
use Rattle.lp_tableau.proofs.Growing.{grown}
use Rattle.lp_sparse.specs.declared.tableau.Tableau.{Tableau}
use Rattle.lp_sparse.specs.SparseRows.{filled, terms_of, terms_of_rows, IsRow}
use Rattle.lp_sparse.specs.ColumnMarks.{marks_of, AreMarked}
use Rattle.lp_sparse.specs.SparseTableaus.{width_of, dictionary_of, AreRows}
use Rattle.lp_sparse.proofs.RowReads.{length-terms_of_rows}
use Rattle.lp_sparse.proofs.Pivoting.{same_dictionary}

Fits-larger : (limit larger : ℕ) → limit ≤ larger → (q : ℚ) → Fits limit q → Fits larger q
Fits-larger limit larger h q f = record { numerator = omega (arith, h, f.numerator); denominator = omega (arith, h, f.denominator) }

IsRow-larger : (limit larger : ℕ) → limit ≤ larger → (n : ℕ) (ts : Terms) → IsRow limit n ts → IsRow larger n ts
IsRow-larger limit larger h n ts r = record { sparse = r.sparse; fits = λ k l. Fits-larger limit larger h (get_or (filled n ts) k _) (r.fits k l) }

-- one more term
pub widened-next : (row out now : List (ℕ × ℚ)) (e : ℕ) (t : ℕ × ℚ) (q : ℚ) → e < length row → t ≡ get_or row e t → q ≡ t.1 → now ≡ out ++ (t.0, q) ∷ [] → out ≡ take e row → now ≡ take (e + 1) row
widened-next row out now e t q h is w n o = n ∙ ap (λ (xs : List (ℕ × ℚ)). xs ++ (t.0, q) ∷ []) o ∙ ap (λ (x : ℚ). take e row ++ (t.0, x) ∷ []) w ∙ ap (λ (u : ℕ × ℚ). take e row ++ u ∷ []) is ∙ sym (take_more row e t h)

module _ {Z : Type 0} where
  -- one more row
  pub widened_rows-next : (rows out now : List (Vec (ℕ × ℚ) Z)) (e : ℕ) (row wide : Vec (ℕ × ℚ) Z) → e < length rows → row ≡ get_or rows e row → wide.items ≡ row.items → now ≡ out ++ wide ∷ []
      → terms_of_rows (λ q. q) out ≡ take e (terms_of_rows (λ q. q) rows) → terms_of_rows (λ q. q) now ≡ take (e + 1) (terms_of_rows (λ q. q) rows)
  widened_rows-next rows out now e row wide h is w n o = ap (terms_of_rows (λ q. q)) n ∙ grown (λ (v : Vec (ℕ × ℚ) Z). terms_of (λ q. q) v.items) [] (terms_of_rows (λ q. q) rows) out wide e
      (omega (arith, h, length-terms_of_rows (λ (q : ℚ). q) rows)) o
      (ap (terms_of (λ q. q)) w ∙ ap (λ (v : Vec (ℕ × ℚ) Z). terms_of (λ q. q) v.items) is ∙ sym (get_or-map (λ (v : Vec (ℕ × ℚ) Z). terms_of (λ q. q) v.items) rows e row [] h))

module _ (t u : Tableau ℚ) (basic_is : u.basic.items ≡ t.basic.items) (nonbasic_is : u.nonbasic.items ≡ t.nonbasic.items) (rows_are : terms_of_rows (λ q. q) u.rows.items ≡ terms_of_rows (λ q. q) t.rows.items) (cost_is : u.cost.items ≡ t.cost.items) where
  width-is : width_of u ≡ width_of t
  width-is = ap (λ (xs : List ℕ). length xs + 1) nonbasic_is

  pub widened-dictionary : dictionary_of (λ q. q) u ≡ dictionary_of (λ q. q) t
  widened-dictionary = same_dictionary _ _ _ _ _ _ _ _ basic_is nonbasic_is
      (ap (λ (m : ℕ). map (filled m) (terms_of_rows (λ q. q) u.rows.items)) width-is ∙ ap (map (filled (width_of t))) rows_are)
      (ap (λ (m : ℕ). filled m (terms_of (λ q. q) u.cost.items)) width-is ∙ ap (λ (xs : List (ℕ × ℚ)). filled (width_of t) (terms_of (λ q. q) xs)) cost_is)

  pub widened-fits : AreRows (λ q. q) narrow_limit t → AreMarked (marks_of u.marks.items) (terms_of_rows (λ q. q) u.rows.items) → AreRows (λ q. q) wide_limit u
  widened-fits f marked = record {
    rows = λ k d h. subst (λ (m : ℕ). IsRow wide_limit m (get_or (terms_of_rows (λ q. q) u.rows.items) k d)) (sym width-is) (IsRow-larger narrow_limit wide_limit narrow-below_wide (width_of t) (get_or (terms_of_rows (λ q. q) u.rows.items) k d)
        (subst (λ (rs : List Terms). IsRow narrow_limit (width_of t) (get_or rs k d)) (sym rows_are) (f.rows k d (subst (λ (rs : List Terms). k < length rs) rows_are h))));
    cost = subst (λ (m : ℕ). IsRow wide_limit m (terms_of (λ q. q) u.cost.items)) (sym width-is) (IsRow-larger narrow_limit wide_limit narrow-below_wide (width_of t) (terms_of (λ q. q) u.cost.items)
        (subst (λ (xs : List (ℕ × ℚ)). IsRow narrow_limit (width_of t) (terms_of (λ q. q) xs)) (sym cost_is) f.cost));
    basic = ap length basic_is ∙ f.basic ∙ sym (length-terms_of_rows (λ (q : ℚ). q) t.rows.items) ∙ ap length (sym rows_are) ∙ length-terms_of_rows (λ (q : ℚ). q) u.rows.items;
    marked = marked;
  }
