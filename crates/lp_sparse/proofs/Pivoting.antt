-- The rows after a pivot, as a dictionary.
use Rattle.std.proofs.Common.{◌≡◌, ℕ, ◌+◌, ◌<◌, ⊎_elim, List, [], length, map, sym, ap, subst, ◌∙◌, get_or, set, arith}
use Rattle.std.specs.List.{All}
use Rattle.std.proofs.lemmas.List.{length-map, length-set, get_or-map, get_or-set_same, get_or-set_other, get_or_default, same_lists}
use Rattle.rational.specs.Rational.{ℚ}
use Rattle.exact_lin.specs.Forms.{Terms}
use Rattle.lp_tableau.specs.Dictionaries.{Dictionary, row_of, row_in, basic_of, nonbasic_of}
use Rattle.lp_tableau.specs.Pivots.{solved, replaced, replaced_rows, pivoted, CanSolve, CanReplace, CanReplaceOthers, CanReplaceAll, CanPivot}
use Rattle.lp_tableau.proofs.Solving.{same_or_not}
use Rattle.lp_sparse.specs.declared.tableau.Tableau.{Tableau}
use Rattle.lp_sparse.specs.declared.pivot.Reckoned.{Reckoned}
use Rattle.lp_sparse.specs.SparseRows.{filled, terms_of, terms_of_rows, IsRow, IsSolved, IsReplaced}
use Rattle.lp_sparse.specs.SparseChanges.{terms_in, Becomes, changes_of, with_changes, row_or}
use Rattle.lp_sparse.specs.SparsePivots.{IsReckoned}
use Rattle.lp_sparse.specs.ColumnMarks.{marks_of, AreMarked}
use Rattle.lp_sparse.specs.SparseTableaus.{width_of, dictionary_of, AreRows}
use Rattle.lp_sparse.proofs.Changes.{HaveBecome, changes-made}
use Rattle.lp_sparse.proofs.Replacing.{IsRow-replaced}
use Rattle.lp_sparse.proofs.RowReads.{row-is, length-terms_of_rows}

abbrev pub dictionary : List ℕ → List ℕ → List (List ℚ) → List ℚ → Dictionary
dictionary b n r c = record { basic = b; nonbasic = n; rows = r; cost = c }

from_start : (P : ℕ → Type 0) (k : ℕ) → P (0 + k) → P k
from_start P k h = subst P (let e : 0 + k ≡ k = omega arith in e) h

module _ (limit n i j : ℕ) (solution : Terms) (rows after : List Terms) (b : HaveBecome (Becomes limit n solution i j) 0 rows after) where
  abbrev dense : List (List ℚ)
  dense = map (filled n) rows

  dense-length : length (map (filled n) rows) ≡ length rows
  dense-length = length-map rows (filled n)

  dense-at : (k : ℕ) → k < length rows → row_in (map (filled n) rows) k ≡ filled n (terms_in rows k)
  dense-at k h = get_or-map (filled n) rows k [] [] h

  other : (k : ℕ) → k < length rows → ¬ (k ≡ i) → IsReplaced limit n solution j (terms_in rows k) (terms_in after k)
  other k h m = ⊎_elim (λ w. absurd (m w.0)) (λ w. w.1) (from_start (λ (x : ℕ). Becomes limit n solution i j x (terms_in rows k) (terms_in after k)) k (b.become k h))

  pub others-defined : CanReplaceOthers limit (filled n solution) i j (map (filled n) rows)
  others-defined k h m = let l : k < length rows = omega (arith, h, dense-length) in subst (λ (u : List ℚ). CanReplace limit (filled n solution) j u) (sym (dense-at k l)) (other k l m).defined

  module _ (row_in_range : i < length rows) where
    long : length (set after i solution) ≡ length rows
    long = length-set after i solution ∙ b.same_length

    all-replaced : length (map (replaced (filled n solution) j) (map (filled n) rows)) ≡ length rows
    all-replaced = length-map (map (filled n) rows) (replaced (filled n solution) j) ∙ dense-length

    here : get_or (set after i solution) i [] ≡ solution
    here = get_or-set_same after i solution [] (omega (arith, row_in_range, b.same_length))

    filled-at : (k : ℕ) (d : List ℚ) → k < length rows → get_or (map (filled n) (set after i solution)) k d ≡ get_or (replaced_rows (filled n solution) i j (map (filled n) rows)) k d
    filled-at k d h = get_or-map (filled n) (set after i solution) k [] d (omega (arith, h, long)) ∙ ⊎_elim
        (λ (e : k ≡ i). subst (λ (m : ℕ). filled n (get_or (set after i solution) m []) ≡ get_or (replaced_rows (filled n solution) i j (map (filled n) rows)) m d) (sym e)
        (ap (filled n) here ∙ sym (get_or-set_same (map (replaced (filled n solution) j) (map (filled n) rows)) i (filled n solution) d (omega (arith, row_in_range, all-replaced)))))
        (λ m. ap (filled n) (get_or-set_other after i k solution [] m) ∙ (other k h m).gives ∙ ap (replaced (filled n solution) j) (sym (dense-at k h))
        ∙ sym (get_or-set_other (map (replaced (filled n solution) j) (map (filled n) rows)) i k (filled n solution) d m ∙ get_or-map (replaced (filled n solution) j) (map (filled n) rows) k [] d (omega (arith, h, dense-length))))
        (same_or_not k i)

    pub rows-replaced : map (filled n) (set after i solution) ≡ replaced_rows (filled n solution) i j (map (filled n) rows)
    rows-replaced = same_lists (map (filled n) (set after i solution)) (replaced_rows (filled n solution) i j (map (filled n) rows))
        (length-map (set after i solution) (filled n) ∙ long ∙ sym (length-set (map (replaced (filled n solution) j) (map (filled n) rows)) i (filled n solution) ∙ all-replaced))
        (λ k d h. filled-at k d (omega (arith, h, length-map (set after i solution) (filled n), long)))

    pub rows-fit : IsRow limit n solution → All (IsRow limit n) (set after i solution)
    rows-fit is k d h = subst (IsRow limit n) (get_or_default (set after i solution) k [] d h) (⊎_elim
        (λ (e : k ≡ i). subst (λ (m : ℕ). IsRow limit n (get_or (set after i solution) m [])) (sym e) (subst (IsRow limit n) (sym here) is))
        (λ m. subst (IsRow limit n) (sym (get_or-set_other after i k solution [] m)) (IsRow-replaced limit n j solution (terms_in rows k) (terms_in after k) (other k (omega (arith, h, long)) m)))
        (same_or_not k i))

pub same_dictionary : (b b' n n' : List ℕ) (r r' : List (List ℚ)) (c c' : List ℚ) → b ≡ b' → n ≡ n' → r ≡ r' → c ≡ c' → dictionary b n r c ≡ dictionary b' n' r' c'
same_dictionary b b' n n' r r' c c' p q s t = ap (λ x. dictionary x n r c) p ∙ ap (λ x. dictionary b' x r c) q ∙ ap (λ x. dictionary b' n' x c) s ∙ ap (λ x. dictionary b' n' r' x) t

module _ {S : Type 0} (value : S → ℚ) (limit : ℕ) (t : Tableau S) (fits : AreRows value limit t) (i j : ℕ) (solution : Terms) (row_in_range : i < length t.rows.items)
    (is : IsSolved limit (width_of t) (terms_in (terms_of_rows value t.rows.items) i) j solution) (r : Reckoned S) (reckoned : IsReckoned value limit t solution i j r) where
  abbrev n : ℕ
  n = width_of t

  abbrev rows : List Terms
  rows = terms_of_rows value t.rows.items

  become : HaveBecome (Becomes limit (width_of t) solution i j) 0 (terms_of_rows value t.rows.items) (with_changes (changes_of value r.rows.items) (terms_of_rows value t.rows.items))
  become = changes-made (Becomes limit (width_of t) solution i j) rows (changes_of value r.rows.items) reckoned.rows

  in_rows : i < length (terms_of_rows value t.rows.items)
  in_rows = omega (arith, row_in_range, length-terms_of_rows value t.rows.items)

  solution-is : filled (width_of t) solution ≡ solved (row_of (dictionary_of value t) i) j
  solution-is = is.gives ∙ ap (λ u. solved u j) (sym (row-is value limit t fits i row_in_range))

  -- the pivot is defined
  pub pivot-defined : CanPivot limit (dictionary_of value t) i j
  pivot-defined = record {
    leaving = subst (λ u. CanSolve limit u j) (sym (row-is value limit t fits i row_in_range)) is.defined;
    all = subst (λ u. CanReplaceAll limit (dictionary_of value t) u i j) solution-is (record {
      others = others-defined limit n i j solution rows (with_changes (changes_of value r.rows.items) rows) become;
      cost = reckoned.cost.defined;
    });
  }

  -- and these rows are what it makes
  module _ (u : Tableau S) (rows_are : terms_of_rows value u.rows.items ≡ set (with_changes (changes_of value r.rows.items) (terms_of_rows value t.rows.items)) i solution)
      (cost_is : terms_of value u.cost.items ≡ row_or value (terms_of value t.cost.items) r.cost)
      (basic_is : u.basic.items ≡ set t.basic.items i (nonbasic_of (dictionary_of value t) j)) (nonbasic_is : u.nonbasic.items ≡ set t.nonbasic.items j (basic_of (dictionary_of value t) i)) where
    width-is : width_of u ≡ width_of t
    width-is = ap (λ (xs : List ℕ). length xs + 1) nonbasic_is ∙ ap (λ (m : ℕ). m + 1) (length-set t.nonbasic.items j (basic_of (dictionary_of value t) i))

    abbrev after : List Terms
    after = with_changes (changes_of value r.rows.items) rows

    count-is : length u.rows.items ≡ length t.rows.items
    count-is = sym (length-terms_of_rows value u.rows.items) ∙ ap length rows_are ∙ length-set after i solution ∙ become.same_length ∙ length-terms_of_rows value t.rows.items

    pub made-fits : AreMarked (marks_of u.marks.items) (terms_of_rows value u.rows.items) → AreRows value limit u
    made-fits marked = record {
      rows = subst (λ (m : ℕ). All (IsRow limit m) (terms_of_rows value u.rows.items)) (sym width-is) (subst (All (IsRow limit n)) (sym rows_are) (rows-fit limit n i j solution rows after become in_rows is.is));
      cost = subst (λ (m : ℕ). IsRow limit m (terms_of value u.cost.items)) (sym width-is) (subst (IsRow limit n) (sym cost_is) (IsRow-replaced limit n j solution (terms_of value t.cost.items) (row_or value (terms_of value t.cost.items) r.cost) reckoned.cost));
      basic = ap length basic_is ∙ length-set t.basic.items i (nonbasic_of (dictionary_of value t) j) ∙ fits.basic ∙ sym count-is;
      marked = marked;
    }

    pub made-pivoted : dictionary_of value u ≡ pivoted (dictionary_of value t) i j
    made-pivoted = same_dictionary _ _ _ _ _ _ _ _ basic_is nonbasic_is
        (ap (λ (m : ℕ). map (filled m) (terms_of_rows value u.rows.items)) width-is ∙ ap (map (filled n)) rows_are ∙ rows-replaced limit n i j solution rows after become in_rows ∙ ap (λ s. replaced_rows s i j (dictionary_of value t).rows) solution-is)
        (ap (λ (m : ℕ). filled m (terms_of value u.cost.items)) width-is ∙ ap (filled n) cost_is ∙ reckoned.cost.gives ∙ ap (λ s. replaced s j (dictionary_of value t).cost) solution-is)
