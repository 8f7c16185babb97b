-- The same rows and dictionaries in parts of 64 bits.
use Rattle.std.proofs.Common.{◌≡◌, ℕ, zero, suc, pos, ◌+◌, ◌<◌, ◌≤◌, ◌⊎◌, ⊎_elim, Bool, true, false, nat_eq, List, [], ◌∷◌, ◌++◌, length, map, refl, sym, ap, subst, ◌∙◌, get_or, arith}
use Rattle.std.specs.Prelude.{Vec, Option, Some, None, MatchOption, if◌then◌else◌}
use Rattle.std.proofs.lemmas.Int.{ints}
use Rattle.std.proofs.lemmas.List.{length-map, get_or-map, get_or_default}
use Rattle.rational.specs.Rational.{ℚ, zeroℚ, neg_ℚ}
use Rattle.rational.specs.Lists.{at}
use Rattle.rational.specs.Rows.{row_at, no_row}
use Rattle.rational.proofs.Ring.{law, minus, ◌≐◌}
use Rattle.rational.proofs.Field.{ℚ_ring}
use Rattle.exact_lin.specs.Reckoning.{Fits, narrow_limit, wide_limit}
use Rattle.exact_lin.specs.Forms.{Terms, AscendFrom, Covers, coefficient}
use Rattle.exact_lin.proofs.Results.{fits-neg, fits-whole}
use Rattle.exact_lin.proofs.MergeTerms.{coefficient-later, coefficient-here}
use Rattle.cert_core.specs.Programs.{Program, IsEven, entry_of, bound_of}
use Rattle.lp_tableau.specs.Dictionaries.{initial, slack_row, row_in}
use Rattle.lp_tableau.specs.RowLists.{RowFits}
use Rattle.lp_sparse.specs.declared.tableau.Tableau.{Tableau}
use Rattle.lp_sparse.specs.SparseRows.{filled, terms_of, terms_of_rows, IsRow, IsSparse}
use Rattle.lp_sparse.specs.SparseChanges.{terms_in}
use Rattle.lp_sparse.specs.SparseTableaus.{width_of, dictionary_of, AreRows}
use Rattle.lp_sparse.specs.NarrowPrograms.{IsNarrow}
use Rattle.lp_sparse.specs.NarrowNumbers.{TermsFit, RowTermsFit, HasNarrowNumbers}
use Rattle.lp_sparse.proofs.Coefficients.{length-terms_of, terms_of-at, length-filled, at-filled}
use Rattle.lp_sparse.proofs.FirstRows.{factors-length, slack-entry, with_last-first, with_last-last, with_last-length}
use Rattle.lp_sparse.proofs.RowReads.{length-terms_of_rows, terms_in-read}
use Rattle.lp_sparse.specs.ColumnMarks.{marks_of, AreMarked}
use Rattle.lp_sparse.proofs.WiderParts.{widened-dictionary}

-- what an answer that may be None says where it is there, and where it isn't
pub found : {A : Type 0} (o : Option A) (a : A) (N : Type 0) (P : A → Type 0) → o ≡ Some a → MatchOption o N P → P a
found o a N P e h = subst (λ x. MatchOption x N P) e h

pub missing : {A : Type 0} (o : Option A) (N : Type 0) (P : A → Type 0) → o ≡ None → MatchOption o N P → N
missing o N P e h = subst (λ x. MatchOption x N P) e h

-- ---- term by term

-- the first terms fit
abbrev pub FirstFit : ℕ → Terms → ℕ → Type 0
FirstFit limit terms e = (k : ℕ) (d : ℕ × ℚ) → k < e → Fits limit (get_or terms k d).1

pub FirstFit-next : (limit : ℕ) (row : List (ℕ × ℚ)) (e : ℕ) (t : ℕ × ℚ) → e < length row → t ≡ get_or row e t → Fits limit t.1 → FirstFit limit (terms_of (λ q. q) row) e → FirstFit limit (terms_of (λ q. q) row) (e + 1)
FirstFit-next limit row e t h is f before k d l = ⊎_elim (λ (a : k < e). before k d a)
    (λ (q : k ≡ e). subst (λ (m : ℕ). Fits limit (get_or (terms_of (λ q. q) row) m d).1) (sym q) (subst (λ (u : ℕ × ℚ). Fits limit u.1) (sym (terms_of-at (λ (q : ℚ). q) row e t d h is)) f))
    (let split : (k < e) ⊎ (k ≡ e) = grind arith in split)

pub TermsFit-not : (limit : ℕ) (row : List (ℕ × ℚ)) (e : ℕ) (t : ℕ × ℚ) → e < length row → t ≡ get_or row e t → ¬ Fits limit t.1 → ¬ TermsFit limit (terms_of (λ q. q) row)
TermsFit-not limit row e t h is n f = n (subst (λ (u : ℕ × ℚ). Fits limit u.1) (terms_of-at (λ (q : ℚ). q) row e t t h is) (f e t (omega (arith, h, length-terms_of (λ (q : ℚ). q) row))))

pub FirstFit-all : (limit : ℕ) (row : List (ℕ × ℚ)) (e : ℕ) → length row ≡ e → FirstFit limit (terms_of (λ q. q) row) e → TermsFit limit (terms_of (λ q. q) row)
FirstFit-all limit row e h f k d l = f k d (omega (arith, h, l, length-terms_of (λ (q : ℚ). q) row))

-- ---- row by row
abbrev pub FirstRowsFit : ℕ → List Terms → ℕ → Type 0
FirstRowsFit limit rows e = (i : ℕ) → i < e → TermsFit limit (terms_in rows i)

module _ {Z : Type 0} (limit : ℕ) (rows : List (Vec (ℕ × ℚ) Z)) (e : ℕ) (row : Vec (ℕ × ℚ) Z) (xs : List (ℕ × ℚ)) (inside : e < length rows) (is : row ≡ get_or rows e row) (read : xs ≡ row.items) where
  pub FirstRowsFit-next : TermsFit limit (terms_of (λ q. q) xs) → FirstRowsFit limit (terms_of_rows (λ q. q) rows) e → FirstRowsFit limit (terms_of_rows (λ q. q) rows) (e + 1)
  FirstRowsFit-next f before i l = ⊎_elim (λ (a : i < e). before i a)
      (λ (q : i ≡ e). subst (λ (m : ℕ). TermsFit limit (terms_in (terms_of_rows (λ q. q) rows) m)) (sym q) (subst (TermsFit limit) (sym (terms_in-read (λ (q : ℚ). q) rows e row xs inside is read)) f))
      (let split : (i < e) ⊎ (i ≡ e) = grind arith in split)

  pub RowTermsFit-not : ¬ TermsFit limit (terms_of (λ q. q) xs) → ¬ RowTermsFit limit (terms_of_rows (λ q. q) rows)
  RowTermsFit-not n f = n (subst (TermsFit limit) (terms_in-read (λ (q : ℚ). q) rows e row xs inside is read) (f e (omega (arith, inside, length-terms_of_rows (λ (q : ℚ). q) rows))))

pub FirstRowsFit-all : {Z : Type 0} (limit : ℕ) (rows : List (Vec (ℕ × ℚ) Z)) (e : ℕ) → length rows ≡ e → FirstRowsFit limit (terms_of_rows (λ q. q) rows) e → RowTermsFit limit (terms_of_rows (λ q. q) rows)
FirstRowsFit-all limit rows e h f i l = f i (omega (arith, h, l, length-terms_of_rows (λ (q : ℚ). q) rows))

-- ---- terms and the numbers of their row
chosen-fits : (limit : ℕ) (b : Bool) (x y : ℚ) → Fits limit x → Fits limit y → Fits limit (if b then x else y)
chosen-fits limit true x y f h = f
chosen-fits limit false x y f h = h

coefficient-fits : (limit : ℕ) (terms : Terms) (v : ℕ) → Fits limit zeroℚ → TermsFit limit terms → Fits limit (coefficient terms v)
coefficient-fits limit [] v z f = z
coefficient-fits limit (t ∷ ts) v z f = chosen-fits limit (nat_eq t.0 v) t.1 (coefficient ts v) (f 0 t (omega arith)) (coefficient-fits limit ts v z (λ k d h. f (suc k) d (omega (arith, h))))

numbers-fit : (limit : ℕ) (low n : ℕ) (terms : Terms) → AscendFrom low terms → Covers n terms → ((v : ℕ) → low ≤ v → v < n → Fits limit (coefficient terms v)) → TermsFit limit terms
numbers-fit limit low n [] a c f k d h = absurd (omega (arith, h))
numbers-fit limit low n (t ∷ ts) a c f zero d h = subst (Fits limit) (coefficient-here t.0 t ts refl) (f t.0 a.0 c.0)
numbers-fit limit low n (t ∷ ts) a c f (suc k) d h = numbers-fit limit (t.0 + 1) n ts a.2 c.1 (λ v l m. subst (Fits limit) (coefficient-later v t ts (omega (arith, l))) (f v (omega (arith, l, a.0)) m)) k d (omega (arith, h))

narrow-zero : Fits narrow_limit zeroℚ
narrow-zero = fits-whole narrow_limit (pos 0) (omega arith) (omega (arith, ints))

module _ (n : ℕ) (terms : Terms) (sparse : IsSparse n terms) where
  terms-RowFits : TermsFit narrow_limit terms → RowFits narrow_limit (filled n terms)
  terms-RowFits f k h = subst (Fits narrow_limit) (sym (at-filled n k terms (omega (arith, h, length-filled n terms)))) (coefficient-fits narrow_limit terms k narrow-zero f)

  RowFits-terms : RowFits narrow_limit (filled n terms) → TermsFit narrow_limit terms
  RowFits-terms f = numbers-fit narrow_limit 0 n terms sparse.ascends sparse.covered (λ v l h. subst (Fits narrow_limit) (at-filled n v terms h) (f v (omega (arith, h, length-filled n terms))))

-- ---- the dictionary
module _ (t : Tableau ℚ) (rows : AreRows (λ q. q) wide_limit t) where
  terms-here : (i : ℕ) → i < length (terms_of_rows (λ q. q) t.rows.items) → IsSparse (width_of t) (terms_in (terms_of_rows (λ q. q) t.rows.items) i)
  terms-here i h = (rows.rows i [] h).sparse

  row-here : (i : ℕ) → i < length (terms_of_rows (λ q. q) t.rows.items) → row_in (dictionary_of (λ q. q) t).rows i ≡ filled (width_of t) (terms_in (terms_of_rows (λ q. q) t.rows.items) i)
  row-here i h = get_or-map (filled (width_of t)) (terms_of_rows (λ q. q) t.rows.items) i [] [] h

  long : length (dictionary_of (λ q. q) t).rows ≡ length (terms_of_rows (λ q. q) t.rows.items)
  long = length-map (terms_of_rows (λ q. q) t.rows.items) (filled (width_of t))

  pub narrow-numbers : RowTermsFit narrow_limit (terms_of_rows (λ q. q) t.rows.items) → TermsFit narrow_limit (terms_of (λ q. q) t.cost.items) → HasNarrowNumbers (dictionary_of (λ q. q) t)
  narrow-numbers f g = record {
    rows = λ i h. let l : i < length (terms_of_rows (λ q. q) t.rows.items) = omega (arith, h, long) in subst (RowFits narrow_limit) (sym (row-here i l)) (terms-RowFits (width_of t) _ (terms-here i l) (f i l));
    cost = terms-RowFits (width_of t) _ rows.cost.sparse g;
  }

  pub narrow-rows_fit : HasNarrowNumbers (dictionary_of (λ q. q) t) → RowTermsFit narrow_limit (terms_of_rows (λ q. q) t.rows.items)
  narrow-rows_fit f i h = RowFits-terms (width_of t) _ (terms-here i h) (subst (RowFits narrow_limit) (row-here i h) (f.rows i (omega (arith, h, long))))

  pub narrow-cost_fits : HasNarrowNumbers (dictionary_of (λ q. q) t) → TermsFit narrow_limit (terms_of (λ q. q) t.cost.items)
  narrow-cost_fits f = RowFits-terms (width_of t) _ rows.cost.sparse f.cost

  -- the same numbers in parts of 64 bits
  module _ (u : Tableau ℚ) (basic_is : u.basic ≡ t.basic) (nonbasic_is : u.nonbasic ≡ t.nonbasic) (marks_are : u.marks ≡ t.marks) (rows_are : terms_of_rows (λ q. q) u.rows.items ≡ terms_of_rows (λ q. q) t.rows.items) (cost_is : u.cost.items ≡ t.cost.items)
      (rows_fit : RowTermsFit narrow_limit (terms_of_rows (λ q. q) t.rows.items)) (cost_fits : TermsFit narrow_limit (terms_of (λ q. q) t.cost.items)) where
    width-is : width_of u ≡ width_of t
    width-is = ap (λ v. length v.items + 1) nonbasic_is

    narrow-row : (k : ℕ) (d : Terms) → k < length (terms_of_rows (λ q. q) t.rows.items) → IsRow narrow_limit (width_of t) (get_or (terms_of_rows (λ q. q) t.rows.items) k d)
    narrow-row k d h = subst (IsRow narrow_limit (width_of t)) (get_or_default (terms_of_rows (λ q. q) t.rows.items) k [] d h)
        (record { sparse = terms-here k h; fits = terms-RowFits (width_of t) _ (terms-here k h) (rows_fit k h) })

    pub narrowed-dictionary : dictionary_of (λ q. q) u ≡ dictionary_of (λ q. q) t
    narrowed-dictionary = widened-dictionary t u (ap (λ v. v.items) basic_is) (ap (λ v. v.items) nonbasic_is) rows_are cost_is

    pub narrowed-rows : AreRows (λ q. q) narrow_limit u
    narrowed-rows = record {
      rows = λ k d h. subst (λ (m : ℕ). IsRow narrow_limit m (get_or (terms_of_rows (λ q. q) u.rows.items) k d)) (sym width-is)
          (subst (λ (rs : List Terms). IsRow narrow_limit (width_of t) (get_or rs k d)) (sym rows_are) (narrow-row k d (subst (λ (rs : List Terms). k < length rs) rows_are h)));
      cost = subst (λ (m : ℕ). IsRow narrow_limit m (terms_of (λ q. q) u.cost.items)) (sym width-is) (subst (λ (xs : List (ℕ × ℚ)). IsRow narrow_limit (width_of t) (terms_of (λ q. q) xs)) (sym cost_is)
          (record { sparse = rows.cost.sparse; fits = terms-RowFits (width_of t) _ rows.cost.sparse cost_fits }));
      basic = ap (λ v. length v.items) basic_is ∙ rows.basic ∙ sym (length-terms_of_rows (λ (q : ℚ). q) t.rows.items) ∙ ap length (sym rows_are) ∙ length-terms_of_rows (λ (q : ℚ). q) u.rows.items;
      marked = subst (λ m. AreMarked (marks_of m.items) (terms_of_rows (λ q. q) u.rows.items)) (sym marks_are) (subst (AreMarked (marks_of t.marks.items)) (sym rows_are) rows.marked);
    }

-- ---- the first dictionary has such numbers exactly where the program has
module _ (p : Program) (even : IsEven p) where
  row-initial : (r : ℕ) → r < length p.rows → row_in (initial p).rows r ≡ slack_row (row_at p.rows r)
  row-initial r h = get_or-map slack_row p.rows r no_row [] h

  slack-length : (r : ℕ) → r < length p.rows → length (slack_row (row_at p.rows r)) ≡ length p.costs + 1
  slack-length r h = with_last-length (map neg_ℚ (row_at p.rows r).factors) (row_at p.rows r).bound (length p.costs) (factors-length p even r h)

  slack-bound : (r : ℕ) → r < length p.rows → at (slack_row (row_at p.rows r)) (length p.costs) ≡ bound_of p r
  slack-bound r h = with_last-last (map neg_ℚ (row_at p.rows r).factors) (row_at p.rows r).bound (length p.costs) (factors-length p even r h)

  last_or : (k n : ℕ) → k < n + 1 → (k < n) ⊎ (k ≡ n)
  last_or k n h = grind arith

  pub IsNarrow-initial : IsNarrow p → HasNarrowNumbers (initial p)
  IsNarrow-initial f = record {
    rows = λ r h. let l : r < length p.rows = omega (arith, h, length-map p.rows slack_row) in subst (RowFits narrow_limit) (sym (row-initial r l)) (λ k m. ⊎_elim
        (λ (a : k < length p.costs). subst (Fits narrow_limit) (slack-entry p even r l k a) (fits-neg narrow_limit (entry_of p r k) ((f.rows r l).entries k a)))
        (λ (e : k ≡ length p.costs). subst (λ (i : ℕ). Fits narrow_limit (at (slack_row (row_at p.rows r)) i)) (sym e) (subst (Fits narrow_limit) (sym (slack-bound r l)) (f.rows r l).bound))
        (last_or k (length p.costs) (omega (arith, m, slack-length r l))));
    cost = λ k m. ⊎_elim
        (λ (a : k < length p.costs). subst (Fits narrow_limit) (sym (with_last-first p.costs p.base k a)) (f.costs k a))
        (λ (e : k ≡ length p.costs). subst (λ (i : ℕ). Fits narrow_limit (at (p.costs ++ p.base ∷ []) i)) (sym e) (subst (Fits narrow_limit) (sym (with_last-last p.costs p.base (length p.costs) refl)) f.base))
        (last_or k (length p.costs) (omega (arith, m, with_last-length p.costs p.base (length p.costs) refl)));
  }

  pub initial-IsNarrow : HasNarrowNumbers (initial p) → IsNarrow p
  initial-IsNarrow f = record {
    rows = λ r l. let row = subst (RowFits narrow_limit) (row-initial r l) (f.rows r (omega (arith, l, length-map p.rows slack_row))) in record {
      entries = λ v h. subst (Fits narrow_limit) (law ℚ_ring (entry_of p r v ∷ []) (λ a. minus (minus a) ≐ a) refl) (fits-neg narrow_limit (neg_ℚ (entry_of p r v)) (subst (Fits narrow_limit) (sym (slack-entry p even r l v h)) (row v (omega (arith, h, slack-length r l)))));
      bound = subst (Fits narrow_limit) (slack-bound r l) (row (length p.costs) (omega (arith, slack-length r l)));
    };
    costs = λ v h. subst (Fits narrow_limit) (with_last-first p.costs p.base v h) (f.cost v (omega (arith, h, with_last-length p.costs p.base (length p.costs) refl)));
    base = subst (Fits narrow_limit) (with_last-last p.costs p.base (length p.costs) refl) (f.cost (length p.costs) (omega (arith, with_last-length p.costs p.base (length p.costs) refl)));
  }
