-- The first dictionary of a program, made number by number without its zeros.
use Rattle.std.proofs.Common.{◌≡◌, ℕ, zero, suc, pos, Bool, true, ◌+◌, ◌-◌, ◌<◌, ◌≤◌, List, [], ◌∷◌, ◌++◌, length, map, take, refl, sym, ap, subst, ◌∙◌, ⊎_elim, get_or, arith}
use Rattle.std.specs.Prelude.{Vec, if◌then◌else◌}
use Rattle.std.proofs.lemmas.Int.{ints}
use Rattle.std.specs.List.{All, range_with_len}
use Rattle.std.proofs.lemmas.List.{length-map, length-append, map-append, get_or-map, get_or_append_left, get_or-append_right, take_more, take_all, append-nil}
use Rattle.std.proofs.lemmas.List.FromFn.{length-range_with_len}
use Rattle.std.proofs.lemmas.List.Elements.{All-append}
use Rattle.rational.specs.Rational.{ℚ, zeroℚ, neg_ℚ}
use Rattle.rational.specs.Lists.{at}
use Rattle.rational.specs.Rows.{Row, row_at, no_row}
use Rattle.rational.proofs.Rows.{row_at-length}
use Rattle.rational.proofs.Ring.{law, minus, ◌≐◌, num}
use Rattle.rational.proofs.Field.{ℚ_ring}
use Rattle.rational.proofs.Fractions.{den_pos}
use Rattle.exact_lin.specs.Reckoning.{Fits}
use Rattle.exact_lin.specs.Forms.{Terms, AscendFrom, Covers, coefficient, is_zero, with_term}
use Rattle.exact_lin.proofs.Zeros.{is_zero-zero}
use Rattle.exact_lin.proofs.Results.{fits-whole}
use Rattle.exact_lin.proofs.MergeTerms.{coefficient-below, coefficient-later, coefficient-here}
use Rattle.cert_core.specs.Programs.{Program, IsEven, entry_of}
use Rattle.lp_tableau.specs.Dictionaries.{initial, slack_row}
use Rattle.lp_tableau.specs.RowLists.{RowFits}
use Rattle.lp_tableau.proofs.Writing.{last_or_before}
use Rattle.lp_tableau.proofs.Growing.{grown}
use Rattle.lp_sparse.specs.declared.tableau.Tableau.{Tableau}
use Rattle.lp_sparse.specs.SparseRows.{filled, terms_of, terms_of_rows, IsRow, IsRowOf}
use Rattle.lp_sparse.specs.ColumnMarks.{marks_of, AreMarked}
use Rattle.lp_sparse.specs.SparseTableaus.{width_of, dictionary_of, AreRows}
use Rattle.lp_sparse.proofs.Coefficients.{filled-more, IsSparse-more, length-filled}
use Rattle.lp_sparse.proofs.RowReads.{length-terms_of_rows}
use Rattle.lp_sparse.proofs.Pivoting.{same_dictionary}

fits-more : (limit k : ℕ) (u : List ℚ) (c : ℚ) → length u ≡ k → RowFits limit u → Fits limit c → RowFits limit (u ++ c ∷ [])
fits-more limit k u c e f h m l = ⊎_elim
    (λ (q : m ≡ k). subst (Fits limit) (sym (ap (at (u ++ c ∷ [])) q ∙ get_or-append_right u (c ∷ []) k k zeroℚ e (omega arith) ∙ ap (at (c ∷ [])) (let z : k - k ≡ 0 = omega arith in z))) h)
    (λ (q : m < k). let s : m < length u = omega (arith, q, e) in subst (Fits limit) (sym (get_or_append_left u (c ∷ []) zeroℚ m s)) (f m s))
    (last_or_before m k (omega (arith, l, e, length-append u (c ∷ []))))

module _ (limit : ℕ) (wanted : List ℚ) where
  pub RowOf-begin : IsRowOf limit 0 (take 0 wanted) []
  RowOf-begin = record { is = record { sparse = record { ascends = tt; covered = tt }; fits = λ k h. absurd (omega (arith, h)) }; gives = refl }

  -- one number more of what is wanted
  pub RowOf-next : (k : ℕ) (c : ℚ) (terms now : Terms) → k < length wanted → c ≡ at wanted k → Fits limit c → now ≡ terms ++ with_term k c [] → IsRowOf limit k (take k wanted) terms → IsRowOf limit (k + 1) (take (k + 1) wanted) now
  RowOf-next k c terms now h e f n r = subst (IsRowOf limit (k + 1) (take (k + 1) wanted)) (sym n) (record {
    is = record {
      sparse = IsSparse-more k c terms r.is.sparse;
      fits = subst (RowFits limit) (sym (filled-more k c terms r.is.sparse.covered)) (fits-more limit k (filled k terms) c (length-filled k terms) r.is.fits f);
    };
    gives = filled-more k c terms r.is.sparse.covered ∙ ap (λ (u : List ℚ). u ++ c ∷ []) r.gives ∙ ap (λ (z : ℚ). take k wanted ++ z ∷ []) e ∙ sym (take_more wanted k zeroℚ h);
  })

  -- all of it
  pub RowOf-all : (k n : ℕ) (terms : Terms) → length wanted ≡ n → k ≡ n → IsRowOf limit k (take k wanted) terms → IsRowOf limit n wanted terms
  RowOf-all k n terms e h r = subst (λ (m : ℕ). IsRowOf limit m wanted terms) h (subst (λ (u : List ℚ). IsRowOf limit k u terms) (take_all k wanted (omega (arith, e, h))) r)

pub RowOf-start : {S : Type 0} (value : S → ℚ) (limit : ℕ) (wanted : List ℚ) (row : List (ℕ × S)) → row ≡ [] → IsRowOf limit 0 (take 0 wanted) (terms_of value row)
RowOf-start {S} value limit wanted row e = subst (λ (xs : List (ℕ × S)). IsRowOf limit 0 (take 0 wanted) (terms_of value xs)) (sym e) (RowOf-begin limit wanted)

-- the numbers of a row with its constant
pub with_last-first : (u : List ℚ) (b : ℚ) (v : ℕ) → v < length u → at (u ++ b ∷ []) v ≡ at u v
with_last-first u b v h = get_or_append_left u (b ∷ []) zeroℚ v h

pub with_last-last : (u : List ℚ) (b : ℚ) (n : ℕ) → length u ≡ n → at (u ++ b ∷ []) n ≡ b
with_last-last u b n e = get_or-append_right u (b ∷ []) n n zeroℚ e (omega arith) ∙ ap (at (b ∷ [])) (let z : n - n ≡ 0 = omega arith in z)

pub with_last-length : (u : List ℚ) (b : ℚ) (n : ℕ) → length u ≡ n → length (u ++ b ∷ []) ≡ n + 1
with_last-length u b n e = length-append u (b ∷ []) ∙ ap (λ (m : ℕ). m + 1) e

-- the constant comes last
pub RowOf-last : (limit : ℕ) (u : List ℚ) (b : ℚ) (n v column : ℕ) (c : ℚ) (terms now : Terms) → length u ≡ n → v ≡ n → column ≡ n → c ≡ b → Fits limit c → now ≡ terms ++ with_term column c [] → IsRowOf limit v (take v (u ++ b ∷ [])) terms → IsRowOf limit (n + 1) (u ++ b ∷ []) now
RowOf-last limit u b n v column c terms now e h w q f m r = RowOf-all limit (u ++ b ∷ []) (n + 1) (n + 1) now (with_last-length u b n e) refl
    (RowOf-next limit (u ++ b ∷ []) n c terms now (omega (arith, with_last-length u b n e)) (q ∙ sym (with_last-last u b n e)) f
    (subst (λ (k : ℕ). now ≡ terms ++ with_term k c []) w m) (subst (λ (k : ℕ). IsRowOf limit k (take k (u ++ b ∷ [])) terms) h r))

module _ (p : Program) (even : IsEven p) (r : ℕ) (in_range : r < length p.rows) where
  pub factors-length : length (map neg_ℚ (row_at p.rows r).factors) ≡ length p.costs
  factors-length = length-map (row_at p.rows r).factors neg_ℚ ∙ row_at-length (length p.costs) p.rows r in_range even.even

  pub slack-entry : (v : ℕ) → v < length p.costs → neg_ℚ (entry_of p r v) ≡ at (slack_row (row_at p.rows r)) v
  slack-entry v h = sym (with_last-first (map neg_ℚ (row_at p.rows r).factors) (row_at p.rows r).bound v (omega (arith, h, factors-length))
      ∙ get_or-map neg_ℚ (row_at p.rows r).factors v zeroℚ zeroℚ (omega (arith, h, row_at-length (length p.costs) p.rows r in_range even.even)))

module _ {S Z : Type 0} (value : S → ℚ) (limit n : ℕ) (rs : List Row) where
  -- one slack's row more
  pub slacks-next : (rows now : List (Vec (ℕ × S) Z)) (row : Vec (ℕ × S) Z) (r : ℕ) → now ≡ rows ++ row ∷ [] → r < length rs → IsRowOf limit n (slack_row (row_at rs r)) (terms_of value row.items)
      → All (IsRow limit n) (terms_of_rows value rows) × (map (filled n) (terms_of_rows value rows) ≡ take r (map slack_row rs))
      → All (IsRow limit n) (terms_of_rows value now) × (map (filled n) (terms_of_rows value now) ≡ take (r + 1) (map slack_row rs))
  slacks-next rows now row r e h is w = (
    subst (All (IsRow limit n)) (sym shown) (All-append (IsRow limit n) (terms_of_rows value rows) (terms_of value row.items ∷ []) w.0 (λ k d l. one k d l)),
    ap (map (filled n)) shown ∙ grown (filled n) [] (map slack_row rs) (terms_of_rows value rows) (terms_of value row.items) r (omega (arith, h, length-map rs slack_row)) w.1 (is.gives ∙ sym (get_or-map slack_row rs r no_row [] h)),
  )
    where
      shown : terms_of_rows value now ≡ terms_of_rows value rows ++ terms_of value row.items ∷ []
      shown = ap (terms_of_rows value) e ∙ map-append (λ (v : Vec (ℕ × S) Z). terms_of value v.items) rows (row ∷ [])

      one : (k : ℕ) (d : Terms) → k < 1 → IsRow limit n (get_or (terms_of value row.items ∷ []) k d)
      one zero d l = is.is
      one (suc k) d l = absurd (omega (arith, l))

module _ {S : Type 0} (value : S → ℚ) (limit : ℕ) (p : Program) (t : Tableau S) (basic_is : t.basic.items ≡ range_with_len (length p.costs) (length p.rows)) (nonbasic_is : t.nonbasic.items ≡ range_with_len 0 (length p.costs))
    (rows_fit : All (IsRow limit (length p.costs + 1)) (terms_of_rows value t.rows.items)) (rows_are : map (filled (length p.costs + 1)) (terms_of_rows value t.rows.items) ≡ map slack_row p.rows)
    (cost_is : IsRowOf limit (length p.costs + 1) (p.costs ++ p.base ∷ []) (terms_of value t.cost.items)) where
  width : width_of t ≡ length p.costs + 1
  width = ap (λ (xs : List ℕ). length xs + 1) nonbasic_is ∙ ap (λ (m : ℕ). m + 1) (length-range_with_len 0 (length p.costs))

  pub first-rows : AreMarked (marks_of t.marks.items) (terms_of_rows value t.rows.items) → AreRows value limit t
  first-rows marked = record {
    rows = subst (λ (m : ℕ). All (IsRow limit m) (terms_of_rows value t.rows.items)) (sym width) rows_fit;
    cost = subst (λ (m : ℕ). IsRow limit m (terms_of value t.cost.items)) (sym width) cost_is.is;
    basic = ap length basic_is ∙ length-range_with_len (length p.costs) (length p.rows) ∙ sym (length-map p.rows slack_row) ∙ ap length (sym rows_are) ∙ length-map (terms_of_rows value t.rows.items) (filled (length p.costs + 1)) ∙ length-terms_of_rows value t.rows.items;
    marked = marked;
  }

  pub first-dictionary : dictionary_of value t ≡ initial p
  first-dictionary = same_dictionary _ _ _ _ _ _ _ _ basic_is nonbasic_is
      (ap (λ (m : ℕ). map (filled m) (terms_of_rows value t.rows.items)) width ∙ rows_are)
      (ap (λ (m : ℕ). filled m (terms_of value t.cost.items)) width ∙ cost_is.gives)

-- ---- a row that is told by its entries
pub zero-fits : (limit : ℕ) (c : ℚ) → Fits limit c → Fits limit zeroℚ
zero-fits limit c f = fits-whole limit (pos 0) (omega (arith, den_pos c, f.denominator)) (omega (arith, ints))

-- a number that is 0 adds no term
RowOf-zero : (limit : ℕ) (wanted : List ℚ) (k : ℕ) (terms : Terms) → Fits limit zeroℚ → k < length wanted → at wanted k ≡ zeroℚ → IsRowOf limit k (take k wanted) terms → IsRowOf limit (k + 1) (take (k + 1) wanted) terms
RowOf-zero limit wanted k terms f h e r = RowOf-next limit wanted k zeroℚ terms terms h (sym e) f (sym (ap (λ (ts : Terms). terms ++ ts) (without zeroℚ (is_zero-zero zeroℚ refl)) ∙ append-nil terms)) r
  where
    without : (c : ℚ) → is_zero c ≡ true → with_term k c [] ≡ []
    without c z = ap (λ (b : Bool). if b then [] else ((k, c) ∷ [])) z

RowOf-zeros : (limit : ℕ) (wanted : List ℚ) (k d : ℕ) (terms : Terms) → Fits limit zeroℚ → k + d ≤ length wanted → ((m : ℕ) → k ≤ m → m < k + d → at wanted m ≡ zeroℚ) → IsRowOf limit k (take k wanted) terms → IsRowOf limit (k + d) (take (k + d) wanted) terms
RowOf-zeros limit wanted k zero terms f h e r = subst (λ (m : ℕ). IsRowOf limit m (take m wanted) terms) (let same : k ≡ k + 0 = omega arith in same) r
RowOf-zeros limit wanted k (suc d) terms f h e r = subst (λ (m : ℕ). IsRowOf limit m (take m wanted) terms) (let same : (k + d) + 1 ≡ k + suc d = omega arith in same)
    (RowOf-zero limit wanted (k + d) terms f (omega (arith, h)) (e (k + d) (omega arith) (omega arith)) (RowOf-zeros limit wanted k d terms f (omega (arith, h)) (λ m a b. e m a (omega (arith, b))) r))

-- up to a later place
RowOf-until : (limit : ℕ) (wanted : List ℚ) (k n : ℕ) (terms : Terms) → Fits limit zeroℚ → k ≤ n → n ≤ length wanted → ((m : ℕ) → k ≤ m → m < n → at wanted m ≡ zeroℚ) → IsRowOf limit k (take k wanted) terms → IsRowOf limit n (take n wanted) terms
RowOf-until limit wanted k n terms f a h e r = let same : k + (n - k) ≡ n = omega (arith, a) in
    subst (λ (m : ℕ). IsRowOf limit m (take m wanted) terms) same (RowOf-zeros limit wanted k (n - k) terms f (omega (arith, h, same)) (λ m b c. e m b (omega (arith, c, same))) r)

neg-zero : neg_ℚ zeroℚ ≡ zeroℚ
neg-zero = law ℚ_ring (zeroℚ ∷ []) (λ a. minus (num 0) ≐ num 0) refl

module _ (limit n : ℕ) (wanted : List ℚ) where
  -- the first numbers of what is wanted are there; those from `low` on are minus the terms that are left
  pub record Negates (row left : Terms) : Type 0 where
    pub low : ℕ
    pub ascends : AscendFrom low left
    pub within : Covers n left
    pub low_within : low ≤ n
    pub rest : (k : ℕ) → low ≤ k → k < n → at wanted k ≡ neg_ℚ (coefficient left k)
    pub so_far : IsRowOf limit low (take low wanted) row

  pub Negates-begin : (terms : Terms) → AscendFrom 0 terms → Covers n terms → ((k : ℕ) → k < n → at wanted k ≡ neg_ℚ (coefficient terms k)) → Negates [] terms
  Negates-begin terms a c e = record { low = 0; ascends = a; within = c; low_within = omega arith; rest = λ k h l. e k l; so_far = RowOf-begin limit wanted }

  pub Negates-next : (t : ℕ × ℚ) (rest row now : Terms) (column : ℕ) (c : ℚ) → n ≤ length wanted → column ≡ t.0 → c ≡ neg_ℚ t.1 → Fits limit c → now ≡ row ++ with_term column c [] → Negates row (t ∷ rest) → Negates now rest
  Negates-next t rest row now column c long w e f m s = record {
    low = t.0 + 1;
    ascends = s.ascends.2;
    within = s.within.1;
    low_within = omega (arith, s.within.0);
    rest = λ k h l. s.rest k (omega (arith, h, s.ascends.0)) l ∙ ap neg_ℚ (coefficient-later k t rest (omega (arith, h)));
    so_far = RowOf-next limit wanted t.0 c row now (omega (arith, s.within.0, long)) (e ∙ ap neg_ℚ (sym (coefficient-here t.0 t rest refl)) ∙ sym (s.rest t.0 s.ascends.0 s.within.0)) f (subst (λ (k : ℕ). now ≡ row ++ with_term k c []) w m)
        (RowOf-until limit wanted s.low t.0 row (zero-fits limit c f) s.ascends.0 (omega (arith, s.within.0, long))
        (λ k a b. s.rest k a (omega (arith, b, s.within.0)) ∙ ap neg_ℚ (coefficient-below k t.0 (t ∷ rest) (omega arith, s.ascends.1, s.ascends.2) b) ∙ neg-zero) s.so_far);
  }

  pub Negates-all : (row : Terms) → n ≤ length wanted → Fits limit zeroℚ → Negates row [] → IsRowOf limit n (take n wanted) row
  Negates-all row long f s = RowOf-until limit wanted s.low n row f s.low_within long (λ k a b. s.rest k a b ∙ neg-zero) s.so_far
