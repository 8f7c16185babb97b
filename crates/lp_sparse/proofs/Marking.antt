-- Marks of the columns that rows may hold: one more, those of a row, of all rows, and of rows that change.
use Rattle.std.proofs.Common.{◌≡◌, ℕ, ◌+◌, ◌<◌, ◌≤◌, ◌⊎◌, ⊎_elim, Bool, true, false, nat_eq, List, [], ◌∷◌, ◌++◌, length, map, sym, ap, subst, ◌∙◌, get_or, set, take, arith}
use Rattle.std.specs.Prelude.{Vec, if◌then◌else◌}
use Rattle.std.proofs.lemmas.List.{get_or-set_same, get_or-set_other, get_or_past, get_or-map, length-map, map-set, take_more}
use Rattle.std.proofs.lemmas.Bool.Decides.{nat_tests}
use Rattle.rational.specs.Rational.{ℚ, zeroℚ}
use Rattle.exact_lin.specs.Forms.{Terms, coefficient}
use Rattle.lp_tableau.proofs.Solving.{same_or_not}
use Rattle.lp_sparse.specs.SparseRows.{terms_of}
use Rattle.lp_sparse.specs.SparseChanges.{terms_in}
use Rattle.lp_sparse.specs.ColumnMarks.{marks_of, may_hold, IsMarked, AreMarked, Keeps}

-- ---- one mark in its column

pub mark-here : (column : List Bool) (k : ℕ) → k < length column → get_or (set column k true) k true ≡ true
mark-here column k h = get_or-set_same column k true true h

pub mark-kept : (column : List Bool) (k m : ℕ) → k < length column → get_or (set column k true) m true ≡ false → get_or column m true ≡ false
mark-kept column k m h f = ⊎_elim
    (λ (e : m ≡ k). let seen : get_or (set column k true) m true ≡ true = subst (λ (x : ℕ). get_or (set column k true) x true ≡ true) (sym e) (mark-here column k h) in absurd (cc (seen, f)))
    (λ n. sym (get_or-set_other column k m true true n) ∙ f)
    (same_or_not m k)

pub no_mark-here : (column : List Bool) (k : ℕ) → length column ≤ k → get_or column k true ≡ true
no_mark-here column k h = get_or_past column k true h

-- ---- one column among all

module _ (marks : List (List Bool)) (c k : ℕ) (column : List Bool) (h : c < length marks) where
  pub column-here : get_or column k true ≡ true → may_hold (set marks c column) c k ≡ true
  column-here here = ap (λ (marks : List Bool). get_or marks k true) (get_or-set_same marks c column [] h) ∙ here

  pub column-kept : ((m : ℕ) → get_or column m true ≡ false → get_or (get_or marks c []) m true ≡ false) → Keeps marks (set marks c column)
  column-kept kept d m f = ⊎_elim
      (λ (e : d ≡ c). subst (λ (x : ℕ). may_hold marks x m ≡ false) (sym e) (kept m (sym (ap (λ (marks : List Bool). get_or marks m true) (get_or-set_same marks c column [] h))
      ∙ subst (λ (x : ℕ). may_hold (set marks c column) x m ≡ false) e f)))
      (λ n. sym (ap (λ (marks : List Bool). get_or marks m true) (get_or-set_other marks c d column [] n)) ∙ f)
      (same_or_not d c)

module _ {Z : Type 0} (marks : List (Vec Bool Z)) (c k : ℕ) (column : Vec Bool Z) (h : c < length marks) where
  marks-set : marks_of (set marks c column) ≡ set (marks_of marks) c column.items
  marks-set = map-set (λ (v : Vec Bool Z). v.items) marks c column

  inside : c < length (marks_of marks)
  inside = omega (arith, h, length-map marks (λ (v : Vec Bool Z). v.items))

  pub marked-here : get_or column.items k true ≡ true → may_hold (marks_of (set marks c column)) c k ≡ true
  marked-here here = ap (λ (marks : List (List Bool)). may_hold marks c k) marks-set ∙ column-here (marks_of marks) c k column.items inside here

  pub marked-kept : (old : Vec Bool Z) → old ≡ get_or marks c old → ((m : ℕ) → get_or column.items m true ≡ false → get_or old.items m true ≡ false) → Keeps (marks_of marks) (marks_of (set marks c column))
  marked-kept old is kept = subst (Keeps (marks_of marks)) (sym marks-set) (column-kept (marks_of marks) c k column.items inside
      (λ m f. ap (λ (bs : List Bool). get_or bs m true) (get_or-map (λ (v : Vec Bool Z). v.items) marks c old [] h ∙ ap (λ (v : Vec Bool Z). v.items) (sym is)) ∙ kept m f))

pub no_column-here : (marks : List (List Bool)) (c k : ℕ) → length marks ≤ c → may_hold marks c k ≡ true
no_column-here marks c k h = ap (λ (column : List Bool). get_or column k true) (get_or_past marks c [] h)

-- ---- the marks of a row

other_term : (d c : ℕ) (q : ℚ) → ¬ (d ≡ c) → coefficient ((d, q) ∷ []) c ≡ zeroℚ
other_term d c q n = let e : nat_eq d c ≡ false = grind (arith, nat_tests) in ap (λ (b : Bool). if b then q else zeroℚ) e

none_in_both : (ts us : Terms) (c : ℕ) → coefficient ts c ≡ zeroℚ → coefficient us c ≡ zeroℚ → coefficient (ts ++ us) c ≡ zeroℚ
none_in_both [] us c e f = f
none_in_both (t ∷ ts) us c e f =
    elim (nat_eq t.0 c) as (λ (b : Bool). (if b then t.1 else coefficient ts c) ≡ zeroℚ → (if b then t.1 else coefficient (ts ++ us) c) ≡ zeroℚ)
    [ true ↦ λ h. h | false ↦ λ h. none_in_both ts us c h f ] e

pub IsMarked-kept : (marks more : List (List Bool)) (k : ℕ) (ts : Terms) → Keeps marks more → IsMarked marks k ts → IsMarked more k ts
IsMarked-kept marks more k ts keeps m c f = m c (keeps c k f)

pub IsMarked-next : (marks more : List (List Bool)) (k : ℕ) (ts : Terms) (d : ℕ) (q : ℚ) → Keeps marks more → may_hold more d k ≡ true → IsMarked marks k ts → IsMarked more k (ts ++ (d, q) ∷ [])
IsMarked-next marks more k ts d q keeps here m c f = none_in_both ts ((d, q) ∷ []) c (m c (keeps c k f)) (other_term d c q (λ e. let seen : may_hold more c k ≡ true = subst (λ (x : ℕ). may_hold more x k ≡ true) e here in absurd (cc (seen, f))))

pub mark_row-next : {S : Type 0} (value : S → ℚ) (row : List (ℕ × S)) (e : ℕ) (t : ℕ × S) (marks more : List (List Bool)) (k : ℕ) → e < length row → t ≡ get_or row e t
    → Keeps marks more → may_hold more t.0 k ≡ true → IsMarked marks k (take e (terms_of value row)) → IsMarked more k (take (e + 1) (terms_of value row))
mark_row-next {S} value row e t marks more k h is keeps here m =
    let shows : ℕ × S → ℕ × ℚ = λ u. (u.0, value u.1) in
    let more_terms : take (e + 1) (terms_of value row) ≡ take e (terms_of value row) ++ (t.0, value t.1) ∷ [] =
    take_more (terms_of value row) e (shows t) (omega (arith, h, length-map row shows)) ∙ ap (λ (u : ℕ × ℚ). take e (terms_of value row) ++ u ∷ []) (get_or-map shows row e t (shows t) h ∙ ap shows (sym is)) in
    subst (IsMarked more k) (sym more_terms) (IsMarked-next marks more k (take e (terms_of value row)) t.0 (value t.1) keeps here m)

-- ---- the marks of all rows

pub AreMarked-next : (marks more : List (List Bool)) (rows : List Terms) (n : ℕ) → Keeps marks more → IsMarked more n (terms_in rows n)
    → ((k : ℕ) → k < n → IsMarked marks k (terms_in rows k)) → (k : ℕ) → k < n + 1 → IsMarked more k (terms_in rows k)
AreMarked-next marks more rows n keeps here m k h = ⊎_elim
    (λ (e : k ≡ n). subst (λ (x : ℕ). IsMarked more x (terms_in rows x)) (sym e) here)
    (λ d. IsMarked-kept marks more k (terms_in rows k) keeps (m k (omega (arith, h, d))))
    (same_or_not k n)

pub AreMarked-all : (marks : List (List Bool)) (rows : List Terms) (n : ℕ) → length rows ≤ n → ((k : ℕ) → k < n → IsMarked marks k (terms_in rows k)) → AreMarked marks rows
AreMarked-all marks rows n l m k = ⊎_elim
    (λ (h : k < n). m k h)
    (λ (h : n ≤ k). λ c f. ap (λ (ts : Terms). coefficient ts c) (get_or_past rows k [] (omega (arith, l, h))))
    (below_or_not k n)
  where
    below_or_not : (k n : ℕ) → (k < n) ⊎ (n ≤ k)
    below_or_not k n = grind arith

-- a row takes the place of another
pub AreMarked-put : (marks more : List (List Bool)) (rows : List Terms) (i : ℕ) (row : Terms) → i < length rows → Keeps marks more → IsMarked more i row → AreMarked marks rows → AreMarked more (set rows i row)
AreMarked-put marks more rows i row h keeps here m k = ⊎_elim
    (λ (e : k ≡ i). subst (λ (x : ℕ). IsMarked more x (terms_in (set rows i row) x)) (sym e) (subst (IsMarked more i) (sym (get_or-set_same rows i row [] h)) here))
    (λ n. subst (IsMarked more k) (sym (get_or-set_other rows i k row [] n)) (IsMarked-kept marks more k (terms_in rows k) keeps (m k)))
    (same_or_not k i)
