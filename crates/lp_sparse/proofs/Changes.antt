-- The rows that a pivot changes, found one after the other, and put at their places.
use Rattle.std.proofs.Common.{◌≡◌, ℕ, zero, suc, ◌+◌, ◌-◌, ◌<◌, ◌≤◌, inl, inr, ⊎_elim, List, [], ◌∷◌, ◌++◌, length, refl, sym, ap, subst, ◌∙◌, set, take, Option, None, Some, arith, append_assoc}
use Rattle.std.proofs.lemmas.List.{length-append, length-set, length-take, length-map, map-set, map-append, take_more}
use Rattle.basics.proofs.Lists.{each_left, each_right}
use Rattle.exact_lin.specs.Forms.{Terms}
use Rattle.lp_sparse.specs.SparseChanges.{noted, row_or, changes_of, with_changes, AreWithin, AreChanges, terms_in}
use Rattle.std.specs.Prelude.{Vec}
use Rattle.rational.specs.Rational.{ℚ}
use Rattle.lp_sparse.specs.SparseRows.{terms_of, terms_of_rows}

abbrev Change : Type 0
Change = ℕ × Terms

module _ (Changes : ℕ → Terms → Terms → Type 0) where
  -- one more row, which stays as it is
  pub AreChanges-keep : (start : ℕ) (rs : List Terms) (r : Terms) (cs : List Change) → Changes (start + length rs) r r → AreChanges Changes start rs cs → AreChanges Changes start (rs ++ r ∷ []) cs
  AreChanges-keep start [] r cs h a = inl (subst (λ (k : ℕ). Changes k r r) (let e : start + 0 ≡ start = omega arith in e) h, a)
  AreChanges-keep start (x ∷ rs) r cs h a = ⊎_elim
      (λ w. inl (w.0, AreChanges-keep (start + 1) rs r cs (subst (λ (k : ℕ). Changes k r r) (further start (length rs)) h) w.1))
      (λ w. inr (w.0, w.1, w.2, w.3, AreChanges-keep (start + 1) rs r w.1 (subst (λ (k : ℕ). Changes k r r) (further start (length rs)) h) w.4))
      a
    where
      further : (s l : ℕ) → s + suc l ≡ s + 1 + l
      further s l = omega arith

  -- one more row, which changes
  pub AreChanges-take : (start k : ℕ) (rs : List Terms) (r out : Terms) (cs : List Change) → k ≡ start + length rs → Changes k r out → AreChanges Changes start rs cs → AreChanges Changes start (rs ++ r ∷ []) (cs ++ (k, out) ∷ [])
  AreChanges-take start k [] r out cs e h a =
      let here : k ≡ start = omega (arith, e) in
      inr (out, [], ap (λ (xs : List Change). xs ++ (k, out) ∷ []) a ∙ ap (λ (m : ℕ). (m, out) ∷ []) here, subst (λ (m : ℕ). Changes m r out) here h, refl)
  AreChanges-take start k (x ∷ rs) r out cs e h a = ⊎_elim
      (λ w. inl (w.0, AreChanges-take (start + 1) k rs r out cs (further start (length rs) e) h w.1))
      (λ w. inr (w.0, w.1 ++ (k, out) ∷ [], ap (λ (xs : List Change). xs ++ (k, out) ∷ []) w.2, w.3, AreChanges-take (start + 1) k rs r out w.1 (further start (length rs) e) h w.4))
      a
    where
      further : (s l : ℕ) → k ≡ s + suc l → k ≡ s + 1 + l
      further s l e = omega (arith, e)

  pub AreChanges-within : (start : ℕ) (rs : List Terms) (cs : List Change) → AreChanges Changes start rs cs → AreWithin (start + length rs) cs
  AreChanges-within start [] cs a = subst (AreWithin (start + 0)) (sym a) tt
  AreChanges-within start (r ∷ rs) cs a = ⊎_elim
      (λ w. subst (λ (n : ℕ). AreWithin n cs) (further (length rs)) (AreChanges-within (start + 1) rs cs w.1))
      (λ w. subst (AreWithin (start + suc (length rs))) (sym w.2) (omega arith, subst (λ (n : ℕ). AreWithin n w.1) (further (length rs)) (AreChanges-within (start + 1) rs w.1 w.4)))
      a
    where
      further : (l : ℕ) → start + 1 + l ≡ start + suc l
      further l = omega arith

  -- each row has become what it should
  pub record HaveBecome (start : ℕ) (rs after : List Terms) : Type 0 where
    pub same_length : length after ≡ length rs
    pub become : (m : ℕ) → m < length rs → Changes (start + m) (terms_in rs m) (terms_in after m)

  become-more : (start : ℕ) (r out : Terms) (rs after : List Terms) → Changes start r out → HaveBecome (start + 1) rs after → HaveBecome start (r ∷ rs) (out ∷ after)
  become-more start r out rs after h b = record { same_length = ap suc b.same_length; become = each }
    where
      each : (m : ℕ) → m < length (r ∷ rs) → Changes (start + m) (terms_in (r ∷ rs) m) (terms_in (out ∷ after) m)
      each zero l = subst (λ (k : ℕ). Changes k r out) (let e : start ≡ start + 0 = omega arith in e) h
      each (suc m) l = subst (λ (k : ℕ). Changes k (terms_in rs m) (terms_in after m)) (let e : start + 1 + m ≡ start + suc m = omega arith in e) (b.become m (omega (arith, l)))

  set-seam : (before : List Terms) (x y : Terms) (after : List Terms) (k : ℕ) → length before ≡ k → set (before ++ x ∷ after) k y ≡ before ++ y ∷ after
  set-seam [] x y after zero e = refl
  set-seam [] x y after (suc k) e = absurd (omega (arith, e))
  set-seam (b ∷ before) x y after zero e = absurd (omega (arith, e))
  set-seam (b ∷ before) x y after (suc k) e = ap (λ (rs : List Terms). b ∷ rs) (set-seam before x y after k (omega (arith, e)))

  seam : (before : List Terms) (r : Terms) (rs : List Terms) → (before ++ r ∷ []) ++ rs ≡ before ++ r ∷ rs
  seam before r rs = append_assoc before (r ∷ []) rs

  longer : (before : List Terms) (r : Terms) (start : ℕ) → length before ≡ start → length (before ++ r ∷ []) ≡ start + 1
  longer before r start e = length-append before (r ∷ []) ∙ ap (λ (n : ℕ). n + 1) e

  changed : (start : ℕ) (before rs : List Terms) (cs : List Change) → length before ≡ start → AreChanges Changes start rs cs → (after : List Terms) × (with_changes cs (before ++ rs) ≡ before ++ after) × HaveBecome start rs after
  changed start before [] cs e a = ([], ap (λ (xs : List Change). with_changes xs (before ++ [])) a, record { same_length = refl; become = λ m l. absurd (omega arith) })
  changed start before (r ∷ rs) cs e a = ⊎_elim
      (λ w. let later = changed (start + 1) (before ++ r ∷ []) rs cs (longer before r start e) w.1 in
      (r ∷ later.0, ap (with_changes cs) (sym (seam before r rs)) ∙ later.1 ∙ seam before r later.0, become-more start r r rs later.0 w.0 later.2))
      (λ w. let later = changed (start + 1) (before ++ r ∷ []) rs w.1 (longer before r start e) w.4 in (
        w.0 ∷ later.0,
        ap (λ (xs : List Change). with_changes xs (before ++ r ∷ rs)) w.2 ∙ ap (λ (xs : List Terms). set xs start w.0) (ap (with_changes w.1) (sym (seam before r rs)) ∙ later.1 ∙ seam before r later.0) ∙ set-seam before r w.0 later.0 start e,
        become-more start r w.0 rs later.0 w.3 later.2,
      ))
      a

  -- the rows with all changes at their places
  pub changes-made : (rs : List Terms) (cs : List Change) → AreChanges Changes 0 rs cs → HaveBecome 0 rs (with_changes cs rs)
  changes-made rs cs a = let c = changed 0 [] rs cs refl a in subst (HaveBecome 0 rs) (sym c.1) c.2

place_is : (k : ℕ) (rows : List Terms) → k < length rows → k ≡ 0 + length (take k rows)
place_is k rows h = omega (arith, h, length-take k rows)

-- the last change can be made first
pub with_changes-last : (cs : List Change) (c : Change) (rows : List Terms) → with_changes (cs ++ c ∷ []) rows ≡ with_changes cs (set rows c.0 c.1)
with_changes-last [] c rows = refl
with_changes-last (x ∷ cs) c rows = ap (λ (rs : List Terms). set rs x.0 x.1) (with_changes-last cs c rows)

-- the row at k is noted
pub noted-next : {S Z : Type 0} (value : S → ℚ) (Changes : ℕ → Terms → Terms → Type 0) (rows : List Terms) (cs : List Change) (k : ℕ) (row : Option (Vec (ℕ × S) Z)) → k < length rows
    → Changes k (terms_in rows k) (row_or value (terms_in rows k) row) → AreChanges Changes 0 (take k rows) cs → AreChanges Changes 0 (take (k + 1) rows) (noted value cs k row)
noted-next value Changes rows cs k None h c a = subst (λ (rs : List Terms). AreChanges Changes 0 rs cs) (sym (take_more rows k [] h))
    (AreChanges-keep Changes 0 (take k rows) (terms_in rows k) cs (subst (λ (m : ℕ). Changes m (terms_in rows k) (terms_in rows k)) (place_is k rows h) c) a)
noted-next value Changes rows cs k (Some out) h c a = subst (λ (rs : List Terms). AreChanges Changes 0 rs (cs ++ (k, terms_of value out.items) ∷ [])) (sym (take_more rows k [] h))
    (AreChanges-take Changes 0 k (take k rows) (terms_in rows k) (terms_of value out.items) cs (place_is k rows h) c a)

-- rows that stay as they are are passed over
passed-over : (Changes : ℕ → Terms → Terms → Type 0) (rows : List Terms) (cs : List Change) (k d : ℕ) → k + d ≤ length rows
    → ((m : ℕ) → k ≤ m → m < k + d → Changes m (terms_in rows m) (terms_in rows m)) → AreChanges Changes 0 (take k rows) cs → AreChanges Changes 0 (take (k + d) rows) cs
passed-over Changes rows cs k zero l stay a = subst (λ (n : ℕ). AreChanges Changes 0 (take n rows) cs) (let e : k ≡ k + 0 = omega arith in e) a
passed-over Changes rows cs k (suc d) l stay a =
    let last : k + d < length rows = omega (arith, l) in
    let before = passed-over Changes rows cs k d (omega (arith, l)) (λ m f t. stay m f (omega (arith, t))) a in
    subst (λ (n : ℕ). AreChanges Changes 0 (take n rows) cs) (let e : k + d + 1 ≡ k + suc d = omega arith in e)
    (subst (λ (rs : List Terms). AreChanges Changes 0 rs cs) (sym (take_more rows (k + d) [] last))
    (AreChanges-keep Changes 0 (take (k + d) rows) (terms_in rows (k + d)) cs (subst (λ (m : ℕ). Changes m (terms_in rows (k + d)) (terms_in rows (k + d))) (place_is (k + d) rows last) (stay (k + d) (omega arith) (omega arith))) before))

pub passed-to : (Changes : ℕ → Terms → Terms → Type 0) (rows : List Terms) (cs : List Change) (k m : ℕ) → k ≤ m → m ≤ length rows
    → ((e : ℕ) → k ≤ e → e < m → Changes e (terms_in rows e) (terms_in rows e)) → AreChanges Changes 0 (take k rows) cs → AreChanges Changes 0 (take m rows) cs
passed-to Changes rows cs k m h l stay a =
    let end : k + (m - k) ≡ m = omega (arith, h) in
    subst (λ (n : ℕ). AreChanges Changes 0 (take n rows) cs) end (passed-over Changes rows cs k (m - k) (omega (arith, l, end)) (λ e f t. stay e f (omega (arith, t, end))) a)

pub length-with_changes : (cs : List Change) (rows : List Terms) → length (with_changes cs rows) ≡ length rows
length-with_changes [] rows = refl
length-with_changes (c ∷ cs) rows = length-set (with_changes cs rows) c.0 c.1 ∙ length-with_changes cs rows

module _ {S Z : Type 0} (value : S → ℚ) where
  terms_of_rows-set : (rows : List (Vec (ℕ × S) Z)) (k : ℕ) (row : Vec (ℕ × S) Z) → terms_of_rows value (set rows k row) ≡ set (terms_of_rows value rows) k (terms_of value row.items)
  terms_of_rows-set rows k row = map-set (λ (r : Vec (ℕ × S) Z). terms_of value r.items) rows k row

  -- one of the changes that are left is made
  module _ (left rest : List (ℕ × Vec (ℕ × S) Z)) (k : ℕ) (row : Vec (ℕ × S) Z) (rows : List (Vec (ℕ × S) Z)) (e : left ≡ rest ++ (k, row) ∷ []) (h : AreWithin (length rows) (changes_of value left)) where
    shown : changes_of value left ≡ changes_of value rest ++ (k, terms_of value row.items) ∷ []
    shown = ap (changes_of value) e ∙ map-append (λ (c : ℕ × Vec (ℕ × S) Z). change c) rest ((k, row) ∷ [])
      where
        change : ℕ × Vec (ℕ × S) Z → Change
        change c = (c.0, terms_of value c.1.items)

    within : AreWithin (length rows) (changes_of value rest ++ (k, terms_of value row.items) ∷ [])
    within = subst (AreWithin (length rows)) shown h

    pub change-within : k < length rows
    change-within = (each_right (λ (c : Change). c.0 < length rows) (changes_of value rest) ((k, terms_of value row.items) ∷ []) within).0

    pub change-made : (place : Vec (ℕ × S) Z) (wanted : List Terms) → place ≡ row → with_changes (changes_of value left) (terms_of_rows value rows) ≡ wanted
        → AreWithin (length (set rows k place)) (changes_of value rest) × (with_changes (changes_of value rest) (terms_of_rows value (set rows k place)) ≡ wanted)
    change-made place wanted p w = (
      subst (λ (n : ℕ). AreWithin n (changes_of value rest)) (sym (length-set rows k place)) (each_left (λ (c : Change). c.0 < length rows) (changes_of value rest) ((k, terms_of value row.items) ∷ []) within),
      ap (with_changes (changes_of value rest)) (terms_of_rows-set rows k place ∙ ap (λ (v : Vec (ℕ × S) Z). set (terms_of_rows value rows) k (terms_of value v.items)) p)
          ∙ sym (with_changes-last (changes_of value rest) (k, terms_of value row.items) (terms_of_rows value rows)) ∙ ap (λ (cs : List Change). with_changes cs (terms_of_rows value rows)) (sym shown) ∙ w,
    )

  pub row-placed : (rows : List (Vec (ℕ × S) Z)) (i : ℕ) (place row : Vec (ℕ × S) Z) (wanted : List Terms) → place ≡ row → terms_of_rows value rows ≡ wanted → terms_of_rows value (set rows i place) ≡ set wanted i (terms_of value row.items)
  row-placed rows i place row wanted p w = terms_of_rows-set rows i place ∙ ap (λ (v : Vec (ℕ × S) Z). set (terms_of_rows value rows) i (terms_of value v.items)) p ∙ ap (λ (rs : List Terms). set rs i (terms_of value row.items)) w

  pub length-placed : (cs : List Change) (old new : List (Vec (ℕ × S) Z)) → terms_of_rows value new ≡ with_changes cs (terms_of_rows value old) → length new ≡ length old
  length-placed cs old new e = sym (length-map new (λ (r : Vec (ℕ × S) Z). terms_of value r.items)) ∙ ap length e ∙ length-with_changes cs (terms_of_rows value old) ∙ length-map old (λ (r : Vec (ℕ × S) Z). terms_of value r.items)
