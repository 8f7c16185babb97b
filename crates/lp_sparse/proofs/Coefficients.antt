-- The numbers of rows without their zeros: terms put together, sums of terms, and the filled row.
use Rattle.std.proofs.Common.{◌≡◌, ℕ, ◌+◌, ◌-◌, ◌<◌, ◌≤◌, ◌⊎◌, ⊎_elim, Bool, true, false, nat_eq, List, [], ◌∷◌, ◌++◌, length, refl, sym, ap, ap₂, subst, ◌∙◌, get_or, arith}
use Rattle.std.specs.Prelude.{if◌then◌else◌}
use Rattle.std.specs.List.{range_with_len}
use Rattle.std.proofs.lemmas.List.{length-map, get_or-map, same_lists, get_or_default}
use Rattle.std.proofs.lemmas.List.FromFn.{length-range_with_len, get_or-map-range_with_len}
use Rattle.rational.specs.Rational.{ℚ, zeroℚ, oneℚ, ◌+ℚ◌, ◌*ℚ◌}
use Rattle.rational.specs.Lists.{at}
use Rattle.rational.proofs.Ring.{law, ◌⊕◌, ◌⊗◌, ◌≐◌, num}
use Rattle.rational.proofs.Field.{ℚ_ring}
use Rattle.exact_lin.specs.Ids.{nat-decide}
use Rattle.exact_lin.specs.Reckoning.{Fits, CanAdd}
use Rattle.exact_lin.specs.Reckonings.{AreDefined, product_sum}
use Rattle.exact_lin.specs.Forms.{Terms, AscendFrom, Covers, coefficient, terms_at, with_term, is_zero, increased, increased_by, CanAddTerms}
use Rattle.exact_lin.proofs.FormLaws.{AscendFrom-lower, AscendFrom-with_term, AscendFrom-increased, AscendFrom-increased_by, terms_at-increased_by}
use Rattle.exact_lin.proofs.Zeros.{zero-is_zero}
use Rattle.std.proofs.lemmas.List.{get_or_append_left, get_or-append_right, length-append}
use Rattle.exact_lin.proofs.MergeTerms.{coefficient-below, coefficient-later, coefficient-here}
use Rattle.exact_lin.proofs.Nothing.{adds_nothing_right}
use Rattle.lp_sparse.specs.SparseRows.{filled, terms_of, IsSparse}

-- ---- terms behind other terms

pub AscendFrom-append : (low v : ℕ) (us ts : Terms) → low ≤ v → AscendFrom low us → Covers v us → AscendFrom v ts → AscendFrom low (us ++ ts)
AscendFrom-append low v [] ts h a c b = AscendFrom-lower low v ts h b
AscendFrom-append low v (u ∷ us) ts h a c b = (a.0, a.1, AscendFrom-append (u.0 + 1) v us ts (omega (arith, c.0)) a.2 c.1 b)

pub Covers-append : (n : ℕ) (us ts : Terms) → Covers n us → Covers n ts → Covers n (us ++ ts)
Covers-append n [] ts c d = d
Covers-append n (u ∷ us) ts c d = (c.0, Covers-append n us ts c.1 d)

pub Covers-larger : (m n : ℕ) (ts : Terms) → m ≤ n → Covers m ts → Covers n ts
Covers-larger m n [] h c = tt
Covers-larger m n (t ∷ ts) h c = (omega (arith, h, c.0), Covers-larger m n ts h c.1)

-- a column is among the first terms, or behind them
pub coefficient-front : (v k : ℕ) (us ts : Terms) → k < v → AscendFrom v ts → coefficient (us ++ ts) k ≡ coefficient us k
coefficient-front v k [] ts h a = coefficient-below k v ts a h
coefficient-front v k (u ∷ us) ts h a = ap (λ (q : ℚ). if nat_eq u.0 k then u.1 else q) (coefficient-front v k us ts h a)

pub coefficient-back : (v k : ℕ) (us ts : Terms) → v ≤ k → Covers v us → coefficient (us ++ ts) k ≡ coefficient ts k
coefficient-back v k [] ts h c = refl
coefficient-back v k (u ∷ us) ts h c = coefficient-later k u (us ++ ts) (omega (arith, h, c.0)) ∙ coefficient-back v k us ts h c.1

pub coefficient-past : (n k : ℕ) (ts : Terms) → n ≤ k → Covers n ts → coefficient ts k ≡ zeroℚ
coefficient-past n k [] h c = refl
coefficient-past n k (t ∷ ts) h c = coefficient-later k t ts (omega (arith, h, c.0)) ∙ coefficient-past n k ts h c.1

chosen_same : (b : Bool) (x y : ℚ) → (b ≡ true → y ≡ x) → y ≡ (if b then x else y)
chosen_same true x y e = e refl
chosen_same false x y e = refl

pub coefficient-with_term : (v k : ℕ) (c : ℚ) (ts : Terms) → AscendFrom (v + 1) ts → coefficient (with_term v c ts) k ≡ (if nat_eq v k then c else coefficient ts k)
coefficient-with_term v k c ts a = go (is_zero c) refl
  where
    here : nat_eq v k ≡ true → k < v + 1
    here e = let s : v ≡ k = (nat-decide v k).0 e in omega arith

    go : (b : Bool) → is_zero c ≡ b → coefficient (if b then ts else ((v, c) ∷ ts)) k ≡ (if nat_eq v k then c else coefficient ts k)
    go true e = chosen_same (nat_eq v k) c (coefficient ts k) (λ h. coefficient-below k (v + 1) ts a (here h) ∙ sym (zero-is_zero c e))
    go false e = refl

pub coefficient-one_term : (v : ℕ) (c : ℚ) → coefficient (with_term v c []) v ≡ c
coefficient-one_term v c = coefficient-with_term v v c [] tt ∙ ap (λ (b : Bool). if b then c else zeroℚ) ((nat-decide v v).1 refl)

pub Covers-with_term : (n v : ℕ) (c : ℚ) → v < n → Covers n (with_term v c [])
Covers-with_term n v c h = go (is_zero c)
  where
    go : (b : Bool) → Covers n (if b then [] else ((v, c) ∷ []))
    go true = tt
    go false = (h, tt)

-- where some terms of a row stand around one of them
pub record Halves (n j : ℕ) (front : Terms) (x : ℚ) (back : Terms) : Type 0 where
  pub front_ascends : AscendFrom 0 front
  pub below : Covers j front
  pub not_zero : ¬ (x ≡ zeroℚ)
  pub back_ascends : AscendFrom (j + 1) back
  pub column : j < n
  pub covered : Covers n back

pub ascend-split : (low : ℕ) (a : Terms) (x : ℕ × ℚ) (b : Terms) → AscendFrom low (a ++ x ∷ b) → AscendFrom low a × Covers x.0 a × ¬ (x.1 ≡ zeroℚ) × AscendFrom (x.0 + 1) b × (low ≤ x.0)
ascend-split low [] x b h = (tt, tt, h.1, h.2, h.0)
ascend-split low (t ∷ ts) x b h = let r = ascend-split (t.0 + 1) ts x b h.2 in ((h.0, h.1, r.0), (omega (arith, r.4), r.1), r.2, r.3, omega (arith, h.0, r.4))

pub Covers-split : (n : ℕ) (a : Terms) (x : ℕ × ℚ) (b : Terms) → Covers n (a ++ x ∷ b) → (x.0 < n) × Covers n b
Covers-split n [] x b h = h
Covers-split n (t ∷ ts) x b h = Covers-split n ts x b h.1

pub Halves-of : (n j : ℕ) (ts front : Terms) (x : ℚ) (back : Terms) → ts ≡ front ++ (j, x) ∷ back → IsSparse n ts → Halves n j front x back
Halves-of n j ts front x back e s =
    let a = ascend-split 0 front (j, x) back (subst (AscendFrom 0) e s.ascends) in
    let c = Covers-split n front (j, x) back (subst (Covers n) e s.covered) in
    record { front_ascends = a.0; below = a.1; not_zero = a.2; back_ascends = a.3; column = c.0; covered = c.1 }

module _ (n j : ℕ) (front : Terms) (x : ℚ) (back : Terms) (h : Halves n j front x back) where
  pub halves-ascends : AscendFrom j ((j, x) ∷ back)
  halves-ascends = let l : j ≤ j = omega arith in (l, h.not_zero, h.back_ascends)

  pub halves-front : (k : ℕ) → k < j → coefficient (front ++ (j, x) ∷ back) k ≡ coefficient front k
  halves-front k l = coefficient-front j k front ((j, x) ∷ back) l halves-ascends

  pub halves-here : coefficient (front ++ (j, x) ∷ back) j ≡ x
  halves-here = let l : j ≤ j = omega arith in coefficient-back j j front ((j, x) ∷ back) l h.below ∙ coefficient-here j (j, x) back refl

  pub halves-back : (k : ℕ) → j < k → coefficient (front ++ (j, x) ∷ back) k ≡ coefficient back k
  halves-back k l = coefficient-back j k front ((j, x) ∷ back) (omega arith) h.below ∙ coefficient-later k (j, x) back l

-- ---- terms of scalars

abbrev pub term_of : {S : Type 0} → (S → ℚ) → ℕ × S → ℕ × ℚ
term_of value t = (t.0, value t.1)

pub length-terms_of : {S : Type 0} (value : S → ℚ) (row : List (ℕ × S)) → length (terms_of value row) ≡ length row
length-terms_of value row = length-map row (term_of value)

pub terms_of-at : {S : Type 0} (value : S → ℚ) (row : List (ℕ × S)) (e : ℕ) (t : ℕ × S) (d : ℕ × ℚ) → e < length row → t ≡ get_or row e t → get_or (terms_of value row) e d ≡ term_of value t
terms_of-at value row e t d h is = get_or-map (term_of value) row e t d h ∙ ap (term_of value) (sym is)

-- ---- sums of terms

-- 1 at the column k, 0 elsewhere
abbrev unit : ℕ → ℕ → ℚ
unit k v = if nat_eq v k then oneℚ else zeroℚ

terms_at-unit : (low k : ℕ) (ts : Terms) → AscendFrom low ts → terms_at ts (unit k) ≡ coefficient ts k
terms_at-unit low k [] a = refl
terms_at-unit low k (t ∷ ts) a = ap (λ (q : ℚ). t.1 *ℚ unit k t.0 +ℚ q) (terms_at-unit (t.0 + 1) k ts a.2) ∙ go (nat_eq t.0 k) (λ e. coefficient-below k (t.0 + 1) ts a.2 (same e))
  where
    same : nat_eq t.0 k ≡ true → k < t.0 + 1
    same e = let s : t.0 ≡ k = (nat-decide t.0 k).0 e in omega arith

    go : (b : Bool) → (b ≡ true → coefficient ts k ≡ zeroℚ) → t.1 *ℚ (if b then oneℚ else zeroℚ) +ℚ coefficient ts k ≡ (if b then t.1 else coefficient ts k)
    go true e = ap (λ (q : ℚ). t.1 *ℚ oneℚ +ℚ q) (e refl) ∙ law ℚ_ring (t.1 ∷ []) (λ x. x ⊗ num 1 ⊕ num 0 ≐ x) refl
    go false e = law ℚ_ring (t.1 ∷ coefficient ts k ∷ []) (λ x q. x ⊗ num 0 ⊕ q ≐ q) refl

pub coefficient-increased_by : (y : ℚ) (k low : ℕ) (us ts : Terms) → AscendFrom 0 ts → AscendFrom low us → coefficient (increased_by ts y us) k ≡ coefficient ts k +ℚ y *ℚ coefficient us k
coefficient-increased_by y k low us ts a b = sym (terms_at-unit 0 k (increased_by ts y us) (AscendFrom-increased_by y us ts a)) ∙ terms_at-increased_by y us ts (unit k)
    ∙ ap₂ (λ (p q : ℚ). p +ℚ y *ℚ q) (terms_at-unit 0 k ts a) (terms_at-unit low k us b)

pub AscendFrom-increased_from : (low : ℕ) (y : ℚ) (us ts : Terms) → AscendFrom low ts → AscendFrom low us → AscendFrom low (increased_by ts y us)
AscendFrom-increased_from low y [] ts a b = a
AscendFrom-increased_from low y (u ∷ us) ts a b = AscendFrom-increased_from low y us (increased ts u.0 (y *ℚ u.1)) (AscendFrom-increased low u.0 (y *ℚ u.1) ts b.0 a) (AscendFrom-lower low (u.0 + 1) us (omega (arith, b.0)) b.2)

-- where the terms can be added, they can at each column
pub CanAddTerms-at : (limit : ℕ) (y : ℚ) (k : ℕ) (ts us : Terms) → Fits limit (coefficient ts k) → CanAddTerms limit ts y us → AreDefined limit (product_sum (coefficient ts k) y (coefficient us k))
CanAddTerms-at limit y k ts [] f h = (adds_nothing_right limit (coefficient ts k) y zeroℚ (coefficient ts k) f refl refl).0
CanAddTerms-at limit y k ts (u ∷ us) f h = go (nat_eq u.0 k) (λ e. (nat-decide u.0 k).0 e) (CanAddTerms-at limit y k ts us f h.2)
  where
    go : (b : Bool) → (b ≡ true → u.0 ≡ k) → AreDefined limit (product_sum (coefficient ts k) y (coefficient us k)) → AreDefined limit (product_sum (coefficient ts k) y (if b then u.1 else coefficient us k))
    go true e r = (h.0, (subst (λ (n : ℕ). CanAdd limit (coefficient ts n) (y *ℚ u.1)) (e refl) h.1, tt))
    go false e r = r

pub CanAddTerms-all : (limit : ℕ) (y : ℚ) (low n : ℕ) (ts us : Terms) → AscendFrom low us → Covers n us → ((k : ℕ) → low ≤ k → k < n → AreDefined limit (product_sum (coefficient ts k) y (coefficient us k))) → CanAddTerms limit ts y us
CanAddTerms-all limit y low n ts [] a c h = tt
CanAddTerms-all limit y low n ts (u ∷ us) a c h =
    let here = subst (λ (q : ℚ). AreDefined limit (product_sum (coefficient ts u.0) y q)) (coefficient-here u.0 u us refl) (h u.0 a.0 c.0) in (
      here.0,
      here.1.0,
      CanAddTerms-all limit y (u.0 + 1) n ts us a.2 c.1 (λ k l m. subst (λ (q : ℚ). AreDefined limit (product_sum (coefficient ts k) y q)) (coefficient-later k u us (omega (arith, l))) (h k (omega (arith, l, a.0)) m)),
    )

-- ---- the filled row

pub length-filled : (n : ℕ) (ts : Terms) → length (filled n ts) ≡ n
length-filled n ts = length-map (range_with_len 0 n) (coefficient ts) ∙ length-range_with_len 0 n

pub at-filled : (n k : ℕ) (ts : Terms) → k < n → at (filled n ts) k ≡ coefficient ts k
at-filled n k ts h = get_or-map-range_with_len (coefficient ts) 0 n k k zeroℚ h (omega arith)

pub filled-is : (n : ℕ) (ts : Terms) (u : List ℚ) → length u ≡ n → ((k : ℕ) → k < n → coefficient ts k ≡ at u k) → filled n ts ≡ u
filled-is n ts u e f = same_lists (filled n ts) u (length-filled n ts ∙ sym e)
    (λ k d h. let l : k < n = omega (arith, h, length-filled n ts) in get_or_default (filled n ts) k d zeroℚ h ∙ at-filled n k ts l ∙ f k l ∙ get_or_default u k zeroℚ d (omega (arith, l, e)))

-- one number more at the end
pub filled-more : (n : ℕ) (c : ℚ) (ts : Terms) → Covers n ts → filled (n + 1) (ts ++ with_term n c []) ≡ filled n ts ++ c ∷ []
filled-more n c ts s = filled-is (n + 1) (ts ++ with_term n c []) (filled n ts ++ c ∷ []) (length-append (filled n ts) (c ∷ []) ∙ ap (λ (m : ℕ). m + 1) (length-filled n ts)) (λ k h. ⊎_elim
    (λ (l : k < n). coefficient-front n k ts (with_term n c []) l (AscendFrom-with_term n n c [] (omega arith) tt) ∙ sym (at-filled n k ts l) ∙ sym (get_or_append_left (filled n ts) (c ∷ []) zeroℚ k (omega (arith, l, length-filled n ts))))
    (λ (e : k ≡ n). subst (λ (m : ℕ). coefficient (ts ++ with_term n c []) m ≡ at (filled n ts ++ c ∷ []) m) (sym e)
    (coefficient-back n n ts (with_term n c []) (omega arith) s ∙ coefficient-one_term n c ∙ sym (get_or-append_right (filled n ts) (c ∷ []) n n zeroℚ (length-filled n ts) (omega arith) ∙ ap (λ (m : ℕ). at (c ∷ []) m) (let z : n - n ≡ 0 = omega arith in z))))
    (last_or k n h))
  where
    last_or : (k n : ℕ) → k < n + 1 → (k < n) ⊎ (k ≡ n)
    last_or k n h = grind arith

pub IsSparse-more : (n : ℕ) (c : ℚ) (ts : Terms) → IsSparse n ts → IsSparse (n + 1) (ts ++ with_term n c [])
IsSparse-more n c ts s = record {
  ascends = AscendFrom-append 0 n ts (with_term n c []) (omega arith) s.ascends s.covered (AscendFrom-with_term n n c [] (omega arith) tt);
  covered = Covers-append (n + 1) ts (with_term n c []) (Covers-larger n (n + 1) ts (omega arith) s.covered) (Covers-with_term (n + 1) n c (omega arith));
}
