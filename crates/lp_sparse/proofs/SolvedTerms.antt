-- The terms of a leaving row, solved for the entering variable.
use Rattle.std.proofs.Common.{◌≡◌, ℕ, zero, suc, ◌+◌, ◌<◌, ◌≤◌, ⊎_elim, Bool, true, false, nat_eq, List, [], ◌∷◌, ◌++◌, length, take, refl, sym, ap, ap₂, subst, ◌∙◌, get_or, arith}
use Rattle.std.specs.Prelude.{if◌then◌else◌}
use Rattle.std.proofs.lemmas.List.{length-map, get_or-map, get_or-set_same, get_or-set_other}
use Rattle.rational.specs.Rational.{ℚ, zeroℚ, oneℚ, ◌*ℚ◌, neg_ℚ, inverse}
use Rattle.rational.specs.Lists.{at, scale_list}
use Rattle.rational.proofs.Ring.{law, minus, num, ◌⊗◌, ◌≐◌}
use Rattle.rational.proofs.Field.{ℚ_ring}
use Rattle.rational.proofs.Order.{ℚ_ordered, mul-inverse}
use Rattle.rational.proofs.Solve.{contradiction}
use Rattle.rational.proofs.Inverses.{mul-cancel}
use Rattle.rational.proofs.Lists.{at-scale_list, length-scale_list}
use Rattle.exact_lin.specs.Ids.{nat-decide}
use Rattle.exact_lin.specs.Reckoning.{Fits, CanMultiply}
use Rattle.exact_lin.specs.Forms.{Terms, AscendFrom, Covers, coefficient}
use Rattle.exact_lin.proofs.Results.{fits-product, fits-inverse, fits-neg}
use Rattle.exact_lin.proofs.Nothing.{adds_nothing_right}
use Rattle.exact_lin.proofs.MergeTerms.{coefficient-here, coefficient-later}
use Rattle.lp_tableau.specs.Pivots.{solved, CanSolve}
use Rattle.lp_tableau.proofs.RowPlaces.{length-solved}
use Rattle.lp_tableau.proofs.Solving.{same_or_not}
use Rattle.lp_tableau.proofs.Writing.{last_or_before}
use Rattle.lp_tableau.proofs.Growing.{grown}
use Rattle.lp_sparse.specs.SparseRows.{filled, terms_of, scaled_term, scaled_terms, CanScaleTerms, IsRow, IsSolved}
use Rattle.lp_sparse.proofs.Coefficients.{term_of, terms_of-at, length-terms_of, length-filled, at-filled, filled-is}

-- ---- numbers that aren't 0

product-not_zero : (y a : ℚ) → ¬ (y ≡ zeroℚ) → ¬ (a ≡ zeroℚ) → ¬ (y *ℚ a ≡ zeroℚ)
product-not_zero y a n m e = m (mul-cancel y a zeroℚ n (e ∙ law ℚ_ring (y ∷ []) (λ y. num 0 ≐ y ⊗ num 0) refl))

inverse-not_zero : (a : ℚ) → ¬ (a ≡ zeroℚ) → ¬ (inverse a ≡ zeroℚ)
inverse-not_zero a n e = let p : a *ℚ zeroℚ ≡ oneℚ = ap (λ (z : ℚ). a *ℚ z) (sym e) ∙ mul-inverse a n in
    contradiction ℚ_ordered (a ∷ []) (λ a. a ⊗ num 0 ≐ num 1 ∷ []) (p, tt) refl

negative-not_zero : (a : ℚ) → ¬ (a ≡ zeroℚ) → ¬ (neg_ℚ a ≡ zeroℚ)
negative-not_zero a n e = n (law ℚ_ring (a ∷ []) (λ a. a ≐ minus (minus a)) refl ∙ ap neg_ℚ e ∙ law ℚ_ring [] (minus (num 0) ≐ num 0) refl)

-- ---- the terms

module _ (y r : ℚ) (j : ℕ) where
  scaled-not_zero : ¬ (y ≡ zeroℚ) → ¬ (r ≡ zeroℚ) → (t : ℕ × ℚ) → ¬ (t.1 ≡ zeroℚ) → ¬ ((scaled_term y r j t).1 ≡ zeroℚ)
  scaled-not_zero n m t h = go (nat_eq t.0 j)
    where
      go : (b : Bool) → ¬ ((if b then r else y *ℚ t.1) ≡ zeroℚ)
      go true = m
      go false = product-not_zero y t.1 n h

  scaled-ascends : (low : ℕ) (ts : Terms) → ¬ (y ≡ zeroℚ) → ¬ (r ≡ zeroℚ) → AscendFrom low ts → AscendFrom low (scaled_terms y r j ts)
  scaled-ascends low [] n m a = tt
  scaled-ascends low (t ∷ ts) n m a = (a.0, scaled-not_zero n m t a.1, scaled-ascends (t.0 + 1) ts n m a.2)

  scaled-covered : (n : ℕ) (ts : Terms) → Covers n ts → Covers n (scaled_terms y r j ts)
  scaled-covered n [] c = tt
  scaled-covered n (t ∷ ts) c = (c.0, scaled-covered n ts c.1)

  scaled-other : (k : ℕ) (ts : Terms) → ¬ (k ≡ j) → coefficient (scaled_terms y r j ts) k ≡ y *ℚ coefficient ts k
  scaled-other k [] n = law ℚ_ring (y ∷ []) (λ y. num 0 ≐ y ⊗ num 0) refl
  scaled-other k (t ∷ ts) n = go (scaled-other k ts n) (nat_eq t.0 k) (nat_eq t.0 j) (λ e. (nat-decide t.0 k).0 e) (λ e. (nat-decide t.0 j).0 e)
    where
      go : coefficient (scaled_terms y r j ts) k ≡ y *ℚ coefficient ts k → (b c : Bool) → (b ≡ true → t.0 ≡ k) → (c ≡ true → t.0 ≡ j) → (if b then (if c then r else y *ℚ t.1) else coefficient (scaled_terms y r j ts) k) ≡ y *ℚ (if b then t.1 else coefficient ts k)
      go w true true e f = absurd (n (sym (e refl) ∙ f refl))
      go w true false e f = refl
      go w false c e f = w

  scaled-here : (ts : Terms) → ¬ (coefficient ts j ≡ zeroℚ) → coefficient (scaled_terms y r j ts) j ≡ r
  scaled-here [] n = absurd (n refl)
  scaled-here (t ∷ ts) n = go (scaled-here ts) (nat_eq t.0 j) n
    where
      go : (¬ (coefficient ts j ≡ zeroℚ) → coefficient (scaled_terms y r j ts) j ≡ r) → (b : Bool) → ¬ ((if b then t.1 else coefficient ts j) ≡ zeroℚ) → (if b then (if b then r else y *ℚ t.1) else coefficient (scaled_terms y r j ts) j) ≡ r
      go w true n = refl
      go w false n = w n

-- each product is defined where those of the terms are
products-defined : (limit : ℕ) (y : ℚ) (ts : Terms) (k : ℕ) → Fits limit y → ((e : ℕ) (d : ℕ × ℚ) → e < length ts → CanMultiply limit y (get_or ts e d).1) → CanMultiply limit y (coefficient ts k)
products-defined limit y [] k f h = (adds_nothing_right limit y y zeroℚ y f refl refl).0.0
products-defined limit y (t ∷ ts) k f h = go (products-defined limit y ts k f (λ e d l. h (suc e) d (omega (arith, l)))) (nat_eq t.0 k)
  where
    go : CanMultiply limit y (coefficient ts k) → (b : Bool) → CanMultiply limit y (if b then t.1 else coefficient ts k)
    go w true = h 0 t (omega arith)
    go w false = w

pub products-needed : (limit : ℕ) (y : ℚ) (low n : ℕ) (ts : Terms) (e : ℕ) (d : ℕ × ℚ) → AscendFrom low ts → Covers n ts → e < length ts → ((k : ℕ) → k < n → low ≤ k → CanMultiply limit y (coefficient ts k)) → CanMultiply limit y (get_or ts e d).1
products-needed limit y low n [] e d a c l h = absurd (omega arith)
products-needed limit y low n (t ∷ ts) zero d a c l h = subst (CanMultiply limit y) (coefficient-here t.0 t ts refl) (h t.0 c.0 a.0)
products-needed limit y low n (t ∷ ts) (suc e) d a c l h = products-needed limit y (t.0 + 1) n ts e d a.2 c.1 (omega (arith, l))
    (λ k m o. subst (CanMultiply limit y) (coefficient-later k t ts (omega (arith, o))) (h k m (omega (arith, o, a.0))))

module _ (limit n j : ℕ) (row : Terms) (is : IsRow limit n row) (column : j < n) (not_zero : ¬ (coefficient row j ≡ zeroℚ)) where
  abbrev p : ℚ
  p = coefficient row j

  pivot-is : at (filled n row) j ≡ coefficient row j
  pivot-is = at-filled n j row column

  fits-at : (k : ℕ) → k < n → Fits limit (coefficient row k)
  fits-at k l = subst (Fits limit) (at-filled n k row l) (is.fits k (omega (arith, l, length-filled n row)))

  -- what the leaving row needs, its terms need
  pub solve-needed : (e : ℕ) (d : ℕ × ℚ) → e < length row → CanSolve limit (filled n row) j → CanMultiply limit (neg_ℚ (inverse (coefficient row j))) (get_or row e d).1
  solve-needed e d l h = products-needed limit (neg_ℚ (inverse (coefficient row j))) 0 n row e d is.sparse.ascends is.sparse.covered l
      (λ k m _. subst (λ (z : ℚ). CanMultiply limit (neg_ℚ (inverse z)) (coefficient row k)) pivot-is (subst (λ (z : ℚ). CanMultiply limit (neg_ℚ (inverse (at (filled n row) j))) z) (at-filled n k row m) (h k (omega (arith, m, length-filled n row)))))

  module _ (fits : Fits limit (neg_ℚ (inverse (coefficient row j)))) (can : (e : ℕ) (d : ℕ × ℚ) → e < length row → CanMultiply limit (neg_ℚ (inverse (coefficient row j))) (get_or row e d).1) where
    abbrev out : Terms
    out = scaled_terms (neg_ℚ (inverse (coefficient row j))) (inverse (coefficient row j)) j row

    can-at : (k : ℕ) → CanMultiply limit (neg_ℚ (inverse (coefficient row j))) (coefficient row k)
    can-at k = products-defined limit (neg_ℚ (inverse (coefficient row j))) row k fits can

    solve-defined : CanSolve limit (filled n row) j
    solve-defined k h = let l : k < n = omega (arith, h, length-filled n row) in
        subst (λ (z : ℚ). CanMultiply limit (neg_ℚ (inverse z)) (at (filled n row) k)) (sym pivot-is) (subst (CanMultiply limit (neg_ℚ (inverse (coefficient row j)))) (sym (at-filled n k row l)) (can-at k))

    solved-other : (k : ℕ) → k < n → ¬ (k ≡ j) → at (solved (filled n row) j) k ≡ neg_ℚ (inverse (coefficient row j)) *ℚ coefficient row k
    solved-other k l m = get_or-set_other (scale_list (neg_ℚ (inverse (at (filled n row) j))) (filled n row)) j k (inverse (at (filled n row) j)) zeroℚ m
        ∙ at-scale_list (neg_ℚ (inverse (at (filled n row) j))) (filled n row) k ∙ ap₂ (λ (x z : ℚ). neg_ℚ (inverse x) *ℚ z) pivot-is (at-filled n k row l)

    solved-here : at (solved (filled n row) j) j ≡ inverse (coefficient row j)
    solved-here = get_or-set_same (scale_list (neg_ℚ (inverse (at (filled n row) j))) (filled n row)) j (inverse (at (filled n row) j)) zeroℚ (omega (arith, column, length-scale_list (neg_ℚ (inverse (at (filled n row) j))) (filled n row), length-filled n row)) ∙ ap inverse pivot-is

    solved-at : (k : ℕ) → k < n → coefficient out k ≡ at (solved (filled n row) j) k
    solved-at k l = ⊎_elim
        (λ (e : k ≡ j). subst (λ (m : ℕ). coefficient out m ≡ at (solved (filled n row) j) m) (sym e) (scaled-here (neg_ℚ (inverse (coefficient row j))) (inverse (coefficient row j)) j row not_zero ∙ sym solved-here))
        (λ m. scaled-other (neg_ℚ (inverse (coefficient row j))) (inverse (coefficient row j)) j k row m ∙ sym (solved-other k l m))
        (same_or_not k j)

    solved-fits : (k : ℕ) → k < n → Fits limit (coefficient out k)
    solved-fits k l = ⊎_elim
        (λ (e : k ≡ j). subst (λ (m : ℕ). Fits limit (coefficient out m)) (sym e) (subst (Fits limit) (sym (scaled-here (neg_ℚ (inverse (coefficient row j))) (inverse (coefficient row j)) j row not_zero)) (fits-inverse limit (coefficient row j) not_zero (fits-at j column))))
        (λ m. subst (Fits limit) (sym (scaled-other (neg_ℚ (inverse (coefficient row j))) (inverse (coefficient row j)) j k row m)) (fits-product limit (neg_ℚ (inverse (coefficient row j))) (coefficient row k) (can-at k)))
        (same_or_not k j)

    pub scaled-solved : (ts : Terms) → ts ≡ scaled_terms (neg_ℚ (inverse (coefficient row j))) (inverse (coefficient row j)) j row → IsSolved limit n row j ts
    scaled-solved ts e = subst (IsSolved limit n row j) (sym e) (record {
      defined = solve-defined;
      is = record {
        sparse = record {
          ascends = scaled-ascends (neg_ℚ (inverse (coefficient row j))) (inverse (coefficient row j)) j 0 row (negative-not_zero (inverse (coefficient row j)) (inverse-not_zero (coefficient row j) not_zero)) (inverse-not_zero (coefficient row j) not_zero) is.sparse.ascends;
          covered = scaled-covered (neg_ℚ (inverse (coefficient row j))) (inverse (coefficient row j)) j n row is.sparse.covered;
        };
        fits = λ k h. let l : k < n = omega (arith, h, length-filled n out) in subst (Fits limit) (sym (at-filled n k out l)) (solved-fits k l);
      };
      gives = filled-is n out (solved (filled n row) j) (length-solved (filled n row) j ∙ length-filled n row) solved-at;
    })

-- ---- the loop that writes them

-- a term that stands past the end
abbrev nothing : ℕ × ℚ
nothing = (0, zeroℚ)

-- the products of the first n terms are defined
abbrev pub CanScaleFirst : ℕ → ℚ → Terms → ℕ → Type 0
CanScaleFirst limit y ts n = (e : ℕ) (d : ℕ × ℚ) → e < n → CanMultiply limit y (get_or ts e d).1

module _ {S : Type 0} (value : S → ℚ) (limit : ℕ) (row : List (ℕ × S)) (y r : ℚ) (j e : ℕ) (t : ℕ × S) (in_range : e < length row) (is : t ≡ get_or row e t) where
  pub scale-next : (before now : List (ℕ × S)) (u : ℕ × S) → now ≡ before ++ u ∷ [] → CanMultiply limit y (value t.1) × (term_of value u ≡ scaled_term y r j (t.0, value t.1))
      → (terms_of value before ≡ take e (scaled_terms y r j (terms_of value row))) × CanScaleFirst limit y (terms_of value row) e
      → (terms_of value now ≡ take (e + 1) (scaled_terms y r j (terms_of value row))) × CanScaleFirst limit y (terms_of value row) (e + 1)
  scale-next before now u n c w = (
    ap (terms_of value) n ∙ grown (term_of value) nothing (scaled_terms y r j (terms_of value row)) before u e
        (omega (arith, length-map (terms_of value row) (scaled_term y r j), length-terms_of value row)) w.0
        (c.1 ∙ sym (ap (scaled_term y r j) (terms_of-at value row e t nothing in_range is)) ∙ sym (get_or-map (scaled_term y r j) (terms_of value row) e nothing nothing (omega (arith, length-terms_of value row)))),
    λ k d h. ⊎_elim
        (λ (q : k ≡ e). subst (λ (m : ℕ). CanMultiply limit y (get_or (terms_of value row) m d).1) (sym q) (subst (λ (x : ℕ × ℚ). CanMultiply limit y x.1) (sym (terms_of-at value row e t d in_range is)) c.0))
        (λ l. w.1 k d l)
        (last_or_before k e h),
  )

  pub scale-fails : ¬ CanMultiply limit y (value t.1) → ¬ CanScaleTerms limit y (terms_of value row)
  scale-fails n c = n (subst (λ (x : ℕ × ℚ). CanMultiply limit y x.1) (terms_of-at value row e t nothing in_range is) (c e nothing (omega (arith, length-terms_of value row))))

-- ---- the solved row, from what the code has reckoned

module _ (limit n j : ℕ) (row : Terms) (is : IsRow limit n row) (column : j < n) (not_zero : ¬ (coefficient row j ≡ zeroℚ)) (y r : ℚ) (r_is : r ≡ inverse (coefficient row j)) (y_is : y ≡ neg_ℚ r) where
  factor-is : y ≡ neg_ℚ (inverse (coefficient row j))
  factor-is = y_is ∙ ap neg_ℚ r_is

  pub solved-from : (ts : Terms) → ts ≡ scaled_terms y r j row → CanScaleTerms limit y row → IsSolved limit n row j ts
  solved-from ts e can = scaled-solved limit n j row is column not_zero
      (fits-neg limit (inverse (coefficient row j)) (fits-inverse limit (coefficient row j) not_zero (subst (Fits limit) (at-filled n j row column) (is.fits j (omega (arith, column, length-filled n row))))))
      (λ k d l. subst (λ (z : ℚ). CanMultiply limit z (get_or row k d).1) factor-is (can k d l)) ts (e ∙ ap₂ (λ (a b : ℚ). scaled_terms a b j row) factor-is r_is)

  pub solve-fails : ¬ CanScaleTerms limit y row → ¬ CanSolve limit (filled n row) j
  solve-fails m h = m (λ k d l. subst (λ (z : ℚ). CanMultiply limit z (get_or row k d).1) (sym factor-is) (solve-needed limit n j row is column not_zero k d l h))

-- the solved row holds the leaving variable
pub solved-not_zero : (limit n j : ℕ) (row out : Terms) → j < n → ¬ (coefficient row j ≡ zeroℚ) → IsSolved limit n row j out → ¬ (coefficient out j ≡ zeroℚ)
solved-not_zero limit n j row out h m s e = inverse-not_zero (coefficient row j) m (sym (ap inverse (at-filled n j row h)) ∙ sym reciprocal ∙ ap (λ (u : List ℚ). at u j) (sym s.gives) ∙ at-filled n j out h ∙ e)
  where
    reciprocal : at (solved (filled n row) j) j ≡ inverse (at (filled n row) j)
    reciprocal = get_or-set_same (scale_list (neg_ℚ (inverse (at (filled n row) j))) (filled n row)) j (inverse (at (filled n row) j)) zeroℚ (omega (arith, h, length-scale_list (neg_ℚ (inverse (at (filled n row) j))) (filled n row), length-filled n row))
