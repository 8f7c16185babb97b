-- A form put into value forms, term by term.
use Rattle.std.proofs.Common.{◌≡◌, sym, ap, subst, ◌∙◌, ℕ, ◌+◌, ◌<◌, ◌≤◌, List, [], ◌∷◌, ◌++◌, length, take, drop}
use Rattle.std.specs.Prelude.{slice_index_or, fold}
use Rattle.std.proofs.lemmas.List.{take_more, take_all, take-append-drop}
use Rattle.std.proofs.lemmas.List.Sums.{fold-append}
use Rattle.rational.specs.Rational.{ℚ}
use Rattle.exact_lin.specs.Reckoning.{wide_limit}
use Rattle.exact_lin.specs.Forms.{LinearForm, plus_scaled, CanAddScaled}
use Rattle.rate_ledger.specs.Sums.{FormSum, Number, PlusScaled, form_of, CanMake}

module _ (values : ℕ → FormSum) where
  abbrev pub put_on : FormSum → List (ℕ × ℚ) → FormSum
  put_on sum ts = fold (λ sum t. PlusScaled sum t.1 (values t.0)) sum ts

  begun : (sum : FormSum) (ts : List (ℕ × ℚ)) → CanMake (put_on sum ts) → CanMake sum
  begun sum [] m = m
  begun sum (t ∷ ts) m = (begun (PlusScaled sum t.1 (values t.0)) ts m).0

  -- the first i terms are put in
  pub record ArePut (number : ℚ) (ts : List (ℕ × ℚ)) (i : ℕ) (form : LinearForm) : Type 0 where
    pub can : CanMake (put_on (Number number) (take i ts))
    pub is : form ≡ form_of (put_on (Number number) (take i ts))

  module _ (number : ℚ) (ts : List (ℕ × ℚ)) (i : ℕ) (t : ℕ × ℚ) (l : i < length ts) (e : t ≡ slice_index_or ts i t) where
    one_more : put_on (Number number) (take (i + 1) ts) ≡ PlusScaled (put_on (Number number) (take i ts)) t.1 (values t.0)
    one_more = ap (put_on (Number number)) (take_more ts i t l ∙ ap (λ u. take i ts ++ u ∷ []) (sym e)) ∙ fold-append (λ sum t. PlusScaled sum t.1 (values t.0)) (Number number) (take i ts) (t ∷ [])

    needed : CanMake (put_on (Number number) ts) → CanMake (PlusScaled (put_on (Number number) (take i ts)) t.1 (values t.0))
    needed m = subst CanMake one_more (begun (put_on (Number number) (take (i + 1) ts)) (drop (i + 1) ts)
        (subst CanMake (ap (put_on (Number number)) (sym (take-append-drop (i + 1) ts)) ∙ fold-append (λ sum t. PlusScaled sum t.1 (values t.0)) (Number number) (take (i + 1) ts) (drop (i + 1) ts)) m))

    pub ArePut-next : (form value more : LinearForm) → ArePut number ts i form → CanMake (values t.0) × (value ≡ form_of (values t.0)) → CanAddScaled wide_limit form t.1 value × (more ≡ plus_scaled form t.1 value) → ArePut number ts (i + 1) more
    ArePut-next form value more p v s = record {
      can = subst CanMake (sym one_more) (p.can, v.0, same s.0);
      is = s.1 ∙ ap (λ (f : LinearForm). plus_scaled f t.1 value) p.is ∙ ap (plus_scaled (form_of (put_on (Number number) (take i ts))) t.1) v.1 ∙ ap form_of (sym one_more);
    }
      where
        same : CanAddScaled wide_limit form t.1 value → CanAddScaled wide_limit (form_of (put_on (Number number) (take i ts))) t.1 (form_of (values t.0))
        same a = subst (λ (w : LinearForm). CanAddScaled wide_limit (form_of (put_on (Number number) (take i ts))) t.1 w) v.1 (subst (λ (f : LinearForm). CanAddScaled wide_limit f t.1 value) p.is a)

    -- the whole needs the value and its place in the sum
    pub value_needed : CanMake (put_on (Number number) ts) → CanMake (values t.0)
    value_needed m = (needed m).1

    pub sum_needed : (form value : LinearForm) → ArePut number ts i form → value ≡ form_of (values t.0) → CanMake (put_on (Number number) ts) → CanAddScaled wide_limit form t.1 value
    sum_needed form value p v m = subst (λ (f : LinearForm). CanAddScaled wide_limit f t.1 value) (sym p.is) (subst (λ (w : LinearForm). CanAddScaled wide_limit (form_of (put_on (Number number) (take i ts))) t.1 w) (sym v) (needed m).2)

  pub ArePut-end : (number : ℚ) (ts : List (ℕ × ℚ)) (i : ℕ) (form : LinearForm) → length ts ≤ i → ArePut number ts i form → CanMake (put_on (Number number) ts) × (form ≡ form_of (put_on (Number number) ts))
  ArePut-end number ts i form h p = let all : take i ts ≡ ts = take_all i ts h in
      (subst (λ us. CanMake (put_on (Number number) us)) all p.can, p.is ∙ ap (λ us. form_of (put_on (Number number) us)) all)
