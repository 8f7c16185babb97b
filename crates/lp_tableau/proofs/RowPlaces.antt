-- Rows of a dictionary, place by place.
use Rattle.std.proofs.Common.{◌≡◌, ℕ, ◌+◌, ◌<◌, List, length, map, sym, ap, subst, ◌∙◌, get_or, set, arith}
use Rattle.std.proofs.lemmas.List.{length-set, length-map, get_or-map, map-set}
use Rattle.rational.specs.Rational.{ℚ, zeroℚ, ◌+ℚ◌, ◌*ℚ◌, neg_ℚ, inverse}
use Rattle.rational.specs.Lists.{scale_list, at}
use Rattle.exact_lin.specs.Reckoning.{CanMultiply}
use Rattle.exact_lin.specs.Reckonings.{AreDefined, product_sum}
use Rattle.lp_tableau.specs.Pivots.{cleared, replaced, solved, CanReplace, CanSolve}
use Rattle.rational.proofs.Lists.{at-add_list, at-scale_list, length-scale_list, length-add_list}
use Rattle.lp_tableau.proofs.Writing.{Written, Written-next, Written-all}

-- a number of the replaced row is the old one, 0 in the column, plus the product
pub at-replaced : (solution : List ℚ) (j : ℕ) (row : List ℚ) (k : ℕ) → at (replaced solution j row) k ≡ at (cleared row j) k +ℚ at row j *ℚ at solution k
at-replaced solution j row k = at-add_list (cleared row j) (scale_list (at row j) solution) k ∙ ap (λ z. at (cleared row j) k +ℚ z) (at-scale_list (at row j) solution k)

pub length-replaced : (solution : List ℚ) (j : ℕ) (row : List ℚ) → length solution ≡ length row → length (replaced solution j row) ≡ length row
length-replaced solution j row h = length-add_list (cleared row j) (scale_list (at row j) solution) (length-set row j zeroℚ ∙ sym (length-scale_list (at row j) solution ∙ h)) ∙ length-set row j zeroℚ

pub length-solved : (row : List ℚ) (j : ℕ) → length (solved row j) ≡ length row
length-solved row j = length-set (scale_list _ row) j _ ∙ length-scale_list _ row

-- ---- the steps of the loops that write rows
module _ {S : Type 0} (value : S → ℚ) (limit : ℕ) where
  -- what a read gives is the number there
  pub value-read : (row : List S) (k : ℕ) (a : S) → k < length row → a ≡ get_or row k a → at (map value row) k ≡ value a
  value-read row k a h e = get_or-map value row k a zeroℚ h ∙ ap value (sym e)

  abbrev pub Scaled : ℚ → List S → List S → ℕ → Type 0
  Scaled y row out k = (length out ≡ length row) × Written value zeroℚ (λ (k : ℕ). CanMultiply limit y (at (map value row) k)) (scale_list y (map value row)) out k

  pub Scaled-next : (y : ℚ) (row out : List S) (k : ℕ) (a product : S) → k < length row → a ≡ get_or row k a → CanMultiply limit y (value a) × (value product ≡ y *ℚ value a) → Scaled y row out k → Scaled y row (set out k product) (k + 1)
  Scaled-next y row out k a product h e p w = (
    length-set out k product ∙ w.0,
    Written-next value zeroℚ _ _ out k product (omega (arith, w.0))
        (subst (λ z. CanMultiply limit y z) (sym (value-read row k a h e)) p.0)
        (p.1 ∙ ap (λ z. y *ℚ z) (sym (value-read row k a h e)) ∙ sym (at-scale_list y (map value row) k)) w.1,
  )

  pub Scaled-all : (y : ℚ) (row out : List S) (k : ℕ) → k ≡ length row → Scaled y row out k → ((i : ℕ) → i < length row → CanMultiply limit y (at (map value row) i)) × (map value out ≡ scale_list y (map value row))
  Scaled-all y row out k h w = (λ i l. w.1.defined i (omega arith), Written-all value zeroℚ _ _ out k (w.0 ∙ sym h) (length-scale_list y (map value row) ∙ length-map row value ∙ sym h) w.1)

  abbrev pub Replaced : List S → List S → ℕ → List S → ℕ → Type 0
  Replaced row solution j out k = (length out ≡ length row) × Written value zeroℚ (λ (k : ℕ). AreDefined limit (product_sum (at (cleared (map value row) j) k) (at (map value row) j) (at (map value solution) k))) (replaced (map value solution) j (map value row)) out k

  pub Replaced-defined : (row solution : List S) (j k : ℕ) (old factor a : S) → j < length row → k < length solution → value old ≡ at (cleared (map value row) j) k → factor ≡ get_or row j factor → a ≡ get_or solution k a
      → (value old ≡ at (cleared (map value row) j) k) × (at (map value row) j ≡ value factor) × (at (map value solution) k ≡ value a)
  Replaced-defined row solution j k old factor a h l e f g = (e, value-read row j factor h f, value-read solution k a l g)

  pub Replaced-next : (row solution out : List S) (j k : ℕ) (old factor a total : S) → j < length row → k < length row → length solution ≡ length row → value old ≡ at (cleared (map value row) j) k → factor ≡ get_or row j factor → a ≡ get_or solution k a
      → AreDefined limit (product_sum (value old) (value factor) (value a)) × (value total ≡ value old +ℚ value factor *ℚ value a) → Replaced row solution j out k → Replaced row solution j (set out k total) (k + 1)
  Replaced-next row solution out j k old factor a total h l n e f g p w =
      let factor_is : at (map value row) j ≡ value factor = value-read row j factor h f in
      let a_is : at (map value solution) k ≡ value a = value-read solution k a (omega arith) g in (
        length-set out k total ∙ w.0,
        Written-next value zeroℚ _ _ out k total (omega (arith, w.0))
            (subst (λ z. AreDefined limit (product_sum z (at (map value row) j) (at (map value solution) k))) e (subst (λ z. AreDefined limit (product_sum (value old) z (at (map value solution) k))) (sym factor_is) (subst (λ z. AreDefined limit (product_sum (value old) (value factor) z)) (sym a_is) p.0)))
            (p.1 ∙ ap (λ z. z +ℚ value factor *ℚ value a) e ∙ ap (λ z. at (cleared (map value row) j) k +ℚ z *ℚ value a) (sym factor_is) ∙ ap (λ z. at (cleared (map value row) j) k +ℚ at (map value row) j *ℚ z) (sym a_is) ∙ sym (at-replaced (map value solution) j (map value row) k)) w.1,
      )

  pub Replaced-all : (row solution out : List S) (j k : ℕ) → length solution ≡ length row → k ≡ length row → Replaced row solution j out k → CanReplace limit (map value solution) j (map value row) × (map value out ≡ replaced (map value solution) j (map value row))
  Replaced-all row solution out j k n h w = (λ i l. w.1.defined i (omega (arith, length-map row value)), Written-all value zeroℚ _ _ out k (w.0 ∙ sym h) (length-replaced (map value solution) j (map value row) (length-map solution value ∙ n ∙ sym (length-map row value)) ∙ length-map row value ∙ sym h) w.1)

  -- the scaled row with the reciprocal in its column is the solved row
  pub solved-from : (row scaled : List S) (j : ℕ) (a r y : S) → j < length row → a ≡ get_or row j a → value r ≡ inverse (value a) → value y ≡ neg_ℚ (value r)
      → ((k : ℕ) → k < length row → CanMultiply limit (value y) (at (map value row) k)) × (map value scaled ≡ scale_list (value y) (map value row))
      → CanSolve limit (map value row) j × (map value (set scaled j r) ≡ solved (map value row) j)
  solved-from row scaled j a r y h e r_is y_is p =
      let i : value r ≡ inverse (at (map value row) j) = r_is ∙ ap inverse (sym (value-read row j a h e)) in
      let n : value y ≡ neg_ℚ (inverse (at (map value row) j)) = y_is ∙ ap neg_ℚ i in (
        λ k l. subst (λ z. CanMultiply limit z (at (map value row) k)) n (p.0 k (omega (arith, l, length-map row value))),
        map-set value scaled j r ∙ ap (λ u. set u j (value r)) (p.1 ∙ ap (λ z. scale_list z (map value row)) n) ∙ ap (λ z. set (scale_list (neg_ℚ (inverse (at (map value row) j))) (map value row)) j z) i,
      )
