-- What a check asks is that the multipliers prove the claim and that each sum is defined; and what they prove.
use Rattle.std.proofs.Common.{◌≡◌, ℕ, zero, suc, ◌+◌, ◌<◌, ◌≤◌, List, [], ◌∷◌, length, map, refl, sym, ap, ◌∙◌, arith}
use Rattle.std.specs.List.{AllByRecursion}
use Rattle.rational.specs.Rational.{ℚ, zeroℚ, ◌+ℚ◌, ◌*ℚ◌, ◌-ℚ◌, neg_ℚ, ◌≤ℚ◌}
use Rattle.rational.specs.Lists.{at, scale_list, Nonneg}
use Rattle.rational.specs.Rows.{Row, Meets, row_at}
use Rattle.rational.proofs.Ring.{law, minus, ◌⊕◌, ◌⊗◌, ◌≐◌, num}
use Rattle.rational.proofs.Field.{ℚ_ring}
use Rattle.rational.proofs.Inequalities.{le_trans}
use Rattle.rational.proofs.Lists.{at-add_list, at-scale_list, length-scale_list, length-add_list_within}
use Rattle.rational.proofs.Rows.{farkas, weak_duality, row_at-length_within}
use Rattle.cert_core.specs.Programs.{Program, named_rows, combination, Ascends, ProvesEmpty, ProvesCost, HasNoSolution, CostsAtLeast}
use Rattle.exact_lin.specs.Reckonings.{sum_of_products}

-- ---- the named rows are met where all rows are
row_at-met : (x : List ℚ) (rows : List Row) (r : ℕ) → r < length rows → Meets x rows → Meets x (row_at rows r ∷ [])
row_at-met x [] r h m = absurd (omega arith)
row_at-met x (row ∷ rows) zero h m = (m.0, tt)
row_at-met x (row ∷ rows) (suc r) h m = row_at-met x rows r (omega arith) m.1

named_rows-met : (x : List ℚ) (rows : List Row) (least : ℕ) (ys : List (ℕ × ℚ)) → Ascends (length rows) least ys → Meets x rows → Meets x (named_rows rows ys)
named_rows-met x rows least [] a m = tt
named_rows-met x rows least (y ∷ ys) a m = ((row_at-met x rows y.0 a.0.1 m).0, named_rows-met x rows (y.0 + 1) ys a.1 m)

multipliers-nonneg : (ys : List (ℕ × ℚ)) → AllByRecursion (λ (y : ℕ × ℚ). zeroℚ ≤ℚ y.1) ys → Nonneg (map (λ y. y.1) ys)
multipliers-nonneg [] h = tt
multipliers-nonneg (y ∷ ys) h = (h.0, multipliers-nonneg ys h.1)

-- a Farkas row shows that no point solves the program
pub ProvesEmpty-no_solution : (p : Program) (ys : List (ℕ × ℚ)) → ProvesEmpty p ys → HasNoSolution p
unfolding combination
ProvesEmpty-no_solution p ys c x s = farkas (map (λ y. y.1) ys) (named_rows p.rows ys) (multipliers-nonneg ys c.multipliers.nonneg) c.columns c.constant x s.nonneg (named_rows-met x p.rows 0 ys c.multipliers.ascending s.meets)

-- a dual row shows that each solution costs at least what it proves
pub ProvesCost-costs : (p : Program) (ys : List (ℕ × ℚ)) (q : ℚ) → ProvesCost p ys q → CostsAtLeast p q
unfolding combination
ProvesCost-costs p ys q c x s = le_trans _ _ _ c.constant
    (weak_duality p.base p.costs (map (λ y. y.1) ys) (named_rows p.rows ys) (multipliers-nonneg ys c.multipliers.nonneg) c.columns x s.nonneg (named_rows-met x p.rows 0 ys c.multipliers.ascending s.meets))

-- ---- sums of columns by their places
-- the terms of a column, added up from `start`, are the combination's factor there
pub sum_of_products-column : (rows : List Row) (ys : List (ℕ × ℚ)) (v : ℕ) (start : ℚ) → sum_of_products start (map (λ y. (y.1, at (row_at rows y.0).factors v)) ys) ≡ start +ℚ at (combination rows ys).factors v
unfolding combination
sum_of_products-column rows [] v start = law ℚ_ring (start ∷ []) (λ s. s ≐ s ⊕ num 0) refl
sum_of_products-column rows (y ∷ ys) v start =
    sum_of_products-column rows ys v (start +ℚ y.1 *ℚ at (row_at rows y.0).factors v)
    ∙ law ℚ_ring (start ∷ y.1 ∷ at (row_at rows y.0).factors v ∷ at (combination rows ys).factors v ∷ []) (λ s y a r. s ⊕ y ⊗ a ⊕ r ≐ s ⊕ (y ⊗ a ⊕ r)) refl
    ∙ ap (λ z. start +ℚ z) (sym (at-add_list (scale_list y.1 (row_at rows y.0).factors) (combination rows ys).factors v ∙ ap (λ z. z +ℚ at (combination rows ys).factors v) (at-scale_list y.1 (row_at rows y.0).factors v)))

-- the terms of the bounds, added up, are the combination's bound
pub sum_of_products-bounds : (rows : List Row) (ys : List (ℕ × ℚ)) (start : ℚ) → sum_of_products start (map (λ y. (y.1, (row_at rows y.0).bound)) ys) ≡ start +ℚ (combination rows ys).bound
unfolding combination
sum_of_products-bounds rows [] start = law ℚ_ring (start ∷ []) (λ s. s ≐ s ⊕ num 0) refl
sum_of_products-bounds rows (y ∷ ys) start =
    sum_of_products-bounds rows ys (start +ℚ y.1 *ℚ (row_at rows y.0).bound)
    ∙ law ℚ_ring (start ∷ y.1 ∷ (row_at rows y.0).bound ∷ (combination rows ys).bound ∷ []) (λ s y b r. s ⊕ y ⊗ b ⊕ r ≐ s ⊕ (y ⊗ b ⊕ r)) refl

-- and, taken off the start
pub sum_of_products-negated_bounds : (rows : List Row) (ys : List (ℕ × ℚ)) (start : ℚ) → sum_of_products start (map (λ y. (y.1, neg_ℚ (row_at rows y.0).bound)) ys) ≡ start -ℚ (combination rows ys).bound
unfolding combination
sum_of_products-negated_bounds rows [] start = law ℚ_ring (start ∷ []) (λ s. s ≐ s ⊕ minus (num 0)) refl
sum_of_products-negated_bounds rows (y ∷ ys) start =
    sum_of_products-negated_bounds rows ys (start +ℚ y.1 *ℚ neg_ℚ (row_at rows y.0).bound)
    ∙ law ℚ_ring (start ∷ y.1 ∷ (row_at rows y.0).bound ∷ (combination rows ys).bound ∷ []) (λ s y b r. s ⊕ y ⊗ minus b ⊕ minus r ≐ s ⊕ minus (y ⊗ b ⊕ r)) refl

-- ---- the combination has no more factors than there are variables
pub length-combination : (n : ℕ) (rows : List Row) (ys : List (ℕ × ℚ)) → AllByRecursion (λ (row : Row). length row.factors ≡ n) rows → length (combination rows ys).factors ≤ n
unfolding combination
length-combination n rows [] h = omega arith
length-combination n rows (y ∷ ys) h = length-add_list_within (scale_list y.1 (row_at rows y.0).factors) (combination rows ys).factors n
    (let l : length (row_at rows y.0).factors ≤ n = row_at-length_within n rows y.0 h in omega (arith, length-scale_list y.1 (row_at rows y.0).factors)) (length-combination n rows ys h)
