-- Factors that refute statements, found by the simplex method with Bland's rule on whole numbers.
-- Nothing here needs a proof: what is found is checked by `refutes`.
--
-- The unknowns are the factors, all at least 0: one for each inequality, and two for each equation, which may count either way.
-- For each monomial the factors' sum of its coefficients is to be 0, and the factors of the strict statements are to sum to 1.
use Rattle.std.proofs.Common.{ℕ, zero, suc, ◌*◌, ◌/◌, Bool, true, false, ◌&&◌, ◌||◌, List, [], ◌∷◌, ltb, eqb}
use Rattle.std.proofs.Math.IntN.{ℤ, pos, negsuc, sub_ℕ, ◌+ℤ◌, ◌*ℤ◌, neg_ℤ, nat_abs}
use Rattle.rational.specs.Gcd.{gcd_steps}
use Rattle.rational.specs.Lowest.{over}
use Rattle.rational.proofs.Ring.{Kind, at_most, below, equal, Stmt, ◌⊖◌, norm, Poly, nil, term, cmp, lt, eq, gt}

-- ---- the tableau's columns: what a factor of 1 adds, and whether it counts as strict
pub record Column : Type 0 where
  pub sum : Poly
  pub strict : Bool

abbrev pub columns_of : Kind → Poly → Poly → List Column → List Column
columns_of at_most p q rest = record { sum = p; strict = false } ∷ rest
columns_of below p q rest = record { sum = p; strict = true } ∷ rest
columns_of equal p q rest = record { sum = p; strict = false } ∷ record { sum = q; strict = false } ∷ rest

abbrev pub columns : List Stmt → List Column
columns [] = []
columns (s ∷ ss) = columns_of s.kind (norm (s.right ⊖ s.left)) (norm (s.left ⊖ s.right)) (columns ss)

-- ---- its rows: one for each monomial, and one for the sum that is to be 1
abbrev pub coefficient : List ℕ → Poly → ℤ
coefficient m nil = pos 0
coefficient m (term c n p) = elim (cmp m n) [ lt ↦ pos 0 | eq ↦ c | gt ↦ coefficient m p ]

abbrev pub add_monomial : List ℕ → List (List ℕ) → List (List ℕ)
add_monomial m [] = m ∷ []
add_monomial m (n ∷ ns) = elim (cmp m n) [ lt ↦ m ∷ n ∷ ns | eq ↦ n ∷ ns | gt ↦ n ∷ add_monomial m ns ]

abbrev pub add_monomials : Poly → List (List ℕ) → List (List ℕ)
add_monomials nil ns = ns
add_monomials (term c m p) ns = add_monomial m (add_monomials p ns)

abbrev pub monomials : List Column → List (List ℕ)
monomials [] = []
monomials (c ∷ cs) = add_monomials c.sum (monomials cs)

abbrev pub coefficients : List ℕ → List Column → List ℤ
coefficients m [] = []
coefficients m (c ∷ cs) = coefficient m c.sum ∷ coefficients m cs

abbrev pub strict_ones : List Column → List ℤ
strict_ones [] = []
strict_ones (c ∷ cs) = elim c.strict [ true ↦ pos 1 | false ↦ pos 0 ] ∷ strict_ones cs

-- an equation: `numbers` has its value, then the coefficients of the unknowns;
-- its own unknown is `basic`, by the place in `numbers`, or an artificial one from `first_artificial` on
pub record TableauRow : Type 0 where
  pub basic : ℕ
  pub numbers : List ℤ

abbrev pub first_artificial : ℕ
first_artificial = 1_000_000

abbrev pub rows_from : ℕ → List (List ℕ) → List Column → List TableauRow
rows_from i [] cs = record { basic = i; numbers = pos 1 ∷ strict_ones cs } ∷ []
rows_from i (m ∷ ms) cs = record { basic = i; numbers = pos 0 ∷ coefficients m cs } ∷ rows_from (suc i) ms cs

-- ---- arithmetic on rows
abbrev pub entry : ℕ → List ℤ → ℤ
entry n [] = pos 0
entry zero (x ∷ xs) = x
entry (suc n) (x ∷ xs) = entry n xs

abbrev pub add_numbers : List ℤ → List ℤ → List ℤ
add_numbers [] ys = ys
add_numbers (x ∷ xs) [] = x ∷ xs
add_numbers (x ∷ xs) (y ∷ ys) = (x +ℤ y) ∷ add_numbers xs ys

-- a * xs - b * ys
abbrev pub eliminated : ℤ → List ℤ → ℤ → List ℤ → List ℤ
eliminated a [] b ys = []
eliminated a (x ∷ xs) b [] = []
eliminated a (x ∷ xs) b (y ∷ ys) = (a *ℤ x +ℤ neg_ℤ (b *ℤ y)) ∷ eliminated a xs b ys

abbrev pub common_factor : ℕ → List ℤ → ℕ
common_factor g [] = g
common_factor g (x ∷ xs) = let h = gcd_steps g (nat_abs x) g in elim (eqb h 1) [ true ↦ 1 | false ↦ common_factor h xs ]

abbrev pub divided : ℕ → List ℤ → List ℤ
divided g [] = []
divided g (x ∷ xs) = over x g ∷ divided g xs

abbrev pub reduced : List ℤ → List ℤ
reduced xs = let g = common_factor 0 xs in elim (ltb 1 g) [ true ↦ divided g xs | false ↦ xs ]

-- the row xs without the unknown at place j, which the row `by` has with a factor above 0
abbrev pub cleared_of : ℤ → ℤ → List ℤ → List ℤ → List ℤ
cleared_of (pos zero) a by xs = xs
cleared_of (pos (suc n)) a by xs = reduced (eliminated a xs (pos (suc n)) by)
cleared_of (negsuc n) a by xs = reduced (eliminated a xs (negsuc n) by)

abbrev pub cleared : ℕ → List ℤ → List ℤ → List ℤ
cleared j by xs = cleared_of (entry j xs) (entry j by) by xs

-- ---- a pivot
abbrev pub first_positive : ℕ → List ℤ → ℕ
first_positive j [] = 0
first_positive j (pos zero ∷ xs) = first_positive (suc j) xs
first_positive j (pos (suc n) ∷ xs) = j
first_positive j (negsuc n ∷ xs) = first_positive (suc j) xs

-- the place of the unknown that enters: the first that lowers the sum of the artificial ones; 0 for none
abbrev pub entering : List ℤ → ℕ
entering [] = 0
entering (x ∷ xs) = first_positive 1 xs

abbrev pub is_above : ℤ → ℤ → Bool
is_above (pos m) (pos n) = ltb n m
is_above (pos m) (negsuc n) = true
is_above (negsuc m) (pos n) = false
is_above (negsuc m) (negsuc n) = ltb m n

-- whether the row r is tighter at place j than the row s: by the quotient of value and entry, then by the greater number
abbrev pub is_tighter : ℕ → TableauRow → TableauRow → Bool
is_tighter j r s = let x = entry 0 r.numbers *ℤ entry j s.numbers in let y = entry 0 s.numbers *ℤ entry j r.numbers in
    is_above y x || (elim (is_above x y) [ true ↦ false | false ↦ ltb s.basic r.basic ])

abbrev pub tightest : ℕ → List TableauRow → TableauRow → TableauRow
tightest j [] best = best
tightest j (r ∷ rs) best = elim (is_above (entry j r.numbers) (pos 0) && is_tighter j r best) [ true ↦ tightest j rs r | false ↦ tightest j rs best ]

-- a row that every row with an entry above 0 is tighter than
abbrev pub loosest : TableauRow
loosest = record { basic = 0; numbers = pos 1 ∷ [] }

abbrev pub pivoted : ℕ → TableauRow → List TableauRow → List TableauRow
pivoted j by [] = []
pivoted j by (r ∷ rs) = elim (eqb r.basic by.basic) [ true ↦ record { basic = j; numbers = r.numbers } ∷ pivoted j by rs | false ↦ record { basic = r.basic; numbers = cleared j by.numbers r.numbers } ∷ pivoted j by rs ]

abbrev pub sum_of_rows : List TableauRow → List ℤ
sum_of_rows [] = []
sum_of_rows (r ∷ rs) = add_numbers r.numbers (sum_of_rows rs)

-- at most n pivots; `cost` is the sum of the artificial unknowns, whose value falls to 0
abbrev pub solved : ℕ → List ℤ → List TableauRow → List TableauRow
solved zero cost rs = rs
solved (suc n) cost rs = let j = entering cost in elim j [ zero ↦ rs | suc i ↦ let by = tightest (suc i) rs loosest in solved n (cleared (suc i) by.numbers cost) (pivoted (suc i) by rs) ]

-- ---- the factors that the last tableau tells, on one denominator
abbrev pub denominator : List TableauRow → ℕ
denominator [] = 1
denominator (r ∷ rs) = let d = denominator rs in let e = nat_abs (entry r.basic r.numbers) in elim (ltb r.basic first_artificial && ltb 0 e) [ true ↦ d / gcd_steps e d e * e | false ↦ d ]

abbrev pub factor_of : ℕ → ℕ → List TableauRow → ℕ
factor_of d j [] = 0
factor_of d j (r ∷ rs) = elim (eqb r.basic j) [ true ↦ nat_abs (entry 0 r.numbers) * (d / nat_abs (entry j r.numbers)) | false ↦ factor_of d j rs ]

abbrev pub factors_from : ℕ → ℕ → List TableauRow → List Stmt → List ℤ
factors_from d j rs [] = []
factors_from d j rs (s ∷ ss) = elim s.kind [ at_most ↦ pos (factor_of d j rs) ∷ factors_from d (suc j) rs ss | below ↦ pos (factor_of d j rs) ∷ factors_from d (suc j) rs ss | equal ↦ sub_ℕ (factor_of d j rs) (factor_of d (suc j) rs) ∷ factors_from d (suc (suc j)) rs ss ]

-- the factors, one for each statement; some that refute nothing where the statements can hold
abbrev pub multipliers : List Stmt → List ℤ
multipliers ss = let cs = columns ss in let rs = rows_from first_artificial (monomials cs) cs in let last = solved 500 (sum_of_rows rs) rs in factors_from (denominator last) 1 last ss
