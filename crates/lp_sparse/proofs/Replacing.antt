-- A row without its zeros after a pivot: the terms before the entering variable's, that one, and the terms behind it.
use Rattle.std.proofs.Common.{◌≡◌, ℕ, ◌+◌, ◌<◌, ◌⊎◌, ⊎_elim, List, [], ◌∷◌, ◌++◌, length, refl, sym, ap, ap₂, subst, ◌∙◌, arith}
use Rattle.std.proofs.lemmas.List.{get_or-set_same, get_or-set_other}
use Rattle.rational.specs.Rational.{ℚ, zeroℚ, ◌+ℚ◌, ◌*ℚ◌}
use Rattle.rational.specs.Lists.{at}
use Rattle.rational.proofs.Ring.{law, ◌⊕◌, ◌≐◌, num}
use Rattle.rational.proofs.Field.{ℚ_ring}
use Rattle.exact_lin.specs.Reckoning.{Fits}
use Rattle.exact_lin.specs.Reckonings.{AreDefined, product_sum}
use Rattle.exact_lin.specs.Forms.{Terms, AscendFrom, Covers, coefficient, with_term, increased_by}
use Rattle.exact_lin.proofs.FormLaws.{AscendFrom-lower, AscendFrom-with_term, Covers-increased_by}
use Rattle.exact_lin.proofs.Results.{fits-product, fits-sum, CanAdd-zero}
use Rattle.lp_tableau.specs.Pivots.{cleared, replaced, CanReplace}
use Rattle.lp_tableau.specs.RowLists.{RowFits}
use Rattle.lp_tableau.proofs.RowPlaces.{at-replaced, length-replaced}
use Rattle.lp_tableau.proofs.FittingRows.{without-CanReplace, without-replaced}
use Rattle.lp_sparse.specs.SparseRows.{filled, IsSparse, IsReplaced, IsRow, CanJoinHalves, joined_halves}
use Rattle.lp_sparse.proofs.Coefficients.{Halves, Halves-of, ascend-split, halves-front, halves-here, halves-back, coefficient-front, coefficient-back, coefficient-one_term, coefficient-increased_by, AscendFrom-append, AscendFrom-increased_from, Covers-append, Covers-larger, Covers-with_term, CanAddTerms-at, CanAddTerms-all, length-filled, at-filled, filled-is}

around : (k j : ℕ) → (k < j) ⊎ ((k ≡ j) ⊎ (j < k))
around k j = grind arith

agree : (limit : ℕ) (p q r p' q' r' : ℚ) → p ≡ p' → q ≡ q' → r ≡ r' → AreDefined limit (product_sum p q r) → AreDefined limit (product_sum p' q' r')
agree limit p q r p' q' r' d e f h = subst (λ (z : ℚ). AreDefined limit (product_sum p' q' z)) f (subst (λ (z : ℚ). AreDefined limit (product_sum p' z r)) e (subst (λ (z : ℚ). AreDefined limit (product_sum z q r)) d h))

module _ (limit n j : ℕ) (a b c d : Terms) (f g : ℚ) (row_halves : Halves n j a f b) (solution_halves : Halves n j c g d) where
  row : Terms
  row = a ++ (j, f) ∷ b

  solution : Terms
  solution = c ++ (j, g) ∷ d

  row-at : (k : ℕ) → k < n → at (filled n (a ++ (j, f) ∷ b)) k ≡ coefficient (a ++ (j, f) ∷ b) k
  row-at k l = at-filled n k (a ++ (j, f) ∷ b) l

  solution-at : (k : ℕ) → k < n → at (filled n (c ++ (j, g) ∷ d)) k ≡ coefficient (c ++ (j, g) ∷ d) k
  solution-at k l = at-filled n k (c ++ (j, g) ∷ d) l

  factor-is : at (filled n (a ++ (j, f) ∷ b)) j ≡ f
  factor-is = row-at j row_halves.column ∙ halves-here n j a f b row_halves

  cleared-other : (k : ℕ) → k < n → ¬ (k ≡ j) → at (cleared (filled n (a ++ (j, f) ∷ b)) j) k ≡ coefficient (a ++ (j, f) ∷ b) k
  cleared-other k l m = get_or-set_other (filled n (a ++ (j, f) ∷ b)) j k zeroℚ zeroℚ m ∙ row-at k l

  cleared-here : at (cleared (filled n (a ++ (j, f) ∷ b)) j) j ≡ zeroℚ
  cleared-here = get_or-set_same (filled n (a ++ (j, f) ∷ b)) j zeroℚ zeroℚ (omega (arith, row_halves.column, length-filled n (a ++ (j, f) ∷ b)))

  less : (k : ℕ) → k < j → k < n
  less k l = omega (arith, row_halves.column)

  -- what is reckoned in each column
  front-reckons : (k : ℕ) → k < j → (at (cleared (filled n (a ++ (j, f) ∷ b)) j) k ≡ coefficient a k) × (at (filled n (c ++ (j, g) ∷ d)) k ≡ coefficient c k)
  front-reckons k l = (cleared-other k (less k l) (λ e. absurd (omega (arith, e, l))) ∙ halves-front n j a f b row_halves k l, solution-at k (less k l) ∙ halves-front n j c g d solution_halves k l)

  here-reckons : at (filled n (c ++ (j, g) ∷ d)) j ≡ g
  here-reckons = solution-at j row_halves.column ∙ halves-here n j c g d solution_halves

  back-reckons : (k : ℕ) → k < n → j < k → (at (cleared (filled n (a ++ (j, f) ∷ b)) j) k ≡ coefficient b k) × (at (filled n (c ++ (j, g) ∷ d)) k ≡ coefficient d k)
  back-reckons k l m = (cleared-other k l (λ e. absurd (omega (arith, e, m))) ∙ halves-back n j a f b row_halves k m, solution-at k l ∙ halves-back n j c g d solution_halves k m)

  -- where the dense row can be replaced, each half can
  pub halves-needed : CanReplace limit (filled n (c ++ (j, g) ∷ d)) j (filled n (a ++ (j, f) ∷ b)) → CanJoinHalves limit a f b c g d
  halves-needed h =
      let at_each : (k : ℕ) → k < n → AreDefined limit (product_sum (at (cleared (filled n (a ++ (j, f) ∷ b)) j) k) (at (filled n (a ++ (j, f) ∷ b)) j) (at (filled n (c ++ (j, g) ∷ d)) k)) = λ k l. h k (omega (arith, l, length-filled n (a ++ (j, f) ∷ b))) in
      record {
        front = CanAddTerms-all limit f 0 j a c solution_halves.front_ascends solution_halves.below (λ k _ l. agree limit _ _ _ _ _ _ (front-reckons k l).0 factor-is (front-reckons k l).1 (at_each k (less k l)));
        here = (agree limit _ _ _ _ _ _ cleared-here factor-is here-reckons (at_each j row_halves.column)).0;
        back = CanAddTerms-all limit f (j + 1) n b d solution_halves.back_ascends solution_halves.covered (λ k l m. agree limit _ _ _ _ _ _ (back-reckons k m (omega (arith, l))).0 factor-is (back-reckons k m (omega (arith, l))).1 (at_each k m));
      }

  module _ (fits : RowFits limit (filled n (a ++ (j, f) ∷ b))) (can : CanJoinHalves limit a f b c g d) where
    fits-at : (k : ℕ) → k < n → Fits limit (coefficient (a ++ (j, f) ∷ b) k)
    fits-at k l = subst (Fits limit) (row-at k l) (fits k (omega (arith, l, length-filled n (a ++ (j, f) ∷ b))))

    replace-defined : CanReplace limit (filled n (c ++ (j, g) ∷ d)) j (filled n (a ++ (j, f) ∷ b))
    replace-defined k h =
        let l : k < n = omega (arith, h, length-filled n (a ++ (j, f) ∷ b)) in
        ⊎_elim
        (λ (m : k < j). agree limit _ _ _ _ _ _ (sym (front-reckons k m).0) (sym factor-is) (sym (front-reckons k m).1)
        (CanAddTerms-at limit f k a c (subst (Fits limit) (halves-front n j a f b row_halves k m) (fits-at k l)) can.front))
        (λ r. ⊎_elim
        (λ (e : k ≡ j). subst (λ (m : ℕ). AreDefined limit (product_sum (at (cleared (filled n (a ++ (j, f) ∷ b)) j) m) (at (filled n (a ++ (j, f) ∷ b)) j) (at (filled n (c ++ (j, g) ∷ d)) m))) (sym e)
        (agree limit _ _ _ _ _ _ (sym cleared-here) (sym factor-is) (sym here-reckons) (can.here, (CanAdd-zero limit (f *ℚ g) (fits-product limit f g can.here), tt))))
        (λ (m : j < k). agree limit _ _ _ _ _ _ (sym (back-reckons k l m).0) (sym factor-is) (sym (back-reckons k l m).1)
        (CanAddTerms-at limit f k b d (subst (Fits limit) (halves-back n j a f b row_halves k m) (fits-at k l)) can.back)) r)
        (around k j)

    front : Terms
    front = increased_by a f c

    abbrev joined : Terms
    joined = joined_halves j a f b c g d

    middle-ascends : AscendFrom j (with_term j (f *ℚ g) [])
    middle-ascends = AscendFrom-with_term j j (f *ℚ g) [] (omega arith) tt

    back-ascends : AscendFrom (j + 1) (increased_by b f d)
    back-ascends = AscendFrom-increased_from (j + 1) f d b row_halves.back_ascends solution_halves.back_ascends

    front-covered : Covers j (increased_by a f c)
    front-covered = Covers-increased_by j f c a solution_halves.below row_halves.below

    start-covered : Covers (j + 1) (increased_by a f c ++ with_term j (f *ℚ g) [])
    start-covered = Covers-append (j + 1) (increased_by a f c) (with_term j (f *ℚ g) []) (Covers-larger j (j + 1) (increased_by a f c) (omega arith) front-covered) (Covers-with_term (j + 1) j (f *ℚ g) (omega arith))

    front-is : (k : ℕ) → k < j → coefficient joined k ≡ coefficient a k +ℚ f *ℚ coefficient c k
    front-is k l = coefficient-front (j + 1) k (increased_by a f c ++ with_term j (f *ℚ g) []) (increased_by b f d) (omega (arith, l)) back-ascends
        ∙ coefficient-front j k (increased_by a f c) (with_term j (f *ℚ g) []) l middle-ascends
        ∙ coefficient-increased_by f k 0 c a row_halves.front_ascends solution_halves.front_ascends

    here-is : coefficient joined j ≡ f *ℚ g
    here-is = coefficient-front (j + 1) j (increased_by a f c ++ with_term j (f *ℚ g) []) (increased_by b f d) (omega arith) back-ascends
        ∙ coefficient-back j j (increased_by a f c) (with_term j (f *ℚ g) []) (omega arith) front-covered
        ∙ coefficient-one_term j (f *ℚ g)

    back-is : (k : ℕ) → j < k → coefficient joined k ≡ coefficient b k +ℚ f *ℚ coefficient d k
    back-is k l = coefficient-back (j + 1) k (increased_by a f c ++ with_term j (f *ℚ g) []) (increased_by b f d) (omega (arith, l)) start-covered
        ∙ coefficient-increased_by f k (j + 1) d b (AscendFrom-lower 0 (j + 1) b (omega arith) row_halves.back_ascends) solution_halves.back_ascends

    summed : (k : ℕ) (p q : ℚ) → at (cleared (filled n (a ++ (j, f) ∷ b)) j) k ≡ p → at (filled n (c ++ (j, g) ∷ d)) k ≡ q → p +ℚ f *ℚ q ≡ at (replaced (filled n (c ++ (j, g) ∷ d)) j (filled n (a ++ (j, f) ∷ b))) k
    summed k p q e h = ap₂ (λ (x y : ℚ). x +ℚ f *ℚ y) (sym e) (sym h) ∙ ap (λ (z : ℚ). at (cleared (filled n (a ++ (j, f) ∷ b)) j) k +ℚ z *ℚ at (filled n (c ++ (j, g) ∷ d)) k) (sym factor-is)
        ∙ sym (at-replaced (filled n (c ++ (j, g) ∷ d)) j (filled n (a ++ (j, f) ∷ b)) k)

    joined-at : (k : ℕ) → k < n → coefficient joined k ≡ at (replaced (filled n (c ++ (j, g) ∷ d)) j (filled n (a ++ (j, f) ∷ b))) k
    joined-at k l = ⊎_elim
        (λ (m : k < j). front-is k m ∙ summed k (coefficient a k) (coefficient c k) (front-reckons k m).0 (front-reckons k m).1)
        (λ r. ⊎_elim
        (λ (e : k ≡ j). subst (λ (m : ℕ). coefficient joined m ≡ at (replaced (filled n (c ++ (j, g) ∷ d)) j (filled n (a ++ (j, f) ∷ b))) m) (sym e)
        (here-is ∙ sym (law ℚ_ring ((f *ℚ g) ∷ []) (λ q. num 0 ⊕ q ≐ q) refl) ∙ summed j zeroℚ g cleared-here here-reckons))
        (λ (m : j < k). back-is k m ∙ summed k (coefficient b k) (coefficient d k) (back-reckons k l m).0 (back-reckons k l m).1) r)
        (around k j)

    -- the joined halves are the row after the pivot
    pub halves-replaced : (out : Terms) → out ≡ joined_halves j a f b c g d → IsReplaced limit n (c ++ (j, g) ∷ d) j (a ++ (j, f) ∷ b) out
    halves-replaced out e = subst (IsReplaced limit n (c ++ (j, g) ∷ d) j (a ++ (j, f) ∷ b)) (sym e) (record {
      sparse = record {
        ascends = AscendFrom-append 0 (j + 1) (increased_by a f c ++ with_term j (f *ℚ g) []) (increased_by b f d) (omega arith)
            (AscendFrom-append 0 j (increased_by a f c) (with_term j (f *ℚ g) []) (omega arith) (AscendFrom-increased_from 0 f c a row_halves.front_ascends solution_halves.front_ascends) front-covered middle-ascends) start-covered back-ascends;
        covered = Covers-append n (increased_by a f c ++ with_term j (f *ℚ g) []) (increased_by b f d) (Covers-larger (j + 1) n (increased_by a f c ++ with_term j (f *ℚ g) []) (omega (arith, row_halves.column)) start-covered) (Covers-increased_by n f d b solution_halves.covered row_halves.covered);
      };
      defined = replace-defined;
      gives = filled-is n joined (replaced (filled n (c ++ (j, g) ∷ d)) j (filled n (a ++ (j, f) ∷ b)))
          (length-replaced (filled n (c ++ (j, g) ∷ d)) j (filled n (a ++ (j, f) ∷ b)) (length-filled n (c ++ (j, g) ∷ d) ∙ sym (length-filled n (a ++ (j, f) ∷ b))) ∙ length-filled n (a ++ (j, f) ∷ b)) joined-at;
    })

-- the parts of a row that ascends do
pub split-front : (a : Terms) (x : ℕ × ℚ) (b : Terms) → AscendFrom 0 (a ++ x ∷ b) → AscendFrom 0 a
split-front a x b h = (ascend-split 0 a x b h).0

pub split-back : (a : Terms) (x : ℕ × ℚ) (b : Terms) → AscendFrom 0 (a ++ x ∷ b) → AscendFrom 0 b
split-back a x b h = AscendFrom-lower 0 (x.0 + 1) b (omega arith) (ascend-split 0 a x b h).3

module _ (limit n j : ℕ) (row a b c d : Terms) (f g : ℚ) (e : row ≡ a ++ (j, f) ∷ b) (is : IsRow limit n row) (sparse : IsSparse n (c ++ (j, g) ∷ d)) where
  row_halves : Halves n j a f b
  row_halves = Halves-of n j row a f b e is.sparse

  solution_halves : Halves n j c g d
  solution_halves = Halves-of n j (c ++ (j, g) ∷ d) c g d refl sparse

  -- a row at the entering variable's column is replaced by its parts
  pub joined-replaced : (out : Terms) → CanJoinHalves limit a f b c g d → out ≡ joined_halves j a f b c g d → IsReplaced limit n (c ++ (j, g) ∷ d) j row out
  joined-replaced out can o = subst (λ (r : Terms). IsReplaced limit n (c ++ (j, g) ∷ d) j r out) (sym e)
      (halves-replaced limit n j a b c d f g row_halves solution_halves (subst (λ (r : Terms). RowFits limit (filled n r)) e is.fits) can out o)

  pub join-fails : ¬ CanJoinHalves limit a f b c g d → ¬ CanReplace limit (filled n (c ++ (j, g) ∷ d)) j (filled n row)
  join-fails m h = m (halves-needed limit n j a b c d f g row_halves solution_halves (subst (λ (r : Terms). CanReplace limit (filled n (c ++ (j, g) ∷ d)) j (filled n r)) e h))

-- a row without the entering variable stays as it is
pub without-replaces : (limit n j : ℕ) (solution row : Terms) → j < n → IsRow limit n row → coefficient row j ≡ zeroℚ → IsReplaced limit n solution j row row
without-replaces limit n j solution row h r e =
    let z : at (filled n row) j ≡ zeroℚ = at-filled n j row h ∙ e in record {
      sparse = r.sparse;
      defined = without-CanReplace limit (filled n solution) j (filled n row) r.fits z;
      gives = sym (without-replaced (filled n solution) j (filled n row) (length-filled n solution ∙ sym (length-filled n row)) z);
    }

-- a replaced row keeps to the limit
pub IsRow-replaced : (limit n j : ℕ) (solution row out : Terms) → IsReplaced limit n solution j row out → IsRow limit n out
IsRow-replaced limit n j solution row out r = record {
  sparse = r.sparse;
  fits = λ k h.
      let s = filled n solution in let u = filled n row in
      let l : k < length (filled n row) = omega (arith, h, length-filled n out, length-filled n row) in
      subst (Fits limit) (sym (ap (λ (w : List ℚ). at w k) r.gives ∙ at-replaced s j u k)) (fits-sum limit (at (cleared u j) k) (at u j *ℚ at s k) (r.defined k l).1.0);
}
