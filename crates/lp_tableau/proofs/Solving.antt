-- A pivot keeps the equations: what holds before it holds after it, and the other way round.
use Rattle.std.proofs.Common.{◌≡◌, ℕ, zero, suc, ◌+◌, ◌<◌, ◌⊎◌, ⊎_elim, List, [], ◌∷◌, ◌++◌, length, map, refl, sym, ap, subst, ◌∙◌, set, arith}
use Rattle.std.proofs.lemmas.List.{length-set, length-map, map-set, set-append_left, get_or-set_same, get_or-set_other, get_or-map}
use Rattle.rational.specs.Rational.{ℚ, zeroℚ, oneℚ, ◌+ℚ◌, ◌*ℚ◌, ◌-ℚ◌, inverse}
use Rattle.rational.specs.Lists.{dot, at}
use Rattle.lp_tableau.specs.Places.{variable_at}
use Rattle.lp_tableau.specs.Dictionaries.{Dictionary, IsEven, row_of, entry_of, basic_of, nonbasic_of}
use Rattle.lp_tableau.specs.Pivots.{pivoted, solved, replaced}
use Rattle.lp_tableau.specs.Meanings.{Holds, values_of}
use Rattle.lp_tableau.proofs.Dots.{dot-solved, dot-replaced, solved-onward, solved-back, replaced-is}

pub same_or_not : (i k : ℕ) → (i ≡ k) ⊎ ¬ (i ≡ k)
same_or_not i k = grind arith

-- the value at a place of the values
at-values : (x : ℕ → ℚ) (vs : List ℕ) (j : ℕ) → j < length vs → at (map x vs ++ oneℚ ∷ []) j ≡ x (variable_at vs j)
at-values x [] j h = absurd (omega arith)
at-values x (v ∷ vs) zero h = refl
at-values x (v ∷ vs) (suc j) h = at-values x vs j (omega arith)

pub length-values : (x : ℕ → ℚ) (vs : List ℕ) → length (map x vs ++ oneℚ ∷ []) ≡ length vs + 1
length-values x [] = omega arith
length-values x (v ∷ vs) = let e = length-values x vs in omega (arith, e)

module _ (d : Dictionary) (i j : ℕ) (even : IsEven d) (row_in_range : i < length d.rows) (column_in_range : j < length d.nonbasic) (not_zero : ¬ (entry_of d i j ≡ zeroℚ)) where
  row_length : (k : ℕ) → k < length d.rows → length (row_of d k) ≡ length d.nonbasic + 1
  row_length k h = even.rows k [] h

  -- the values after the pivot: the leaving variable's in the place of the entering one's
  values-pivoted : (x : ℕ → ℚ) → values_of (pivoted d i j) x ≡ set (values_of d x) j (x (basic_of d i))
  values-pivoted x = ap (λ u. u ++ oneℚ ∷ []) (map-set x d.nonbasic j (basic_of d i)) ∙ sym (set-append_left (map x d.nonbasic) (oneℚ ∷ []) j (x (basic_of d i)) (omega (arith, length-map d.nonbasic x)))

  row-pivoted_here : row_of (pivoted d i j) i ≡ solved (row_of d i) j
  row-pivoted_here = get_or-set_same (map (replaced (solved (row_of d i) j) j) d.rows) i (solved (row_of d i) j) [] (omega (arith, length-map d.rows (replaced (solved (row_of d i) j) j)))

  row-pivoted_other : (k : ℕ) → k < length d.rows → ¬ (k ≡ i) → row_of (pivoted d i j) k ≡ replaced (solved (row_of d i) j) j (row_of d k)
  row-pivoted_other k h n = get_or-set_other (map (replaced (solved (row_of d i) j) j) d.rows) i k (solved (row_of d i) j) [] n ∙ get_or-map (replaced (solved (row_of d i) j) j) d.rows k [] [] h

  length-pivoted : length (pivoted d i j).rows ≡ length d.rows
  length-pivoted = length-set (map (replaced (solved (row_of d i) j) j) d.rows) i (solved (row_of d i) j) ∙ length-map d.rows (replaced (solved (row_of d i) j) j)

  basic-pivoted_here : basic_of (pivoted d i j) i ≡ nonbasic_of d j
  basic-pivoted_here = get_or-set_same d.basic i (nonbasic_of d j) 0 (omega (arith, even.basic))

  basic-pivoted_other : (k : ℕ) → ¬ (k ≡ i) → basic_of (pivoted d i j) k ≡ basic_of d k
  basic-pivoted_other k n = get_or-set_other d.basic i k (nonbasic_of d j) 0 n

  module _ (x : ℕ → ℚ) where
    -- what the solved row says after the pivot
    solved-says : dot (row_of (pivoted d i j) i) (values_of (pivoted d i j) x) ≡ x (nonbasic_of d j) +ℚ inverse (entry_of d i j) *ℚ (x (basic_of d i) -ℚ dot (row_of d i) (values_of d x))
    solved-says = ap (λ u. dot u (values_of (pivoted d i j) x)) row-pivoted_here ∙ ap (dot (solved (row_of d i) j)) (values-pivoted x)
        ∙ dot-solved (row_of d i) (values_of d x) j (x (basic_of d i)) (omega (arith, row_length i row_in_range)) (omega (arith, length-values x d.nonbasic)) not_zero
        ∙ ap (λ e. e +ℚ inverse (entry_of d i j) *ℚ (x (basic_of d i) -ℚ dot (row_of d i) (values_of d x))) (at-values x d.nonbasic j column_in_range)

    -- where the solved row holds, a replaced row says what it said before
    replaced-says : (row : List ℚ) → length row ≡ length d.nonbasic + 1 → x (nonbasic_of d j) ≡ dot (row_of (pivoted d i j) i) (values_of (pivoted d i j) x)
        → dot (replaced (solved (row_of d i) j) j row) (values_of (pivoted d i j) x) ≡ dot row (values_of d x)
    replaced-says row h e = ap (dot (replaced (solved (row_of d i) j) j row)) (values-pivoted x)
        ∙ dot-replaced (solved (row_of d i) j) row (values_of d x) j (x (basic_of d i)) (omega (arith, h)) (omega (arith, length-values x d.nonbasic))
        ∙ replaced-is (dot row (values_of d x)) (at row j) (dot (solved (row_of d i) j) (set (values_of d x) j (x (basic_of d i)))) (at (values_of d x) j)
        (at-values x d.nonbasic j column_in_range ∙ e ∙ ap (λ u. dot u (values_of (pivoted d i j) x)) row-pivoted_here ∙ ap (dot (solved (row_of d i) j)) (values-pivoted x))

    module _ (z : ℚ) where
      pub Holds-pivoted : Holds d x z → Holds (pivoted d i j) x z
      Holds-pivoted h =
          let e : x (nonbasic_of d j) ≡ dot (row_of (pivoted d i j) i) (values_of (pivoted d i j) x) = solved-onward (x (nonbasic_of d j)) (inverse (entry_of d i j)) (x (basic_of d i)) (dot (row_of d i) (values_of d x)) (h.rows i row_in_range) ∙ sym solved-says in
          record {
            rows = λ k l. ⊎_elim
                (λ (q : k ≡ i). subst (λ (n : ℕ). x (basic_of (pivoted d i j) n) ≡ dot (row_of (pivoted d i j) n) (values_of (pivoted d i j) x)) (sym q) (ap x basic-pivoted_here ∙ e))
                (λ n. ap x (basic-pivoted_other k n) ∙ h.rows k (omega (arith, length-pivoted)) ∙ sym (replaced-says (row_of d k) (row_length k (omega (arith, length-pivoted))) e) ∙ ap (λ u. dot u (values_of (pivoted d i j) x)) (sym (row-pivoted_other k (omega (arith, length-pivoted)) n)))
                (same_or_not k i);
            cost = h.cost ∙ sym (replaced-says d.cost even.cost e);
          }

      pub Holds-before : Holds (pivoted d i j) x z → Holds d x z
      Holds-before h =
          let e : x (nonbasic_of d j) ≡ dot (row_of (pivoted d i j) i) (values_of (pivoted d i j) x) = ap x (sym basic-pivoted_here) ∙ h.rows i (omega (arith, length-pivoted)) in
          record {
            rows = λ k l. ⊎_elim
                (λ (q : k ≡ i). subst (λ (n : ℕ). x (basic_of d n) ≡ dot (row_of d n) (values_of d x)) (sym q) (solved-back (entry_of d i j) (x (nonbasic_of d j)) (x (basic_of d i)) (dot (row_of d i) (values_of d x)) not_zero (e ∙ solved-says)))
                (λ n. ap x (sym (basic-pivoted_other k n)) ∙ h.rows k (omega (arith, length-pivoted)) ∙ ap (λ u. dot u (values_of (pivoted d i j) x)) (row-pivoted_other k l n) ∙ replaced-says (row_of d k) (row_length k l) e)
                (same_or_not k i);
            cost = h.cost ∙ replaced-says d.cost even.cost e;
          }
