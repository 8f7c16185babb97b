-- A pivot keeps what is true of each dictionary.
use Rattle.std.proofs.Common.{◌≡◌, ℕ, ◌+◌, ◌<◌, ◌⊎◌, inl, inr, ⊎_elim, List, [], length, map, sym, ap, subst, ◌∙◌, arith}
use Rattle.std.proofs.lemmas.List.{length-set, length-map, get_or-set_same, get_or-set_other, get_or-map, get_or_default}
use Rattle.rational.specs.Rational.{ℚ, zeroℚ}
use Rattle.cert_core.specs.Programs.{Program}
use Rattle.lp_tableau.specs.Dictionaries.{Dictionary, IsEven, row_of, entry_of, basic_of, nonbasic_of}
use Rattle.lp_tableau.specs.Pivots.{pivoted, solved, replaced, replaced_rows}
use Rattle.lp_tableau.specs.Meanings.{AreNumbered, IsDictionary, StandsFor}
use Rattle.lp_tableau.proofs.RowPlaces.{length-solved, length-replaced}
use Rattle.lp_tableau.proofs.Solving.{same_or_not, Holds-pivoted, Holds-before}

pub length-replaced_rows : (s : List ℚ) (i j : ℕ) (rows : List (List ℚ)) → length (replaced_rows s i j rows) ≡ length rows
length-replaced_rows s i j rows = length-set (map (replaced s j) rows) i s ∙ length-map rows (replaced s j)

module _ (d : Dictionary) (i j : ℕ) (is : IsDictionary d) (row_in_range : i < length d.rows) (column_in_range : j < length d.nonbasic) (not_zero : ¬ (entry_of d i j ≡ zeroℚ)) where
  solution_length : length (solved (row_of d i) j) ≡ length d.nonbasic + 1
  solution_length = length-solved (row_of d i) j ∙ is.even.rows i [] row_in_range

  nonbasic_length : length (pivoted d i j).nonbasic ≡ length d.nonbasic
  nonbasic_length = length-set d.nonbasic j (basic_of d i)

  rows_length : length (pivoted d i j).rows ≡ length d.rows
  rows_length = length-replaced_rows (solved (row_of d i) j) i j d.rows

  row-length : (k : ℕ) → k < length d.rows → length (row_of (pivoted d i j) k) ≡ length d.nonbasic + 1
  row-length k h = ⊎_elim
      (λ (q : k ≡ i). subst (λ (n : ℕ). length (row_of (pivoted d i j) n) ≡ length d.nonbasic + 1) (sym q)
      (ap length (get_or-set_same (map (replaced (solved (row_of d i) j) j) d.rows) i (solved (row_of d i) j) [] (omega (arith, row_in_range, length-map d.rows (replaced (solved (row_of d i) j) j)))) ∙ solution_length))
      (λ n. ap length (get_or-set_other (map (replaced (solved (row_of d i) j) j) d.rows) i k (solved (row_of d i) j) [] n ∙ get_or-map (replaced (solved (row_of d i) j) j) d.rows k [] [] h)
      ∙ length-replaced (solved (row_of d i) j) j (row_of d k) (solution_length ∙ sym (is.even.rows k [] h)) ∙ is.even.rows k [] h)
      (same_or_not k i)

  IsEven-pivoted : IsEven (pivoted d i j)
  IsEven-pivoted = record {
    rows = λ k e h. ap length (get_or_default (pivoted d i j).rows k e [] h) ∙ row-length k (omega (arith, h, rows_length)) ∙ ap (λ (n : ℕ). n + 1) (sym nonbasic_length);
    cost = length-replaced (solved (row_of d i) j) j d.cost (solution_length ∙ sym is.even.cost) ∙ is.even.cost ∙ ap (λ (n : ℕ). n + 1) (sym nonbasic_length);
    basic = length-set d.basic i (nonbasic_of d j) ∙ is.even.basic ∙ sym rows_length;
  }

  -- the variable at a place after the pivot
  basic-is : (k : ℕ) → ((k ≡ i) × (basic_of (pivoted d i j) k ≡ nonbasic_of d j)) ⊎ (¬ (k ≡ i) × (basic_of (pivoted d i j) k ≡ basic_of d k))
  basic-is k = ⊎_elim
      (λ (q : k ≡ i). inl (q, subst (λ (n : ℕ). basic_of (pivoted d i j) n ≡ nonbasic_of d j) (sym q) (get_or-set_same d.basic i (nonbasic_of d j) 0 (omega (arith, is.even.basic)))))
      (λ n. inr (n, get_or-set_other d.basic i k (nonbasic_of d j) 0 n))
      (same_or_not k i)

  nonbasic-is : (k : ℕ) → ((k ≡ j) × (nonbasic_of (pivoted d i j) k ≡ basic_of d i)) ⊎ (¬ (k ≡ j) × (nonbasic_of (pivoted d i j) k ≡ nonbasic_of d k))
  nonbasic-is k = ⊎_elim
      (λ (q : k ≡ j). inl (q, subst (λ (n : ℕ). nonbasic_of (pivoted d i j) n ≡ basic_of d i) (sym q) (get_or-set_same d.nonbasic j (basic_of d i) 0 column_in_range)))
      (λ n. inr (n, get_or-set_other d.nonbasic j k (basic_of d i) 0 n))
      (same_or_not k j)

  AreNumbered-pivoted : AreNumbered (pivoted d i j)
  AreNumbered-pivoted = record {
    basic = λ k l h m e. ⊎_elim
        (λ a. ⊎_elim (λ b. a.0 ∙ sym b.0) (λ b. absurd (is.numbered.apart l j (omega (arith, m, rows_length)) column_in_range (sym b.1 ∙ sym e ∙ a.1))) (basic-is l))
        (λ a. ⊎_elim (λ b. absurd (is.numbered.apart k j (omega (arith, h, rows_length)) column_in_range (sym a.1 ∙ e ∙ b.1))) (λ b. is.numbered.basic k l (omega (arith, h, rows_length)) (omega (arith, m, rows_length)) (sym a.1 ∙ e ∙ b.1)) (basic-is l))
        (basic-is k);
    nonbasic = λ k l h m e. ⊎_elim
        (λ a. ⊎_elim (λ b. a.0 ∙ sym b.0) (λ b. absurd (is.numbered.apart i l row_in_range (omega (arith, m, nonbasic_length)) (sym a.1 ∙ e ∙ b.1))) (nonbasic-is l))
        (λ a. ⊎_elim (λ b. absurd (is.numbered.apart i k row_in_range (omega (arith, h, nonbasic_length)) (sym b.1 ∙ sym e ∙ a.1))) (λ b. is.numbered.nonbasic k l (omega (arith, h, nonbasic_length)) (omega (arith, m, nonbasic_length)) (sym a.1 ∙ e ∙ b.1)) (nonbasic-is l))
        (nonbasic-is k);
    apart = λ k l h m e. ⊎_elim
        (λ a. ⊎_elim (λ b. is.numbered.apart i j row_in_range column_in_range (sym b.1 ∙ sym e ∙ a.1)) (λ b. b.0 (is.numbered.nonbasic l j (omega (arith, m, nonbasic_length)) column_in_range (sym b.1 ∙ sym e ∙ a.1))) (nonbasic-is l))
        (λ a. ⊎_elim (λ b. a.0 (is.numbered.basic k i (omega (arith, h, rows_length)) row_in_range (sym a.1 ∙ e ∙ b.1))) (λ b. is.numbered.apart k l (omega (arith, h, rows_length)) (omega (arith, m, nonbasic_length)) (sym a.1 ∙ e ∙ b.1)) (nonbasic-is l))
        (basic-is k);
    basic_range = λ k h. ⊎_elim (λ a. omega (arith, a.1, is.numbered.nonbasic_range j column_in_range, nonbasic_length, rows_length)) (λ a. omega (arith, a.1, is.numbered.basic_range k (omega (arith, h, rows_length)), nonbasic_length, rows_length)) (basic-is k);
    nonbasic_range = λ k h. ⊎_elim (λ a. omega (arith, a.1, is.numbered.basic_range i row_in_range, nonbasic_length, rows_length)) (λ a. omega (arith, a.1, is.numbered.nonbasic_range k (omega (arith, h, nonbasic_length)), nonbasic_length, rows_length)) (nonbasic-is k);
  }

  pub IsDictionary-pivoted : IsDictionary (pivoted d i j)
  IsDictionary-pivoted = record {
    even = IsEven-pivoted;
    numbered = AreNumbered-pivoted;
    limited = (is.limited.0, λ x z h n. is.limited.1 x z (Holds-before d i j is.even row_in_range column_in_range not_zero x z h) n);
  }

  pub StandsFor-pivoted : (p : Program) → StandsFor p d → StandsFor p (pivoted d i j)
  StandsFor-pivoted p s = record {
    even = s.even;
    variables = nonbasic_length ∙ s.variables;
    rows = rows_length ∙ s.rows;
    solutions = λ x z. (
      λ h. (s.solutions x z).0 (Holds-before d i j is.even row_in_range column_in_range not_zero x z h),
      λ h. Holds-pivoted d i j is.even row_in_range column_in_range not_zero x z ((s.solutions x z).1 h),
    );
  }
