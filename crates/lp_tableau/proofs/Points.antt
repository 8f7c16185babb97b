-- Where the chain ends optimal, the basic point solves the program.
use Rattle.std.proofs.Common.{◌≡◌, ℕ, zero, suc, ◌+◌, ◌<◌, List, [], ◌∷◌, ◌++◌, length, map, refl, sym, ap, ap₂, subst, ◌∙◌, get_or, Bool, true, false, nat_eq, arith}
use Rattle.std.specs.Prelude.{if◌then◌else◌}
use Rattle.std.specs.List.{range_with_len}
use Rattle.std.proofs.lemmas.List.{length-replicate}
use Rattle.rational.specs.Rational.{ℚ, zeroℚ, oneℚ, ◌≤ℚ◌}
use Rattle.rational.specs.Lists.{dot, at}
use Rattle.rational.proofs.Inequalities.{not_lt_le}
use Rattle.cert_core.specs.Programs.{Program, Solves, cost_at}
use Rattle.lp_tableau.specs.Dictionaries.{Dictionary, row_of, constant_of, value_of, initial}
use Rattle.lp_tableau.specs.Chains.{EndsOptimal}
use Rattle.lp_tableau.specs.Meanings.{Holds, IsNonneg, IsDictionary, StandsFor}
use Rattle.lp_tableau.specs.Assignments.{look_up, basic_value, point_of}
use Rattle.lp_tableau.proofs.Assigning.{assigned, Holds-assigned, assigned-nonneg}
use Rattle.lp_tableau.proofs.Rays.{zeros, zeros-nonneg, dot-zeros}
use Rattle.lp_tableau.proofs.Initial.{first_values, initial-solves, cost-is}

look_up-zeros : (names : List ℕ) (n v : ℕ) → look_up names (zeros n) zeroℚ v ≡ zeroℚ
look_up-zeros [] n v = refl
look_up-zeros (name ∷ names) zero v = refl
look_up-zeros (name ∷ names) (suc n) v = choose (nat_eq name v) (look_up names (zeros n) zeroℚ v) (look_up-zeros names n v)
  where
    choose : (b : Bool) (y : ℚ) → y ≡ zeroℚ → (if b then zeroℚ else y) ≡ zeroℚ
    choose true y e = refl
    choose false y e = e

-- each row says its constant
row_values-zeros : (n : ℕ) (rows : List (List ℚ)) → ((i : ℕ) → i < length rows → length (get_or rows i []) ≡ n + 1) → map (λ row. dot row (zeros n ++ oneℚ ∷ [])) rows ≡ map (λ row. at row n) rows
row_values-zeros n [] f = refl
row_values-zeros n (row ∷ rows) f = ap₂ ◌∷◌ (dot-zeros n row (f 0 (omega arith))) (row_values-zeros n rows (λ i h. f (suc i) (omega arith)))

module _ (d : Dictionary) (is : IsDictionary d) where
  fits : length (zeros (length d.nonbasic)) ≡ length d.nonbasic
  fits = length-replicate (length d.nonbasic) zeroℚ

  basic_value-is : (v : ℕ) → assigned d (zeros (length d.nonbasic)) v ≡ basic_value d v
  basic_value-is v = ap (λ (u : List ℚ). look_up d.basic u (look_up d.nonbasic (zeros (length d.nonbasic)) zeroℚ v) v) (row_values-zeros (length d.nonbasic) d.rows (λ i h. is.even.rows i [] h))
      ∙ ap (λ z. look_up d.basic (map (λ row. at row (length d.nonbasic)) d.rows) z v) (look_up-zeros d.nonbasic (length d.nonbasic) v)

  same_point : (vs : List ℕ) → map (assigned d (zeros (length d.nonbasic))) vs ≡ map (basic_value d) vs
  same_point [] = refl
  same_point (v ∷ vs) = ap₂ ◌∷◌ (basic_value-is v) (same_point vs)

  pub point-solves : (p : Program) → EndsOptimal d → StandsFor p d → Solves p (point_of d (length d.nonbasic)) × (cost_at p (point_of d (length d.nonbasic)) ≡ value_of d)
  point-solves p o f =
      let x : ℕ → ℚ = assigned d (zeros (length d.nonbasic)) in
      let z : ℚ = dot d.cost (zeros (length d.nonbasic) ++ oneℚ ∷ []) in
      let h : Holds (initial p) x z = (f.solutions x z).0 (Holds-assigned d is.even is.numbered (zeros (length d.nonbasic)) fits) in
      let n : IsNonneg x = assigned-nonneg d is.even is.numbered (zeros (length d.nonbasic)) fits (λ j l. zeros-nonneg (length d.nonbasic) j)
      (λ i l. subst (λ w. zeroℚ ≤ℚ w) (sym (dot-zeros (length d.nonbasic) (row_of d i) (is.even.rows i [] l))) (not_lt_le zeroℚ (constant_of d i) (o.feasible i l))) in
      let same : first_values p f.even x ≡ point_of d (length d.nonbasic) = same_point (range_with_len 0 (length p.costs)) ∙ ap (λ (k : ℕ). map (basic_value d) (range_with_len 0 k)) (sym f.variables) in (
        subst (Solves p) same (initial-solves p f.even x z h n),
        ap (cost_at p) (sym same) ∙ sym (cost-is p f.even x z h) ∙ dot-zeros (length d.nonbasic) d.cost is.even.cost,
      )
