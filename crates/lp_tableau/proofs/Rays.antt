-- Where the nonbasic variables are 0, or one alone rises: what the rows say, and why it can't rise for ever.
use Rattle.std.proofs.Common.{◌≡◌, ℕ, zero, suc, ◌+◌, ◌<◌, List, [], ◌∷◌, ◌++◌, length, refl, sym, ap, subst, ◌∙◌, set, replicate, arith}
use Rattle.std.proofs.lemmas.List.{length-set, length-replicate}
use Rattle.rational.specs.Rational.{ℚ, zeroℚ, oneℚ, ◌+ℚ◌, ◌*ℚ◌, ◌-ℚ◌, neg_ℚ, inverse, ◌≤ℚ◌, ◌<ℚ◌}
use Rattle.rational.specs.Lists.{dot, at}
use Rattle.rational.proofs.Ring.{law, combine, minus, ◌⊕◌, ◌⊗◌, ◌⊖◌, ◌≐◌, ◌≼◌, ◌≺◌, num}
use Rattle.rational.proofs.Field.{ℚ_ring}
use Rattle.rational.proofs.Order.{ℚ_ordered, mul_nonneg, mul-inverse, lt_irrefl}
use Rattle.rational.proofs.Inequalities.{le_refl, not_lt_le, inverse_positive}
use Rattle.rational.proofs.Solve.{◌⊢◌, linear, contradiction}
use Rattle.lp_tableau.specs.Dictionaries.{Dictionary, row_of, constant_of, entry_of, value_of}
use Rattle.lp_tableau.specs.Chains.{NeverUnlimited}
use Rattle.lp_tableau.specs.Meanings.{IsDictionary}
use Rattle.lp_tableau.proofs.Assigning.{assigned, Holds-assigned, assigned-nonneg}

abbrev pub zeros : ℕ → List ℚ
zeros n = replicate n zeroℚ

-- one alone is t
abbrev pub rising : ℕ → ℕ → ℚ → List ℚ
rising n j t = set (zeros n) j t

pub zeros-nonneg : (n k : ℕ) → zeroℚ ≤ℚ at (zeros n) k
zeros-nonneg zero k = le_refl zeroℚ
zeros-nonneg (suc n) zero = le_refl zeroℚ
zeros-nonneg (suc n) (suc k) = zeros-nonneg n k

-- where all are 0 a row says its constant
pub dot-zeros : (n : ℕ) (row : List ℚ) → length row ≡ n + 1 → dot row (zeros n ++ oneℚ ∷ []) ≡ at row n
dot-zeros n [] h = absurd (omega arith)
dot-zeros zero (a ∷ []) h = law ℚ_ring (a ∷ []) (λ a. a ⊗ num 1 ⊕ num 0 ≐ a) refl
dot-zeros zero (a ∷ b ∷ row) h = absurd (omega arith)
dot-zeros (suc n) (a ∷ row) h = ap (λ z. a *ℚ zeroℚ +ℚ z) (dot-zeros n row (omega arith)) ∙ law ℚ_ring (a ∷ at row n ∷ []) (λ a c. a ⊗ num 0 ⊕ c ≐ c) refl

-- where one alone is t, it says its constant and t times its entry
pub dot-one : (n : ℕ) (row : List ℚ) (j : ℕ) (t : ℚ) → j < n → length row ≡ n + 1 → dot row (set (zeros n) j t ++ oneℚ ∷ []) ≡ at row n +ℚ at row j *ℚ t
dot-one zero row j t k h = absurd (omega arith)
dot-one (suc n) [] j t k h = absurd (omega arith)
dot-one (suc n) (a ∷ row) zero t k h = ap (λ z. a *ℚ t +ℚ z) (dot-zeros n row (omega arith)) ∙ law ℚ_ring (a ∷ t ∷ at row n ∷ []) (λ a t c. a ⊗ t ⊕ c ≐ c ⊕ a ⊗ t) refl
dot-one (suc n) (a ∷ row) (suc j) t k h = ap (λ z. a *ℚ zeroℚ +ℚ z) (dot-one n row j t (omega arith) (omega arith)) ∙ law ℚ_ring (a ∷ t ∷ at row n ∷ at row j ∷ []) (λ a t c e. a ⊗ num 0 ⊕ (c ⊕ e ⊗ t) ≐ c ⊕ e ⊗ t) refl

one-nonneg : (n j : ℕ) (t : ℚ) → zeroℚ ≤ℚ t → (k : ℕ) → zeroℚ ≤ℚ at (rising n j t) k
one-nonneg zero j t h k = le_refl zeroℚ
one-nonneg (suc n) zero t h zero = h
one-nonneg (suc n) zero t h (suc k) = zeros-nonneg n k
one-nonneg (suc n) (suc j) t h zero = le_refl zeroℚ
one-nonneg (suc n) (suc j) t h (suc k) = one-nonneg n j t h k

rises : (c e t : ℚ) → zeroℚ ≤ℚ c → zeroℚ ≤ℚ e → zeroℚ ≤ℚ t → zeroℚ ≤ℚ (c +ℚ e *ℚ t)
rises c e t h k l = linear ℚ_ordered (c ∷ (e *ℚ t) ∷ []) (λ c p. (num 0 ≼ c ∷ num 0 ≼ p ∷ []) ⊢ num 0 ≼ c ⊕ p) (h, (mul_nonneg e t k l, tt)) refl

-- a falling line goes below each bound
falls : (c e q : ℚ) → e <ℚ zeroℚ → ((t : ℚ) → zeroℚ ≤ℚ t → q ≤ℚ (c +ℚ e *ℚ t)) → ⊥
falls c e q h f =
    let m : ℚ = neg_ℚ e in
    let pos : zeroℚ <ℚ m = linear ℚ_ordered (e ∷ []) (λ e. (e ≺ num 0 ∷ []) ⊢ num 0 ≺ minus e) (h, tt) refl in
    let i : ℚ = inverse m in
    let i_pos : zeroℚ <ℚ i = inverse_positive m pos in
    let start : q ≤ℚ (c +ℚ e *ℚ zeroℚ) = f zeroℚ (le_refl zeroℚ) in
    let gap : zeroℚ ≤ℚ (i *ℚ (c -ℚ q)) = mul_nonneg i (c -ℚ q) (linear ℚ_ordered (i ∷ []) (λ i. (num 0 ≺ i ∷ []) ⊢ num 0 ≼ i) (i_pos, tt) refl) (linear ℚ_ordered (c ∷ e ∷ q ∷ []) (λ c e q. (q ≼ c ⊕ e ⊗ num 0 ∷ []) ⊢ num 0 ≼ c ⊖ q) (start, tt) refl) in
    let far : q ≤ℚ (c +ℚ e *ℚ (i *ℚ (c -ℚ q) +ℚ oneℚ)) = f (i *ℚ (c -ℚ q) +ℚ oneℚ) (linear ℚ_ordered ((i *ℚ (c -ℚ q)) ∷ []) (λ g. (num 0 ≼ g ∷ []) ⊢ num 0 ≼ g ⊕ num 1) (gap, tt) refl) in
    below c e q i h (mul-inverse m (λ z. absurd (lt_irrefl zeroℚ (subst (λ w. zeroℚ <ℚ w) z pos)))) far
  where
    below : (c e q i : ℚ) → e <ℚ zeroℚ → neg_ℚ e *ℚ i ≡ oneℚ → q ≤ℚ (c +ℚ e *ℚ (i *ℚ (c -ℚ q) +ℚ oneℚ)) → ⊥
    below c e q i h m far =
        let flat : c +ℚ e *ℚ (i *ℚ (c -ℚ q) +ℚ oneℚ) ≡ q +ℚ e = combine ℚ_ring (c ∷ e ∷ q ∷ i ∷ []) (λ c e q i. record { from = (minus (c ⊖ q), minus e ⊗ i ≐ num 1) ∷ []; goal = c ⊕ e ⊗ (i ⊗ (c ⊖ q) ⊕ num 1) ≐ q ⊕ e }) (m, tt) refl in
        contradiction ℚ_ordered (e ∷ q ∷ (c +ℚ e *ℚ (i *ℚ (c -ℚ q) +ℚ oneℚ)) ∷ []) (λ e q z. e ≺ num 0 ∷ z ≐ q ⊕ e ∷ q ≼ z ∷ []) (h, (flat, (far, tt))) refl

-- no variable that may enter can rise for ever, since the cost has a bound
pub IsDictionary-limited : (d : Dictionary) → IsDictionary d → NeverUnlimited d
IsDictionary-limited d is j s none = falls (value_of d) (at d.cost j) is.limited.0 s.enters.passes (λ t h. subst (λ z. is.limited.0 ≤ℚ z) (dot-one (length d.nonbasic) d.cost j t s.enters.below is.even.cost)
    (is.limited.1 (assigned d (rising (length d.nonbasic) j t)) (dot d.cost (rising (length d.nonbasic) j t ++ oneℚ ∷ [])) (Holds-assigned d is.even is.numbered (rising (length d.nonbasic) j t) (fits t))
    (assigned-nonneg d is.even is.numbered (rising (length d.nonbasic) j t) (fits t) (λ k l. one-nonneg (length d.nonbasic) j t h k) (λ i l. subst (λ z. zeroℚ ≤ℚ z) (sym (dot-one (length d.nonbasic) (row_of d i) j t s.enters.below (is.even.rows i [] l)))
    (rises (constant_of d i) (entry_of d i j) t (not_lt_le zeroℚ (constant_of d i) (s.feasible i l)) (not_lt_le zeroℚ (entry_of d i j) (none i l)) h)))))
  where
    fits : (t : ℚ) → length (rising (length d.nonbasic) j t) ≡ length d.nonbasic
    fits t = length-set (zeros (length d.nonbasic)) j t ∙ length-replicate (length d.nonbasic) zeroℚ
