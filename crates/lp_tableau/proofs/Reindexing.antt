-- A sum over some variables as a sum over all of them.
use Rattle.std.proofs.Common.{◌≡◌, ℕ, zero, suc, ◌+◌, ◌<◌, ◌≤◌, ⊎_elim, nat_eq, List, [], ◌∷◌, length, map, refl, sym, ap, ap₂, subst, ◌∙◌, arith}
use Rattle.std.specs.List.{range_with_len}
use Rattle.rational.specs.Rational.{ℚ, zeroℚ, ◌+ℚ◌, ◌*ℚ◌}
use Rattle.rational.specs.Lists.{dot}
use Rattle.rational.proofs.Ring.{law, combine, minus, ◌⊕◌, ◌⊗◌, ◌≐◌, num}
use Rattle.rational.proofs.Field.{ℚ_ring}
use Rattle.rational.proofs.Lists.{dot-empty}
use Rattle.exact_lin.specs.Ids.{nat-decide}
use Rattle.lp_tableau.specs.Places.{variable_at}
use Rattle.lp_tableau.specs.Assignments.{look_up}
use Rattle.lp_tableau.proofs.Assigning.{choose-equal, choose-different, look_up-past}
use Rattle.lp_tableau.proofs.Solving.{same_or_not}

-- the sum of f v times x v over n numbers from a on
abbrev pub sum_over : ℕ → ℕ → (ℕ → ℚ) → (ℕ → ℚ) → ℚ
sum_over a n f x = dot (map f (range_with_len a n)) (map x (range_with_len a n))

-- where f and g agree the sums do
sum_over-same : (a n : ℕ) (f g x : ℕ → ℚ) → ((v : ℕ) → a ≤ v → f v ≡ g v) → sum_over a n f x ≡ sum_over a n g x
sum_over-same a zero f g x h = refl
sum_over-same a (suc n) f g x h = ap₂ (λ s t. s *ℚ x a +ℚ t) (h a (omega arith)) (sum_over-same (a + 1) n f g x (λ v l. h v (omega arith)))

pub sum_over-zero : (a n : ℕ) (f x : ℕ → ℚ) → ((v : ℕ) → f v ≡ zeroℚ) → sum_over a n f x ≡ zeroℚ
sum_over-zero a zero f x h = refl
sum_over-zero a (suc n) f x h = ap₂ (λ s t. s *ℚ x a +ℚ t) (h a) (sum_over-zero (a + 1) n f x h) ∙ law ℚ_ring (x a ∷ []) (λ y. num 0 ⊗ y ⊕ num 0 ≐ num 0) refl

-- f is g but at one number, where g is 0
sum_over-one : (a n u : ℕ) (c : ℚ) (f g x : ℕ → ℚ) → a ≤ u → u < a + n → f u ≡ c → g u ≡ zeroℚ → ((v : ℕ) → ¬ (u ≡ v) → f v ≡ g v) → sum_over a n f x ≡ c *ℚ x u +ℚ sum_over a n g x
sum_over-one a zero u c f g x h l e z s = absurd (omega arith)
sum_over-one a (suc n) u c f g x h l e z s = ⊎_elim
    (λ (q : a ≡ u). ap₂ (λ s t. s *ℚ x a +ℚ t) (ap f q ∙ e) (sum_over-same (a + 1) n f g x (λ v k. s v (λ w. absurd (omega (arith, w, q, k)))))
    ∙ subst (λ (w : ℕ). c *ℚ x a +ℚ sum_over (a + 1) n g x ≡ c *ℚ x w +ℚ (g a *ℚ x a +ℚ sum_over (a + 1) n g x)) q
    (combine ℚ_ring (c ∷ x a ∷ g a ∷ sum_over (a + 1) n g x ∷ []) (λ c y b t. record { from = (minus y, b ≐ num 0) ∷ []; goal = c ⊗ y ⊕ t ≐ c ⊗ y ⊕ (b ⊗ y ⊕ t) }) (ap g q ∙ z, tt) refl))
    (λ n_eq. ap₂ (λ s t. s *ℚ x a +ℚ t) (s a (λ w. n_eq (sym w))) (sum_over-one (a + 1) n u c f g x (above a u h n_eq) (omega arith) e z s)
    ∙ law ℚ_ring (c ∷ x u ∷ g a ∷ x a ∷ sum_over (a + 1) n g x ∷ []) (λ c y b w t. b ⊗ w ⊕ (c ⊗ y ⊕ t) ≐ c ⊗ y ⊕ (b ⊗ w ⊕ t)) refl)
    (same_or_not a u)
  where
    above : (a u : ℕ) → a ≤ u → ¬ (a ≡ u) → a + 1 ≤ u
    above a u h n = grind arith

-- each name once and each in range: their sum is the sum over the whole range of what stands beside
pub sum_over-names : (names : List ℕ) (us : List ℚ) (n : ℕ) (x : ℕ → ℚ) → length names ≤ length us → ((k : ℕ) → k < length names → variable_at names k < n)
    → ((i l : ℕ) → i < length names → l < length names → variable_at names i ≡ variable_at names l → i ≡ l) → sum_over 0 n (look_up names us zeroℚ) x ≡ dot us (map x names)
sum_over-names [] us n x h r f = sum_over-zero 0 n (look_up [] us zeroℚ) x (λ v. refl) ∙ sym (dot-empty us)
sum_over-names (name ∷ names) [] n x h r f = absurd (omega (arith, h))
sum_over-names (name ∷ names) (u ∷ us) n x h r f =
    sum_over-one 0 n name u (look_up (name ∷ names) (u ∷ us) zeroℚ) (look_up names us zeroℚ) x (omega arith) (omega (arith, r 0 (omega arith)))
    (choose-equal (nat_eq name name) u (look_up names us zeroℚ name) ((nat-decide name name).1 refl))
    (look_up-past names us zeroℚ name (λ i l e. let q : 0 ≡ suc i = f 0 (suc i) (omega arith) (omega arith) (sym e) in absurd (omega (arith, q))))
    (λ v d. choose-different (nat_eq name v) u (look_up names us zeroℚ v) (λ t. d ((nat-decide name v).0 t)))
    ∙ ap (λ z. u *ℚ x name +ℚ z) (sum_over-names names us n x (omega (arith, h)) (λ k l. r (suc k) (omega arith)) (λ i l a b q. let s : suc i ≡ suc l = f (suc i) (suc l) (omega arith) (omega arith) q in omega (arith, s)))

-- the sum over the first n and the m numbers after them
pub sum_over-split : (a n m : ℕ) (f x : ℕ → ℚ) → sum_over a (n + m) f x ≡ sum_over a n f x +ℚ sum_over (a + n) m f x
sum_over-split a zero m f x = subst (λ (k : ℕ). sum_over a k f x ≡ zeroℚ +ℚ sum_over (a + zero) m f x) (let e : m ≡ zero + m = omega arith in e)
    (subst (λ (b : ℕ). sum_over a m f x ≡ zeroℚ +ℚ sum_over b m f x) (let e : a ≡ a + zero = omega arith in e) (law ℚ_ring (sum_over a m f x ∷ []) (λ s. s ≐ num 0 ⊕ s) refl))
sum_over-split a (suc n) m f x = subst (λ (k : ℕ). sum_over a k f x ≡ sum_over a (suc n) f x +ℚ sum_over (a + suc n) m f x) (let e : suc (n + m) ≡ suc n + m = omega arith in e)
    (ap (λ z. f a *ℚ x a +ℚ z) (sum_over-split (a + 1) n m f x ∙ ap (λ (b : ℕ). sum_over (a + 1) n f x +ℚ sum_over b m f x) (let e : a + 1 + n ≡ a + suc n = omega arith in e))
    ∙ law ℚ_ring (f a ∷ x a ∷ sum_over (a + 1) n f x ∷ sum_over (a + suc n) m f x ∷ []) (λ b y s t. b ⊗ y ⊕ (s ⊕ t) ≐ b ⊗ y ⊕ s ⊕ t) refl)
