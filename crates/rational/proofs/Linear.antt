-- Linear arithmetic over an ordered ring: statements that cannot all hold are refuted by a sum of them, each with a factor.
use Rattle.std.proofs.Common.{◌≡◌, ℕ, zero, suc, refl, sym, ◌∙◌, ap, subst, Bool, true, false, ◌&&◌, ◌||◌, List, [], ◌∷◌, ◌⊎◌}
use Rattle.std.proofs.Math.IntN.{ℤ, pos, negsuc}
use Rattle.rational.proofs.Ring.{Ring, Ex, lit, ◌⊕◌, ◌⊗◌, ◌⊖◌, num, Kind, at_most, below, equal, Stmt, ◌≐◌, is_nil, norm, eval, law, eval-nil}

-- a commutative ring with a total order that its sums and products respect
pub record Ordered : Type 1 where
  pub r : Ring
  pub le : r.A → r.A → Type 0
  pub lt : r.A → r.A → Type 0
  pub le_sub : (a b : r.A) → le a b → le (r.of (pos 0)) (r.add b (r.neg a))
  pub lt_sub : (a b : r.A) → lt a b → lt (r.of (pos 0)) (r.add b (r.neg a))
  pub add_le : (a b : r.A) → le (r.of (pos 0)) a → le (r.of (pos 0)) b → le (r.of (pos 0)) (r.add a b)
  pub add_lt : (a b : r.A) → lt (r.of (pos 0)) a → le (r.of (pos 0)) b → lt (r.of (pos 0)) (r.add a b)
  pub mul_le : (a b : r.A) → le (r.of (pos 0)) a → le (r.of (pos 0)) b → le (r.of (pos 0)) (r.mul a b)
  pub mul_lt : (a b : r.A) → lt (r.of (pos 0)) a → lt (r.of (pos 0)) b → lt (r.of (pos 0)) (r.mul a b)
  pub of_le : (n : ℕ) → le (r.of (pos 0)) (r.of (pos n))
  pub of_lt : (n : ℕ) → lt (r.of (pos 0)) (r.of (pos (suc n)))
  pub lt_le : (a b : r.A) → lt a b → le a b
  pub lt_irrefl : (a : r.A) → lt a a → ⊥
  pub le_or_gt : (a b : r.A) → (le a b) ⊎ (lt b a)
  pub antisym : (a b : r.A) → le a b → le b a → a ≡ b

-- the sum of the statements' right sides less their left sides, each with its factor
abbrev pub total : List ℤ → List Stmt → Ex
total [] ss = num 0
total (m ∷ ms) [] = num 0
total (m ∷ ms) (s ∷ ss) = lit m ⊗ (s.right ⊖ s.left) ⊕ total ms ss

-- a factor may be below 0 at an equation only
abbrev pub may_have : Kind → ℤ → Bool
may_have equal m = true
may_have at_most (pos n) = true
may_have at_most (negsuc n) = false
may_have below (pos n) = true
may_have below (negsuc n) = false

abbrev pub all_may_have : List Stmt → List ℤ → Bool
all_may_have [] ms = true
all_may_have (s ∷ ss) [] = true
all_may_have (s ∷ ss) (m ∷ ms) = may_have s.kind m && all_may_have ss ms

-- the statement, with this factor, makes a sum strict
abbrev pub is_strict : Kind → ℤ → Bool
is_strict at_most m = false
is_strict equal m = false
is_strict below (pos zero) = false
is_strict below (pos (suc n)) = true
is_strict below (negsuc n) = false

abbrev pub some_strict : List Stmt → List ℤ → Bool
some_strict [] ms = false
some_strict (s ∷ ss) [] = false
some_strict (s ∷ ss) (m ∷ ms) = is_strict s.kind m || some_strict ss ms

-- the factors show that the statements cannot all hold: their sum says that 0 is above 0
abbrev pub refutes : List ℤ → List Stmt → Bool
refutes ms ss = all_may_have ss ms && (some_strict ss ms && is_nil (norm (total ms ss)))

module _ (O : Ordered) where
  abbrev pub holds : Kind → O.r.A → O.r.A → Type 0
  holds at_most a b = O.le a b
  holds below a b = O.lt a b
  holds equal a b = a ≡ b

  abbrev pub Holds : List O.r.A → Stmt → Type 0
  Holds ρ s = holds s.kind (eval O.r ρ s.left) (eval O.r ρ s.right)

  abbrev pub AllHold : List O.r.A → List Stmt → Type 0
  AllHold ρ [] = Unit {0}
  AllHold ρ (s ∷ ss) = Holds ρ s × AllHold ρ ss

  abbrev Sign : Bool → O.r.A → Type 0
  Sign true a = O.lt (O.r.of (pos 0)) a
  Sign false a = O.le (O.r.of (pos 0)) a

  weaken : (b : Bool) (a : O.r.A) → Sign b a → O.le (O.r.of (pos 0)) a
  weaken true a h = O.lt_le (O.r.of (pos 0)) a h
  weaken false a h = h

  add_signs : (b c : Bool) (x y : O.r.A) → Sign b x → Sign c y → Sign (b || c) (O.r.add x y)
  add_signs true c x y h k = O.add_lt x y h (weaken c y k)
  add_signs false true x y h k = subst (λ z. O.lt (O.r.of (pos 0)) z) (O.r.add_comm y x) (O.add_lt y x k h)
  add_signs false false x y h k = O.add_le x y h k

  scaled : (n : ℕ) (x : O.r.A) → O.le (O.r.of (pos 0)) x → O.le (O.r.of (pos 0)) (O.r.mul (O.r.of (pos n)) x)
  scaled n x h = O.mul_le (O.r.of (pos n)) x (O.of_le n) h

  equal-zero : (m : ℤ) (a b : O.r.A) → a ≡ b → O.r.of (pos 0) ≡ O.r.mul (O.r.of m) (O.r.add b (O.r.neg a))
  equal-zero m a b e = sym (ap (λ z. O.r.mul (O.r.of m) (O.r.add z (O.r.neg a))) (sym e) ∙ law O.r (O.r.of m ∷ a ∷ []) (λ p a. p ⊗ (a ⊖ a) ≐ num 0) refl)

  part-sign : (k : Kind) (m : ℤ) (a b : O.r.A) → may_have k m ≡ true → holds k a b → Sign (is_strict k m) (O.r.mul (O.r.of m) (O.r.add b (O.r.neg a)))
  part-sign at_most (pos n) a b t h = scaled n _ (O.le_sub a b h)
  part-sign at_most (negsuc n) a b t h = cc
  part-sign below (pos zero) a b t h = scaled 0 _ (O.lt_le _ _ (O.lt_sub a b h))
  part-sign below (pos (suc n)) a b t h = O.mul_lt _ _ (O.of_lt n) (O.lt_sub a b h)
  part-sign below (negsuc n) a b t h = cc
  part-sign equal m a b t h = subst (λ z. O.le (O.r.of (pos 0)) z) (equal-zero m a b h) (O.of_le 0)

  total-sign : (ρ : List O.r.A) (ms : List ℤ) (ss : List Stmt) → all_may_have ss ms ≡ true → AllHold ρ ss → Sign (some_strict ss ms) (eval O.r ρ (total ms ss))
  total-sign ρ [] [] t h = O.of_le 0
  total-sign ρ [] (s ∷ ss) t h = O.of_le 0
  total-sign ρ (m ∷ ms) [] t h = O.of_le 0
  total-sign ρ (m ∷ ms) (s ∷ ss) t h = add_signs (is_strict s.kind m) (some_strict ss ms) _ _
      (part-sign s.kind m _ _ (left_true _ _ t) h.0) (total-sign ρ ms ss (right_true _ _ t) h.1)
    where
      left_true : (b c : Bool) → (b && c) ≡ true → b ≡ true
      left_true true c e = refl
      left_true false c e = e

      right_true : (b c : Bool) → (b && c) ≡ true → c ≡ true
      right_true true c e = e
      right_true false c e = cc

  -- statements that their factors refute cannot all hold
  pub refuted : (ρ : List O.r.A) (ms : List ℤ) (ss : List Stmt) → refutes ms ss ≡ true → AllHold ρ ss → ⊥
  refuted ρ ms ss t h = O.lt_irrefl (O.r.of (pos 0)) (subst (λ z. O.lt (O.r.of (pos 0)) z) (eval-nil O.r ρ (total ms ss) (parts.1.1))
      (subst (λ b. Sign b (eval O.r ρ (total ms ss))) parts.1.0 (total-sign ρ ms ss parts.0 h)))
    where
      split : (b c : Bool) → (b && c) ≡ true → (b ≡ true) × (c ≡ true)
      split true c e = (refl, e)
      split false c e = cc

      parts : (all_may_have ss ms ≡ true) × ((some_strict ss ms ≡ true) × (is_nil (norm (total ms ss)) ≡ true))
      parts = let outer = split (all_may_have ss ms) (some_strict ss ms && is_nil (norm (total ms ss))) t in
          (outer.0, split (some_strict ss ms) (is_nil (norm (total ms ss))) outer.1)
