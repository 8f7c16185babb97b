-- The first place at which a list passes a test.
use Rattle.std.proofs.Common.{◌≡◌, refl, sym, ap, ◌∙◌, ℕ, suc, ◌+◌, Bool, true, false, not, cond, nat_lt, List, [], ◌∷◌, ◌++◌, length, arith}
use Rattle.std.specs.Prelude.{Option, Some, None, position, if◌then◌else◌}
use Rattle.std.specs.List.{position_or_len}
use Rattle.std.specs.Option.{option_map}
use Rattle.std.proofs.lemmas.Bool.Decides.{nat_tests}
use Rattle.trajectory.specs.Passing.{kept_or_now}

module _ {X : Type 0} (p : X → Bool) where
  zero_below : (n : ℕ) → nat_lt 0 (suc n) ≡ true
  zero_below n = grind (arith, nat_tests)

  one_more_below : (n k : ℕ) → nat_lt (1 + n) (suc k) ≡ nat_lt n k
  one_more_below n k = grind (arith, nat_tests)

  pub position-cons : (x : X) (xs : List X) → position p (x ∷ xs) ≡ (if p x then Some 0 else option_map suc (position p xs))
  position-cons x xs = go (p x) (position_or_len p xs) (length xs)
    where
      found : (b : Bool) (n : ℕ) → cond b (Some (1 + n)) None ≡ option_map suc (cond b (Some n) None)
      found true n = ap Some (omega arith)
      found false n = refl

      go : (b : Bool) (n k : ℕ) → cond (nat_lt (cond (not b) (1 + n) 0) (suc k)) (Some (cond (not b) (1 + n) 0)) None ≡ (if b then Some 0 else option_map suc (cond (nat_lt n k) (Some n) None))
      go true n k = ap (λ c. cond c (Some 0) None) (zero_below k)
      go false n k = ap (λ c. cond c (Some (1 + n)) None) (one_more_below n k) ∙ found (nat_lt n k) n

  pub position-append : (xs : List X) (x : X) → position p (xs ++ x ∷ []) ≡ kept_or_now (position p xs) (p x) (length xs)
  position-append [] x = position-cons x []
  position-append (y ∷ ys) x = position-cons y (ys ++ x ∷ []) ∙ ap (λ o. if p y then Some 0 else option_map suc o) (position-append ys x)
      ∙ go (p y) (p x) (length ys) (position p ys) ∙ ap (λ o. kept_or_now o (p x) (suc (length ys))) (sym (position-cons y ys))
    where
      go : (b h : Bool) (n : ℕ) (o : Option ℕ) → (if b then Some 0 else option_map suc (kept_or_now o h n)) ≡ kept_or_now (if b then Some 0 else option_map suc o) h (suc n)
      go true h n o = refl
      go false h n (Some k) = refl
      go false true n None = refl
      go false false n None = refl
