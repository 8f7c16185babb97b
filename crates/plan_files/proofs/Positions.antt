-- The first place at which a list passes a test.
use Rattle.std.proofs.Common.{◌≡◌, refl, sym, ap, ◌∙◌, ℕ, suc, ◌+◌, Bool, true, false, not, cond, nat_lt, List, [], ◌∷◌, length, arith}
use Rattle.std.specs.Prelude.{◌&&◌, ◌||◌, map, filter, is_some, Option, Some, None, position, if◌then◌else◌}
use Rattle.std.specs.List.{position_or_len, list_any}
use Rattle.std.specs.Option.{option_map}
use Rattle.std.proofs.lemmas.Bool.Decides.{nat_tests}

module _ {X : Type 0} (p : X → Bool) where
  zero_below : (n : ℕ) → nat_lt 0 (suc n) ≡ true
  zero_below n = grind (arith, nat_tests)

  one_more_below : (n k : ℕ) → nat_lt (1 + n) (suc k) ≡ nat_lt n k
  one_more_below n k = grind (arith, nat_tests)

  pub position-cons : (x : X) (xs : List X) → position p (x ∷ xs) ≡ (if p x then Some 0 else option_map suc (position p xs))
  position-cons x xs = go (p x) (position_or_len p xs) (length xs)
    where
      found : (b : Bool) (n : ℕ) → cond b (Some (1 + n)) None ≡ option_map suc (cond b (Some n) None)
      found true n = ap Some (omega arith)
      found false n = refl

      go : (b : Bool) (n k : ℕ) → cond (nat_lt (cond (not b) (1 + n) 0) (suc k)) (Some (cond (not b) (1 + n) 0)) None ≡ (if b then Some 0 else option_map suc (cond (nat_lt n k) (Some n) None))
      go true n k = ap (λ c. cond c (Some 0) None) (zero_below k)
      go false n k = ap (λ c. cond c (Some (1 + n)) None) (one_more_below n k) ∙ found (nat_lt n k) n

  -- there is a first place where some element passes
  pub position-any : (xs : List X) → is_some (position p xs) ≡ list_any p xs
  position-any [] = refl
  position-any (x ∷ xs) = ap is_some (position-cons x xs) ∙ go (p x) (position p xs) (list_any p xs) (position-any xs)
    where
      later : (o : Option ℕ) → is_some (option_map suc o) ≡ is_some o
      later None = refl
      later (Some k) = refl

      go : (b : Bool) (o : Option ℕ) (a : Bool) → is_some o ≡ a → is_some (if b then Some 0 else option_map suc o) ≡ (b || a)
      go true o a e = refl
      go false o a e = later o ∙ e

module _ {X Y : Type 0} (f : X → Y) (p : Y → Bool) where
  pub position-map : (xs : List X) → position p (map f xs) ≡ position (λ x. p (f x)) xs
  position-map [] = refl
  position-map (x ∷ xs) = position-cons p (f x) (map f xs) ∙ ap (λ o. if p (f x) then Some 0 else option_map suc o) (position-map xs) ∙ sym (position-cons (λ x. p (f x)) x xs)

  pub any-map : (xs : List X) → list_any p (map f xs) ≡ list_any (λ x. p (f x)) xs
  any-map [] = refl
  any-map (x ∷ xs) = ap (λ b. p (f x) || b) (any-map xs)

-- tests that agree have one first place
pub position-same : {X : Type 0} (p q : X → Bool) → ((x : X) → p x ≡ q x) → (xs : List X) → position p xs ≡ position q xs
position-same p q e [] = refl
position-same p q e (x ∷ xs) = position-cons p x xs ∙ ap (λ o. if p x then Some 0 else option_map suc o) (position-same p q e xs)
    ∙ ap (λ b. if b then Some 0 else option_map suc (position q xs)) (e x) ∙ sym (position-cons q x xs)

pub any-same : {X : Type 0} (p q : X → Bool) → ((x : X) → p x ≡ q x) → (xs : List X) → list_any p xs ≡ list_any q xs
any-same p q e [] = refl
any-same p q e (x ∷ xs) = ap (λ b. b || list_any p xs) (e x) ∙ ap (λ b. q x || b) (any-same p q e xs)

-- a test of those that pass another
pub any-filter : {X : Type 0} (p d : X → Bool) (xs : List X) → list_any p (filter d xs) ≡ list_any (λ x. p x && d x) xs
any-filter p d [] = refl
any-filter p d (x ∷ xs) = split (d x) ∙ go (d x) (p x) (any-filter p d xs)
  where
    split : (c : Bool) → list_any p (if c then x ∷ filter d xs else filter d xs) ≡ (if c then p x || list_any p (filter d xs) else list_any p (filter d xs))
    split true = refl
    split false = refl

    go : (c b : Bool) → list_any p (filter d xs) ≡ list_any (λ x. p x && d x) xs → (if c then b || list_any p (filter d xs) else list_any p (filter d xs)) ≡ ((b && c) || list_any (λ x. p x && d x) xs)
    go true true e = refl
    go true false e = e
    go false true e = e
    go false false e = e
