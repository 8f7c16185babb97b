-- Counts that stop at a cap.
use Rattle.std.proofs.Common.{◌≡◌, refl, sym, ap, ap₂, ◌∙◌, ℕ, ◌+◌, ◌*◌, ◌<◌, min, max, arith, List, [], ◌∷◌, ◌++◌, map, length, take, get_or, Bool, true, false, if◌then◌else◌}
use Rattle.std.proofs.Math.Nat.{mul_comm}
use Rattle.std.proofs.lemmas.List.{map-append}
use Rattle.std.proofs.lemmas.Bool.Decides.{nat_tests}
use Rattle.ground_world.specs.Counts.{or_one, together, sum_or_one}
use Rattle.ground_world.proofs.Digits.{cut}
use Rattle.ground_world.proofs.Steps.{taken}

pub plus-capped : (s c a b : ℕ) → s ≡ min 65537 a → c ≡ min 65537 b → min (s + c) 65537 ≡ min 65537 (a + b)
plus-capped s c a b h k = omega arith

or_one-max : (n : ℕ) → or_one n ≡ max n 1
or_one-max n = grind (arith, nat_tests)

-- a product of two counts that stop at the cap
pub times-capped : (m a b : ℕ) → min m (min m a * min m b) ≡ min m (a * b)
times-capped m a b =
    cut m a (min m b) ∙ ap (min m) (mul_comm a (min m b)) ∙ cut m b a ∙ ap (min m) (mul_comm b a)

-- what a quantifier makes of counts that stop at the cap
pub written-capped : (ways parts c n : ℕ) → ways ≡ min 65537 c → parts ≡ min 65537 n
    → min (max (min (ways * max parts 1) 18446744073709551615) 1) 65537 ≡ min 65537 (or_one (c * or_one n))
written-capped ways parts c n h k =
    let o : max parts 1 ≡ min 65537 (or_one n) = let e : or_one n ≡ max n 1 = or_one-max n in omega arith in
    let same : ways * max parts 1 ≡ min 65537 c * min 65537 (or_one n) = ap₂ (λ x y. x * y) h o in
    let e : min 65537 (min 65537 c * min 65537 (or_one n)) ≡ min 65537 (c * or_one n) = times-capped 65537 c (or_one n) in
    let f : or_one (c * or_one n) ≡ max (c * or_one n) 1 = or_one-max (c * or_one n) in
    by (ways * max parts 1) (min 65537 c * min 65537 (or_one n)) (c * or_one n) (or_one (c * or_one n)) same e f
  where
    by : (x y z w : ℕ) → x ≡ y → min 65537 y ≡ min 65537 z → w ≡ max z 1 → min (max (min x 18446744073709551615) 1) 65537 ≡ min 65537 w
    by x y z w h e f = omega arith

together-append : (ns : List ℕ) (n : ℕ) → together (ns ++ (n ∷ [])) ≡ together ns + n
together-append [] n = omega arith
together-append (m ∷ ns) n = let e : together (ns ++ (n ∷ [])) ≡ together ns + n = together-append ns n in omega arith

-- a sum that stops at the cap, one more item
pub sum-more : {X : Type 0} (f : X → ℕ) (xs : List X) (i : ℕ) (x : X) (s c : ℕ) → i < length xs → x ≡ get_or xs i x
    → s ≡ min 65537 (together (map f (take i xs))) → c ≡ min 65537 (f x) → min (s + c) 65537 ≡ min 65537 (together (map f (take (i + 1) xs)))
sum-more f xs i x s c lt at h k =
    plus-capped s c (together (map f (take i xs))) (f x) h k
    ∙ ap (min 65537) (sym (ap (λ l. together (map f l)) (taken xs i x lt at) ∙ ap together (map-append f (take i xs) (x ∷ [])) ∙ together-append (map f (take i xs)) (f x)))

pub some-together : {X : Type 0} (f : X → ℕ) (xs : List X) → 0 < length xs → sum_or_one (map f xs) ≡ together (map f xs)
some-together f [] h = absurd (omega arith)
some-together f (x ∷ xs) h = refl

pub none-together : {X : Type 0} (f : X → ℕ) (xs : List X) → length xs ≡ 0 → sum_or_one (map f xs) ≡ 1
none-together f [] h = refl
none-together f (x ∷ xs) h = absurd (omega arith)

-- how many bindings there are inside others
pub inner-capped : (outer ways n c : ℕ) → outer ≡ min 1048577 n → ways ≡ min 1048577 c
    → min (min (outer * ways) 18446744073709551615) 1048577 ≡ min 1048577 (n * c)
inner-capped outer ways n c h k =
    let same : outer * ways ≡ min 1048577 n * min 1048577 c = ap₂ (λ x y. x * y) h k in
    by (outer * ways) (min 1048577 n * min 1048577 c) (n * c) same (times-capped 1048577 n c)
  where
    by : (x y z : ℕ) → x ≡ y → min 1048577 y ≡ min 1048577 z → min (min x 18446744073709551615) 1048577 ≡ min 1048577 z
    by x y z h e = omega arith

pub small_if : (b : Bool) → (if b then 1 else 2) ≡ min 65537 (if b then 1 else 2)
small_if true = refl
small_if false = refl
