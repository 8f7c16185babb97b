-- How many places a decimal needs, and what its parts are.
use Rattle.std.proofs.Common.{◌≡◌, ℕ, zero, suc, ◌+◌, ◌-◌, ◌/◌, ◌%◌, ◌^◌, ◌<◌, ◌≤◌, true, false, cond, ◌==◌, Some, None, [], ◌∷◌, ◌++◌, pow-suc, refl, sym, ap, ◌∙◌, subst, arith}
use Rattle.std.proofs.lemmas.Bool.{cond-true, cond-false}
use Rattle.plan_text.specs.Numbers.{padded}
use Rattle.plan_text.specs.Numbers.{places_from, places_of}

left_more : (places d : ℕ) → places < 19 → places_from (19 - places) places d ≡ cond (10 ^ places % d == 0) (Some places) (places_from (19 - suc places) (suc places) d)
left_more places d lt =
    let e : 19 - places ≡ suc (19 - suc places) = omega arith in
    ap (λ more. places_from more places d) e

pub places_found : (places d : ℕ) → places < 19 → places_from (19 - places) places d ≡ places_of d → (10 ^ places % d == 0) ≡ true → places_of d ≡ Some places
places_found places d lt left here = sym left ∙ left_more places d lt ∙ cond-true (10 ^ places % d == 0) (Some places) (places_from (19 - suc places) (suc places) d) here

pub places_on : (places d : ℕ) → places < 19 → places_from (19 - places) places d ≡ places_of d → (10 ^ places % d == 0) ≡ false → places_from (19 - suc places) (suc places) d ≡ places_of d
places_on places d lt left here = sym (cond-false (10 ^ places % d == 0) (Some places) (places_from (19 - suc places) (suc places) d) here) ∙ sym (left_more places d lt) ∙ left

pub places_start : (d : ℕ) → places_from 16 3 d ≡ places_of d
unfolding places_of
places_start d = refl

ten_grows : (i k : ℕ) → 10 ^ i ≤ 10 ^ (i + k)
ten_grows i zero = let e : i + 0 ≡ i = omega arith in rw e (omega arith)
ten_grows i (suc k) =
    let e : i + suc k ≡ suc (i + k) = omega arith in
    let before = ten_grows i k in
    rw (e, pow-suc 10 (i + k)) (omega arith)

pub ten_le : (i j : ℕ) → i ≤ j → 10 ^ i ≤ 10 ^ j
ten_le i j le = let e : i + (j - i) ≡ j = omega arith in subst (λ m. 10 ^ i ≤ 10 ^ m) e (ten_grows i (j - i))

pub ten_pos : (i : ℕ) → 0 < 10 ^ i
ten_pos i = let h = ten_le 0 i (omega arith) in omega arith

pub padded_more : (places n : ℕ) → 0 < places → padded places n ≡ padded (places - 1) (n / 10) ++ (48 + n % 10) ∷ []
padded_more zero n some = absurd (omega arith)
padded_more (suc places) n some = let e : suc places - 1 ≡ places = omega arith in rw e refl

pub places_none : (places d : ℕ) → 19 ≤ places → places_from (19 - places) places d ≡ places_of d → places_of d ≡ None
places_none places d past left = let e : 19 - places ≡ 0 = omega arith in sym left ∙ ap (λ more. places_from more places d) e
