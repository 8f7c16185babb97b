-- How a quotient of digits of any length stands to a fraction.
use Rattle.std.proofs.Common.{◌≡◌, ℕ, ◌+◌, ◌-◌, ◌*◌, ◌/◌, ◌%◌, ◌^◌, ◌<◌, ◌≤◌, List, length, mul-le-mul_right, mul-le-mul_left, div-add-mod', ap, arith}
use Rattle.exact_lin.specs.Reckoning.{wide_limit}
use Rattle.basics.specs.Texts.{number}
use Rattle.plan_text.specs.Quotients.{AreDigits, leading, IsNear}
use Rattle.plan_text.proofs.DigitNumbers.{leading_bounds}
use Rattle.plan_text.proofs.Printing.{ten_pos}

pub next_value : (h l p a q b : ℕ) → IsNear h l → p ≤ wide_limit → q ≤ wide_limit → a ≤ 9 → b ≤ 9 →
    (10 * h + p / 18446744073709551616 * a + (10 * l + p % 18446744073709551616 * a + 166020696663385964544 - q % 18446744073709551616 * b) / 18446744073709551616 - 2656331146614175432704 - 9 - q / 18446744073709551616 * b) * 18446744073709551616 + (10 * l + p % 18446744073709551616 * a + 166020696663385964544 - q % 18446744073709551616 * b) % 18446744073709551616 + 49000660836615138738725943470174622449664 + q * b
    ≡ 10 * (h * 18446744073709551616 + l) + p * a
next_value h l p a q b near p_fits q_fits a_small b_small =
    let pa = ap (λ (x : ℕ). x * a) (div-add-mod' p 18446744073709551616) in
    let qb = ap (λ (x : ℕ). x * b) (div-add-mod' q 18446744073709551616) in
    let low_small : q % 18446744073709551616 * b ≤ q % 18446744073709551616 * 9 = mul-le-mul_left (q % 18446744073709551616) b_small in
    let high_small : q / 18446744073709551616 * b ≤ q / 18446744073709551616 * 9 = mul-le-mul_left (q / 18446744073709551616) b_small in
    let low = 10 * l + p % 18446744073709551616 * a + 166020696663385964544 - q % 18446744073709551616 * b in
    let parts = div-add-mod' low 18446744073709551616 in
    let above = near.above in
    omega arith

-- one more digit of each
pub next_kept : (h l h' l' p a q b n n' d d' : ℕ) → h * 18446744073709551616 + l + q * n ≡ 5444517870735015415413993718908291383296 + p * d → h' * 18446744073709551616 + l' + 49000660836615138738725943470174622449664 + q * b ≡ 10 * (h * 18446744073709551616 + l) + p * a → n' ≡ 10 * n + b → d' ≡ 10 * d + a → h' * 18446744073709551616 + l' + q * n' ≡ 5444517870735015415413993718908291383296 + p * d'
next_kept h l h' l' p a q b n n' d d' before next below above =
    let qn = ap (λ (x : ℕ). q * x) below in
    let pd = ap (λ (x : ℕ). p * x) above in
    omega arith

-- a difference that is far from 0 keeps its sign
pub stays_greater : (ns ds : List ℕ) (total i p q : ℕ) → AreDigits ns → AreDigits ds → length ns ≤ total → length ds ≤ total → i ≤ total → q ≤ wide_limit → q * leading ns total i + 170141183460469231731687303715884105728 ≤ p * leading ds total i → q * number ns < p * number ds
stays_greater ns ds total i p q ns_all ds_all ns_fits ds_fits le q_fits far =
    let more = total - i in
    let t = 10 ^ more in
    let n = (leading_bounds ns total i more ns_all ns_fits (omega arith)).1 in
    let d = (leading_bounds ds total i more ds_all ds_fits (omega arith)).0 in
    let some : 0 < t = ten_pos more in
    let low : q * (number ns + 1) ≤ q * ((leading ns total i + 1) * t) = mul-le-mul_left q n in
    let high : p * (leading ds total i * t) ≤ p * number ds = mul-le-mul_left p d in
    let gap : (q * leading ns total i + q + 1) * t ≤ (p * leading ds total i) * t = mul-le-mul_right t (omega arith) in
    omega arith
