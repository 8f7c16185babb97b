-- The numbers that digits stand for.
use Rattle.std.proofs.Common.{◌≡◌, ℕ, zero, suc, ◌+◌, ◌-◌, ◌*◌, ◌^◌, ◌<◌, ◌≤◌, true, nat_le, List, [], ◌∷◌, length, get_or, take, drop, pow-suc, take_all, mul-le-mul_right, refl, ap, ◌∙◌, inl, inr, arith}
use Rattle.std.proofs.lemmas.List.{drop_more, take_more}
use Rattle.std.proofs.lemmas.Bool.{and_parts, leb-true, cases_lt}
use Rattle.std.specs.Char.{is_ascii_digit}
use Rattle.basics.proofs.Texts.{number_after-append}
use Rattle.basics.specs.Texts.{number_after, number}
use Rattle.plan_text.specs.Quotients.{AreDigits, leading}

pub number_after-ge : (n : ℕ) (ds : List ℕ) → n ≤ number_after n ds
number_after-ge n [] = omega arith
number_after-ge n (c ∷ cs) = let more = number_after-ge (10 * n + (c - 48)) cs in omega arith

-- where a digit follows, the number is ten times as large or larger
pub number_after-more : (n : ℕ) (ds : List ℕ) (i : ℕ) → i < length ds → 10 * n ≤ number_after n (drop i ds)
number_after-more n ds i lt =
    let split = drop_more ds i 0 lt in
    let more = number_after-ge (10 * n + (get_or ds i 0 - 48)) (drop (i + 1) ds) in
    let e = ap (number_after n) split in
    omega arith

pub number_after-past : (n : ℕ) (ds : List ℕ) (i : ℕ) → i < length ds → 10 * n + (get_or ds i 0 - 48) ≤ number_after n (drop i ds)
number_after-past n ds i lt =
    let split = drop_more ds i 0 lt in
    let more = number_after-ge (10 * n + (get_or ds i 0 - 48)) (drop (i + 1) ds) in
    let e = ap (number_after n) split in
    omega arith

number_more : (ds : List ℕ) (i : ℕ) → i < length ds → number (take (i + 1) ds) ≡ 10 * number (take i ds) + (get_or ds i 0 - 48)
number_more ds i lt = ap number (take_more ds i 0 lt) ∙ number_after-append 0 (take i ds) (get_or ds i 0 ∷ [])

pub digit_of : (ds : List ℕ) (i : ℕ) → AreDigits ds → i < length ds → is_ascii_digit (get_or ds i 0) ≡ true
digit_of [] i all lt = absurd (omega arith)
digit_of (c ∷ cs) zero all lt = (and_parts _ _ all).0
digit_of (c ∷ cs) (suc i) all lt = digit_of cs i (and_parts _ _ all).1 (omega arith)

-- before the digits stand zeros
pub leading-zeros : (ds : List ℕ) (total i : ℕ) → i < total - length ds → leading ds total (suc i) ≡ 10 * leading ds total i + 0
leading-zeros ds total i lt =
    let e : suc i + length ds - total ≡ 0 = omega arith in
    let f : i + length ds - total ≡ 0 = omega arith in
    rw (e, f) refl

pub leading-digit : (ds : List ℕ) (total i : ℕ) → length ds ≤ total → total - length ds ≤ i → i < total → leading ds total (suc i) ≡ 10 * leading ds total i + (get_or ds (i - (total - length ds)) 0 - 48)
leading-digit ds total i fits low high =
    let j = i - (total - length ds) in
    let e : suc i + length ds - total ≡ j + 1 = omega arith in
    let f : i + length ds - total ≡ j = omega arith in
    rw (e, f) (number_more ds j (omega arith))

digit_small : (b : ℕ) → is_ascii_digit b ≡ true → b - 48 ≤ 9
digit_small b h = let small : b ≤ 57 = leb-true b 57 (and_parts (nat_le 48 b) (nat_le b 57) h).1 in omega arith

leading_step : (ds : List ℕ) (total i : ℕ) → AreDigits ds → length ds ≤ total → i < total → (a : ℕ) × (a ≤ 9) × (leading ds total (suc i) ≡ 10 * leading ds total i + a)
leading_step ds total i all fits lt =
    elim (cases_lt i (total - length ds)) [
      | inl before ↦ (0, omega arith, leading-zeros ds total i before)
      | inr from ↦
          let j = i - (total - length ds) in
          (get_or ds j 0 - 48, digit_small (get_or ds j 0) (digit_of ds j all (omega arith)), leading-digit ds total i fits from lt)
    ]

pub leading-all : (ds : List ℕ) (total : ℕ) → length ds ≤ total → leading ds total total ≡ number ds
leading-all ds total fits = let e : total + length ds - total ≡ length ds = omega arith in ap (λ i. number (take i ds)) e ∙ ap number (take_all (length ds) ds (omega arith))

-- what the first digits tell of the number, where so many follow
pub leading_bounds : (ds : List ℕ) (total i more : ℕ) → AreDigits ds → length ds ≤ total → i + more ≡ total → (leading ds total i * 10 ^ more ≤ number ds) × (number ds + 1 ≤ (leading ds total i + 1) * 10 ^ more)
leading_bounds ds total i zero all fits e =
    let same : i ≡ total = omega arith in
    let whole = leading-all ds total fits in
    rw (same, whole) (omega arith, omega arith)
leading_bounds ds total i (suc more) all fits e =
    let step = leading_step ds total i all fits (omega arith) in
    let next = leading_bounds ds total (suc i) more all fits (omega arith) in
    let value : leading ds total (suc i) ≡ 10 * leading ds total i + step.0 = step.2 in
    let power = pow-suc 10 more in
    let low = ap (λ (x : ℕ). x * 10 ^ more) value in
    let high = ap (λ (x : ℕ). (x + 1) * 10 ^ more) value in
    let small : step.0 * 10 ^ more ≤ 9 * 10 ^ more = mul-le-mul_right (10 ^ more) step.1 in
    let here = ap (λ (x : ℕ). leading ds total i * x) power in
    let there = ap (λ (x : ℕ). (leading ds total i + 1) * x) power in
    (omega (arith, next.0), omega (arith, next.1))

pub digits_drop : (n : ℕ) (ds : List ℕ) → AreDigits ds → AreDigits (drop n ds)
digits_drop zero ds all = all
digits_drop (suc n) [] all = all
digits_drop (suc n) (d ∷ ds) all = digits_drop n ds (and_parts _ _ all).1
