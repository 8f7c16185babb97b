-- Digits, decimals, and the numbers that they stand for.
use Rattle.std.proofs.Common.{◌≡◌, ℕ, suc, ◌+◌, ◌-◌, ◌*◌, ◌^◌, ◌≤◌, Bool, true, false, ◌||◌, List, [], ◌∷◌, ◌++◌, length, count_by, cond, pow-suc, refl, sym, ap, ◌∙◌, inl, inr, arith}
use Rattle.std.proofs.lemmas.Bool.{and_parts, and_from, cases_Bool, cond-true, cond-false, leb-true, eqb-true}
use Rattle.std.proofs.lemmas.List.Sums.{sum_by-cons}
use Rattle.std.specs.List.{list_all}
use Rattle.std.specs.Char.{is_ascii_digit}
use Rattle.basics.specs.Texts.{number_after, number, is_point, is_digit_or_point, digit_count, point_count, is_decimal, before_point, behind_point}

-- ---- numbers

pub number_after-append : (n : ℕ) (xs ys : List ℕ) → number_after n (xs ++ ys) ≡ number_after (number_after n xs) ys
number_after-append n [] ys = refl
number_after-append n (x ∷ xs) ys = number_after-append (10 * n + (x - 48)) xs ys

pub number_after-is : (n : ℕ) (ds : List ℕ) → number_after n ds ≡ n * 10 ^ length ds + number ds
number_after-is n [] = omega arith
number_after-is n (d ∷ ds) =
    let power = pow-suc 10 (length ds) in
    let first : number_after (10 * n + (d - 48)) ds ≡ (10 * n + (d - 48)) * 10 ^ length ds + number ds =
    number_after-is (10 * n + (d - 48)) ds in
    let alone : number_after (10 * 0 + (d - 48)) ds ≡ (10 * 0 + (d - 48)) * 10 ^ length ds + number ds =
    number_after-is (10 * 0 + (d - 48)) ds in
    let shifted = ap (λ (p : ℕ). n * p) power in
    omega (arith, first, alone, shifted)

-- digits in two parts stand for what the first stand for, moved by as many places as the second have, and the second
pub number-append : (xs ys : List ℕ) → number (xs ++ ys) ≡ number xs * 10 ^ length ys + number ys
number-append xs ys = number_after-append 0 xs ys ∙ number_after-is (number xs) ys

-- ---- counts

count-yes : (p : ℕ → Bool) (b : ℕ) (bs : List ℕ) → p b ≡ true → count_by p (b ∷ bs) ≡ suc (count_by p bs)
count-yes p b bs h =
    let first : cond (p b) 1 0 ≡ 1 = cond-true (p b) 1 0 h in
    sum_by-cons (λ x. cond (p x) 1 0) b bs ∙ ap (λ n. n + count_by p bs) first ∙ omega arith

count-no : (p : ℕ → Bool) (b : ℕ) (bs : List ℕ) → p b ≡ false → count_by p (b ∷ bs) ≡ count_by p bs
count-no p b bs h =
    let first : cond (p b) 1 0 ≡ 0 = cond-false (p b) 1 0 h in
    sum_by-cons (λ x. cond (p x) 1 0) b bs ∙ ap (λ n. n + count_by p bs) first ∙ omega arith

-- where each passes, as many pass as there are
count-all : (p : ℕ → Bool) (bs : List ℕ) → list_all p bs ≡ true → count_by p bs ≡ length bs
count-all p [] all = refl
count-all p (b ∷ bs) all =
    let parts = and_parts (p b) (list_all p bs) all in
    count-yes p b bs parts.0 ∙ ap suc (count-all p bs parts.1) ∙ omega arith

-- ---- points

point-not_digit : (b : ℕ) → is_point b ≡ true → is_ascii_digit b ≡ false
point-not_digit b h = ap is_ascii_digit (eqb-true b 46 h)

digit-not_point : (b : ℕ) → is_ascii_digit b ≡ true → is_point b ≡ false
digit-not_point b h = elim (cases_Bool (is_point b)) [
  | inl point ↦ cc (point-not_digit b point, h)
  | inr other ↦ other
]

or_first : (x y : Bool) → (x || y) ≡ true → y ≡ false → x ≡ true
or_first true y h e = refl
or_first false y h e = cc

-- where no point is, each is a digit
no_point : (text : List ℕ) → list_all is_digit_or_point text ≡ true → point_count text ≡ 0 → list_all is_ascii_digit text ≡ true
no_point [] all none = refl
no_point (b ∷ bs) all none =
    let parts = and_parts (is_digit_or_point b) (list_all is_digit_or_point bs) all in
    elim (cases_Bool (is_point b)) [
      | inl point ↦ let one = count-yes is_point b bs point in absurd (omega (arith, one, none))
      | inr other ↦
          and_from _ _ (or_first (is_ascii_digit b) (is_point b) parts.0 other)
          (no_point bs parts.1 (sym (count-no is_point b bs other) ∙ none))
    ]

-- the digits before and behind the first point
record Splits (text before behind : List ℕ) : Type 0 where
  digits : list_all is_ascii_digit (before ++ behind) ≡ true
  count : length (before ++ behind) ≡ digit_count text

splits : (text : List ℕ) → list_all is_digit_or_point text ≡ true → point_count text ≤ 1 → Splits text (before_point text) (behind_point text)
splits [] all few = record { digits = refl; count = refl }
splits (b ∷ bs) all few =
    let parts = and_parts (is_digit_or_point b) (list_all is_digit_or_point bs) all in
    elim (cases_Bool (is_point b)) [
      | inl point ↦ at_point b bs point parts.1 few
      | inr other ↦
          let digit = or_first (is_ascii_digit b) (is_point b) parts.0 other in
          let same = count-no is_point b bs other in
          let rest = splits bs parts.1 (omega (arith, same, few)) in
          behind_digit b bs digit other rest
    ]
  where
    at_point : (b : ℕ) (bs : List ℕ) → is_point b ≡ true → list_all is_digit_or_point bs ≡ true → point_count (b ∷ bs) ≤ 1 → Splits (b ∷ bs) (before_point (b ∷ bs)) (behind_point (b ∷ bs))
    at_point b bs point all few =
        let one = count-yes is_point b bs point in
        let digits = no_point bs all (omega (arith, one, few)) in
        rw point (record {
          digits = digits;
          count = sym (count-all is_ascii_digit bs digits) ∙ sym (count-no is_ascii_digit b bs (point-not_digit b point));
        })

    behind_digit : (b : ℕ) (bs : List ℕ) → is_ascii_digit b ≡ true → is_point b ≡ false → Splits bs (before_point bs) (behind_point bs) → Splits (b ∷ bs) (before_point (b ∷ bs)) (behind_point (b ∷ bs))
    behind_digit b bs digit other rest = rw other (record {
      digits = and_from _ _ digit rest.digits;
      count = omega (arith, rest.count, count-yes is_ascii_digit b bs digit);
    })

-- ---- decimals

-- a decimal has digits before and behind its point
pub decimal-digits : (text : List ℕ) → is_decimal text ≡ true → list_all is_ascii_digit (before_point text ++ behind_point text) ≡ true
decimal-digits text h =
    let parts = and_parts _ _ h in
    (splits text parts.0 (leb-true (point_count text) 1 (and_parts _ _ parts.1).0)).digits

-- and these are all its digits
pub decimal-count : (text : List ℕ) → is_decimal text ≡ true → length (before_point text ++ behind_point text) ≡ digit_count text
decimal-count text h =
    let parts = and_parts _ _ h in
    (splits text parts.0 (leb-true (point_count text) 1 (and_parts _ _ parts.1).0)).count

-- digits alone stand before the point
pub before_point-digits : (ds : List ℕ) → list_all is_ascii_digit ds ≡ true → before_point ds ≡ ds
before_point-digits [] all = refl
before_point-digits (d ∷ ds) all =
    let parts = and_parts (is_ascii_digit d) (list_all is_ascii_digit ds) all in
    cond-false (is_point d) [] (d ∷ before_point ds) (digit-not_point d parts.0) ∙ ap (λ (x : List ℕ). d ∷ x) (before_point-digits ds parts.1)

pub behind_point-digits : (ds : List ℕ) → list_all is_ascii_digit ds ≡ true → behind_point ds ≡ []
behind_point-digits [] all = refl
behind_point-digits (d ∷ ds) all =
    let parts = and_parts (is_ascii_digit d) (list_all is_ascii_digit ds) all in
    cond-false (is_point d) ds (behind_point ds) (digit-not_point d parts.0) ∙ behind_point-digits ds parts.1

-- digits and a point stand before what follows
pub before_point-parts : (front places : List ℕ) → list_all is_ascii_digit front ≡ true → before_point (front ++ 46 ∷ places) ≡ front
before_point-parts [] places all = refl
before_point-parts (d ∷ ds) places all =
    let parts = and_parts (is_ascii_digit d) (list_all is_ascii_digit ds) all in
    cond-false (is_point d) [] (d ∷ before_point (ds ++ 46 ∷ places)) (digit-not_point d parts.0)
    ∙ ap (λ (x : List ℕ). d ∷ x) (before_point-parts ds places parts.1)

pub behind_point-parts : (front places : List ℕ) → list_all is_ascii_digit front ≡ true → behind_point (front ++ 46 ∷ places) ≡ places
behind_point-parts [] places all = refl
behind_point-parts (d ∷ ds) places all =
    let parts = and_parts (is_ascii_digit d) (list_all is_ascii_digit ds) all in
    cond-false (is_point d) (ds ++ 46 ∷ places) (behind_point (ds ++ 46 ∷ places)) (digit-not_point d parts.0)
    ∙ behind_point-parts ds places parts.1
