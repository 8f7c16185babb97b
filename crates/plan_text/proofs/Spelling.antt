-- What printed numbers stand for.
use Rattle.std.proofs.Common.{◌≡◌, ℕ, zero, suc, ◌+◌, ◌*◌, ◌/◌, ◌%◌, ◌^◌, ◌<◌, ◌≤◌, true, ◌==◌, ℤ, pos, negsuc, nat_abs, Option, Some, None, List, [], ◌∷◌, ◌++◌, length, decimal, pow-suc, length-append, div-add-mod', mod-lt, add-zero, mul-le-mul_right, div-le_self, refl, sym, ap, ap₂, ◌∙◌, subst, inl, inr, arith}
use Rattle.std.proofs.lemmas.Bool.{and_from, cases_Bool, eqb-true, lt-ltb, le-leb, cond-true, cond-false}
use Rattle.std.proofs.lemmas.List.Folds.{list_all-append}
use Rattle.std.proofs.lemmas.Fmt.{decimal_by_steps_wide}
use Rattle.std.specs.List.{list_all}
use Rattle.std.specs.Option.{option_map_or}
use Rattle.std.specs.Char.{is_ascii_digit}
use Rattle.rational.specs.Rational.{ℚ, ratio}
use Rattle.rational.proofs.Fractions.{den_pos, equal_ratios, ratio-parts}
use Rattle.rational.proofs.Field.{neg-ratio}
use Rattle.exact_lin.specs.Reckoning.{Fits, wide_limit}
use Rattle.basics.proofs.Texts.{number_after-append}
use Rattle.basics.specs.Texts.{is_digits, number, number_after}
use Rattle.plan_text.specs.Numbers.{padded}
use Rattle.plan_text.specs.Numbers.{SpellsDecimal, SpellsQuotient, SpellsUnsigned, Spells, places_from, places_of, decimal_text, quotient_text, unsigned_text, sign_text, number_text}
use Rattle.plan_text.proofs.Printing.{ten_pos, places_start}

digit_byte : (d : ℕ) → d < 10 → is_ascii_digit (48 + d) ≡ true
digit_byte d lt = and_from _ _ (le-leb 48 (48 + d) (omega arith)) (le-leb (48 + d) 57 (omega arith))

all_push : (xs : List ℕ) (d : ℕ) → list_all is_ascii_digit xs ≡ true → d < 10 → list_all is_ascii_digit (xs ++ (48 + d) ∷ []) ≡ true
all_push xs d all lt = list_all-append is_ascii_digit xs ((48 + d) ∷ []) ∙ and_from _ _ all (and_from _ _ (digit_byte d lt) refl)

-- ---- padded digits

pub number_after-padded : (m places n : ℕ) → n < 10 ^ places → number_after m (padded places n) ≡ m * 10 ^ places + n
number_after-padded m zero n lt = omega arith
number_after-padded m (suc places) n lt =
    let power = pow-suc 10 places in
    let parts = div-add-mod' n 10 in
    let before = number_after-padded m places (n / 10) (omega arith) in
    let shifted = ap (λ (p : ℕ). m * p) power in
    number_after-append m (padded places (n / 10)) ((48 + n % 10) ∷ []) ∙ omega arith

pub length-padded : (places n : ℕ) → length (padded places n) ≡ places
length-padded zero n = refl
length-padded (suc places) n =
    let before = length-padded places (n / 10) in
    length-append (padded places (n / 10)) ((48 + n % 10) ∷ []) ∙ omega arith

all-padded : (places n : ℕ) → list_all is_ascii_digit (padded places n) ≡ true
all-padded zero n = refl
all-padded (suc places) n = all_push (padded places (n / 10)) (n % 10) (all-padded places (n / 10)) (omega arith)

-- ---- decimals of whole numbers

-- digits that stand for a number
pub record Reads (n : ℕ) (ds : List ℕ) : Type 0 where
  pub value : number ds ≡ n
  pub some : 0 < length ds
  pub all : list_all is_ascii_digit ds ≡ true

pub decimal_reads : (n : ℕ) → n < 10 ^ 64 → Reads n (decimal n)
decimal_reads n lt = decimal_by_steps_wide Reads
    (λ d small. record { value = omega arith; some = omega arith; all = and_from _ _ (digit_byte d small) refl })
    (λ d ds big h.
    let parts = div-add-mod' d 10 in
    let len = length-append ds ((48 + d % 10) ∷ []) in
    let value = h.value in
    record {
      value = number_after-append 0 ds ((48 + d % 10) ∷ []) ∙ omega arith;
      some = omega arith;
      all = all_push ds (d % 10) h.all (omega arith);
    })
    n lt

reads_digits : (n : ℕ) (ds : List ℕ) → Reads n ds → is_digits ds ≡ true
reads_digits n ds h = and_from _ _ (lt-ltb 0 (length ds) h.some) h.all

-- ---- places that are enough

-- the power of ten is a multiple
pub record AreEnough (places d : ℕ) : Type 0 where
  pub at_least : 3 ≤ places
  pub at_most : places ≤ 18
  pub multiple : 10 ^ places % d ≡ 0

enough_from : (more first d places : ℕ) → 3 ≤ first → first + more ≤ 19 → places_from more first d ≡ Some places → AreEnough places d
enough_from zero first d places low high e = absurd cc
enough_from (suc more) first d places low high e =
    elim (cases_Bool (10 ^ first % d == 0)) [
      | inl here ↦
          let e' : Some first ≡ Some places = sym (cond-true (10 ^ first % d == 0) (Some first) (places_from more (suc first) d) here) ∙ e in
          let same : first ≡ places = cc in
          subst (λ p. AreEnough p d) same (record { at_least = low; at_most = omega arith; multiple = eqb-true (10 ^ first % d) 0 here })
      | inr other ↦
          enough_from more (suc first) d places (omega arith) (omega arith) (sym (cond-false (10 ^ first % d == 0) (Some first) (places_from more (suc first) d) other) ∙ e)
    ]

pub enough_of : (d places : ℕ) → places_of d ≡ Some places → AreEnough places d
enough_of d places e = enough_from 16 3 d places (omega arith) (omega arith) (places_start d ∙ e)

-- ---- printed numbers

decimal_spells : (n d places : ℕ) → 0 < d → n < 10 ^ 64 → AreEnough places d → SpellsDecimal (decimal_text n d places) (ratio (pos n) d)
decimal_spells n d places some small enough =
    let e = 10 ^ places / d in
    let power : e * d ≡ 10 ^ places = sym (add-zero (e * d)) ∙ ap (λ r. e * d + r) (sym enough.multiple) ∙ div-add-mod' (10 ^ places) d in
    let rest = n % d in
    let below : rest < d = mod-lt n some in
    let parts : n / d * d + rest ≡ n = div-add-mod' n d in
    let e_pos : 0 < e = factor_pos e d (10 ^ places) power (ten_pos places) in
    let more : suc rest * e ≤ d * e = mul-le-mul_right e (omega (arith, below)) in
    let part_below : rest * e < 10 ^ places = omega arith in
    let whole = decimal_reads (n / d) (omega (arith, div-le_self n d)) in
    let back = padded places (rest * e) in
    let value : number (decimal (n / d) ++ back) ≡ n / d * 10 ^ places + rest * e =
    number_after-append 0 (decimal (n / d)) back ∙ ap (λ m. number_after m back) whole.value ∙ number_after-padded (n / d) places (rest * e) part_below in
    record {
      front = decimal (n / d);
      places = back;
      parts = refl;
      front_digits = reads_digits (n / d) (decimal (n / d)) whole;
      places_digits = and_from _ _ (lt-ltb 0 (length back) (omega (arith, length-padded places (rest * e), enough.at_least))) (all-padded places (rest * e));
      few = omega (arith, length-padded places (rest * e), enough.at_most);
      value =
          let same : n * 10 ^ length back ≡ number (decimal (n / d) ++ back) * d =
          ap (λ p. n * 10 ^ p) (length-padded places (rest * e)) ∙ crossed n d (n / d) rest e (10 ^ places) parts power ∙ ap (λ m. m * d) (sym value) in
          equal_ratios (pos n) d (pos (number (decimal (n / d) ++ back))) (10 ^ length back) some (ten_pos (length back)) (ap pos same);
    }
  where
    factor_pos : (e d p : ℕ) → e * d ≡ p → 0 < p → 0 < e
    factor_pos zero d p h lt = absurd (omega arith)
    factor_pos (suc e) d p h lt = omega arith

    crossed : (n d q r e p : ℕ) → q * d + r ≡ n → e * d ≡ p → n * p ≡ (q * p + r * e) * d
    crossed n d q r e p h k = sym (ap₂ (λ (x y : ℕ). x * y) h k) ∙ (omega arith ∙ ap (λ (x : ℕ). (q * x + r * e) * d) k)

quotient_spells : (n d : ℕ) → 0 < d → n < 10 ^ 64 → d < 10 ^ 64 → SpellsQuotient (quotient_text n d) (ratio (pos n) d)
quotient_spells n d some small few =
    let above = decimal_reads n small in
    let below = decimal_reads d few in
    record {
      above = decimal n;
      below = decimal d;
      parts = refl;
      above_digits = reads_digits n (decimal n) above;
      below_digits = reads_digits d (decimal d) below;
      some = rw below.value some;
      value = rw (above.value, below.value) refl;
    }

unsigned_spells : (n d : ℕ) → 0 < d → n < 10 ^ 64 → d < 10 ^ 64 → (places : Option ℕ) → places_of d ≡ places → SpellsUnsigned (option_map_or (decimal_text n d) places (quotient_text n d)) (ratio (pos n) d)
unsigned_spells n d some small few None e = inr (inr (quotient_spells n d some small few))
unsigned_spells n d some small few (Some places) e = inr (inl (decimal_spells n d places some small (enough_of d places e)))

sized_spells : (z : ℤ) (d : ℕ) → 0 < d → nat_abs z < 10 ^ 64 → d < 10 ^ 64 → Spells (sign_text z ++ unsigned_text (nat_abs z) d) (ratio z d)
sized_spells (pos n) d some small few = inl (unsigned_spells n d some small few (places_of d) refl)
sized_spells (negsuc n) d some small few = inr (record {
  rest = unsigned_text (suc n) d;
  size = ratio (pos (suc n)) d;
  minus = refl;
  spells = unsigned_spells (suc n) d some small few (places_of d) refl;
  value = sym (neg-ratio (pos (suc n)) d some);
})

-- the text in which a number is printed stands for it
pub number_text_spells : (q : ℚ) → Fits wide_limit q → Spells (number_text q) q
unfolding number_text
number_text_spells q fits =
    let numerator = fits.numerator in
    let denominator = fits.denominator in
    subst (Spells (sign_text q.num ++ unsigned_text (nat_abs q.num) q.den)) (ratio-parts q) (sized_spells q.num q.den (den_pos q) (omega arith) (omega arith))

-- the text that is made of its parts
pub printed : (q : ℚ) (start signed text : List ℕ) (n d : ℕ) → start ≡ [] → signed ≡ start ++ sign_text q.num → text ≡ signed ++ unsigned_text n d → n ≡ nat_abs q.num → d ≡ q.den → text ≡ number_text q
unfolding number_text
printed q start signed text n d a b c g h = rw (c, b, a, g, h) refl
