-- What reading a text gives is what the text stands for.
use Rattle.std.proofs.Common.{◌≡◌, ℕ, zero, suc, ◌+◌, ◌-◌, ◌*◌, ◌^◌, ◌<◌, ◌≤◌, Bool, true, false, cond, not, ◌&&◌, ◌==◌, nat_lt, nat_le, pos, Option, Some, None, SomeIff, List, [], ◌∷◌, ◌++◌, length, take, replicate, IfSome, append-nil, mul_comm, pow-suc, refl, sym, ap, ◌∙◌, subst, inl, inr, arith}
use Rattle.std.proofs.lemmas.Bool.{and_parts, and_from, or_parts, or_cases, not-true, not-false, eqb-false, le-ltb, cases_Bool, cond-true, cond-false, true≢false, eqb-true, lt-ltb, ltb-true, le-leb, leb-true}
use Rattle.std.proofs.lemmas.List.{nil_from_length}
use Rattle.std.specs.List.{list_all}
use Rattle.std.specs.Char.{is_ascii_digit}
use Rattle.rational.specs.Rational.{ℚ, ratio, neg_ℚ}
use Rattle.rational.proofs.Fractions.{equal_ratios}
use Rattle.rational.proofs.Ring.{law, minus, ◌≐◌}
use Rattle.rational.proofs.Field.{ℚ_ring}
use Rattle.exact_lin.proofs.Results.{fits-neg}
use Rattle.exact_lin.specs.Reckoning.{Fits, wide_limit}
use Rattle.plan_text.proofs.DigitNumbers.{number_after-ge}
use Rattle.basics.specs.Texts.{is_digits, number, number_after}
use Rattle.plan_text.specs.Numbers.{SpellsUnsigned, SpellsNegative, Spells}
use Rattle.plan_text.specs.Quotients.{AreDigits}
use Rattle.plan_text.specs.Reading.{front_of, rest_of, pair_if, parts_marked, parts_behind, parts_of, Gives, GivesNegative, has_digit_above_zero}

pub digits_join : (xs ys : List ℕ) → AreDigits xs → AreDigits ys → AreDigits (xs ++ ys)
digits_join [] ys h k = k
digits_join (x ∷ xs) ys h k = let p = and_parts _ _ h in and_from _ _ p.0 (digits_join xs ys p.1 k)

pub digits_front : (xs ys : List ℕ) → AreDigits (xs ++ ys) → AreDigits xs
digits_front [] ys h = refl
digits_front (x ∷ xs) ys h = let p = and_parts _ _ h in and_from _ _ p.0 (digits_front xs ys p.1)

pub digits_back : (xs ys : List ℕ) → AreDigits (xs ++ ys) → AreDigits ys
digits_back [] ys h = h
digits_back (x ∷ xs) ys h = digits_back xs ys (and_parts _ _ h).1

-- the digits at the front are digits
pub front_digits : (text : List ℕ) → AreDigits (front_of text)
front_digits [] = refl
front_digits (c ∷ cs) =
    elim (cases_Bool (is_ascii_digit c)) [
      | inl digit ↦ rw digit (and_from _ _ digit (front_digits cs))
      | inr other ↦ rw other refl
    ]

pub front_rest : (text : List ℕ) → front_of text ++ rest_of text ≡ text
front_rest [] = refl
front_rest (c ∷ cs) =
    elim (cases_Bool (is_ascii_digit c)) [
      | inl digit ↦ rw digit (ap (λ (l : List ℕ). c ∷ l) (front_rest cs))
      | inr other ↦ rw other refl
    ]

-- ---- numbers above 0

number-zeros : (ds : List ℕ) → has_digit_above_zero ds ≡ false → number ds ≡ 0
number-zeros [] none = refl
number-zeros (c ∷ cs) none =
    let parts = or_parts (not (c == 48)) (has_digit_above_zero cs) none in
    let zero_digit : c ≡ 48 = eqb-true c 48 (not-false (c == 48) parts.0) in
    let start : 10 * 0 + (c - 48) ≡ 0 = omega arith in
    ap (λ n. number_after n cs) start ∙ number-zeros cs parts.1

number-some : (n : ℕ) (ds : List ℕ) → AreDigits ds → has_digit_above_zero ds ≡ true → 0 < number_after n ds
number-some n [] all some = absurd cc
number-some n (c ∷ cs) all some =
    let digits = and_parts (is_ascii_digit c) (list_all is_ascii_digit cs) all in
    elim (or_cases (not (c == 48)) (has_digit_above_zero cs) some) [
      | inl here ↦
          let other : c ≡ 48 → ⊥ = eqb-false c 48 (not-true (c == 48) here) in
          let low : 48 ≤ c = leb-true 48 c (and_parts (nat_le 48 c) (nat_le c 57) digits.0).0 in
          let least = number_after-ge (10 * n + (c - 48)) cs in
          omega arith
      | inr later ↦ number-some (10 * n + (c - 48)) cs digits.1 later
    ]

-- digits stand for more than 0 where one of them does
pub above_zero : (ds : List ℕ) → AreDigits ds → has_digit_above_zero ds ≡ nat_lt 0 (number ds)
above_zero ds all =
    elim (cases_Bool (has_digit_above_zero ds)) [
      | inl some ↦ some ∙ sym (lt-ltb 0 (number ds) (number-some 0 ds all some))
      | inr none ↦ let zero_is = number-zeros ds none in none ∙ sym (le-ltb 0 (number ds) (omega arith))
    ]

-- ---- powers of ten as digits

pub zeros_behind : (n k : ℕ) → number_after n (replicate k 48) ≡ n * 10 ^ k
zeros_behind n zero = omega arith
zeros_behind n (suc k) =
    let power = pow-suc 10 k in
    let scaled = ap (λ (x : ℕ). n * x) power in
    zeros_behind (10 * n + (48 - 48)) k ∙ omega arith

-- ---- answers

pub some_value : (o : Option ℕ) (P : Type 0) (v w : ℕ) → SomeIff o P v → v ≡ w → IfSome o (λ n. n ≡ w)
some_value None P v w h e = tt
some_value (Some x) P v w h e = h.1 ∙ e

pub same_ratios : (n d m k : ℕ) → 0 < d → 0 < k → n * k ≡ d * m → ratio (pos n) d ≡ ratio (pos m) k
same_ratios n d m k some positive same = equal_ratios (pos n) d (pos m) k some positive (ap pos (same ∙ mul_comm d m))

-- equal quotients fit together
pub same_fits : (n d m k limit : ℕ) → 0 < d → 0 < k → n * k ≡ d * m → Fits limit (ratio (pos n) d) → Fits limit (ratio (pos m) k)
same_fits n d m k limit some positive same fits = subst (Fits limit) (same_ratios n d m k some positive same) fits

pub gives_if : (test : Bool) (n d : ℕ) (result : Option ℚ) → test ≡ true → Gives (Some (n, d)) result → Gives (pair_if test n d) result
gives_if true n d result e h = h
gives_if false n d result e h = absurd cc

pub gives_none : (test : Bool) (n d : ℕ) → test ≡ false → Gives (pair_if test n d) None
gives_none true n d e = absurd cc
gives_none false n d e = refl

take_zeros : (k m : ℕ) → k ≤ m → take {A = ℕ} k (replicate m 48) ≡ replicate k 48
take_zeros zero m le = refl
take_zeros (suc k) zero le = absurd (omega arith)
take_zeros (suc k) (suc m) le = let zero_byte : ℕ = 48 in ap (λ (l : List ℕ). zero_byte ∷ l) (take_zeros k m (omega arith))

zeros_are_digits : (k : ℕ) → AreDigits (replicate k 48)
zeros_are_digits zero = refl
zeros_are_digits (suc k) = zeros_are_digits k

-- a one and so many of eighteen zeros
pub ten_of_zeros : (k : ℕ) → k ≤ 18 → number_after 1 (take {A = ℕ} k (replicate 18 48)) ≡ 10 ^ k
ten_of_zeros k le = ap (number_after 1) (take_zeros k 18 le) ∙ zeros_behind 1 k ∙ omega arith

pub zeros_digits : (k : ℕ) → k ≤ 18 → AreDigits (take {A = ℕ} k (replicate 18 48))
zeros_digits k le = subst AreDigits (sym (take_zeros k 18 le)) (zeros_are_digits k)

pub is_digits_all : (ds : List ℕ) → is_digits ds ≡ true → AreDigits ds
is_digits_all ds h = (and_parts _ _ h).1

-- ---- by what follows the digits

pub reads_none : (text front : List ℕ) → front ≡ front_of text → length front ≡ 0 → Gives (parts_of text) None
unfolding parts_of
reads_none text front e none =
    let empty : front_of text ≡ [] = nil_from_length (front_of text) (ap length (sym e) ∙ none) in
    rw empty refl

pub reads_whole : (text front rest : List ℕ) (result : Option ℚ) → front ≡ front_of text → rest ≡ rest_of text → 0 < length front → length rest ≡ 0 → Gives (Some (number front, 1)) result → Gives (parts_of text) result
unfolding parts_of
reads_whole text [] rest result e f some none h = absurd (omega arith)
reads_whole text (d ∷ ds) rest result e f some none h =
    let empty : rest_of text ≡ [] = nil_from_length (rest_of text) (ap length (sym f) ∙ none) in
    rw (← e, empty) h

pub reads_marked : (text front rest : List ℕ) (mark : ℕ) (more : List ℕ) (result : Option ℚ) → front ≡ front_of text → rest ≡ rest_of text → 0 < length front → rest ≡ mark ∷ more → Gives (parts_marked front mark more) result → Gives (parts_of text) result
unfolding parts_of
reads_marked text [] rest mark more result e f some split h = absurd (omega arith)
reads_marked text (d ∷ ds) rest mark more result e f some split h =
    let behind : rest_of text ≡ mark ∷ more = sym f ∙ split in
    rw (← e, behind) h

-- ---- what reading gives is what the text stands for

-- digits before a byte that is none are the digits at the front
front_is : (ds : List ℕ) (c : ℕ) (cs : List ℕ) → AreDigits ds → is_ascii_digit c ≡ false → (front_of (ds ++ c ∷ cs) ≡ ds) × (rest_of (ds ++ c ∷ cs) ≡ c ∷ cs)
front_is [] c cs all other = (cond-false (is_ascii_digit c) (c ∷ front_of cs) [] other, cond-false (is_ascii_digit c) (rest_of cs) (c ∷ cs) other)
front_is (d ∷ ds) c cs all other =
    let parts = and_parts (is_ascii_digit d) (list_all is_ascii_digit ds) all in
    let more = front_is ds c cs parts.1 other in (
      cond-true (is_ascii_digit d) (d ∷ front_of (ds ++ c ∷ cs)) [] parts.0 ∙ ap (λ (l : List ℕ). d ∷ l) more.0,
      cond-true (is_ascii_digit d) (rest_of (ds ++ c ∷ cs)) (d ∷ (ds ++ c ∷ cs)) parts.0 ∙ more.1,
    )

-- digits alone are all at the front
front_all : (ds : List ℕ) → AreDigits ds → (front_of ds ≡ ds) × (rest_of ds ≡ [])
front_all [] all = (refl, refl)
front_all (d ∷ ds) all =
    let parts = and_parts (is_ascii_digit d) (list_all is_ascii_digit ds) all in
    let more = front_all ds parts.1 in (
      cond-true (is_ascii_digit d) (d ∷ front_of ds) [] parts.0 ∙ ap (λ (l : List ℕ). d ∷ l) more.0,
      cond-true (is_ascii_digit d) (rest_of ds) (d ∷ ds) parts.0 ∙ more.1,
    )

-- the two parts that a text stands for
pub record HasParts (text : List ℕ) (q : ℚ) : Type 0 where
  pub num : ℕ
  pub den : ℕ
  pub parts : parts_of text ≡ Some (num, den)
  pub value : q ≡ ratio (pos num) den

pair_true : (test : Bool) (n d : ℕ) → test ≡ true → pair_if test n d ≡ Some (n, d)
pair_true true n d e = refl
pair_true false n d e = absurd cc

same_pair : (p r : ℕ × ℕ) → Some p ≡ Some r → p ≡ r
same_pair p r e = cc

pair_some : (test : Bool) (n d num den : ℕ) → pair_if test n d ≡ Some (num, den) → (test ≡ true) × (n ≡ num) × (d ≡ den)
pair_some true n d num den e = let same = same_pair (n, d) (num, den) e in (refl, ap (λ (p : ℕ × ℕ). p.0) same, ap (λ (p : ℕ × ℕ). p.1) same)
pair_some false n d num den e = absurd cc

pub parts_of_spelled : (text : List ℕ) (q : ℚ) → SpellsUnsigned text q → HasParts text q
unfolding parts_of
parts_of_spelled [] q (inl h) = absurd (true≢false (sym h.digits))
parts_of_spelled (c ∷ cs) q (inl h) =
    let all = front_all (c ∷ cs) (is_digits_all (c ∷ cs) h.digits) in
    record { num = number (c ∷ cs); den = 1; parts = rw (all.0, all.1) refl; value = h.value }
parts_of_spelled text q (inr (inl h)) =
    let split = front_is h.front 46 h.places (is_digits_all h.front h.front_digits) refl in
    record {
      num = number (h.front ++ h.places);
      den = 10 ^ length h.places;
      parts = rw (h.parts, split.0, split.1) (marked h.front h.places h.front_digits h.places_digits h.few);
      value = h.value;
    }
  where
    marked : (front places : List ℕ) → is_digits front ≡ true → is_digits places ≡ true → length places ≤ 18 → parts_behind front (46 ∷ places) ≡ Some (number (front ++ places), 10 ^ length places)
    marked [] places some digits few = absurd (true≢false (sym some))
    marked (d ∷ ds) places some digits few = pair_true (is_digits places && nat_le (length places) 18) _ _ (and_from _ _ digits (le-leb (length places) 18 few))
parts_of_spelled text q (inr (inr h)) =
    let split = front_is h.above 47 h.below (is_digits_all h.above h.above_digits) refl in
    record {
      num = number h.above;
      den = number h.below;
      parts = rw (h.parts, split.0, split.1) (marked h.above h.below h.above_digits h.below_digits h.some);
      value = h.value;
    }
  where
    marked : (above below : List ℕ) → is_digits above ≡ true → is_digits below ≡ true → 0 < number below → parts_behind above (47 ∷ below) ≡ Some (number above, number below)
    marked [] below some digits positive = absurd (true≢false (sym some))
    marked (d ∷ ds) below some digits positive = pair_true (is_digits below && nat_lt 0 (number below)) _ _ (and_from _ _ digits (lt-ltb 0 (number below) positive))

behind_spells : (text front rest : List ℕ) (n d : ℕ) → front ++ rest ≡ text → AreDigits front → parts_behind front rest ≡ Some (n, d) → SpellsUnsigned text (ratio (pos n) d)
behind_spells text [] rest n d joined digits e = absurd cc
behind_spells text (x ∷ xs) [] n d joined digits e =
    let same : x ∷ xs ≡ text = sym (append-nil (x ∷ xs)) ∙ joined in
    let pair = same_pair (number (x ∷ xs), 1) (n, d) e in
    let num : number (x ∷ xs) ≡ n = ap (λ (p : ℕ × ℕ). p.0) pair in
    let den : 1 ≡ d = ap (λ (p : ℕ × ℕ). p.1) pair in
    inl (record { digits = subst (λ t. is_digits t ≡ true) same (and_from _ _ (lt-ltb 0 (length (x ∷ xs)) (omega arith)) digits); value = rw (← same, ← num, ← den) refl })
behind_spells text (x ∷ xs) (c ∷ cs) n d joined digits e =
    let front : List ℕ = x ∷ xs in
    let front_digits : is_digits front ≡ true = and_from _ _ (lt-ltb 0 (length front) (omega arith)) digits in
    elim (cases_Bool (c == 46)) [
      | inl dot ↦
          let mark : c ≡ 46 = eqb-true c 46 dot in
          let e' : pair_if (is_digits cs && nat_le (length cs) 18) (number (front ++ cs)) (10 ^ length cs) ≡ Some (n, d) = sym (cond-true (c == 46) _ _ dot) ∙ e in
          let h = pair_some _ _ _ _ _ e' in
          let tests = and_parts (is_digits cs) (nat_le (length cs) 18) h.0 in
          inr (inl (record {
            front = front;
            places = cs;
            parts = sym joined ∙ ap (λ (b : ℕ). front ++ b ∷ cs) mark;
            front_digits = front_digits;
            places_digits = tests.0;
            few = leb-true (length cs) 18 tests.1;
            value = rw (h.1, h.2) refl;
          }))
      | inr other ↦
          let e' : cond (c == 47) (pair_if (is_digits cs && nat_lt 0 (number cs)) (number front) (number cs)) None ≡ Some (n, d) = sym (cond-false (c == 46) _ _ other) ∙ e in
          elim (cases_Bool (c == 47)) [
            | inr neither ↦
                let nothing : Option (ℕ × ℕ) = None in
                let none : nothing ≡ Some (n, d) = sym (cond-false (c == 47) _ _ neither) ∙ e' in
                absurd cc
            | inl slash ↦
                let mark : c ≡ 47 = eqb-true c 47 slash in
                let e'' : pair_if (is_digits cs && nat_lt 0 (number cs)) (number front) (number cs) ≡ Some (n, d) = sym (cond-true (c == 47) _ _ slash) ∙ e' in
                let h = pair_some _ _ _ _ _ e'' in
                let tests = and_parts (is_digits cs) (nat_lt 0 (number cs)) h.0 in
                inr (inr (record {
                  above = front;
                  below = cs;
                  parts = sym joined ∙ ap (λ (b : ℕ). front ++ b ∷ cs) mark;
                  above_digits = front_digits;
                  below_digits = tests.0;
                  some = ltb-true 0 (number cs) tests.1;
                  value = rw (h.1, h.2) refl;
                }))
          ]
    ]

pub parts_spell : (text : List ℕ) (n d : ℕ) → parts_of text ≡ Some (n, d) → SpellsUnsigned text (ratio (pos n) d)
unfolding parts_of
parts_spell text n d e = behind_spells text (front_of text) (rest_of text) n d (front_rest text) (front_digits text) e

-- what a call that reads a text answers
pub record IsRead (text : List ℕ) (result : Option ℚ) : Type 0 where
  pub spells : IfSome result (Spells text)
  pub fits : IfSome result (Fits wide_limit)
  pub read : (q : ℚ) → Spells text q → Fits wide_limit q → result ≡ Some q

twice_negative : (q : ℚ) → neg_ℚ (neg_ℚ q) ≡ q
twice_negative q = law ℚ_ring (q ∷ []) (λ q. minus (minus q) ≐ q) refl

-- the parts of a text with a byte in front that is no digit
parts_none : (c : ℕ) (cs : List ℕ) → is_ascii_digit c ≡ false → parts_of (c ∷ cs) ≡ None
unfolding parts_of
parts_none c cs other =
    let front : front_of (c ∷ cs) ≡ [] = cond-false (is_ascii_digit c) (c ∷ front_of cs) [] other in
    ap (λ (l : List ℕ). parts_behind l (rest_of (c ∷ cs))) front

-- a text without parts stands for no number without a sign
parts_missing : (text : List ℕ) (q : ℚ) → parts_of text ≡ None → SpellsUnsigned text q → ⊥
parts_missing text q e h = let parts = parts_of_spelled text q h in let found = parts.parts in cc

-- a call that gives the parts' quotient
given_some : (o : Option ℚ) (q : ℚ) → SomeIff o (Fits wide_limit q) q → Fits wide_limit q → o ≡ Some q
given_some None q h fits = absurd (h fits)
given_some (Some x) q h fits = ap (λ (y : ℚ). Some y) h.1

negative_given : (o : Option ℚ) (q : ℚ) → SomeIff o (Fits wide_limit q) (neg_ℚ q) → Fits wide_limit q → o ≡ Some (neg_ℚ q)
negative_given None q h fits = absurd (h fits)
negative_given (Some x) q h fits = ap (λ (y : ℚ). Some y) h.1

unsigned_read : (text : List ℕ) (o : Option ℚ) (p : Option (ℕ × ℕ)) → parts_of text ≡ p → Gives p o → (q : ℚ) → SpellsUnsigned text q → Fits wide_limit q → o ≡ Some q
unsigned_read text o None e g q h fits = absurd (parts_missing text q e h)
unsigned_read text o (Some p) e g q h fits =
    let parts = parts_of_spelled text q h in
    let pair : p ≡ (parts.num, parts.den) = same_pair p (parts.num, parts.den) (sym e ∙ parts.parts) in
    let value : q ≡ ratio (pos p.0) p.1 = parts.value ∙ sym (ap (λ (r : ℕ × ℕ). ratio (pos r.0) r.1) pair) in
    given_some o (ratio (pos p.0) p.1) g (subst (Fits wide_limit) value fits) ∙ ap (λ (y : ℚ). Some y) (sym value)

unsigned_spells : (text : List ℕ) (o : Option ℚ) (p : Option (ℕ × ℕ)) → parts_of text ≡ p → Gives p o → IfSome o (SpellsUnsigned text)
unsigned_spells text None p e g = tt
unsigned_spells text (Some x) None e g = absurd cc
unsigned_spells text (Some x) (Some p) e g = subst (SpellsUnsigned text) (sym g.1) (parts_spell text p.0 p.1 e)

unsigned_fits : (o : Option ℚ) (p : Option (ℕ × ℕ)) → Gives p o → IfSome o (Fits wide_limit)
unsigned_fits None p g = tt
unsigned_fits (Some x) None g = absurd cc
unsigned_fits (Some x) (Some p) g = subst (Fits wide_limit) (sym g.1) g.0

if_some_more : (o : Option ℚ) (P Q : ℚ → Type 0) → ((q : ℚ) → P q → Q q) → IfSome o P → IfSome o Q
if_some_more None P Q f h = tt
if_some_more (Some x) P Q f h = f x h

no_minus : (c : ℕ) (cs rest : List ℕ) → (c ≡ 45 → ⊥) → c ∷ cs ≡ 45 ∷ rest → ⊥
no_minus c cs rest other e = other cc

-- a text that begins with no minus
pub plain_read : (text : List ℕ) (c : ℕ) (cs : List ℕ) (o : Option ℚ) → text ≡ c ∷ cs → (c ≡ 45 → ⊥) → Gives (parts_of text) o → IsRead text o
plain_read text c cs o split other g = record {
  spells = if_some_more o (SpellsUnsigned text) (Spells text) (λ q h. inl h) (unsigned_spells text o (parts_of text) refl g);
  fits = unsigned_fits o (parts_of text) g;
  read = λ q h fits. elim h [
    | inl plain ↦ unsigned_read text o (parts_of text) refl g q plain fits
    | inr negative ↦ absurd (no_minus c cs negative.rest other (sym split ∙ negative.minus))
  ];
}

same_rest : (xs ys : List ℕ) (c : ℕ) → c ∷ xs ≡ c ∷ ys → xs ≡ ys
same_rest xs ys c e = cc

negative_spells : (rest : List ℕ) (o : Option ℚ) (p : Option (ℕ × ℕ)) → parts_of rest ≡ p → GivesNegative p o → IfSome o (Spells (45 ∷ rest))
negative_spells rest None p e g = tt
negative_spells rest (Some x) None e g = absurd cc
negative_spells rest (Some x) (Some p) e g = inr (record { rest = rest; size = ratio (pos p.0) p.1; minus = refl; spells = parts_spell rest p.0 p.1 e; value = g.1 })

negative_fits : (o : Option ℚ) (p : Option (ℕ × ℕ)) → GivesNegative p o → IfSome o (Fits wide_limit)
negative_fits None p g = tt
negative_fits (Some x) None g = absurd cc
negative_fits (Some x) (Some p) g = subst (Fits wide_limit) (sym g.1) (fits-neg wide_limit (ratio (pos p.0) p.1) g.0)

negative_size : (rest : List ℕ) (o : Option ℚ) (p : Option (ℕ × ℕ)) → parts_of rest ≡ p → GivesNegative p o → (size : ℚ) → SpellsUnsigned rest size → Fits wide_limit size → o ≡ Some (neg_ℚ size)
negative_size rest o None e g size h fits = absurd (parts_missing rest size e h)
negative_size rest o (Some p) e g size h fits =
    let parts = parts_of_spelled rest size h in
    let pair : p ≡ (parts.num, parts.den) = same_pair p (parts.num, parts.den) (sym e ∙ parts.parts) in
    let value : size ≡ ratio (pos p.0) p.1 = parts.value ∙ sym (ap (λ (r : ℕ × ℕ). ratio (pos r.0) r.1) pair) in
    negative_given o (ratio (pos p.0) p.1) g (subst (Fits wide_limit) value fits) ∙ ap (λ (y : ℚ). Some (neg_ℚ y)) (sym value)

-- a text that begins with a minus
pub minus_read : (text rest : List ℕ) (o : Option ℚ) → text ≡ 45 ∷ rest → GivesNegative (parts_of rest) o → IsRead text o
minus_read text rest o split g = record {
  spells = subst (λ t. IfSome o (Spells t)) (sym split) (negative_spells rest o (parts_of rest) refl g);
  fits = negative_fits o (parts_of rest) g;
  read = λ q h fits. elim h [
    | inl plain ↦ absurd (parts_missing (45 ∷ rest) q (parts_none 45 rest refl) (subst (λ t. SpellsUnsigned t q) split plain))
    | inr negative ↦
        let same : rest ≡ negative.rest = same_rest rest negative.rest 45 (sym split ∙ negative.minus) in
        let size : SpellsUnsigned rest negative.size = subst (λ t. SpellsUnsigned t negative.size) (sym same) negative.spells in
        let fits' : Fits wide_limit negative.size = subst (Fits wide_limit) (ap neg_ℚ negative.value ∙ twice_negative negative.size) (fits-neg wide_limit q fits) in
        negative_size rest o (parts_of rest) refl g negative.size size fits' ∙ ap (λ (y : ℚ). Some y) (sym negative.value)
  ];
}

-- ---- each text stands for one number

one_unsigned : (text : List ℕ) (q r : ℚ) → SpellsUnsigned text q → SpellsUnsigned text r → q ≡ r
one_unsigned text q r h k =
    let a = parts_of_spelled text q h in
    let b = parts_of_spelled text r k in
    let pair = same_pair (a.num, a.den) (b.num, b.den) (sym a.parts ∙ b.parts) in
    a.value ∙ ap (λ (p : ℕ × ℕ). ratio (pos p.0) p.1) pair ∙ sym b.value

plain_and_negative : (text : List ℕ) (q r : ℚ) → SpellsUnsigned text q → SpellsNegative text r → ⊥
plain_and_negative text q r h k = parts_missing (45 ∷ k.rest) q (parts_none 45 k.rest refl) (subst (λ t. SpellsUnsigned t q) k.minus h)

pub one_number : (text : List ℕ) (q r : ℚ) → Spells text q → Spells text r → q ≡ r
one_number text q r (inl h) (inl k) = one_unsigned text q r h k
one_number text q r (inl h) (inr k) = absurd (plain_and_negative text q r h k)
one_number text q r (inr h) (inl k) = absurd (plain_and_negative text r q k h)
one_number text q r (inr h) (inr k) =
    let rest : h.rest ≡ k.rest = same_rest h.rest k.rest 45 (sym h.minus ∙ k.minus) in
    let size : h.size ≡ k.size = one_unsigned k.rest h.size k.size (subst (λ t. SpellsUnsigned t h.size) rest h.spells) k.spells in
    h.value ∙ ap neg_ℚ size ∙ sym k.value
