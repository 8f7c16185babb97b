-- What a text of a plan stands for is its value as a decimal of PDDL.
use Rattle.std.proofs.Common.{◌≡◌, ℕ, true, false, ◌==◌, List, [], ◌∷◌, ◌++◌, refl, sym, ap, ◌∙◌, subst, inl, inr}
use Rattle.std.proofs.lemmas.Bool.{and_parts, cases_Bool, cond-false, eqb-true}
use Rattle.std.proofs.lemmas.List.Folds.{list_all-append}
use Rattle.std.specs.List.{list_all}
use Rattle.std.specs.Char.{is_ascii_digit}
use Rattle.basics.specs.Texts.{is_digits, is_digit_or_point, is_decimal, unsigned, is_number}
use Rattle.rational.specs.Rational.{ℚ, neg_ℚ}
use Rattle.rational.specs.Decimals.{decimal_value, number_value}
use Rattle.rational.proofs.Decimals.{decimal_value-digits, decimal_value-parts}
use Rattle.plan_text.specs.Numbers.{SpellsUnsigned, Spells}
use Rattle.plan_text.proofs.ReadingLemmas.{is_digits_all}

-- ---- without a minus

no_slash : (above below : List ℕ) → is_decimal (above ++ 47 ∷ below) ≡ true → ⊥
no_slash above below h =
    let all = (and_parts _ _ h).0 in
    let parts = and_parts (list_all is_digit_or_point above) (list_all is_digit_or_point (47 ∷ below))
    (sym (list_all-append is_digit_or_point above (47 ∷ below)) ∙ all) in
    cc (parts.1)

unsigned_agrees : (text : List ℕ) (q : ℚ) → is_decimal text ≡ true → SpellsUnsigned text q → q ≡ decimal_value text
unsigned_agrees text q h (inl whole) = whole.value ∙ sym (decimal_value-digits text (is_digits_all text whole.digits))
unsigned_agrees text q h (inr (inl decimal)) =
    decimal.value
    ∙ sym (decimal_value-parts decimal.front decimal.places (is_digits_all decimal.front decimal.front_digits))
    ∙ ap decimal_value (sym decimal.parts)
unsigned_agrees text q h (inr (inr quotient)) =
    absurd (no_slash quotient.above quotient.below (subst (λ (t : List ℕ). is_decimal t ≡ true) quotient.parts h))

-- ---- with one

-- the text begins with no minus
record IsPlain (text : List ℕ) : Type 0 where
  first : ℕ
  rest : List ℕ
  is : text ≡ first ∷ rest
  no_minus : (first == 45) ≡ false

digit_no_minus : (d : ℕ) → is_ascii_digit d ≡ true → (d == 45) ≡ false
digit_no_minus d h = elim (cases_Bool (d == 45)) [
  | inl minus ↦ cc (ap is_ascii_digit (eqb-true d 45 minus), h)
  | inr other ↦ other
]

plain_front : (text front rest : List ℕ) → text ≡ front ++ rest → is_digits front ≡ true → IsPlain text
plain_front text [] rest e h = cc
plain_front text (d ∷ ds) rest e h = record {
  first = d;
  rest = ds ++ rest;
  is = e;
  no_minus = digit_no_minus d (and_parts _ _ (is_digits_all (d ∷ ds) h)).0;
}

unsigned_plain : (text : List ℕ) (q : ℚ) → SpellsUnsigned text q → IsPlain text
unsigned_plain [] q (inl whole) = cc (whole.digits)
unsigned_plain (c ∷ cs) q (inl whole) = record { first = c; rest = cs; is = refl; no_minus = digit_no_minus c (and_parts _ _ (is_digits_all (c ∷ cs) whole.digits)).0 }
unsigned_plain text q (inr (inl decimal)) = plain_front text decimal.front (46 ∷ decimal.places) decimal.parts decimal.front_digits
unsigned_plain text q (inr (inr quotient)) = plain_front text quotient.above (47 ∷ quotient.below) quotient.parts quotient.above_digits

plain_agrees : (text : List ℕ) (q : ℚ) → IsPlain text → is_number text ≡ true → SpellsUnsigned text q → q ≡ number_value text
plain_agrees text q plain h spells =
    let same : unsigned text ≡ text = ap unsigned plain.is ∙ cond-false (plain.first == 45) plain.rest (plain.first ∷ plain.rest) plain.no_minus ∙ sym plain.is in
    let value : number_value text ≡ decimal_value text =
    ap number_value plain.is
    ∙ cond-false (plain.first == 45) (neg_ℚ (decimal_value plain.rest)) (decimal_value (plain.first ∷ plain.rest)) plain.no_minus
    ∙ ap decimal_value (sym plain.is) in
    unsigned_agrees text q (ap is_decimal (sym same) ∙ h) spells ∙ sym value

pub agrees : (text : List ℕ) (q : ℚ) → is_number text ≡ true → Spells text q → q ≡ number_value text
agrees text q h (inl spells) = plain_agrees text q (unsigned_plain text q spells) h spells
agrees text q h (inr negative) =
    let rest_is : is_decimal negative.rest ≡ true = subst (λ (t : List ℕ). is_number t ≡ true) negative.minus h in
    negative.value ∙ ap neg_ℚ (unsigned_agrees negative.rest negative.size rest_is negative.spells) ∙ ap number_value (sym negative.minus)
