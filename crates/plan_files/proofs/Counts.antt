-- Digits that are read one by one as a number of 32 bits.
use Rattle.std.proofs.Common.{◌≡◌, refl, sym, ap, ◌∙◌, ℕ, ◌+◌, ◌-◌, ◌*◌, ◌<◌, ◌≤◌, Bool, true, false, ◌&&◌, List, [], ◌∷◌, length, drop, arith, nat_lt, Some, None}
use Rattle.std.specs.Prelude.{slice_index_or, if◌then◌else◌}
use Rattle.std.specs.List.{list_all}
use Rattle.std.specs.Char.{is_ascii_digit}
use Rattle.std.proofs.lemmas.Bool.Decides.{nat_tests}
use Rattle.std.proofs.lemmas.List.{drop_more, drop_all}
use Rattle.basics.specs.Texts.{is_digits, number, number_after}
use Rattle.basics.proofs.Naturals.{lt_in}
use Rattle.plan_text.proofs.DigitNumbers.{number_after-ge}
use Rattle.plan_files.specs.OrderParts.{count_read}

-- the first i bytes are digits, and stand for n
pub record CountLeft (bytes : List ℕ) (n i : ℕ) : Type 0 where
  pub value : number bytes ≡ number_after n (drop i bytes)
  pub digits : list_all is_ascii_digit bytes ≡ list_all is_ascii_digit (drop i bytes)
  pub below : n < 4294967296

pub count-begin : (bytes : List ℕ) → CountLeft bytes 0 0
count-begin bytes = record { value = refl; digits = refl; below = omega arith }

module _ (bytes : List ℕ) (n i b : ℕ) (h : i < length bytes) (is : b ≡ slice_index_or bytes i 0) (c : CountLeft bytes n i) where
  here : drop i bytes ≡ b ∷ drop (i + 1) bytes
  here = drop_more bytes i 0 h ∙ ap (λ x. x ∷ drop (i + 1) bytes) (sym is)

  digits_here : list_all is_ascii_digit bytes ≡ (is_ascii_digit b && list_all is_ascii_digit (drop (i + 1) bytes))
  digits_here = c.digits ∙ ap (list_all is_ascii_digit) here

  value_here : number bytes ≡ number_after (10 * n + (b - 48)) (drop (i + 1) bytes)
  value_here = c.value ∙ ap (number_after n) here

  pub count-next : is_ascii_digit b ≡ true → 10 * n + (b - 48) < 4294967296 → CountLeft bytes (10 * n + (b - 48)) (i + 1)
  count-next d l = record { value = value_here; digits = digits_here ∙ ap (λ x. x && list_all is_ascii_digit (drop (i + 1) bytes)) d; below = l }

  pub count-no_digit : is_ascii_digit b ≡ false → None ≡ count_read bytes
  count-no_digit d = none (nat_lt 0 (length bytes)) (list_all is_ascii_digit bytes) (nat_lt (number bytes) 4294967296) (digits_here ∙ ap (λ x. x && list_all is_ascii_digit (drop (i + 1) bytes)) d)
    where
      none : (x y z : Bool) → y ≡ false → None ≡ (if (x && y) && z then Some (number bytes) else None)
      none true true z e = absurd (cc)
      none true false z e = refl
      none false y z e = refl

  pub count-too_large : 4294967296 ≤ 10 * n + (b - 48) → None ≡ count_read bytes
  count-too_large l = none (is_digits bytes) (nat_lt (number bytes) 4294967296) large
    where
      none : (x z : Bool) → z ≡ false → None ≡ (if x && z then Some (number bytes) else None)
      none true true e = absurd (cc)
      none true false e = refl
      none false z e = refl

      large : nat_lt (number bytes) 4294967296 ≡ false
      large =
          let g = number_after-ge (10 * n + (b - 48)) (drop (i + 1) bytes) in
          let m : 4294967296 ≤ number bytes = omega (arith, g, value_here) in
          grind (arith, nat_tests)

pub count-end : (bytes : List ℕ) (n i : ℕ) → 0 < length bytes → length bytes ≤ i → CountLeft bytes n i → Some n ≡ count_read bytes
count-end bytes n i some all c = found (nat_lt 0 (length bytes)) (list_all is_ascii_digit bytes) (nat_lt (number bytes) 4294967296) (lt_in 0 (length bytes) some) (c.digits ∙ ap (list_all is_ascii_digit) nothing)
    (lt_in (number bytes) 4294967296 (omega (arith, same, c.below)))
  where
    nothing : drop i bytes ≡ []
    nothing = drop_all i bytes all

    same : number bytes ≡ n
    same = c.value ∙ ap (number_after n) nothing

    found : (x y z : Bool) → x ≡ true → y ≡ true → z ≡ true → Some n ≡ (if (x && y) && z then Some (number bytes) else None)
    found true true true e f g = ap Some (sym same)
    found true true false e f g = absurd (cc)
    found true false z e f g = absurd (cc)
    found false y z e f g = absurd (cc)

pub count-empty : (bytes : List ℕ) → length bytes ≡ 0 → None ≡ count_read bytes
count-empty [] e = refl
count-empty (b ∷ bs) e = absurd (cc)
