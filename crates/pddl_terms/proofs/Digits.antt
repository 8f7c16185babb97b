-- Numbers of few digits fit 64 bits, and a word that is a number has few.
use Rattle.std.proofs.Common.{◌≡◌, ℕ, zero, suc, ◌+◌, ◌*◌, ◌-◌, ◌<◌, ◌≤◌, ◌^◌, Bool, true, false, ◌&&◌, List, [], ◌∷◌, cond, pow-suc, refl, sym, ap, ◌∙◌, subst, arith, Ok, Err, if◌then◌else◌}
use Rattle.std.specs.Prelude.{length, nat_le, drop}
use Rattle.std.specs.Char.{is_ascii_digit}
use Rattle.std.proofs.Math.Nat.{pow-le-pow_right}
use Rattle.std.proofs.lemmas.Bool.{and_parts, cond-true, cond-false, leb-true}
use Rattle.std.proofs.lemmas.List.Sums.{sum_by-cons}
use Rattle.pddl_terms.specs.Numbers.{digits_of}
use Rattle.basics.specs.Texts.{number, number_after, digit_count, behind_point, is_point, is_name, is_number, digit_limit, name_limit}
use Rattle.basics.proofs.Bools.{and_right}
use Rattle.sexpr_text.specs.declared.token.TokenKind.{TokenKind}
use Rattle.sexpr_text.specs.declared.token.TokenKind.TheVariants.{Name, Variable, Keyword, Number, Mark, Time}
use Rattle.sexpr_text.specs.declared.run.RunFault.TheVariants.{Unknown, LongName, Malformed}
use Rattle.sexpr_text.specs.Runs.{reading, name_reading, number_reading, is_variable, is_keyword, begins_as_number, is_mark, is_time}

pub count-digit : (b : ℕ) (bs : List ℕ) → is_ascii_digit b ≡ true → digit_count (b ∷ bs) ≡ suc (digit_count bs)
count-digit b bs h =
    let first : cond (is_ascii_digit b) 1 0 ≡ 1 = cond-true (is_ascii_digit b) 1 0 h in
    sum_by-cons (λ x. cond (is_ascii_digit x) 1 0) b bs ∙ ap (λ n. n + digit_count bs) first ∙ omega arith

pub count-other : (b : ℕ) (bs : List ℕ) → is_ascii_digit b ≡ false → digit_count (b ∷ bs) ≡ digit_count bs
count-other b bs h =
    let first : cond (is_ascii_digit b) 1 0 ≡ 0 = cond-false (is_ascii_digit b) 1 0 h in
    sum_by-cons (λ x. cond (is_ascii_digit x) 1 0) b bs ∙ ap (λ n. n + digit_count bs) first ∙ omega arith

count-more : (b : ℕ) (bs : List ℕ) → digit_count bs ≤ digit_count (b ∷ bs)
count-more b bs = by_test (is_ascii_digit b) refl
  where
    by_test : (t : Bool) → is_ascii_digit b ≡ t → digit_count bs ≤ digit_count (b ∷ bs)
    by_test true h = let e = count-digit b bs h in omega (arith, e)
    by_test false h = let e = count-other b bs h in omega (arith, e)

pub count-behind_point : (bytes : List ℕ) → digit_count (behind_point bytes) ≤ digit_count bytes
count-behind_point [] = omega arith
count-behind_point (b ∷ bs) = by_test (is_point b) refl (count-behind_point bs)
  where
    by_test : (t : Bool) → is_point b ≡ t → digit_count (behind_point bs) ≤ digit_count bs → digit_count (behind_point (b ∷ bs)) ≤ digit_count (b ∷ bs)
    by_test true h rest = let more = count-more b bs in rw h more
    by_test false h rest = let more = count-more b bs in rw h (omega (arith, more, rest))

-- so many digits are read as the number, and these bytes are left
pub record Reads (bytes : List ℕ) (n : ℕ) (left : List ℕ) : Type 0 where
  pub value : number_after n (digits_of left) ≡ number (digits_of bytes)
  pub less : digit_count left ≤ digit_count bytes
  pub bound : n < 10 ^ (digit_count bytes - digit_count left)

digit-range : (b : ℕ) → is_ascii_digit b ≡ true → (48 ≤ b) × (b ≤ 57)
digit-range b h = let parts = and_parts (nat_le 48 b) (nat_le b 57) h in (leb-true 48 b parts.0, leb-true b 57 parts.1)

module _ (bytes : List ℕ) (n b : ℕ) (left rest : List ℕ) (e : left ≡ b ∷ rest) (r : Reads bytes n left) where
  -- where the next byte is a digit
  module _ (h : is_ascii_digit b ≡ true) where
    count : digit_count left ≡ suc (digit_count rest)
    count = ap digit_count e ∙ count-digit b rest h

    pub next-fits : digit_count bytes ≤ 18 → 10 * n + (b - 48) < 10 ^ 18
    next-fits few =
        let range = digit-range b h in
        let ten : 0 < 10 = omega arith in
        let places : ℕ = digit_count bytes - digit_count left in
        let power = pow-suc 10 places in
        let most : 10 ^ suc places ≤ 10 ^ 18 = (let le : suc places ≤ 18 = omega (arith, count, r.less, few) in pow-le-pow_right ten le) in
        omega (arith, power, most, r.bound, range.0, range.1)

    pub reads-digit : Reads bytes (10 * n + (b - 48)) rest
    reads-digit =
        let range = digit-range b h in
        let places : ℕ = digit_count bytes - digit_count left in
        let power = pow-suc 10 places in
        let more : suc places ≡ digit_count bytes - digit_count rest = omega (arith, count, r.less) in
        let below : 10 * n + (b - 48) < 10 ^ suc places = omega (arith, power, r.bound, range.0, range.1) in
        record {
          value = ap (λ (ds : List ℕ). number_after n ds) (sym (ap digits_of e ∙ ap (λ t. if t then b ∷ digits_of rest else digits_of rest) h)) ∙ r.value;
          less = omega (arith, count, r.less);
          bound = subst (λ (i : ℕ). 10 * n + (b - 48) < 10 ^ i) more below;
        }

  pub reads-other : is_ascii_digit b ≡ false → Reads bytes n rest
  reads-other h =
      let count : digit_count left ≡ digit_count rest = ap digit_count e ∙ count-other b rest h in
      record {
        value = ap (λ (ds : List ℕ). number_after n ds) (sym (ap digits_of e ∙ ap (λ t. if t then b ∷ digits_of rest else digits_of rest) h)) ∙ r.value;
        less = omega (arith, count, r.less);
        bound = subst (λ (i : ℕ). n < 10 ^ (digit_count bytes - i)) count r.bound;
      }

pub bound-fits : (n i : ℕ) → n < 10 ^ i → i ≤ 18 → n < 10 ^ 18
bound-fits n i h l = let ten : 0 < 10 = omega arith in let p : 10 ^ i ≤ 10 ^ 18 = pow-le-pow_right ten l in omega (arith, h, p)

pub power-fits : (i : ℕ) → i ≤ 18 → 10 ^ i ≤ 10 ^ 18
power-fits i l = let ten : 0 < 10 = omega arith in pow-le-pow_right ten l

pub power-some : (i : ℕ) → 0 < 10 ^ i
power-some zero = omega arith
power-some (suc i) = let power = pow-suc 10 i in let rest = power-some i in omega (arith, power, rest)

no_name : (kind : TokenKind) (word : List ℕ) → (kind ≡ Number → ⊥) → name_reading kind word ≡ Ok Number → ⊥
no_name kind word other e = by_test (nat_le (length word) name_limit) refl
  where
    by_test : (b : Bool) → nat_le (length word) name_limit ≡ b → ⊥
    by_test true h = let same : Ok kind ≡ Ok Number = ap (λ b. if b then Ok kind else Err LongName) (sym h) ∙ e in other cc
    by_test false h = let same : Err LongName ≡ Ok Number = ap (λ b. if b then Ok kind else Err LongName) (sym h) ∙ e in absurd cc

few_digits : (run : List ℕ) → number_reading run ≡ Ok Number → digit_count run ≤ 18
few_digits run e = by_test (is_number run && nat_le (digit_count run) digit_limit) refl
  where
    by_test : (b : Bool) → (is_number run && nat_le (digit_count run) digit_limit) ≡ b → digit_count run ≤ 18
    by_test true h = leb-true (digit_count run) 18 (and_right (is_number run) (nat_le (digit_count run) digit_limit) h)
    by_test false h = let same : Err Malformed ≡ Ok Number = ap (λ b. if b then Ok Number else Err Malformed) (sym h) ∙ e in absurd cc

-- a number has at most 18 digits
pub number-few : (run : List ℕ) → reading run ≡ Ok Number → digit_count run ≤ 18
unfolding reading
number-few run e = at_name (is_name run) (is_variable run) (is_keyword run) (begins_as_number run) (is_mark run) (is_time run) e
  where
    at_name : (a b c d f g : Bool)
        → (if a then name_reading Name run else (if b then name_reading Variable (drop 1 run) else (if c then name_reading Keyword (drop 1 run)
        else (if d then number_reading run else (if f then Ok Mark else (if g then Ok Time else Err Unknown)))))) ≡ Ok Number
        → digit_count run ≤ 18
    at_name true b c d f g e = absurd (no_name Name run (λ k. absurd cc) e)
    at_name false true c d f g e = absurd (no_name Variable (drop 1 run) (λ k. absurd cc) e)
    at_name false false true d f g e = absurd (no_name Keyword (drop 1 run) (λ k. absurd cc) e)
    at_name false false false true f g e = few_digits run e
    at_name false false false false true g e = absurd cc
    at_name false false false false false true e = absurd cc
    at_name false false false false false false e = absurd cc
