-- What stands at a place, from the byte there and what goes before.
use Rattle.std.proofs.Common.{◌≡◌, ℕ, zero, suc, ◌+◌, ◌-◌, ◌<◌, ◌≤◌, ◌≢◌, true, false, not, ◌||◌, ◌==◌, List, length, slice_index, refl, sym, ap, ◌∙◌, subst, inl, inr, arith, eqb-true, ne_eqb, eq-eqb, ltb-true, ltb-false, lt-ltb, le-ltb, nat_lt}
use Rattle.std.proofs.lemmas.Bool.{true≢false, not-true, cases_lt, and_parts, or_cases, cases_Bool, and_from, and_left, and_right, not_from_true, not_from_false, cases_eq, eqb-false, or_parts, or_left, or_right}
use Rattle.basics.specs.Texts.{is_blank}
use Rattle.sexpr_text.specs.Comments.{is_parenthesis, in_comment, is_code, is_written, opens_at, closes_at, in_run, StandsBehindSemicolon}
use Rattle.sexpr_text.specs.Runs.{IsRun}
use Rattle.sexpr_text.specs.Scan.{is_separator, IsClear, IsGap}

-- one more byte of a comment
pub comment_more : (text : List ℕ) (i : ℕ) → in_comment text i ≡ true → slice_index text (suc i) ≢ 10 → in_comment text (suc i) ≡ true
unfolding in_comment
comment_more text i inside other =
    and_from _ _ (not_from_false _ (ne_eqb (slice_index text (suc i)) 10 other)) (or_right (slice_index text (suc i) == 59) (in_comment text i) inside)

-- a line feed ends a comment
pub comment_ends : (text : List ℕ) (i : ℕ) → slice_index text (suc i) ≡ 10 → in_comment text (suc i) ≡ false
unfolding in_comment
comment_ends text i feed = and_left _ _ (not_from_true _ (eq-eqb (slice_index text (suc i)) 10 feed))

-- a semicolon is in a comment, wherever it stands
pub comment_begins : (text : List ℕ) (i : ℕ) → slice_index text i ≡ 59 → in_comment text i ≡ true
unfolding in_comment
comment_begins text zero semicolon = eq-eqb (slice_index text 0) 59 semicolon
comment_begins text (suc i) semicolon =
    and_from _ _ (not_from_false _ (ne_eqb (slice_index text (suc i)) 10 (λ feed. omega (arith, feed, semicolon)))) (or_left (slice_index text (suc i) == 59) (in_comment text i) (eq-eqb (slice_index text (suc i)) 59 semicolon))

-- behind a byte that is in no comment, a comment only begins
pub comment_after : (text : List ℕ) (i : ℕ) → in_comment text i ≡ false → in_comment text (suc i) ≡ (slice_index text (suc i) == 59)
unfolding in_comment
comment_after text i outside =
    elim (cases_eq (slice_index text (suc i)) 59) [
      | inl semicolon ↦ comment_begins text (suc i) semicolon ∙ sym (eq-eqb (slice_index text (suc i)) 59 semicolon)
      | inr other ↦ let no : (slice_index text (suc i) == 59) ≡ false = ne_eqb (slice_index text (suc i)) 59 other in
          and_right (not (slice_index text (suc i) == 10)) ((slice_index text (suc i) == 59) || in_comment text i) (rw (no, outside) refl) ∙ sym no
    ]

-- a byte of the text in no comment
pub code_from : (text : List ℕ) (i : ℕ) → i < length text → in_comment text i ≡ false → is_code text i ≡ true
unfolding is_code
code_from text i inside outside = and_from _ _ (lt-ltb i (length text) inside) (not_from_false _ outside)

pub code_inside : (text : List ℕ) (i : ℕ) → is_code text i ≡ true → i < length text
unfolding is_code
code_inside text i code = ltb-true i (length text) (and_parts _ _ code).0

pub comment_no_code : (text : List ℕ) (i : ℕ) → in_comment text i ≡ true → is_code text i ≡ false
unfolding is_code
comment_no_code text i inside = and_right (nat_lt i (length text)) (not (in_comment text i)) (not_from_true _ inside)

pub past_no_code : (text : List ℕ) (i : ℕ) → length text ≤ i → is_code text i ≡ false
unfolding is_code
past_no_code text i past = and_left _ _ (le-ltb i (length text) past)

-- what is written is code and no blank
pub written_code : (text : List ℕ) (i : ℕ) → is_written text i ≡ true → is_code text i ≡ true
unfolding is_written
written_code text i written = (and_parts _ _ written).0

pub no_code_no_written : (text : List ℕ) (i : ℕ) → is_code text i ≡ false → is_written text i ≡ false
unfolding is_written
no_code_no_written text i absent = and_left _ _ absent

pub blank_no_written : (text : List ℕ) (i : ℕ) → is_blank (slice_index text i) ≡ true → is_written text i ≡ false
unfolding is_written
blank_no_written text i blank = and_right (is_code text i) (not (is_blank (slice_index text i))) (not_from_true _ blank)

pub run_written : (text : List ℕ) (i : ℕ) → in_run text i ≡ true → is_written text i ≡ true
unfolding in_run
run_written text i run = (and_parts _ _ run).0

pub no_written_no_run : (text : List ℕ) (i : ℕ) → is_written text i ≡ false → in_run text i ≡ false
unfolding in_run
no_written_no_run text i absent = and_left _ _ absent

pub parenthesis_no_run : (text : List ℕ) (i : ℕ) → is_parenthesis (slice_index text i) ≡ true → in_run text i ≡ false
unfolding in_run
parenthesis_no_run text i paren = and_right (is_written text i) (not (is_parenthesis (slice_index text i))) (not_from_true _ paren)

pub run_from : (text : List ℕ) (i : ℕ) → is_code text i ≡ true → is_separator (slice_index text i) ≡ false → in_run text i ≡ true
unfolding in_run is_written
run_from text i code other =
    let parts = or_parts (is_blank (slice_index text i)) (is_parenthesis (slice_index text i) || (slice_index text i == 59)) other in
    and_from _ _ (and_from _ _ code (not_from_false _ parts.0)) (not_from_false _ (or_parts _ _ parts.1).0)

pub in_run_inside : (text : List ℕ) (i : ℕ) → in_run text i ≡ true → i < length text
in_run_inside text i run = code_inside text i (written_code text i (run_written text i run))

-- a list opens at the place
pub opens_byte : (text : List ℕ) (i : ℕ) → opens_at text i ≡ true → slice_index text i ≡ 40
unfolding opens_at
opens_byte text i opens = eqb-true _ _ (and_parts _ _ opens).1

pub opens_code : (text : List ℕ) (i : ℕ) → opens_at text i ≡ true → is_code text i ≡ true
unfolding opens_at
opens_code text i opens = (and_parts _ _ opens).0

pub opens_from : (text : List ℕ) (i : ℕ) → is_code text i ≡ true → slice_index text i ≡ 40 → opens_at text i ≡ true
unfolding opens_at
opens_from text i code byte = and_from _ _ code (eq-eqb _ _ byte)

pub closes_byte : (text : List ℕ) (i : ℕ) → closes_at text i ≡ true → slice_index text i ≡ 41
unfolding closes_at
closes_byte text i closes = eqb-true _ _ (and_parts _ _ closes).1

pub closes_code : (text : List ℕ) (i : ℕ) → closes_at text i ≡ true → is_code text i ≡ true
unfolding closes_at
closes_code text i closes = (and_parts _ _ closes).0

pub closes_from : (text : List ℕ) (i : ℕ) → is_code text i ≡ true → slice_index text i ≡ 41 → closes_at text i ≡ true
unfolding closes_at
closes_from text i code byte = and_from _ _ code (eq-eqb _ _ byte)

-- a parenthesis outside comments is written
pub paren_written : (text : List ℕ) (i : ℕ) → is_code text i ≡ true → is_parenthesis (slice_index text i) ≡ true → is_written text i ≡ true
unfolding is_written
paren_written text i code paren =
    and_from _ _ code (not_from_false _ (elim (or_cases (slice_index text i == 40) (slice_index text i == 41) paren) [
      | inl e ↦ let byte : slice_index text i ≡ 40 = eqb-true _ _ e in rw byte refl
      | inr e ↦ let byte : slice_index text i ≡ 41 = eqb-true _ _ e in rw byte refl
    ]))

opens_paren : (text : List ℕ) (i : ℕ) → opens_at text i ≡ true → is_parenthesis (slice_index text i) ≡ true
opens_paren text i opens = let byte = opens_byte text i opens in rw byte refl

closes_paren : (text : List ℕ) (i : ℕ) → closes_at text i ≡ true → is_parenthesis (slice_index text i) ≡ true
closes_paren text i closes = let byte = closes_byte text i closes in rw byte refl

pub opens_written : (text : List ℕ) (i : ℕ) → opens_at text i ≡ true → is_written text i ≡ true
opens_written text i opens = paren_written text i (opens_code text i opens) (opens_paren text i opens)

pub closes_written : (text : List ℕ) (i : ℕ) → closes_at text i ≡ true → is_written text i ≡ true
closes_written text i closes = paren_written text i (closes_code text i closes) (closes_paren text i closes)

pub opens_no_run : (text : List ℕ) (i : ℕ) → opens_at text i ≡ true → in_run text i ≡ false
opens_no_run text i opens = parenthesis_no_run text i (opens_paren text i opens)

pub closes_no_run : (text : List ℕ) (i : ℕ) → closes_at text i ≡ true → in_run text i ≡ false
closes_no_run text i closes = parenthesis_no_run text i (closes_paren text i closes)

pub opens_no_closes : (text : List ℕ) (i : ℕ) → opens_at text i ≡ true → closes_at text i ≡ true → ⊥
opens_no_closes text i opens closes = omega (arith, opens_byte text i opens, closes_byte text i closes)

-- ---- clear places

-- the place behind a byte that is in no run and no comment
pub clear_after : (text : List ℕ) (i : ℕ) → in_run text i ≡ false → in_comment text i ≡ false → IsClear text (suc i)
clear_after text i no_run outside = record {
  run = λ k e _. let same : k ≡ i = omega arith in rw same no_run;
  comment = λ _. comment_after text i outside;
}

outside_at : (text : List ℕ) (at b : ℕ) → at < length text → IsClear text at → slice_index text at ≡ b → (b == 59) ≡ false → in_comment text at ≡ false
outside_at text at b inside clear byte other = clear.comment inside ∙ ap (λ x. x == 59) byte ∙ other

pub gap_blank : (text : List ℕ) (at : ℕ) → at < length text → IsClear text at → is_blank (slice_index text at) ≡ true → (slice_index text at == 59) ≡ false → IsGap text at (suc at)
gap_blank text at inside clear blank other =
    let none = blank_no_written text at blank in
    record {
      some = omega arith;
      within = omega arith;
      nothing = λ k low high. let same : k ≡ at = omega arith in rw same none;
      clear = clear_after text at (no_written_no_run text at none) (clear.comment inside ∙ other);
    }

-- up to its line feed a comment goes on
pub comment_lasts : (text : List ℕ) (at n : ℕ) → slice_index text at ≡ 59 → ((k : ℕ) → at ≤ k → k < at + suc n → slice_index text k ≢ 10) → in_comment text (at + n) ≡ true
comment_lasts text at zero semicolon none = let e : at + 0 ≡ at = omega arith in rw e (comment_begins text at semicolon)
comment_lasts text at (suc n) semicolon none =
    let e : at + suc n ≡ suc (at + n) = omega arith in
    let none' : slice_index text (suc (at + n)) ≢ 10 = none (suc (at + n)) (omega arith) (omega arith) in
    rw e (comment_more text (at + n) (comment_lasts text at n semicolon (λ k low high. none k low (omega arith))) none')

pub gap_comment : (text : List ℕ) (at end : ℕ) → slice_index text at ≡ 59 → at < end → end ≤ length text → ((k : ℕ) → at ≤ k → k < end → slice_index text k ≢ 10) → (end < length text → slice_index text end ≡ 10) → IsGap text at end
gap_comment text at end semicolon after within before found =
    let inside : (k : ℕ) → at ≤ k → k < end → in_comment text k ≡ true = λ k low high.
    let e : at + (k - at) ≡ k = omega arith in
    subst (λ i. in_comment text i ≡ true) e (comment_lasts text at (k - at) semicolon (λ j l h. before j l (omega arith))) in
    let none : (k : ℕ) → at ≤ k → k < end → is_written text k ≡ false = λ k low high. no_code_no_written text k (comment_no_code text k (inside k low high)) in
    record {
      some = after;
      within = within;
      nothing = none;
      clear = record {
        run = λ k e _. no_written_no_run text k (none k (omega arith) (omega arith));
        comment = λ more.
            let last : suc (end - 1) ≡ end = omega arith in
            let feed = found more in
            let ends : in_comment text end ≡ false = subst (λ i. in_comment text i ≡ false) last (comment_ends text (end - 1) (ap (slice_index text) last ∙ feed)) in
            ends ∙ sym (rw feed refl);
      };
    }

pub piece_open : (text : List ℕ) (at : ℕ) → at < length text → IsClear text at → slice_index text at ≡ 40 → (opens_at text at ≡ true) × IsClear text (suc at)
piece_open text at inside clear byte =
    let outside = outside_at text at 40 inside clear byte refl in
    let opens = opens_from text at (code_from text at inside outside) byte in
    (opens, clear_after text at (opens_no_run text at opens) outside)

pub piece_close : (text : List ℕ) (at : ℕ) → at < length text → IsClear text at → slice_index text at ≡ 41 → (closes_at text at ≡ true) × IsClear text (suc at)
piece_close text at inside clear byte =
    let outside = outside_at text at 41 inside clear byte refl in
    let closes = closes_from text at (code_from text at inside outside) byte in
    (closes, clear_after text at (closes_no_run text at closes) outside)

no_semicolon : (b : ℕ) → is_separator b ≡ false → (b == 59) ≡ false
no_semicolon b other = (or_parts (is_parenthesis b) (b == 59) (or_parts (is_blank b) (is_parenthesis b || (b == 59)) other).1).1

-- from a byte of a run on, no comment begins
run_outside : (text : List ℕ) (at n : ℕ) → in_comment text at ≡ false → ((k : ℕ) → at ≤ k → k < at + suc n → is_separator (slice_index text k) ≡ false) → in_comment text (at + n) ≡ false
run_outside text at zero outside none = let e : at + 0 ≡ at = omega arith in rw e outside
run_outside text at (suc n) outside none =
    let e : at + suc n ≡ suc (at + n) = omega arith in
    let before = run_outside text at n outside (λ k low high. none k low (omega arith)) in
    rw e (comment_after text (at + n) before ∙ no_semicolon _ (none (suc (at + n)) (omega arith) (omega arith)))

separator_no_run : (text : List ℕ) (i : ℕ) → (i < length text → in_comment text i ≡ (slice_index text i == 59)) → (i < length text → is_separator (slice_index text i) ≡ true) → in_run text i ≡ false
separator_no_run text i comment found =
    elim (cases_Bool (nat_lt i (length text))) [
      | inl inside ↦
          let within = ltb-true i (length text) inside in
          elim (or_cases (is_blank (slice_index text i)) (is_parenthesis (slice_index text i) || (slice_index text i == 59)) (found within)) [
            | inl blank ↦ no_written_no_run text i (blank_no_written text i blank)
            | inr more ↦ elim (or_cases (is_parenthesis (slice_index text i)) (slice_index text i == 59) more) [
              | inl paren ↦ parenthesis_no_run text i paren
              | inr semicolon ↦ no_written_no_run text i (no_code_no_written text i (comment_no_code text i (comment within ∙ semicolon)))
            ]
          ]
      | inr past ↦ no_written_no_run text i (no_code_no_written text i (past_no_code text i (ltb-false i (length text) past)))
    ]

pub piece_run : (text : List ℕ) (at end : ℕ) → at < end → end ≤ length text → IsClear text at → ((k : ℕ) → at ≤ k → k < end → is_separator (slice_index text k) ≡ false) → (end < length text → is_separator (slice_index text end) ≡ true) → IsRun text at end × (end ≤ length text) × IsClear text end
piece_run text at end after within clear before found =
    let outside : in_comment text at ≡ false = clear.comment (omega arith) ∙ no_semicolon _ (before at (omega arith) after) in
    let outsides : (k : ℕ) → at ≤ k → k < end → in_comment text k ≡ false = λ k low high.
    let e : at + (k - at) ≡ k = omega arith in
    subst (λ i. in_comment text i ≡ false) e (run_outside text at (k - at) outside (λ j l h. before j l (omega arith))) in
    let each : (k : ℕ) → at ≤ k → k < end → in_run text k ≡ true = λ k low high.
    run_from text k (code_from text k (omega arith) (outsides k low high)) (before k low high) in
    let last : suc (end - 1) ≡ end = omega arith in
    let comment : in_comment text end ≡ (slice_index text end == 59) =
    subst (λ i. in_comment text i ≡ (slice_index text i == 59)) last (comment_after text (end - 1) (outsides (end - 1) (omega arith) (omega arith))) in
    let ends = separator_no_run text end (λ _. comment) found in (
      record { some = after; each = each; begins = λ k e. clear.run k e (each at (omega arith) after); ends = ends },
      within,
      record { run = λ k e runs. absurd (true≢false (sym runs ∙ ends)); comment = λ _. comment },
    )

pub blank_no_semicolon : (b : ℕ) → is_blank b ≡ true → (b == 59) ≡ false
blank_no_semicolon b blank = ne_eqb b 59 (λ e. true≢false (sym blank ∙ ap is_blank e))

-- a byte is in a comment exactly where a semicolon stands before it on its line
pub semicolon_before : (text : List ℕ) (place : ℕ) → in_comment text place ≡ true → StandsBehindSemicolon text place
unfolding in_comment
semicolon_before text zero e =
    let here = eqb-true (slice_index text 0) 59 e in
    record { semicolon = 0; before = omega arith; here = here; same_line = λ k low high feed. let same : k ≡ 0 = omega arith in omega (arith, here, ap (slice_index text) (sym same) ∙ feed) }
semicolon_before text (suc i) e =
    let parts = and_parts (not (slice_index text (suc i) == 10)) ((slice_index text (suc i) == 59) || in_comment text i) e in
    let no_feed : slice_index text (suc i) ≢ 10 = eqb-false (slice_index text (suc i)) 10 (not-true (slice_index text (suc i) == 10) parts.0) in
    elim (or_cases (slice_index text (suc i) == 59) (in_comment text i) parts.1) [
      | inl here ↦ record { semicolon = suc i; before = omega arith; here = eqb-true _ _ here; same_line = λ k low high. let same : k ≡ suc i = omega arith in rw same no_feed }
      | inr inside ↦
          let more = semicolon_before text i inside in
          record {
            semicolon = more.semicolon;
            before = omega (arith, more.before);
            here = more.here;
            same_line = λ k low high. elim (cases_lt k (suc i)) [
              | inl lt ↦ more.same_line k low (omega arith)
              | inr ge ↦ let same : k ≡ suc i = omega arith in rw same no_feed
            ];
          }
    ]

pub comment_from_semicolon : (text : List ℕ) (place : ℕ) → StandsBehindSemicolon text place → in_comment text place ≡ true
comment_from_semicolon text place s =
    let before = s.before in
    let e : s.semicolon + (place - s.semicolon) ≡ place = omega arith in
    subst (λ i. in_comment text i ≡ true) e (comment_lasts text s.semicolon (place - s.semicolon) s.here (λ k low high. s.same_line k low (omega arith)))
