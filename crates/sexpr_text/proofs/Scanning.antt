-- What one step over a text keeps.
use Rattle.std.proofs.Common.{◌≡◌, ℕ, suc, ◌+◌, ◌-◌, ◌<◌, ◌≤◌, true, List, [], ◌∷◌, ◌++◌, length, slice_range, Ok, refl, subst, arith}
use Rattle.sexpr_text.specs.declared.token.Token.{Token}
use Rattle.sexpr_text.specs.declared.token.TokenKind.{TokenKind}
use Rattle.sexpr_text.specs.declared.token.TokenKind.TheVariants.{Open, Close}
use Rattle.sexpr_text.specs.Comments.{in_comment, opens_at, closes_at}
use Rattle.sexpr_text.specs.Runs.{IsRun, reading}
use Rattle.sexpr_text.specs.Token.{IsSpan, AreSpans}
use Rattle.sexpr_text.specs.Scan.{IsClear, IsGap, Heights, Scanned, AreNumbered, AreUnmated}
use Rattle.sexpr_text.proofs.Places.{opens_code, closes_code, code_inside}
use Rattle.sexpr_text.proofs.Heights.{heights_start, heights_over, heights_open, heights_first, heights_close, nothing_no_parentheses, run_no_parentheses}
use Rattle.sexpr_text.proofs.Spans.{spans_gap, spans_push, length-spans, run_is_span}

numbered_push : (number : ℕ) (ts : List Token) (t : Token) → AreNumbered number ts → t.mate ≡ number + length ts → AreNumbered number (ts ++ t ∷ [])
numbered_push number [] t h e = (omega arith, tt)
numbered_push number (u ∷ us) t h e = (h.0, numbered_push (suc number) us t h.1 (omega arith))

pub scanned_same : (text : List ℕ) (at at' depth depth' outer outer' : ℕ) (ts ts' : List Token) → at' ≡ at → depth' ≡ depth → outer' ≡ outer → ts' ≡ ts → Scanned text at depth outer ts → Scanned text at' depth' outer' ts'
scanned_same text at at' depth depth' outer outer' ts ts' a d o t h = rw (a, d, o, t) h

-- at most as many tokens as bytes
pub scanned_few : (text : List ℕ) (at depth outer : ℕ) (ts : List Token) → Scanned text at depth outer ts → length ts ≤ length text
scanned_few text at depth outer ts h = omega (arith, length-spans text 0 at ts h.spans, h.within)

pub scanned_gap : (text : List ℕ) (at end depth outer : ℕ) (ts : List Token) → Scanned text at depth outer ts → IsGap text at end → Scanned text end depth outer ts
scanned_gap text at end depth outer ts h gap =
    let le : at ≤ end = omega (arith, gap.some) in
    record {
      within = gap.within;
      clear = gap.clear;
      spans = spans_gap text 0 at end ts h.spans le gap.nothing;
      numbered = h.numbered;
      heights = heights_over text at end depth outer h.heights le (nothing_no_parentheses text at end gap.nothing);
    }

-- one more token
scanned_push : (text : List ℕ) (at end depth outer depth' outer' : ℕ) (kind : TokenKind) (ts : List Token) → Scanned text at depth outer ts → IsSpan text at end kind → end ≤ length text → IsClear text end → Heights text end depth' outer' →
    Scanned text end depth' outer' (ts ++ record { kind = kind; at = at; end = end; mate = length ts } ∷ [])
scanned_push text at end depth outer depth' outer' kind ts h span within clear heights =
    let t : Token = record { kind = kind; at = at; end = end; mate = length ts } in
    record {
      within = within;
      clear = clear;
      spans = spans_push text 0 at ts t h.spans refl span;
      numbered = numbered_push 0 ts t h.numbered (omega arith);
      heights = heights;
    }

pub scanned_open : (text : List ℕ) (at depth outer : ℕ) (ts : List Token) → Scanned text at depth outer ts → opens_at text at ≡ true → IsClear text (suc at) → 0 < depth → depth < 64 →
    Scanned text (suc at) (suc depth) outer (ts ++ record { kind = Open; at = at; end = suc at; mate = length ts } ∷ [])
scanned_open text at depth outer ts h opens clear some few =
    let inside = code_inside text at (opens_code text at opens) in
    scanned_push text at (suc at) depth outer (suc depth) outer Open ts h (opens, refl) (omega arith) clear (heights_open text at depth outer h.heights opens some few)

pub scanned_first : (text : List ℕ) (at outer : ℕ) (ts : List Token) → Scanned text at 0 outer ts → opens_at text at ≡ true → IsClear text (suc at) →
    Scanned text (suc at) 1 at (ts ++ record { kind = Open; at = at; end = suc at; mate = length ts } ∷ [])
scanned_first text at outer ts h opens clear =
    let inside = code_inside text at (opens_code text at opens) in
    scanned_push text at (suc at) 0 outer 1 at Open ts h (opens, refl) (omega arith) clear (heights_first text at outer h.heights opens)

pub scanned_close : (text : List ℕ) (at depth outer : ℕ) (ts : List Token) → Scanned text at depth outer ts → closes_at text at ≡ true → IsClear text (suc at) → 0 < depth →
    Scanned text (suc at) (depth - 1) outer (ts ++ record { kind = Close; at = at; end = suc at; mate = length ts } ∷ [])
scanned_close text at depth outer ts h closes clear some =
    let inside = code_inside text at (closes_code text at closes) in
    let e : depth ≡ suc (depth - 1) = omega arith in
    let heights = subst (λ d. Heights text at d outer) e h.heights in
    scanned_push text at (suc at) depth outer (depth - 1) outer Close ts h (closes, refl) (omega arith) clear (heights_close text at (depth - 1) outer heights closes)

-- what a run spells is no parenthesis, so that its span is that of a run
pub scanned_run : (text : List ℕ) (at end depth outer : ℕ) (kind : TokenKind) (ts : List Token) → Scanned text at depth outer ts → IsRun text at end → reading (slice_range text at end) ≡ Ok kind → end ≤ length text → IsClear text end →
    Scanned text end depth outer (ts ++ record { kind = kind; at = at; end = end; mate = length ts } ∷ [])
scanned_run text at end depth outer kind ts h run spells within clear =
    scanned_push text at end depth outer depth outer kind ts h (run_is_span text at end kind run spells) within clear
    (heights_over text at end depth outer h.heights (omega (arith, run.some)) (run_no_parentheses text at end run))

pub scanned_start : (text : List ℕ) (outer : ℕ) → Scanned text 0 0 outer []
unfolding in_comment
scanned_start text outer = record {
  within = omega arith;
  clear = record { run = λ k e. absurd (omega arith); comment = λ _. refl };
  spans = (omega arith, λ k low high. absurd (omega arith));
  numbered = tt;
  heights = heights_start text outer;
}

-- at the end of the text no list is open
pub scanned_end : (text : List ℕ) (at outer : ℕ) (ts : List Token) → Scanned text at 0 outer ts → length text ≤ at → AreUnmated text ts
scanned_end text at outer ts h past =
    let within = h.within in
    let e : at ≡ length text = omega arith in
    let counted = h.heights.counted in
    record {
      spans = subst (λ i. AreSpans text 0 i ts) e h.spans;
      numbered = h.numbered;
      even = rw (← e) (omega arith);
      never_below = λ n le. h.heights.never_below n (omega arith);
      shallow = λ place deep. let inside = code_inside text place (opens_code text place deep.opens) in h.heights.shallow place (omega arith) deep;
    }
