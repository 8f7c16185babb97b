-- Where the first fault of a text is.
use Rattle.std.proofs.Common.{◌≡◌, ℕ, suc, ◌<◌, ◌≤◌, true, List, length, refl, inl, inr, arith}
use Rattle.std.proofs.lemmas.Bool.{cases_lt}
use Rattle.sexpr_text.specs.declared.token.Token.{Token}
use Rattle.sexpr_text.specs.declared.fault.LexFault.{LexFault}
use Rattle.sexpr_text.specs.declared.fault.LexFault.TheVariants.{Byte, Open, Close, Deep, LongName, Number, Memory}
use Rattle.sexpr_text.specs.declared.run.RunFault.{RunFault}
use Rattle.sexpr_text.specs.declared.run.RunFault.TheVariants as of_run
use Rattle.sexpr_text.specs.Comments.{closes_at}
use Rattle.sexpr_text.specs.Lists.{opened, closed, IsDeep}
use Rattle.sexpr_text.specs.Token.{AreSpans}
use Rattle.sexpr_text.specs.LexFault.{HasRunFault, IsFault, IsFirstFault, place_of, run_fault}
use Rattle.sexpr_text.specs.Scan.{Scanned, AllClose, StaysOpen}
use Rattle.sexpr_text.proofs.Places.{closes_code, code_inside}
use Rattle.sexpr_text.proofs.Heights.{step_open, step_close, closes_again, closes_one}
use Rattle.sexpr_text.proofs.Spans.{run_is_read}

pub place_of-run_fault : (wrong : RunFault) (place : ℕ) → place_of (run_fault wrong place) ≡ place
place_of-run_fault of_run.Unknown place = refl
place_of-run_fault of_run.LongName place = refl
place_of-run_fault of_run.Malformed place = refl

-- what is known of a front part of a text: its tokens, and that its parentheses are right as far as it tells
pub record IsSound (text : List ℕ) (at : ℕ) (tokens : List Token) : Type 0 where
  pub spans : AreSpans text 0 at tokens
  pub never_below : (n : ℕ) → n ≤ at → closed text n ≤ opened text n
  pub shallow : (place : ℕ) → place < at → IsDeep text place → ⊥

-- there no run is wrong
sound_run : (text : List ℕ) (at : ℕ) (tokens : List Token) → IsSound text at tokens → (place : ℕ) (wrong : RunFault) → place < at → HasRunFault text place wrong → ⊥
sound_run text at tokens sound place wrong lt fault = run_is_read text 0 at tokens sound.spans place fault.0 wrong (omega arith) lt fault.1 fault.2

-- and before a place whose lists are all closed later nothing is
pub no_fault_before : (text : List ℕ) (at : ℕ) (tokens : List Token) → IsSound text at tokens → (from n : ℕ) → from ≤ at → from ≤ n → opened text n ≤ closed text n → (wrong : LexFault) → IsFault text wrong → place_of wrong < from → ⊥
no_fault_before text at tokens sound from n le more even (Byte place) fault lt = sound_run text at tokens sound place of_run.Unknown (omega arith) fault
no_fault_before text at tokens sound from n le more even (LongName place) fault lt = sound_run text at tokens sound place of_run.LongName (omega arith) fault
no_fault_before text at tokens sound from n le more even (Number place) fault lt = sound_run text at tokens sound place of_run.Malformed (omega arith) fault
no_fault_before text at tokens sound from n le more even (Open place) fault lt =
    let below = sound.never_below place (omega arith) in
    let found = closes_again text place n fault.0 (omega arith) (omega arith) in
    fault.1 found.0 found.2
no_fault_before text at tokens sound from n le more even (Close place) fault lt =
    let step = step_close text place fault.0 in
    let below = sound.never_below (suc place) (omega arith) in
    let found = closes_one text place fault.0 (omega arith) in
    fault.1 found.0 found.1
no_fault_before text at tokens sound from n le more even (Deep place) fault lt = sound.shallow place (omega arith) fault
no_fault_before text at tokens sound from n le more even Memory fault lt = fault

-- so a fault at such a place is the first
first_at : (text : List ℕ) (at : ℕ) (tokens : List Token) → IsSound text at tokens → (wrong : LexFault) → IsFault text wrong → place_of wrong ≤ at → (n : ℕ) → place_of wrong ≤ n → opened text n ≤ closed text n → IsFirstFault text wrong
first_at text at tokens sound wrong fault le n more even = record {
  fault = fault;
  least = λ other f. elim (cases_lt (place_of other) (place_of wrong)) [
    | inl lt ↦ absurd (no_fault_before text at tokens sound (place_of wrong) n le more even other f lt)
    | inr ge ↦ ge
  ];
}

pub scanned_sound : (text : List ℕ) (at depth outer : ℕ) (tokens : List Token) → Scanned text at depth outer tokens → IsSound text at tokens
scanned_sound text at depth outer tokens s = record { spans = s.spans; never_below = s.heights.never_below; shallow = s.heights.shallow }

-- where no list is open, a fault is the first
pub first_without_lists : (text : List ℕ) (at outer : ℕ) (tokens : List Token) → Scanned text at 0 outer tokens → (wrong : LexFault) → IsFault text wrong → place_of wrong ≡ at → IsFirstFault text wrong
first_without_lists text at outer tokens s wrong fault here =
    first_at text at tokens (scanned_sound text at 0 outer tokens s) wrong fault (omega arith) at (omega arith) (omega (arith, s.heights.counted))

-- where all open lists are closed later, too
pub first_with_lists : (text : List ℕ) (at depth outer : ℕ) (tokens : List Token) → Scanned text at depth outer tokens → AllClose text at → (wrong : LexFault) → IsFault text wrong → place_of wrong ≡ at → IsFirstFault text wrong
first_with_lists text at depth outer tokens s closes wrong fault here =
    first_at text at tokens (scanned_sound text at depth outer tokens s) wrong fault (omega arith) closes.0 (omega (arith, closes.1)) closes.2

-- where a list stays open, the outermost is the first fault
pub first_is_outermost : (text : List ℕ) (at depth outer : ℕ) (tokens : List Token) → Scanned text at depth outer tokens → 0 < depth → StaysOpen text at → IsFirstFault text (Open outer)
first_is_outermost text at depth outer tokens s some stays =
    let o = s.heights.outermost some in
    let step = step_open text outer o.opens in
    first_at text at tokens (scanned_sound text at depth outer tokens s) (Open outer) (
      o.opens,
      λ last m.
          let closing = step_close text last m.closes in
          let inside = code_inside text last (closes_code text last m.closes) in
          let higher : closed text (suc last) < opened text (suc last) = elim (cases_lt at (suc last)) [
            | inl lt ↦ stays (suc last) (omega arith) (omega arith)
            | inr ge ↦ o.stays_open (suc last) (omega (arith, m.order)) ge
          ] in
          omega (arith, m.balanced.even, o.alone),
    )
    (omega (arith, o.before)) outer (omega arith) (omega (arith, o.alone))

-- where no list is open, a closing parenthesis closes none
pub close_unopened : (text : List ℕ) (at outer : ℕ) (tokens : List Token) → Scanned text at 0 outer tokens → closes_at text at ≡ true → IsFault text (Close at)
close_unopened text at outer tokens s closes = (
  closes,
  λ first m.
      let step = step_open text first m.opens in
      let below = s.heights.never_below first (omega (arith, m.order)) in
      omega (arith, m.balanced.even, s.heights.counted),
)

-- at the end of the text an open list is one that is never closed
pub first_at_end : (text : List ℕ) (at depth outer : ℕ) (tokens : List Token) → Scanned text at depth outer tokens → length text ≤ at → 0 < depth → IsFirstFault text (Open outer)
first_at_end text at depth outer tokens s past some =
    first_is_outermost text at depth outer tokens s some (λ n low high.
    let e : n ≡ at = omega arith in
    let counted = s.heights.counted in
    rw e (omega arith))
