-- What a scan of a line finds, and that it finds all that is there.
use Rattle.std.proofs.Common.{◌≡◌, ℕ, ◌+◌, ◌-◌, ◌<◌, ◌≤◌, true, false, cond, List, [], ◌∷◌, ◌++◌, length, take, nat_eq, refl, ap, ◌∙◌, arith, length-append}
use Rattle.std.proofs.Math.Seq.{take-append_seam}
use Rattle.std.specs.List.{list_all}
use Rattle.basics.specs.Texts.{is_blank}
use Rattle.plan_files.specs.Lines.{before, lines_of, with_front, written_from}
use Rattle.plan_files.specs.Tokens.{is_run_byte}
use Rattle.plan_files.specs.LineScan.{run_in_front, skip_run, skip_to, tail_of, behind_line}

-- a list that is a front and a rest is no shorter than the rest, and its front is what is left without it
pub rest_within : (line front rest : List ℕ) → line ≡ front ++ rest → length rest ≤ length line
rest_within line front rest e = omega (arith, length-append front rest, ap length e)

pub front_taken : (line front rest : List ℕ) → line ≡ front ++ rest → take (length line - length rest) line ≡ front
front_taken line front rest e =
    let size : length line - length rest ≡ length front = omega (arith, length-append front rest, ap length e) in
    rw size (rw e (take-append_seam front rest))

pub run_splits : (line : List ℕ) → line ≡ run_in_front line ++ skip_run line
run_splits [] = refl
run_splits (b ∷ bs) = elim (is_run_byte b) as (λ t. b ∷ bs ≡ cond t (b ∷ run_in_front bs) [] ++ cond t (skip_run bs) (b ∷ bs)) [ true ↦ ap (λ l. b ∷ l) (run_splits bs) | false ↦ refl ]

pub before_splits : (byte : ℕ) (text : List ℕ) → text ≡ before byte text ++ skip_to byte text
before_splits byte [] = refl
before_splits byte (b ∷ bs) = elim (nat_eq b byte) as (λ t. b ∷ bs ≡ cond t [] (b ∷ before byte bs) ++ cond t (b ∷ bs) (skip_to byte bs)) [ true ↦ refl | false ↦ ap (λ l. b ∷ l) (before_splits byte bs) ]

lines_behind : List ℕ → List (List ℕ)
lines_behind [] = []
lines_behind (b ∷ bs) = lines_of bs

lines_split : (text : List ℕ) → lines_of text ≡ before 10 text ∷ lines_behind (skip_to 10 text)
unfolding lines_behind
lines_split [] = refl
lines_split (b ∷ bs) =
    elim (nat_eq b 10) as (λ t. cond t ([] ∷ lines_of bs) (with_front b (lines_of bs)) ≡ cond t [] (b ∷ before 10 bs) ∷ lines_behind (cond t (b ∷ bs) (skip_to 10 bs))) [ true ↦ refl | false ↦ ap (with_front b) (lines_split bs) ]

-- no line at all is as good as a blank one
written_behind : (number : ℕ) (line rest : List ℕ) → written_from number (line ∷ lines_behind rest) ≡ written_from number (line ∷ lines_of (tail_of rest))
unfolding lines_behind
written_behind number line [] = refl
written_behind number line (b ∷ bs) = refl

-- the written lines of a text are that of its first line, if it isn't blank, and those behind it
pub written_split : (number : ℕ) (text : List ℕ) → written_from number (lines_of text) ≡ written_from number (before 10 text ∷ lines_of (behind_line text))
written_split number text = ap (written_from number) (lines_split text) ∙ written_behind number (before 10 text) (skip_to 10 text)

tail_within : (bs : List ℕ) → length (tail_of bs) ≤ length bs
tail_within [] = omega arith
tail_within (b ∷ bs) = omega arith

skipped_within : (byte b : ℕ) (bs : List ℕ) → length (tail_of (skip_to byte (b ∷ bs))) ≤ length bs
skipped_within byte b bs =
    let fewer : length (tail_of (skip_to byte bs)) ≤ length bs = omega (arith, tail_within (skip_to byte bs), rest_within bs (before byte bs) (skip_to byte bs) (before_splits byte bs)) in
    elim (nat_eq b byte) as (λ t. length (tail_of (cond t (b ∷ bs) (skip_to byte bs))) ≤ length bs) [ true ↦ omega arith | false ↦ fewer ]

-- a line and its line feed take at least a byte, where there is one
pub behind_line_within : (text : List ℕ) → 0 < length text → length (behind_line text) + 1 ≤ length text
behind_line_within [] some = absurd (omega arith)
behind_line_within (b ∷ bs) some = omega (arith, skipped_within 10 b bs)

-- a blank line is passed over
pub written_blank : (number : ℕ) (text first line rest : List ℕ) → first ≡ before 10 text → line ≡ before 59 first → rest ≡ behind_line text → list_all is_blank line ≡ true
    → written_from number (lines_of text) ≡ written_from (number + 1) (lines_of rest)
written_blank number text first line rest e f g blank =
    let all : list_all is_blank (before 59 (before 10 text)) ≡ true = rw (f, e) at blank in
    rw g (written_split number text ∙ rw all refl)

-- another line is the first that is written
pub written_next : (number : ℕ) (text first line rest : List ℕ) → first ≡ before 10 text → line ≡ before 59 first → rest ≡ behind_line text → list_all is_blank line ≡ false
    → written_from number (lines_of text) ≡ (number, line) ∷ written_from (number + 1) (lines_of rest)
written_next number text first line rest e f g written =
    let some : list_all is_blank (before 59 (before 10 text)) ≡ false = rw (f, e) at written in
    rw (g, f, e) (written_split number text ∙ rw some refl)
