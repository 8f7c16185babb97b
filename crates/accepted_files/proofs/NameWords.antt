-- A word that spells a name is, in lower case, a name of a task.
use Rattle.std.proofs.Common.{◌≡◌, ℕ, ◌≤◌, Bool, true, false, not, cond, nat_le, List, [], ◌∷◌, length, drop, Result, Ok, Err, refl, arith}
use Rattle.std.specs.List.{list_all}
use Rattle.std.specs.Char.{is_ascii_alphabetic, is_ascii_uppercase, to_ascii_lowercase}
use Rattle.std.specs.Str.{str_to_ascii_lowercase}
use Rattle.std.proofs.lemmas.Bool.{leb-true}
use Rattle.std.proofs.lemmas.Bool.Decides.{nat_tests}
use Rattle.std.proofs.lemmas.List.{length-map}
use Rattle.basics.specs.Texts.{name_limit, is_name, is_name_byte}
use Rattle.basics.proofs.Bools.{and_left, and_right, and_in}
use Rattle.basics.proofs.Naturals.{le_in}
use Rattle.sexpr_text.specs.declared.token.TokenKind.{TokenKind}
use Rattle.sexpr_text.specs.declared.token.TokenKind.TheVariants.{Name, Variable, Keyword, Number, Mark, Time}
use Rattle.sexpr_text.specs.declared.run.RunFault.{RunFault}
use Rattle.sexpr_text.specs.declared.run.RunFault.TheVariants as of_run
use Rattle.sexpr_text.specs.Runs.{reading, number_reading, is_variable, is_keyword, begins_as_number, is_mark, is_time}
use Rattle.task_types.specs.WellMade.{is_lower_case, is_task_name}

-- ---- what a name was read from

record IsNameWord (run : List ℕ) : Type 0 where
  name : is_name run ≡ true
  short : length run ≤ name_limit

abbrev ReadsName : Result TokenKind RunFault → Type 0
ReadsName result = result ≡ Ok Name

chosen : {P : Type 0} (b : Bool) (x y : Result TokenKind RunFault) → (b ≡ true → ReadsName x → P) → (ReadsName y → P) → ReadsName (cond b x y) → P
chosen true x y f g e = f refl e
chosen false x y f g e = g e

refused : {P : Type 0} (wrong : RunFault) → ReadsName (Err wrong) → P
refused wrong e = absurd cc

other : {P : Type 0} (b : Bool) (kind : TokenKind) (wrong : RunFault) → (ReadsName (Ok kind) → P) → ReadsName (cond b (Ok kind) (Err wrong)) → P
other b kind wrong f = chosen b (Ok kind) (Err wrong) (λ _. f) (refused wrong)

name-word : (run : List ℕ) → reading run ≡ Ok Name → IsNameWord run
unfolding reading
name-word run =
    chosen (is_name run) _ _ (λ n. chosen (nat_le (length run) name_limit) (Ok Name) (Err of_run.LongName)
    (λ s e. record { name = n; short = leb-true (length run) name_limit s }) (refused of_run.LongName))
    (chosen (is_variable run) _ _ (λ _. other (nat_le (length (drop 1 run)) name_limit) Variable of_run.LongName (λ e. absurd cc))
    (chosen (is_keyword run) _ _ (λ _. other (nat_le (length (drop 1 run)) name_limit) Keyword of_run.LongName (λ e. absurd cc))
    (chosen (begins_as_number run) (number_reading run) _ (λ _. other _ Number of_run.Malformed (λ e. absurd cc))
    (chosen (is_mark run) (Ok Mark) _ (λ _ e. absurd cc)
    (other (is_time run) Time of_run.Unknown (λ e. absurd cc))))))

-- ---- in lower case

letter-lower : (b : ℕ) → is_ascii_alphabetic b ≡ true → is_ascii_alphabetic (to_ascii_lowercase b) ≡ true
letter-lower b h = grind (arith, nat_tests)

name_byte-lower : (b : ℕ) → is_name_byte b ≡ true → is_name_byte (to_ascii_lowercase b) ≡ true
name_byte-lower b h = grind (arith, nat_tests)

lower-not_upper : (b : ℕ) → not (is_ascii_uppercase (to_ascii_lowercase b)) ≡ true
lower-not_upper b = grind (arith, nat_tests)

name_bytes-lower : (bs : List ℕ) → list_all is_name_byte bs ≡ true → list_all is_name_byte (str_to_ascii_lowercase bs) ≡ true
name_bytes-lower [] h = refl
name_bytes-lower (b ∷ bs) h = and_in _ _ (name_byte-lower b (and_left _ _ h)) (name_bytes-lower bs (and_right (is_name_byte b) _ h))

lower-case : (bs : List ℕ) → is_lower_case (str_to_ascii_lowercase bs) ≡ true
lower-case [] = refl
lower-case (b ∷ bs) = and_in _ _ (lower-not_upper b) (lower-case bs)

name-lower : (run : List ℕ) → is_name run ≡ true → is_name (str_to_ascii_lowercase run) ≡ true
name-lower [] h = h
name-lower (b ∷ bs) h = and_in _ _ (letter-lower b (and_left _ _ h)) (name_bytes-lower bs (and_right (is_ascii_alphabetic b) _ h))

pub task-name : (run : List ℕ) → reading run ≡ Ok Name → is_task_name (str_to_ascii_lowercase run) ≡ true
task-name run e =
    let w = name-word run e in
    let long : length (str_to_ascii_lowercase run) ≡ length run = length-map run to_ascii_lowercase in
    and_in _ _ (and_in _ _ (name-lower run w.name) (lower-case run))
    (le_in (length (str_to_ascii_lowercase run)) name_limit (let s = w.short in omega (arith, long, s)))
