-- What a token of a number spells.
use Rattle.std.proofs.Common.{◌≡◌, ℕ, ◌≤◌, Bool, true, false, ◌&&◌, nat_le, cond, List, length, drop, Result, Ok, Err, refl}
use Rattle.std.proofs.lemmas.Bool.{and_parts, leb-true}
use Rattle.basics.specs.Texts.{name_limit, digit_limit, is_name, digit_count, is_number}
use Rattle.sexpr_text.specs.declared.token.TokenKind.{TokenKind}
use Rattle.sexpr_text.specs.declared.token.TokenKind.TheVariants.{Name, Variable, Keyword, Number, Mark, Time}
use Rattle.sexpr_text.specs.declared.run.RunFault.{RunFault}
use Rattle.sexpr_text.specs.declared.run.RunFault.TheVariants as of_run
use Rattle.sexpr_text.specs.Runs.{reading, is_variable, is_keyword, begins_as_number, is_mark, is_time}

-- a number of few digits
record IsShort (run : List ℕ) : Type 0 where
  number : is_number run ≡ true
  few : digit_count run ≤ digit_limit

-- a number was read
abbrev Reads : Result TokenKind RunFault → Type 0
Reads result = result ≡ Ok Number

either : {P : Type 0} (b : Bool) (x y : Result TokenKind RunFault) → (Reads x → P) → (Reads y → P) → Reads (cond b x y) → P
either true x y f g e = f e
either false x y f g e = g e

refused : {P : Type 0} (wrong : RunFault) → Reads (Err wrong) → P
refused wrong e = absurd cc

tested : (run : List ℕ) (b : Bool) → (b ≡ true → IsShort run) → Reads (cond b (Ok Number) (Err of_run.Malformed)) → IsShort run
tested run true f e = f refl
tested run false f e = refused of_run.Malformed e

short_of : (run : List ℕ) → (is_number run && nat_le (digit_count run) digit_limit) ≡ true → IsShort run
short_of run h =
    let parts = and_parts (is_number run) (nat_le (digit_count run) digit_limit) h in
    record { number = parts.0; few = leb-true (digit_count run) digit_limit parts.1 }

other : {P : Type 0} (b : Bool) (kind : TokenKind) (wrong : RunFault) → (Reads (Ok kind) → P) → Reads (cond b (Ok kind) (Err wrong)) → P
other b kind wrong f = either b (Ok kind) (Err wrong) f (refused wrong)

short : (run : List ℕ) → reading run ≡ Ok Number → IsShort run
unfolding reading
short run =
    either (is_name run) _ _ (other (nat_le (length run) name_limit) Name of_run.LongName (λ e. absurd cc))
    (either (is_variable run) _ _ (other (nat_le (length (drop 1 run)) name_limit) Variable of_run.LongName (λ e. absurd cc))
    (either (is_keyword run) _ _ (other (nat_le (length (drop 1 run)) name_limit) Keyword of_run.LongName (λ e. absurd cc))
    (either (begins_as_number run) _ _ (tested run (is_number run && nat_le (digit_count run) digit_limit) (short_of run))
    (either (is_mark run) (Ok Mark) _ (λ e. absurd cc)
    (other (is_time run) Time of_run.Unknown (λ e. absurd cc))))))

pub token-number : (run : List ℕ) → reading run ≡ Ok Number → is_number run ≡ true
token-number run e = (short run e).number

pub token-few : (run : List ℕ) → reading run ≡ Ok Number → digit_count run ≤ digit_limit
token-few run e = (short run e).few
