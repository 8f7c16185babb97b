-- Believed: the words of the notation, and those that begin a list which is left out.
use Rattle.std.specs.Prelude.{ℕ, Bool, true, false, ◌||◌, List}
use Rattle.std.specs.Str.{str_eq_ignore_ascii_case}
use lib.Chars.{codes}
use Rattle.sexpr_text.specs.declared.token.TokenKind.{TokenKind}
use Rattle.sexpr_text.specs.declared.token.TokenKind.TheVariants.{Name, Variable, Keyword, Number, Time, Close}

-- the same word, but for upper and lower case
abbrev pub same_word : List ℕ → List ℕ → Bool
same_word word other = str_eq_ignore_ascii_case word other

abbrev pub is_name : TokenKind → Bool
is_name Name = true
is_name kind = false

abbrev pub is_variable : TokenKind → Bool
is_variable Variable = true
is_variable kind = false

abbrev pub is_number : TokenKind → Bool
is_number Number = true
is_number kind = false

abbrev pub is_keyword : TokenKind → Bool
is_keyword Keyword = true
is_keyword kind = false

abbrev pub is_time : TokenKind → Bool
is_time Time = true
is_time kind = false

-- a name, a variable or the end of a list
abbrev pub is_term_or_end : TokenKind → Bool
is_term_or_end Name = true
is_term_or_end Variable = true
is_term_or_end Close = true
is_term_or_end kind = false

-- words that begin left-out types, effects and sections
abbrev pub is_left_out_list : List ℕ → Bool
is_left_out_list word =
    same_word word (codes "either") || (same_word word (codes "when") || (same_word word (codes "scale-up")
    || (same_word word (codes "scale-down") || same_word word (codes ":derived"))))

-- words that begin left-out constraints and sections
abbrev pub is_left_out_formula : List ℕ → Bool
is_left_out_formula word =
    same_word word (codes "always-within") || (same_word word (codes "hold-during") || (same_word word (codes "hold-after")
    || (same_word word (codes ":process") || same_word word (codes ":event"))))

-- words that begin a left-out list wherever it stands
unfoldable pub is_left_out : List ℕ → Bool
is_left_out word = is_left_out_list word || is_left_out_formula word

-- words that begin a left-out list in a condition
unfoldable pub is_left_out_of_condition : List ℕ → Bool
is_left_out_of_condition word =
    is_left_out word || (same_word word (codes "or") || (same_word word (codes "imply") || (same_word word (codes "exists")
    || same_word word (codes "preference"))))
