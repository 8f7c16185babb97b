-- Believed: how the words of a command are read.
use Rattle.std.specs.Prelude.{ℕ, Bool, List, [], ◌∷◌, ◌++◌, Option, Some, None, if◌then◌else◌, option_and_then, option_map, find, map, String, string_bytes}
use Rattle.std.specs.declared.alloc.Global.{Global}
use Rattle.std.specs.List.{list_all, list_any}
use Rattle.std.specs.Str.{bytes_eq}
use Rattle.clap.specs.Lexer.{long_of, short_of}

abbrev pub Text : Type 0
Text = List ℕ

-- the bytes of each word
abbrev pub texts : List (String Global) → List Text
texts words = map string_bytes words

-- what a command takes: its name, the names of its words, and those of its options, each with one value
pub record Form : Type 0 where
  pub name : Text
  pub places : List Text
  pub options : List Text

-- names with the texts that they were given, in the order of the words
abbrev pub Pairs : Type 0
Pairs = List (Text × Text)

abbrev pub has_text : Text → Pairs → Bool
has_text name seen = list_any (λ g. bytes_eq g.0 name) seen

-- the name is given this text, which it may be once
abbrev pub give : Text → Text → Pairs → Option Pairs
give name text seen = if has_text name seen then None else Some (seen ++ (name, text) ∷ [])

abbrev pub is_option : List Text → Text → Bool
is_option options name = list_any (λ o. bytes_eq o name) options

-- `--`
abbrev pub dashes : Text
dashes = 45 ∷ 45 ∷ []

-- behind `--` each word goes to the next place
unfoldable pub places_read : List Text → List Text → Pairs → Option Pairs
places_read left [] seen = Some seen
places_read [] (word ∷ rest) seen = None
places_read (place ∷ left) (word ∷ rest) seen = option_and_then (places_read left rest) (give place word seen)

-- `--name=value`, or `--name` before its value
abbrev pub option_read : List Text → Text → Option Text → Pairs → (Option Text → Pairs → Option Pairs) → Option Pairs
option_read options name (Some value) seen next =
    if is_option options name then option_and_then (next None) (give name value seen) else None
option_read options name None seen next = if is_option options name then next (Some name) seen else None

-- a word goes to the next place
abbrev pub place_read : List Text → Text → Pairs → (List Text → Pairs → Option Pairs) → Option Pairs
place_read [] word seen next = None
place_read (place ∷ left) word seen next = option_and_then (next left) (give place word seen)

-- a word by its looks: an option; a dash and more, which no command has; or any other word
abbrev pub word_read : List Text → List Text → Text → Option (Text × Option Text) → Option Text → Pairs
    → (List Text → Option Text → Pairs → Option Pairs) → Option Pairs
word_read options left word (Some p) short seen next = option_read options p.0 p.1 seen (next left)
word_read options left word None (Some flags) seen next = None
word_read options left word None None seen next = place_read left word seen (λ more. next more None)

-- the word that an option waits for begins with no dash, or is a dash alone
abbrev pub value_read : Text → Text → Option (Text × Option Text) → Option Text → Pairs → (Pairs → Option Pairs) → Option Pairs
value_read name word (Some p) short seen next = None
value_read name word None (Some flags) seen next = None
value_read name word None None seen next = option_and_then next (give name word seen)

-- The texts of the names, from the places that are left, the option that waits for its value, the words, and the texts
-- so far.
unfoldable pub words_read : List Text → List Text → Option Text → List Text → Pairs → Option Pairs
words_read options left None [] seen = Some seen
words_read options left (Some name) [] seen = None
words_read options left None (word ∷ rest) seen =
    if bytes_eq word dashes then places_read left rest seen
    else word_read options left word (long_of word) (short_of word) seen (λ more waiting now. words_read options more waiting rest now)
words_read options left (Some name) (word ∷ rest) seen =
    if bytes_eq word dashes then None
    else value_read name word (long_of word) (short_of word) seen (λ now. words_read options left None rest now)

abbrev pub all_placed : List Text → Option Pairs → Option Pairs
all_placed places None = None
all_placed places (Some seen) = if list_all (λ place. has_text place seen) places then Some seen else None

-- the texts that the words behind a command's name give, where each place has one
abbrev pub texts_given : Form → List Text → Option Pairs
texts_given form words = all_placed form.places (words_read form.options form.places None words [])

-- the text that a name was given
abbrev pub text_of : Text → Pairs → Option Text
text_of name seen = option_map (λ g. g.1) (find (λ g. bytes_eq g.0 name) seen)
