-- Private: the commands as `clap` is told of them, and what it gives at words.
use Rattle.clap.specs.declared.parser.matches.ArgMatches.{ArgMatches}
use Rattle.std.specs.Prelude.{◌≡◌, false, Bool, true, List, map, fold, Option, Some, None}
use Rattle.clap.specs.Words.{App, Rule, first_of, first_value, found_of, fault_of, matches_of, new_app, new_rule, with_rule}
use Rattle.clap.specs.Walk.{is_empty}
use Rattle.command_words.specs.declared.forms.Form.{Form as FormBuilt}
use Rattle.command_words.specs.Grammar.{Text, Form}

-- a word that has to stand at its place
abbrev pub place_rule : Text → Rule
place_rule id = record (new_rule id) { required = true }

-- an option with one value
abbrev pub option_rule : Text → Rule
option_rule id = record (new_rule id) { long = Some id }

abbrev pub with_rules : App → List Rule → App
with_rules app rules = fold with_rule app rules

-- the command as `clap` sees it: its words in order, and its options
abbrev pub app_of_form : Form → App
app_of_form f = with_rules (with_rules (new_app f.name) (map place_rule f.places)) (map option_rule f.options)

-- `clap` refuses nothing of these words, of which the first is the command's name
unfoldable pub takes_words : Form → List Text → Bool
takes_words f words = is_empty (fault_of (app_of_form f) words)

-- the text that the words give to a name
unfoldable pub given : Form → List Text → Text → Option Text
given f words id = first_of id (matches_of (app_of_form f) words)

-- none where `clap` refuses the words, and else matches that give each name its text
abbrev pub IsReadBy : Form → List Text → Option ArgMatches → Type 0
IsReadBy f words None = takes_words f words ≡ false
IsReadBy f words (Some m) = (takes_words f words ≡ true) × (first_value (found_of m) ≡ given f words)

-- the form that a form of the code stands for
abbrev pub form_seen : FormBuilt → Form
form_seen f = record { name = f.name.now; places = map (λ s. s.now) f.places.now; options = map (λ s. s.now) f.options.now }
