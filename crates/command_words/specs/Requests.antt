-- Believed: the requests of the program, and the words that ask for them.
use Rattle.std.specs.Prelude.{◌≡◌, ℕ, Bool, true, false, pos, List, [], ◌∷◌, drop, codes, Option, Some}
use Rattle.std.specs.Str.{bytes_eq}
use Rattle.rational.specs.Rational.{ratio}
use Rattle.command_words.specs.Grammar.{Text, Form, Pairs, text_of, texts_given}
use Rattle.command_words.specs.Values.{IsNumberGiven, IsCountGiven}
use Rattle.command_words.specs.declared.requests.Files.{Files}
use Rattle.command_words.specs.declared.requests.Limits.{Limits}
use Rattle.command_words.specs.declared.requests.Request.{Request}
use Rattle.command_words.specs.declared.requests.Request.TheVariants as request

-- ---- the requests

-- the names of a command's files; the third is a plan or an ordering
pub record FileNames : Type 0 where
  pub domain : Text
  pub problem : Text
  pub third : Text

-- what is asked for
pub data Asked : Type 0 where
  Validate : (files : FileNames) (limits : Limits) → Asked
  Schedule : (files : FileNames) (limits : Limits) (pivots leaves : ℕ) → Asked

abbrev pub files_seen : Files → FileNames
files_seen f = record { domain = f.domain.now; problem = f.problem.now; third = f.third.now }

abbrev pub request_seen : Request → Asked
request_seen (request.Validate files limits) = Validate (files_seen files) limits
request_seen (request.Schedule files limits pivots leaves) = Schedule (files_seen files) limits pivots leaves

-- ---- the commands

abbrev pub validate_form : Form
validate_form = record {
  name = codes "validate";
  places = codes "domain" ∷ codes "problem" ∷ codes "plan" ∷ [];
  options = codes "epsilon" ∷ codes "horizon" ∷ [];
}

abbrev pub schedule_form : Form
schedule_form = record {
  name = codes "schedule";
  places = codes "domain" ∷ codes "problem" ∷ codes "ordering" ∷ [];
  options = codes "epsilon" ∷ codes "horizon" ∷ codes "pivots" ∷ codes "leaves" ∷ [];
}

-- ---- what is set, where each name has this text

-- the names of the files, by the name of the third
pub record NamesFiles (text : Text → Option Text) (third : Text) (files : FileNames) : Type 0 where
  pub domain : text (codes "domain") ≡ Some files.domain
  pub problem : text (codes "problem") ≡ Some files.problem
  pub third_file : text third ≡ Some files.third

-- the least distance of happenings, and the latest time
pub record SetsLimits (text : Text → Option Text) (limits : Limits) : Type 0 where
  pub epsilon : IsNumberGiven (ratio (pos 1) 1000) (ratio (pos 1000) 1) (text (codes "epsilon")) limits.epsilon
  pub horizon : IsNumberGiven (ratio (pos 1000000) 1) (ratio (pos 1000000000) 1) (text (codes "horizon")) limits.horizon

-- the limits of the search for times
pub record SetsBudgets (text : Text → Option Text) (pivots leaves : ℕ) : Type 0 where
  pub pivot_limit : IsCountGiven 20000 0 1000000 (text (codes "pivots")) pivots
  pub leaf_limit : IsCountGiven 4096 1 65536 (text (codes "leaves")) leaves

abbrev pub SetsValidate : (Text → Option Text) → Asked → Type 0
SetsValidate text (Validate files limits) = NamesFiles text (codes "plan") files × SetsLimits text limits
SetsValidate text (Schedule files limits pivots leaves) = ⊥

abbrev pub SetsSchedule : (Text → Option Text) → Asked → Type 0
SetsSchedule text (Validate files limits) = ⊥
SetsSchedule text (Schedule files limits pivots leaves) =
    NamesFiles text (codes "ordering") files × (SetsLimits text limits × SetsBudgets text pivots leaves)

-- ---- what the words ask for

-- the first word is this
abbrev pub begins_with : Text → List Text → Bool
begins_with name [] = false
begins_with name (word ∷ rest) = bytes_eq word name

-- the words behind the command's name are read by its form, and their texts set what the request has
pub record AsksBy (form : Form) (Sets : (Text → Option Text) → Asked → Type 0) (words : List Text) (asked : Asked) : Type 0 where
  pub named : begins_with form.name words ≡ true
  pub pairs : Pairs
  pub read : texts_given form (drop 1 words) ≡ Some pairs
  pub sets : Sets (λ name. text_of name pairs) asked

-- the words ask for the request
abbrev pub Asks : List Text → Asked → Type 0
Asks words (Validate files limits) = AsksBy validate_form SetsValidate words (Validate files limits)
Asks words (Schedule files limits pivots leaves) =
    AsksBy schedule_form SetsSchedule words (Schedule files limits pivots leaves)
