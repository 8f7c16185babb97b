-- Believed: words that are written out, and what they give.
use Rattle.std.specs.Prelude.{◌≡◌, List, [], ◌∷◌, Option, Some, None, codes}
use Rattle.command_words.specs.Grammar.{Text, Pairs, texts_given}
use Rattle.command_words.specs.Requests.{validate_form}

abbrev pub Gives : List Text → Option Pairs → Type 0
Gives words given = texts_given validate_form words ≡ given

abbrev pub files : List Text
files = codes "d" ∷ codes "p" ∷ codes "q" ∷ []

abbrev pub with_files : (domain problem plan : Text) → Pairs
with_files domain problem plan =
    (codes "domain", domain) ∷ (codes "problem", problem) ∷ (codes "plan", plan) ∷ []

abbrev pub epsilon_first : Text → Pairs
epsilon_first value = (codes "epsilon", value) ∷ with_files (codes "d") (codes "p") (codes "q")

pub record RowsComeOut : Type 0 where
  pub plain : Gives files (Some (with_files (codes "d") (codes "p") (codes "q")))
  pub value_behind : Gives (codes "--epsilon" ∷ codes "1/2" ∷ files) (Some (epsilon_first (codes "1/2")))
  pub value_joined : Gives (codes "--epsilon=-1" ∷ files) (Some (epsilon_first (codes "-1")))
  pub empty_value : Gives (codes "--epsilon=" ∷ files) (Some (epsilon_first []))
  pub lone_dash : Gives (codes "-" ∷ codes "p" ∷ codes "q" ∷ []) (Some (with_files (codes "-") (codes "p") (codes "q")))
  pub behind_dashes : Gives (codes "--" ∷ codes "--epsilon" ∷ codes "--" ∷ codes "-h" ∷ [])
      (Some (with_files (codes "--epsilon") (codes "--") (codes "-h")))
  pub repeated : Gives (codes "--epsilon=1" ∷ codes "--epsilon=1" ∷ files) None
  pub dashed_value : Gives (codes "--epsilon" ∷ codes "-1" ∷ files) None
  pub no_value : Gives (codes "d" ∷ codes "p" ∷ codes "q" ∷ codes "--epsilon" ∷ []) None
  pub another_command : Gives (codes "--pivots=1" ∷ files) None
  pub name_begun : Gives (codes "--eps=1" ∷ files) None
  pub help : Gives (codes "--help" ∷ files) None
  pub short_help : Gives (codes "-h" ∷ files) None
  pub two_files : Gives (codes "d" ∷ codes "p" ∷ []) None
  pub four_files : Gives (codes "d" ∷ codes "p" ∷ codes "q" ∷ codes "r" ∷ []) None
