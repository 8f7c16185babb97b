-- Believed: the requirement flags that are known. They switch nothing.
use Rattle.std.specs.Prelude.{ℕ, Bool, ◌||◌, List}
use Rattle.std.specs.List.{flat_map}
use lib.Chars.{codes}
use Rattle.pddl_terms.specs.declared.faults.Kind.TheVariants as kind
use Rattle.pddl_terms.specs.declared.trees.Name.{Name}
use Rattle.pddl_terms.specs.Words.{same_word}
use Rattle.pddl_names.specs.declared.offences.Offence.{Offence}
use Rattle.pddl_forms.specs.Offences.{unless}

-- flags of conditions and effects
abbrev pub is_condition_flag : List ℕ → Bool
is_condition_flag word =
    same_word word (codes ":negative-preconditions") || (same_word word (codes ":disjunctive-preconditions")
    || (same_word word (codes ":existential-preconditions") || (same_word word (codes ":universal-preconditions")
    || (same_word word (codes ":quantified-preconditions") || (same_word word (codes ":equality")
    || same_word word (codes ":conditional-effects"))))))

-- flags of numbers and time
abbrev pub is_number_flag : List ℕ → Bool
is_number_flag word =
    same_word word (codes ":fluents") || (same_word word (codes ":numeric-fluents") || (same_word word (codes ":action-costs")
    || (same_word word (codes ":durative-actions") || (same_word word (codes ":duration-inequalities")
    || (same_word word (codes ":continuous-effects") || same_word word (codes ":timed-initial-literals"))))))

abbrev pub is_other_flag : List ℕ → Bool
is_other_flag word =
    same_word word (codes ":strips") || (same_word word (codes ":typing") || (same_word word (codes ":adl")
    || (same_word word (codes ":preferences") || (same_word word (codes ":constraints")
    || (same_word word (codes ":time-costs") || same_word word (codes ":time"))))))

unfoldable pub is_known : List ℕ → Bool
is_known word = is_condition_flag word || (is_number_flag word || is_other_flag word)

abbrev pub requirement_offences : Name → List Offence
requirement_offences n = unless (is_known n.bytes) kind.Requirement n.at

abbrev pub requirements_offences : List Name → List Offence
requirements_offences ns = flat_map requirement_offences ns
