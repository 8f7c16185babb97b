-- Believed: the entries of `:init`. Timed literals lie above 0, and no two of one moment make a fact true and false.
use Rattle.std.specs.Prelude.{Bool, true, false, not, ◌&&◌, ◌==◌, List, [], ◌∷◌, ◌++◌, map}
use Rattle.std.specs.List.{flat_map, list_any}
use Rattle.std.specs.Ordering.{int_eq}
use Rattle.std.specs.Str.{bytes_eq}
use Rattle.rational.specs.Rational.{ℚ, zeroℚ}
use Rattle.pddl_names.specs.Declarations.{Text}
use Rattle.pddl_terms.specs.declared.faults.Kind.TheVariants as kind
use Rattle.pddl_terms.specs.declared.files.InitEntry.{InitEntry}
use Rattle.pddl_terms.specs.declared.files.InitEntry.TheVariants as entry
use Rattle.pddl_terms.specs.declared.files.TimedLiteral.{TimedLiteral}
use Rattle.pddl_terms.specs.declared.trees.Atom.{Atom}
use Rattle.pddl_terms.specs.declared.trees.Call.{Call}
use Rattle.pddl_terms.specs.declared.trees.Call.TheVariants as call
use Rattle.pddl_terms.specs.declared.trees.Term.{Term}
use Rattle.pddl_terms.specs.declared.trees.Term.TheVariants as term
use Rattle.pddl_names.specs.declared.offences.Offence.{Offence}
use Rattle.pddl_forms.specs.Offences.{offence, unless}
use Rattle.pddl_forms.specs.Effects.{call_offences}
use Rattle.pddl_forms.specs.TimeCosts.{is_below}

-- the same words in the same order
abbrev pub same_words : List Text → List Text → Bool
same_words [] [] = true
same_words [] (w ∷ ws) = false
same_words (v ∷ vs) [] = false
same_words (v ∷ vs) (w ∷ ws) = bytes_eq v w && same_words vs ws

-- the bytes of a term; those of a variable begin with its question mark
abbrev pub term_bytes : Term → Text
term_bytes (term.Object n) = n.bytes
term_bytes (term.Variable n) = n.bytes

-- a fact, as its predicate and its terms
abbrev pub fact_words : Atom → List Text
fact_words a = a.name.bytes ∷ map term_bytes a.terms

-- one fact: a list that is left out is none
abbrev pub same_fact : Call → Call → Bool
same_fact (call.Named a) (call.Named b) = same_words (fact_words a) (fact_words b)
same_fact (call.Named a) (call.LeftOut at) = false
same_fact (call.LeftOut at) (call.Named b) = false
same_fact (call.LeftOut at) (call.LeftOut place) = false

-- Numbers are in lowest terms.
abbrev pub same_number : ℚ → ℚ → Bool
same_number q r = int_eq q.num r.num && q.den == r.den

abbrev pub differ : Bool → Bool → Bool
differ true holds = not holds
differ false holds = holds

-- one makes a fact true at the moment at which the other makes it false
abbrev pub contradict : TimedLiteral → TimedLiteral → Bool
contradict l m = differ l.holds m.holds && same_number l.moment m.moment && same_fact l.atom m.atom

-- the timed literals, in the order of the text
abbrev pub timed_literal : InitEntry → List TimedLiteral
timed_literal (entry.Holds a) = []
timed_literal (entry.Not at fact) = []
timed_literal (entry.Value at fluent value) = []
timed_literal (entry.Timed l) = l ∷ []
timed_literal (entry.LeftOut at) = []

abbrev pub timed_literals : List InitEntry → List TimedLiteral
timed_literals entries = flat_map timed_literal entries

-- each literal that contradicts one before it, where these come before them
unfoldable pub clashes_behind : List TimedLiteral → List TimedLiteral → List Offence
clashes_behind before [] = []
clashes_behind before (l ∷ ls) = unless (not (list_any (contradict l) before)) kind.TilClash l.at ++ clashes_behind (before ++ l ∷ []) ls

-- an entry by itself
abbrev pub entry_offences : InitEntry → List Offence
entry_offences (entry.Holds a) = []
entry_offences (entry.Not at fact) = call_offences fact
entry_offences (entry.Value at fluent value) = call_offences fluent
entry_offences (entry.Timed l) = unless (is_below zeroℚ l.moment) kind.TilClash l.moment_at ++ call_offences l.atom
entry_offences (entry.LeftOut at) = offence kind.LeftOut at ∷ []

abbrev pub init_offences : List InitEntry → List Offence
init_offences entries = flat_map entry_offences entries ++ clashes_behind [] (timed_literals entries)
