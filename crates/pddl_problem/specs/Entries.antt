-- Believed: the trees of the entries of `:init`.
use Rattle.std.specs.Prelude.{ℕ, Bool, false, not, List, [], ◌∷◌, Option, Some, None, if◌then◌else◌}
use lib.Chars.{codes}
use Rattle.pddl_terms.specs.declared.problem_heads.InitHead.{InitHead}
use Rattle.pddl_terms.specs.declared.problem_heads.InitHead.TheVariants as heads
use Rattle.pddl_terms.specs.declared.files.InitEntry.{InitEntry}
use Rattle.pddl_terms.specs.declared.files.InitEntry.TheVariants as entry
use Rattle.pddl_terms.specs.declared.files.TimedLiteral.{TimedLiteral}
use Rattle.pddl_terms.specs.declared.trees.Call.{Call}
use Rattle.pddl_terms.specs.declared.trees.Call.TheVariants as call
use Rattle.pddl_terms.specs.Words.{same_word, is_number}
use Rattle.pddl_terms.specs.Content.{Lexeme, Content, End, Word, Inner, behind}
use Rattle.pddl_terms.specs.Shape.{kind_ahead, word_ahead}
use Rattle.pddl_terms.specs.Numbers.{number_at}
use Rattle.pddl_terms.specs.Typed.{atom_of}
use Rattle.pddl_terms.specs.Calls.{call_list, call_tree}
use Rattle.pddl_terms.specs.Problems.{init_head}

-- where what stands next begins
abbrev pub place_ahead : Content → ℕ
place_ahead (End close) = close
place_ahead (Word w more) = w.at
place_ahead (Inner at inner more) = at

-- whether the list that stands next begins with `not`
unfoldable pub is_denied : Content → Bool
is_denied (Inner at inner more) = same_word (word_ahead inner) (codes "not")
is_denied (End close) = false
is_denied (Word w more) = false

-- the atom of the literal that stands next
unfoldable pub literal_atom : Content → Call
literal_atom (Inner at inner more) =
    if same_word (word_ahead inner) (codes "not") then call_tree (behind inner) else call_list at inner
literal_atom (End close) = call.LeftOut 0
literal_atom (Word w more) = call.LeftOut 0

-- a moment and a literal
abbrev pub timed_literal : ℕ → Content → TimedLiteral
timed_literal at x = record {
  at = at;
  moment_at = place_ahead x;
  moment = number_at x;
  holds = not (is_denied (behind x));
  atom = literal_atom (behind x);
}

-- an entry that begins with `at`
abbrev pub entry_at : Bool → ℕ → Lexeme → Content → InitEntry
entry_at timed at w x =
    if timed then entry.Timed (timed_literal at x) else entry.Holds (atom_of at w x)

-- a fluent and its value
abbrev pub entry_value : ℕ → Content → InitEntry
entry_value at x = entry.Value at (call_tree x) (number_at (behind x))

-- an entry that opens at a place with the word
abbrev pub entry_by : InitHead → ℕ → Lexeme → Content → InitEntry
entry_by heads.LeftOut at w x = entry.LeftOut at
entry_by heads.Not at w x = entry.Not at (call_tree x)
entry_by heads.Value at w x = entry_value at x
entry_by heads.At at w x = entry_at (is_number (kind_ahead x)) at w x
entry_by heads.Named at w x = entry.Holds (atom_of at w x)

abbrev pub entry_list : ℕ → Content → InitEntry
entry_list at (Word w more) = entry_by (init_head w.bytes) at w more
entry_list at (End close) = entry.LeftOut at
entry_list at (Inner place inner more) = entry.LeftOut at

-- init*
unfoldable pub entries : Content → List InitEntry
entries (End close) = []
entries (Word w more) = entries more
entries (Inner at inner more) = entry_list at inner ∷ entries more

abbrev pub entries_of : Option Content → List InitEntry
entries_of None = []
entries_of (Some x) = entries x
