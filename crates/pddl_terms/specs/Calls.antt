-- Believed: the trees of atoms and fluents, and of the left-out lists in their place.
use Rattle.std.specs.Prelude.{ℕ, Bool, if◌then◌else◌}
use Rattle.pddl_terms.specs.declared.trees.Call.{Call}
use Rattle.pddl_terms.specs.declared.trees.Call.TheVariants as call
use Rattle.pddl_terms.specs.Words.{is_left_out}
use Rattle.pddl_terms.specs.Content.{Lexeme, Content, End, Word, Inner}
use Rattle.pddl_terms.specs.Typed.{atom_of, bare_atom}

-- a list that opens at a place with the word
abbrev pub call_of : Bool → ℕ → Lexeme → Content → Call
call_of left_out at w x = if left_out then call.LeftOut at else call.Named (atom_of at w x)

abbrev pub call_list : ℕ → Content → Call
call_list at (Word w more) = call_of (is_left_out w.bytes) at w more
call_list at (End close) = call.LeftOut at
call_list at (Inner place inner more) = call.LeftOut at

-- the atom or fluent that stands next
unfoldable pub call_tree : Content → Call
call_tree (End close) = call.LeftOut 0
call_tree (Word w more) = call.Named (bare_atom w)
call_tree (Inner at inner more) = call_list at inner
