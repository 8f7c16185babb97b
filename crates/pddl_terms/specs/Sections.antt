-- Believed: the sections of a file, and what stands behind a word.
use Rattle.std.specs.Prelude.{ℕ, Bool, List, [], ◌∷◌, ◌++◌, Option, Some, None, if◌then◌else◌}
use Rattle.sexpr_text.specs.Forms.{Lexed}
use Rattle.pddl_terms.specs.declared.grammar.Listed.TheVariants.{Names}
use Rattle.pddl_terms.specs.declared.trees.Group.{Group}
use Rattle.pddl_terms.specs.declared.trees.Name.{Name}
use Rattle.pddl_terms.specs.declared.trees.ConForm.{ConForm}
use Rattle.pddl_terms.specs.Words.{same_word, is_left_out}
use Rattle.pddl_terms.specs.Content.{Content, End, Word, Inner, behind, content_at}
use Rattle.pddl_terms.specs.Shape.{word_ahead}
use Rattle.pddl_terms.specs.Typed.{name_of, groups}
use Rattle.pddl_terms.specs.Constraints.{con_tree}

-- what stands at a token, if there is one
abbrev pub content_of : Lexed → Option ℕ → Option Content
content_of forms None = None
content_of forms (Some at) = Some (content_at forms at)

-- what the first list holds that the word begins, behind that word
unfoldable pub section : List ℕ → Content → Option Content
section key (End close) = None
section key (Word w more) = section key more
section key (Inner at inner more) = if same_word (word_ahead inner) key then Some (behind inner) else section key more

-- what stands behind the word, where it stands in the list
unfoldable pub behind_word : List ℕ → Content → Option Content
behind_word key (End close) = None
behind_word key (Word w more) = if same_word w.bytes key then Some more else behind_word key more
behind_word key (Inner at inner more) = behind_word key more

-- a place, where the list there is left out
abbrev pub place_if : Bool → ℕ → List ℕ
place_if left at = if left then at ∷ [] else []

-- the places of the lists that are left out
unfoldable pub left_out : Content → List ℕ
left_out (End close) = []
left_out (Word w more) = left_out more
left_out (Inner at inner more) = place_if (is_left_out (word_ahead inner)) at ++ left_out more

-- NAME* or KEYWORD*
unfoldable pub names : Content → List Name
names (End close) = []
names (Word w more) = name_of w ∷ names more
names (Inner at inner more) = names more

abbrev pub no_name : Name
no_name = record { at = 0; bytes = [] }

-- the name that stands next
unfoldable pub name_at : Content → Name
name_at (End close) = no_name
name_at (Word w more) = name_of w
name_at (Inner at inner more) = no_name

-- ( word NAME ), where it stands next
unfoldable pub heading : Content → Name
heading (End close) = no_name
heading (Word w more) = no_name
heading (Inner at inner more) = name_at (behind inner)

-- What a section holds, where it stands.

abbrev pub names_of : Option Content → List Name
names_of None = []
names_of (Some x) = names x

abbrev pub groups_of : Option Content → List Group
groups_of None = []
groups_of (Some x) = groups Names [] x

abbrev pub constraints_of : Option Content → Option ConForm
constraints_of None = None
constraints_of (Some x) = Some (con_tree x)
