-- Believed: typed lists, terms and atoms of the grammar.
--   typed     = NAME* | NAME+ - NAME typed
--   typedvars = VARIABLE* | VARIABLE+ - NAME typedvars
--   atom      = ( NAME term* )            term = NAME | VARIABLE
use Rattle.std.specs.Prelude.{ℕ, Bool, List, [], ◌∷◌, ◌++◌, Option, if◌then◌else◌}
use Rattle.std.specs.Str.{str_to_ascii_lowercase}
use lib.Chars.{codes}
use Rattle.sexpr_text.specs.declared.token.TokenKind.{TokenKind}
use Rattle.pddl_terms.specs.declared.grammar.Listed.{Listed}
use Rattle.pddl_terms.specs.declared.grammar.Listed.TheVariants.{Names, Variables}
use Rattle.pddl_terms.specs.declared.grammar.Line.TheVariants as line
use Rattle.pddl_terms.specs.declared.grammar.Rest.{Rest}
use Rattle.pddl_terms.specs.declared.grammar.Rest.TheVariants as rest
use Rattle.pddl_terms.specs.declared.trees.Atom.{Atom}
use Rattle.pddl_terms.specs.declared.trees.Group.{Group}
use Rattle.pddl_terms.specs.declared.trees.Name.{Name}
use Rattle.pddl_terms.specs.declared.trees.Term.{Term}
use Rattle.pddl_terms.specs.declared.trees.Term.TheVariants as term
use Rattle.pddl_terms.specs.declared.trees.TypeName.{TypeName}
use Rattle.pddl_terms.specs.declared.trees.TypeName.TheVariants as type
use Rattle.pddl_terms.specs.Words.{same_word, is_name, is_variable}
use Rattle.pddl_terms.specs.Content.{Lexeme, Content, End, Word, Inner}
use Rattle.pddl_terms.specs.Grammar.{only_if}

-- What may follow in a list.

-- ( NAME term* )
abbrev pub named : TokenKind → Option Rest
named kind = only_if (is_name kind) (rest.Many line.Term)

-- what such a list lists
abbrev pub is_listed : Listed → TokenKind → Bool
is_listed Names kind = is_name kind
is_listed Variables kind = is_variable kind

-- one more of it
abbrev pub typed : Listed → TokenKind → Option Rest
typed of kind = only_if (is_listed of kind) (rest.TypedMore of)

-- one more of it, or the mark before a type
abbrev pub typed_more : Listed → List ℕ → TokenKind → Option Rest
typed_more of word kind = if is_listed of kind then typed of kind else only_if (same_word word (codes "-")) (rest.TypeName of)

-- Trees.

-- a name in lower case
abbrev pub name_of : Lexeme → Name
name_of w = record { at = w.at; bytes = str_to_ascii_lowercase w.bytes }

abbrev pub term_of : Lexeme → Term
term_of w = if is_variable w.kind then term.Variable (name_of w) else term.Object (name_of w)

-- term*
unfoldable pub terms : Content → List Term
terms (End close) = []
terms (Word w more) = term_of w ∷ terms more
terms (Inner at inner more) = terms more

-- an atom or a fluent, from behind its name on
abbrev pub atom_of : ℕ → Lexeme → Content → Atom
atom_of at w x = record { at = at; name = name_of w; terms = terms x }

-- a name alone: a fluent without terms
abbrev pub bare_atom : Lexeme → Atom
bare_atom w = record { at = w.at; name = name_of w; terms = [] }

-- names of one type, if there are any
abbrev pub group_of : List Name → TypeName → List Group
group_of [] of = []
group_of (n ∷ ns) of = record { names = n ∷ ns; of = of } ∷ []

-- the type that stands next
unfoldable pub type_of : Content → TypeName
type_of (End close) = type.Object
type_of (Word w more) = type.Named (name_of w)
type_of (Inner at inner more) = type.LeftOut at

-- The groups of a typed list, where the type of the names before it isn't told yet. Names without a type are objects.
unfoldable mutual
  pub groups : Listed → List Name → Content → List Group
  groups of before (End close) = group_of before type.Object
  groups of before (Word w more) = if is_listed of w.kind then groups of (before ++ name_of w ∷ []) more else groups_of of before more
  groups of before (Inner at inner more) = groups of before more

  pub groups_of : Listed → List Name → Content → List Group
  groups_of of before (End close) = group_of before type.Object
  groups_of of before (Word w more) = group_of before (type.Named (name_of w)) ++ groups of [] more
  groups_of of before (Inner at inner more) = group_of before (type.LeftOut at) ++ groups of [] more

-- ( typedvars )
unfoldable pub variables : Content → List Group
variables (Inner at inner more) = groups Variables [] inner
variables (End close) = []
variables (Word w more) = []
