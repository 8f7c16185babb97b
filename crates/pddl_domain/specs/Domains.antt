-- Believed: the trees of domains.
use Rattle.std.specs.Prelude.{ℕ, Bool, List, [], ◌∷◌, Option, Some, None, if◌then◌else◌}
use lib.Chars.{codes}
use Rattle.sexpr_text.specs.Forms.{Lexed}
use Rattle.pddl_terms.specs.declared.files.Declared.{Declared}
use Rattle.pddl_terms.specs.declared.files.Declared.TheVariants as declared
use Rattle.pddl_terms.specs.declared.files.Domain.{Domain}
use Rattle.pddl_terms.specs.declared.grammar.Listed.TheVariants.{Variables}
use Rattle.pddl_terms.specs.Words.{is_left_out}
use Rattle.pddl_terms.specs.Content.{Lexeme, Content, End, Word, Inner, behind, content_at}
use Rattle.pddl_terms.specs.Shape.{wrong}
use Rattle.pddl_terms.specs.Files.{domain_file}
use Rattle.pddl_terms.specs.Typed.{name_of, groups}
use Rattle.pddl_terms.specs.Sections.{section, left_out, heading, names_of, groups_of, constraints_of}
use Rattle.pddl_domain.specs.Actions.{actions}

-- ( NAME typedvars )
abbrev pub declared_by : Bool → ℕ → Lexeme → Content → Declared
declared_by left at w x = if left then declared.LeftOut at else declared.Named at (name_of w) (groups Variables [] x)

abbrev pub declared_list : ℕ → Content → Declared
declared_list at (Word w more) = declared_by (is_left_out w.bytes) at w more
declared_list at (End close) = declared.LeftOut at
declared_list at (Inner place inner more) = declared.LeftOut at

-- the declarations of predicates or of functions, without the types of numbers
unfoldable pub declarations : Content → List Declared
declarations (End close) = []
declarations (Word w more) = declarations more
declarations (Inner at inner more) = declared_list at inner ∷ declarations more

abbrev pub declarations_of : Option Content → List Declared
declarations_of None = []
declarations_of (Some x) = declarations x

-- a domain, from its heading on
unfoldable pub domain_of : Content → Domain
domain_of x = record {
  name = heading x;
  requirements = names_of (section (codes ":requirements") x);
  types = groups_of (section (codes ":types") x);
  constants = groups_of (section (codes ":constants") x);
  predicates = declarations_of (section (codes ":predicates") x);
  functions = declarations_of (section (codes ":functions") x);
  constraints = constraints_of (section (codes ":constraints") x);
  actions = actions x;
  left_out = left_out x;
}

-- ( define ( domain NAME ) dsec* ), where it stands next
unfoldable pub domain_tree : Content → Domain
domain_tree (Inner at inner more) = domain_of (behind inner)
domain_tree (End close) = domain_of (End close)
domain_tree (Word w more) = domain_of more

-- the places of the wrong shape in the tokens of a domain file, and the domain that they tell
abbrev pub wrong_domain : Lexed → List ℕ
wrong_domain forms = wrong domain_file (content_at forms 0)

abbrev pub domain_told : Lexed → Domain
domain_told forms = domain_tree (content_at forms 0)
