-- Believed: which places of a text have the wrong shape.
use Rattle.std.specs.Prelude.{◌≡◌, ℕ, Bool, true, false, ◌||◌, List, [], ◌∷◌, ◌++◌, Option, Some, None, if◌then◌else◌}
use lib.Chars.{codes}
use Rattle.sexpr_text.specs.declared.token.TokenKind.{TokenKind}
use Rattle.sexpr_text.specs.declared.token.TokenKind.TheVariants.{Open, Close}
use Rattle.pddl_terms.specs.declared.grammar.Line.{Line}
use Rattle.pddl_terms.specs.declared.grammar.Line.TheVariants.{Expr, UntaggedDur}
use Rattle.pddl_terms.specs.declared.grammar.DomainRest.{DomainRest}
use Rattle.pddl_terms.specs.declared.grammar.DomainRest.TheVariants as domain
use Rattle.pddl_terms.specs.declared.grammar.ProblemRest.{ProblemRest}
use Rattle.pddl_terms.specs.declared.grammar.ProblemRest.TheVariants as problem
use Rattle.pddl_terms.specs.declared.grammar.Rest.{Rest}
use Rattle.pddl_terms.specs.declared.grammar.Rest.TheVariants as rest
use Rattle.pddl_terms.specs.Words.{same_word, is_name, is_left_out}
use Rattle.pddl_terms.specs.Content.{Content, End, Word, Inner}
use Rattle.pddl_terms.specs.Grammar.{domain_wanted, problem_wanted, wanted, after, only_if}
use Rattle.pddl_terms.specs.Typed.{typed, typed_more}
use Rattle.pddl_terms.specs.Expressions.{first_side, other_side}
use Rattle.pddl_terms.specs.Actions.{action_may_end, action_takes}
use Rattle.pddl_terms.specs.Domains.{domain_may_end, domain_takes, domain_section_enters, domain_leaves}
use Rattle.pddl_terms.specs.Problems.{problem_may_end, problem_takes, problem_section_enters, problem_leaves}
use Rattle.pddl_terms.specs.Lines.{stands, begins, may_be_empty, inside}

-- whether a list may end here
abbrev pub may_end : Rest → Bool
may_end rest.Nothing = true
may_end (rest.Many l) = true
may_end (rest.Maybe l) = true
may_end (rest.Whole l) = may_be_empty l
may_end rest.Skipped = true
may_end (rest.Typed of) = true
may_end (rest.TypedMore of) = true
may_end rest.ManyUntagged = true
may_end (rest.Action place) = action_may_end place
may_end (rest.Domain r) = domain_may_end r
may_end (rest.Problem r) = problem_may_end r
may_end r = false

-- a word where a line is wanted
abbrev pub takes_line : Option Line → List ℕ → TokenKind → Rest → Option Rest
takes_line None word kind r = None
takes_line (Some l) word kind r = only_if (stands l word kind) r

-- What may follow behind a word that stands next, if it may stand there; `ahead` is the kind of the token behind it.
unfoldable pub takes : Rest → List ℕ → TokenKind → TokenKind → Option Rest
takes (rest.Whole l) word kind ahead = begins l word kind
takes rest.Skipped word kind ahead = Some rest.Skipped
takes (rest.Typed of) word kind ahead = typed of kind
takes (rest.TypedMore of) word kind ahead = typed_more of word kind
takes (rest.TypeName of) word kind ahead = only_if (is_name kind) (rest.Typed of)
takes rest.Sides word kind ahead = first_side kind ahead
takes (rest.Side plain) word kind ahead = other_side plain kind
takes (rest.OptionalName l) word kind ahead = only_if (is_name kind) (rest.One l)
takes (rest.EndAnd l) word kind ahead = only_if (same_word word (codes "end")) (rest.One l)
takes rest.Tag word kind ahead = only_if (same_word word (codes "start") || same_word word (codes "end")) rest.OneUntagged
takes (rest.Action place) word kind ahead = action_takes place word kind
takes (rest.Domain r) word kind ahead = domain_takes r word kind
takes (rest.Problem r) word kind ahead = problem_takes r word kind
takes r word kind ahead = takes_line (wanted r) word kind (after r)

-- what a list may hold where a line is wanted
abbrev pub enters_line : Option Line → Option Rest
enters_line None = None
enters_line (Some l) = inside l

-- what a list below a tag may hold, if it has no tag
abbrev pub enters_untagged : List ℕ → Option Rest
enters_untagged first = if same_word first (codes "at") then None else Some (rest.Whole UntaggedDur)

abbrev pub domain_enters : DomainRest → List ℕ → Option Rest
domain_enters (domain.Sections given) first = domain_section_enters given first
domain_enters r first = enters_line (domain_wanted r)

abbrev pub problem_enters : ProblemRest → List ℕ → Option Rest
problem_enters (problem.Sections given) first = problem_section_enters given first
problem_enters r first = enters_line (problem_wanted r)

-- What a list that stands next may hold, if one may stand there; `first` is the word that begins it.
unfoldable pub enters : Rest → List ℕ → Option Rest
enters rest.Skipped first = Some rest.Skipped
enters (rest.TypeName of) first = only_if (is_left_out first) rest.Skipped
enters rest.Sides first = Some (rest.Whole Expr)
enters (rest.Side plain) first = Some (rest.Whole Expr)
enters rest.OneUntagged first = enters_untagged first
enters rest.ManyUntagged first = enters_untagged first
enters (rest.Domain r) first = domain_enters r first
enters (rest.Problem r) first = problem_enters r first
enters r first = enters_line (wanted r)

-- what may follow behind a list that stands next
unfoldable pub leaves : Rest → List ℕ → Rest
leaves rest.Skipped first = rest.Skipped
leaves (rest.TypeName of) first = rest.Typed of
leaves rest.Sides first = rest.Side false
leaves (rest.Side plain) first = rest.Nothing
leaves rest.ManyUntagged first = rest.ManyUntagged
leaves (rest.Domain r) first = domain_leaves r first
leaves (rest.Problem r) first = problem_leaves r first
leaves r first = after r

-- the kind of the token that stands next
abbrev pub kind_ahead : Content → TokenKind
kind_ahead (End close) = Close
kind_ahead (Word w more) = w.kind
kind_ahead (Inner at inner more) = Open

-- the bytes of the word that stands next
abbrev pub word_ahead : Content → List ℕ
word_ahead (End close) = []
word_ahead (Word w more) = w.bytes
word_ahead (Inner at inner more) = []

-- the place itself, or what is wrong from there on
abbrev pub or_here : ℕ → Option Rest → (Rest → List ℕ) → List ℕ
or_here place None go = place ∷ []
or_here place (Some r) go = go r

-- The places of the wrong shape, in the order of the text: in each list the first word, list or end that can't stand
-- where it does.
unfoldable pub wrong : Rest → Content → List ℕ
wrong r (End close) = if may_end r then [] else close ∷ []
wrong r (Word w more) = or_here w.at (takes r w.bytes w.kind (kind_ahead more)) (λ s. wrong s more)
wrong r (Inner at inner more) = or_here at (enters r (word_ahead inner)) (λ s. wrong s inner ++ wrong (leaves r (word_ahead inner)) more)

-- the places of the wrong shape in what stands next, where a line is wanted
unfoldable pub wrong_item : Line → Content → List ℕ
wrong_item l (End close) = close ∷ []
wrong_item l (Word w more) = if stands l w.bytes w.kind then [] else w.at ∷ []
wrong_item l (Inner at inner more) = or_here at (inside l) (λ s. wrong s inner)

-- the place is the first of the places
abbrev pub IsFirst : ℕ → List ℕ → Type 0
IsFirst place places = (later : List ℕ) × (places ≡ place ∷ later)
