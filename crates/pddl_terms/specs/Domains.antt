-- Believed: what may follow in a list of a domain.
--   domain = ( define ( domain NAME ) dsec* )
--   dsec   = ( :requirements KEYWORD* ) | ( :types typed ) | ( :constants typed ) | ( :predicates ( NAME typedvars )* )
--          | ( :functions fdecl* ) | ( :constraints con ) | action | durative
--   fdecl  = ( NAME typedvars ) [ - number ]
-- Actions and left-out sections stand as often as they like, every other section once at most.
use Rattle.std.specs.Prelude.{ℕ, Bool, true, false, ◌||◌, List, Option, Some, None, if◌then◌else◌}
use lib.Chars.{codes}
use Rattle.sexpr_text.specs.declared.token.TokenKind.{TokenKind}
use Rattle.pddl_terms.specs.declared.domain_heads.DomainHead.{DomainHead}
use Rattle.pddl_terms.specs.declared.domain_heads.DomainHead.TheVariants as section
use Rattle.pddl_terms.specs.declared.grammar.ActionPlace.TheVariants as action
use Rattle.pddl_terms.specs.declared.grammar.ActionSort.TheVariants.{Instant, Durative}
use Rattle.pddl_terms.specs.declared.grammar.DomainGiven.{DomainGiven}
use Rattle.pddl_terms.specs.declared.grammar.DomainLine.{DomainLine}
use Rattle.pddl_terms.specs.declared.grammar.DomainLine.TheVariants as of_domain
use Rattle.pddl_terms.specs.declared.grammar.DomainRest.{DomainRest}
use Rattle.pddl_terms.specs.declared.grammar.DomainRest.TheVariants as domain
use Rattle.pddl_terms.specs.declared.grammar.Line.TheVariants as line
use Rattle.pddl_terms.specs.declared.grammar.Listed.TheVariants.{Names, Variables}
use Rattle.pddl_terms.specs.declared.grammar.Rest.{Rest}
use Rattle.pddl_terms.specs.declared.grammar.Rest.TheVariants.{One, Many, Skipped, Typed, Whole, Action, Domain}
use Rattle.pddl_terms.specs.Words.{same_word, is_left_out, is_name, is_time}
use Rattle.pddl_terms.specs.Grammar.{only_if, no_domain_section, domain_after}
use Rattle.pddl_terms.specs.Effects.{eff_head, eff_rest, deleted_rest, timed_eff_head, timed_eff_rest, rate_rest, first_factor, timed_cond_head, timed_cond_rest}

-- Sections.

-- the section of actions that a word begins, if any
abbrev pub action_head : List ℕ → DomainHead
action_head word =
    if same_word word (codes ":action") then section.Action Instant
    else (if same_word word (codes ":durative-action") then section.Action Durative
    else section.Unknown)

-- what a word begins as a section
unfoldable pub domain_head : List ℕ → DomainHead
domain_head word =
    if is_left_out word then section.LeftOut
    else (if same_word word (codes ":requirements") then section.Requirements
    else (if same_word word (codes ":types") then section.Types
    else (if same_word word (codes ":constants") then section.Constants
    else (if same_word word (codes ":predicates") then section.Predicates
    else (if same_word word (codes ":functions") then section.Functions
    else (if same_word word (codes ":constraints") then section.Constraints
    else action_head word))))))

abbrev pub domain_section_rest : DomainHead → Option Rest
domain_section_rest section.LeftOut = Some Skipped
domain_section_rest section.Requirements = Some (Many line.Keyword)
domain_section_rest section.Types = Some (Typed Names)
domain_section_rest section.Constants = Some (Typed Names)
domain_section_rest section.Predicates = Some (Many (line.Domain of_domain.Declared))
domain_section_rest section.Functions = Some (Domain domain.Functions)
domain_section_rest section.Constraints = Some (One line.Con)
domain_section_rest (section.Action sort) = Some (Action (action.Name sort))
domain_section_rest section.Unknown = None

-- whether a section that stands once at most has been given
abbrev pub is_given : DomainGiven → DomainHead → Bool
is_given given section.LeftOut = false
is_given given section.Requirements = given.requirements
is_given given section.Types = given.types
is_given given section.Constants = given.constants
is_given given section.Predicates = given.predicates
is_given given section.Functions = given.functions
is_given given section.Constraints = given.constraints
is_given given (section.Action sort) = false
is_given given section.Unknown = false

-- the sections that are given, with one more
abbrev pub and_given : DomainGiven → DomainHead → DomainGiven
and_given given section.LeftOut = given
and_given given section.Requirements = record given { requirements = true }
and_given given section.Types = record given { types = true }
and_given given section.Constants = record given { constants = true }
and_given given section.Predicates = record given { predicates = true }
and_given given section.Functions = record given { functions = true }
and_given given section.Constraints = record given { constraints = true }
and_given given (section.Action sort) = given
and_given given section.Unknown = given

-- ( NAME typedvars )
abbrev pub declared_rest : List ℕ → TokenKind → Option Rest
declared_rest word kind = if is_left_out word then Some Skipped else only_if (is_name kind) (Typed Variables)

-- What may follow a first word.

unfoldable pub domain_begins : DomainLine → List ℕ → TokenKind → Option Rest
domain_begins of_domain.File word kind = only_if (same_word word (codes "define")) (Domain domain.Heading)
domain_begins of_domain.Heading word kind = only_if (same_word word (codes "domain")) (One line.Name)
domain_begins of_domain.Section word kind = domain_section_rest (domain_head word)
domain_begins of_domain.Declared word kind = declared_rest word kind
domain_begins of_domain.TimedCond word kind = timed_cond_rest (timed_cond_head word)
domain_begins of_domain.Effect word kind = eff_rest (line.Domain of_domain.Effect) line.Expr (eff_head word) kind
domain_begins of_domain.SnapEffect word kind = eff_rest (line.Domain of_domain.SnapEffect) line.EffectExpr (eff_head word) kind
domain_begins of_domain.TimedEffect word kind = timed_eff_rest (timed_eff_head word)
domain_begins of_domain.Deleted word kind = deleted_rest word kind
domain_begins of_domain.Rate word kind = rate_rest word
domain_begins of_domain.Time word kind = None

abbrev pub domain_stands : DomainLine → TokenKind → Bool
domain_stands of_domain.Rate kind = is_time kind
domain_stands of_domain.Time kind = is_time kind
domain_stands l kind = false

-- whether ( ) is a list of the line
abbrev pub domain_may_be_empty : DomainLine → Bool
domain_may_be_empty of_domain.TimedCond = true
domain_may_be_empty of_domain.Effect = true
domain_may_be_empty of_domain.SnapEffect = true
domain_may_be_empty of_domain.TimedEffect = true
domain_may_be_empty l = false

-- whether a list may stand where the line is wanted
abbrev pub domain_has_lists : DomainLine → Bool
domain_has_lists of_domain.Time = false
domain_has_lists l = true

-- What may follow in a list.

abbrev pub domain_may_end : DomainRest → Bool
domain_may_end (domain.Sections given) = true
domain_may_end domain.Functions = true
domain_may_end domain.FunctionsMore = true
domain_may_end r = false

unfoldable pub domain_takes : DomainRest → List ℕ → TokenKind → Option Rest
domain_takes domain.FunctionsMore word kind = only_if (same_word word (codes "-")) (Domain domain.FunctionType)
domain_takes domain.FunctionType word kind = only_if (same_word word (codes "number")) (Domain domain.Functions)
domain_takes (domain.Snap l) word kind = only_if (same_word word (codes "start") || same_word word (codes "end")) (One l)
domain_takes (domain.All l) word kind = only_if (same_word word (codes "all")) (One l)
domain_takes domain.Factors word kind = first_factor kind
domain_takes r word kind = None

-- no section twice of those that stand once at most
abbrev pub domain_section_enters : DomainGiven → List ℕ → Option Rest
domain_section_enters given first = if is_given given (domain_head first) then None else Some (Whole (line.Domain of_domain.Section))

abbrev pub domain_leaves : DomainRest → List ℕ → Rest
domain_leaves (domain.Sections given) first = Domain (domain.Sections (and_given given (domain_head first)))
domain_leaves r first = domain_after r
