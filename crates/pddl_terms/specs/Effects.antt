-- Believed: what may follow in a list of an effect or of a condition of a durative action.
--   eff   = ( ) | ( and eff* ) | atom | ( not atom ) | ( nop fluent expr )          nop = increase | decrease | assign
--   teff  = ( ) | ( and teff* ) | ( at start eff ) | ( at end eff ) | rate
--   rate  = ( increase fluent r ) | ( decrease fluent r )          r = #t | ( * #t expr ) | ( * expr #t )
--   tcond = ( ) | ( and tcond* ) | ( at start cond ) | ( over all cond ) | ( at end cond )
use Rattle.std.specs.Prelude.{ℕ, Bool, ◌||◌, List, Option, Some, None, if◌then◌else◌}
use lib.Chars.{codes}
use Rattle.sexpr_text.specs.declared.token.TokenKind.{TokenKind}
use Rattle.pddl_terms.specs.declared.domain_heads.EffHead.{EffHead}
use Rattle.pddl_terms.specs.declared.domain_heads.EffHead.TheVariants as eff
use Rattle.pddl_terms.specs.declared.domain_heads.TimedEffHead.{TimedEffHead}
use Rattle.pddl_terms.specs.declared.domain_heads.TimedEffHead.TheVariants as timed
use Rattle.pddl_terms.specs.declared.domain_heads.TimedCondHead.{TimedCondHead}
use Rattle.pddl_terms.specs.declared.domain_heads.TimedCondHead.TheVariants as cond
use Rattle.pddl_terms.specs.declared.grammar.DomainLine.TheVariants as of_domain
use Rattle.pddl_terms.specs.declared.grammar.DomainRest.TheVariants as domain
use Rattle.pddl_terms.specs.declared.grammar.Line.{Line}
use Rattle.pddl_terms.specs.declared.grammar.Line.TheVariants as line
use Rattle.pddl_terms.specs.declared.grammar.Rest.{Rest}
use Rattle.pddl_terms.specs.declared.grammar.Rest.TheVariants.{One, Two, Many, Skipped, Domain}
use Rattle.pddl_terms.specs.declared.trees.ChangeKind.{ChangeKind}
use Rattle.pddl_terms.specs.declared.trees.ChangeKind.TheVariants as change
use Rattle.pddl_terms.specs.declared.trees.Trend.TheVariants as trend
use Rattle.pddl_terms.specs.Words.{same_word, is_left_out, is_name, is_number, is_time}
use Rattle.pddl_terms.specs.Grammar.{only_if}
use Rattle.pddl_terms.specs.Typed.{named}

-- Effects.

-- words that begin a left-out list in an effect
unfoldable pub is_left_out_of_effect : List ℕ → Bool
is_left_out_of_effect word = is_left_out word || same_word word (codes "forall")

-- the change that a word makes
abbrev pub change_of : List ℕ → Option ChangeKind
change_of word =
    if same_word word (codes "increase") then Some change.Increase
    else (if same_word word (codes "decrease") then Some change.Decrease
    else (if same_word word (codes "assign") then Some change.Assign
    else None))

abbrev pub changed : Option ChangeKind → EffHead
changed None = eff.Named
changed (Some c) = eff.Change c

-- what a word begins in an effect
unfoldable pub eff_head : List ℕ → EffHead
eff_head word =
    if is_left_out_of_effect word then eff.LeftOut
    else (if same_word word (codes "and") then eff.And
    else (if same_word word (codes "not") then eff.Not
    else changed (change_of word)))

-- in a list of the line, where an expression is one of the other line
abbrev pub eff_rest : Line → Line → EffHead → TokenKind → Option Rest
eff_rest l e eff.LeftOut kind = Some Skipped
eff_rest l e eff.And kind = Some (Many l)
eff_rest l e eff.Not kind = Some (One (line.Domain of_domain.Deleted))
eff_rest l e (eff.Change c) kind = Some (Two line.Fluent e)
eff_rest l e eff.Named kind = named kind

-- what the `not` of an effect holds
abbrev pub deleted_rest : List ℕ → TokenKind → Option Rest
deleted_rest word kind = if is_left_out_of_effect word then Some Skipped else named kind

-- Effects of durative actions.

-- what a word begins in an effect of a durative action
unfoldable pub timed_eff_head : List ℕ → TimedEffHead
timed_eff_head word =
    if is_left_out_of_effect word then timed.LeftOut
    else (if same_word word (codes "and") then timed.And
    else (if same_word word (codes "at") then timed.At
    else (if same_word word (codes "increase") then timed.Rate trend.Rises
    else (if same_word word (codes "decrease") then timed.Rate trend.Falls
    else timed.Unknown))))

abbrev pub timed_eff_rest : TimedEffHead → Option Rest
timed_eff_rest timed.LeftOut = Some Skipped
timed_eff_rest timed.And = Some (Many (line.Domain of_domain.TimedEffect))
timed_eff_rest timed.At = Some (Domain (domain.Snap (line.Domain of_domain.SnapEffect)))
timed_eff_rest (timed.Rate t) = Some (Two line.Fluent (line.Domain of_domain.Rate))
timed_eff_rest timed.Unknown = None

-- in the product of a rate
abbrev pub rate_rest : List ℕ → Option Rest
rate_rest word = if is_left_out word then Some Skipped else only_if (same_word word (codes "*")) (Domain domain.Factors)

-- the first factor: the time, or an expression and then the time
abbrev pub first_factor : TokenKind → Option Rest
first_factor kind =
    if is_time kind then Some (One line.Expr) else only_if (is_name kind || is_number kind) (One (line.Domain of_domain.Time))

-- Conditions of durative actions.

-- what a word begins in a condition of a durative action
unfoldable pub timed_cond_head : List ℕ → TimedCondHead
timed_cond_head word =
    if is_left_out word || same_word word (codes "preference") then cond.LeftOut
    else (if same_word word (codes "and") then cond.And
    else (if same_word word (codes "at") then cond.At
    else (if same_word word (codes "over") then cond.Over
    else cond.Unknown)))

abbrev pub timed_cond_rest : TimedCondHead → Option Rest
timed_cond_rest cond.LeftOut = Some Skipped
timed_cond_rest cond.And = Some (Many (line.Domain of_domain.TimedCond))
timed_cond_rest cond.At = Some (Domain (domain.Snap line.Cond))
timed_cond_rest cond.Over = Some (Domain (domain.All line.Cond))
timed_cond_rest cond.Unknown = None
