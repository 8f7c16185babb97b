-- Believed: what may follow in an action.
--   action   = ( :action NAME [:parameters ( typedvars )] [:precondition cond] [:effect eff] )
--   durative = ( :durative-action NAME [:parameters ( typedvars )] :duration dur [:condition tcond] [:effect teff] )
use Rattle.std.specs.Prelude.{ℕ, Bool, true, false, List, Option, Some, None, if◌then◌else◌}
use lib.Chars.{codes}
use Rattle.sexpr_text.specs.declared.token.TokenKind.{TokenKind}
use Rattle.pddl_terms.specs.declared.grammar.ActionPlace.{ActionPlace}
use Rattle.pddl_terms.specs.declared.grammar.ActionPlace.TheVariants as action
use Rattle.pddl_terms.specs.declared.grammar.ActionSort.{ActionSort}
use Rattle.pddl_terms.specs.declared.grammar.ActionSort.TheVariants.{Instant, Durative}
use Rattle.pddl_terms.specs.declared.grammar.DomainLine.TheVariants as of_domain
use Rattle.pddl_terms.specs.declared.grammar.Line.{Line}
use Rattle.pddl_terms.specs.declared.grammar.Line.TheVariants as line
use Rattle.pddl_terms.specs.declared.grammar.Rest.{Rest}
use Rattle.pddl_terms.specs.declared.grammar.Rest.TheVariants.{One, Action}
use Rattle.pddl_terms.specs.Words.{same_word, is_name}
use Rattle.pddl_terms.specs.Grammar.{only_if}

abbrev pub effect_line : ActionSort → Line
effect_line Instant = line.Domain of_domain.Effect
effect_line Durative = line.Domain of_domain.TimedEffect

-- behind the condition, or where there is none
abbrev pub tail_takes : ActionSort → List ℕ → Option Rest
tail_takes sort word = only_if (same_word word (codes ":effect")) (One (effect_line sort))

-- behind the duration
abbrev pub timed_takes : List ℕ → Option Rest
timed_takes word = if same_word word (codes ":condition") then Some (Action (action.Condition Durative)) else tail_takes Durative word

-- behind the parameters, or where there are none
abbrev pub instant_takes : List ℕ → Option Rest
instant_takes word = if same_word word (codes ":precondition") then Some (Action (action.Condition Instant)) else tail_takes Instant word

abbrev pub body_takes : ActionSort → List ℕ → Option Rest
body_takes Instant word = instant_takes word
body_takes Durative word = only_if (same_word word (codes ":duration")) (Action action.Duration)

-- behind the name
abbrev pub head_takes : ActionSort → List ℕ → Option Rest
head_takes sort word = if same_word word (codes ":parameters") then Some (Action (action.Parameters sort)) else body_takes sort word

-- what may follow behind a word at a place of an action
unfoldable pub action_takes : ActionPlace → List ℕ → TokenKind → Option Rest
action_takes (action.Name sort) word kind = only_if (is_name kind) (Action (action.Head sort))
action_takes (action.Head sort) word kind = head_takes sort word
action_takes (action.Parameters sort) word kind = None
action_takes (action.Body sort) word kind = body_takes sort word
action_takes action.Duration word kind = None
action_takes action.Timed word kind = timed_takes word
action_takes (action.Condition sort) word kind = None
action_takes (action.Tail sort) word kind = tail_takes sort word

abbrev pub is_instant : ActionSort → Bool
is_instant Instant = true
is_instant Durative = false

-- whether an action may end there: a durative one has a duration
abbrev pub action_may_end : ActionPlace → Bool
action_may_end (action.Name sort) = false
action_may_end (action.Head sort) = is_instant sort
action_may_end (action.Parameters sort) = false
action_may_end (action.Body sort) = is_instant sort
action_may_end action.Duration = false
action_may_end action.Timed = true
action_may_end (action.Condition sort) = false
action_may_end (action.Tail sort) = true
