-- Each rest of a list that may go on has a content that ends it well.
use Rattle.std.proofs.Common.{◌≡◌, ℕ, Bool, true, false, [], ◌++◌, Some, refl, ap, ◌∙◌}
use lib.Chars.{codes}
use Rattle.sexpr_text.specs.declared.token.TokenKind.TheVariants.{Name, Number, Mark, Variable, Keyword, Time}
use Rattle.pddl_terms.specs.declared.grammar.ActionPlace.{ActionPlace}
use Rattle.pddl_terms.specs.declared.grammar.ActionPlace.TheVariants as action
use Rattle.pddl_terms.specs.declared.grammar.ActionSort.{ActionSort}
use Rattle.pddl_terms.specs.declared.grammar.ActionSort.TheVariants.{Instant, Durative}
use Rattle.pddl_terms.specs.declared.grammar.DomainLine.{DomainLine}
use Rattle.pddl_terms.specs.declared.grammar.DomainLine.TheVariants as of_domain
use Rattle.pddl_terms.specs.declared.grammar.DomainRest.{DomainRest}
use Rattle.pddl_terms.specs.declared.grammar.DomainRest.TheVariants as domain
use Rattle.pddl_terms.specs.declared.grammar.ProblemGiven.{ProblemGiven}
use Rattle.pddl_terms.specs.declared.grammar.ProblemLine.{ProblemLine}
use Rattle.pddl_terms.specs.declared.grammar.ProblemLine.TheVariants as of_problem
use Rattle.pddl_terms.specs.declared.grammar.ProblemRest.{ProblemRest}
use Rattle.pddl_terms.specs.declared.grammar.ProblemRest.TheVariants as problem
use Rattle.pddl_terms.specs.declared.grammar.Line.{Line}
use Rattle.pddl_terms.specs.declared.grammar.Line.TheVariants as line
use Rattle.pddl_terms.specs.declared.grammar.Rest.{Rest}
use Rattle.pddl_terms.specs.declared.grammar.Rest.TheVariants as rest
use Rattle.pddl_terms.specs.Content.{Content, Lexeme, End, Word, Inner}
use Rattle.pddl_terms.specs.Words.{is_left_out, is_left_out_of_condition}
use Rattle.pddl_terms.specs.Grammar.{after, no_problem_section}
use Rattle.pddl_terms.specs.Expressions.{expr_head}
use Rattle.pddl_terms.specs.Conditions.{cond_head}
use Rattle.pddl_terms.specs.Constraints.{con_head}
use Rattle.pddl_terms.specs.Durations.{dur_head}
use Rattle.pddl_terms.specs.Effects.{eff_head, is_left_out_of_effect}
use Rattle.pddl_terms.specs.Actions.{action_takes}
use Rattle.pddl_terms.specs.Domains.{domain_begins, domain_takes, domain_head}
use Rattle.pddl_terms.specs.Goals.{goal_head, soft_head, measure_head}
use Rattle.pddl_terms.specs.Problems.{problem_begins, problem_takes, problem_head, init_head}
use Rattle.pddl_terms.specs.Lines.{inside}
use Rattle.pddl_terms.specs.Shape.{wrong, wrong_item, takes, takes_line, enters, leaves, or_here}
use Rattle.pddl_terms.specs.Beginnings.{may_go_on}

abbrev name : Lexeme
name = record { at = 0; kind = Name; bytes = codes "a" }

abbrev number : Lexeme
number = record { at = 0; kind = Number; bytes = codes "0" }

abbrev duration : Lexeme
duration = record { at = 0; kind = Variable; bytes = codes "?duration" }

abbrev less : Lexeme
less = record { at = 0; kind = Mark; bytes = codes "<" }

abbrev minus : Lexeme
minus = record { at = 0; kind = Mark; bytes = codes "-" }

abbrev times : Lexeme
times = record { at = 0; kind = Mark; bytes = codes "*" }

abbrev time : Lexeme
time = record { at = 0; kind = Time; bytes = codes "#t" }

abbrev and : Lexeme
and = record { at = 0; kind = Name; bytes = codes "and" }

abbrev always : Lexeme
always = record { at = 0; kind = Name; bytes = codes "always" }

abbrev either : Lexeme
either = record { at = 0; kind = Name; bytes = codes "either" }

abbrev end : Lexeme
end = record { at = 0; kind = Name; bytes = codes "end" }

abbrev all : Lexeme
all = record { at = 0; kind = Name; bytes = codes "all" }

abbrev number_word : Lexeme
number_word = record { at = 0; kind = Name; bytes = codes "number" }

abbrev minimize : Lexeme
minimize = record { at = 0; kind = Name; bytes = codes "minimize" }

abbrev define : Lexeme
define = record { at = 0; kind = Name; bytes = codes "define" }

abbrev domain_word : Lexeme
domain_word = record { at = 0; kind = Name; bytes = codes "domain" }

abbrev problem_word : Lexeme
problem_word = record { at = 0; kind = Name; bytes = codes "problem" }

abbrev of_domain_word : Lexeme
of_domain_word = record { at = 0; kind = Keyword; bytes = codes ":domain" }

abbrev derived : Lexeme
derived = record { at = 0; kind = Keyword; bytes = codes ":derived" }

abbrev duration_word : Lexeme
duration_word = record { at = 0; kind = Keyword; bytes = codes ":duration" }

abbrev init : Lexeme
init = record { at = 0; kind = Keyword; bytes = codes ":init" }

abbrev goal : Lexeme
goal = record { at = 0; kind = Keyword; bytes = codes ":goal" }

-- a list of two words, and then more
abbrev pair : Lexeme → Lexeme → Content → Content
pair v w x = Inner 0 (Word v (Word w (End 0))) x

abbrev three : Content
three = Word number (Word number (Word number (End 0)))

-- the sections that a problem still needs
abbrev needed : Bool → Bool → Content
needed true true = End 0
needed true false = Inner 0 (Word goal (Inner 0 (End 0) (End 0))) (End 0)
needed false true = Inner 0 (Word init (End 0)) (End 0)
needed false false = Inner 0 (Word init (End 0)) (Inner 0 (Word goal (Inner 0 (End 0) (End 0))) (End 0))

-- what a list of the line may hold
abbrev domain_whole : DomainLine → Content
domain_whole of_domain.File = Word define (pair domain_word name (End 0))
domain_whole of_domain.Heading = Word domain_word (Word name (End 0))
domain_whole of_domain.Section = Word derived (End 0)
domain_whole of_domain.Declared = Word name (End 0)
domain_whole of_domain.Deleted = Word name (End 0)
domain_whole of_domain.Rate = Word times (Word time (Word number (End 0)))
domain_whole l = End 0

abbrev problem_whole : ProblemLine → Content
problem_whole of_problem.File = Word define (pair problem_word name (pair of_domain_word name (needed false false)))
problem_whole of_problem.Heading = Word problem_word (Word name (End 0))
problem_whole of_problem.DomainName = Word of_domain_word (Word name (End 0))
problem_whole of_problem.Section = Word derived (End 0)
problem_whole of_problem.Init = Word name (End 0)
problem_whole of_problem.Literal = Word name (End 0)
problem_whole of_problem.TimeCost = Word name (Inner 0 (End 0) three)
problem_whole of_problem.Piece = three
problem_whole of_problem.Measure = Word minus (Word number (End 0))
problem_whole l = End 0

abbrev pub whole : Line → Content
whole line.Expr = Word minus (Word number (End 0))
whole line.EffectExpr = Word minus (Word number (End 0))
whole line.Denied = Word name (End 0)
whole line.Cmp = Word less (Word number (Word number (End 0)))
whole line.Con = Word and (End 0)
whole line.Trail = Word always (Inner 0 (End 0) (End 0))
whole line.Dur = Word and (End 0)
whole line.UntaggedDur = Word and (End 0)
whole line.Fluent = Word name (End 0)
whole line.Atom = Word name (End 0)
whole (line.Domain l) = domain_whole l
whole (line.Problem l) = problem_whole l
whole l = End 0

-- one of the line in front
abbrev domain_item : DomainLine → Content → Content
domain_item of_domain.Rate x = Word time x
domain_item of_domain.Time x = Word time x
domain_item l x = Inner 0 (domain_whole l) x

abbrev problem_item : ProblemLine → Content → Content
problem_item of_problem.Measure x = Word number x
problem_item l x = Inner 0 (problem_whole l) x

abbrev pub item : Line → Content → Content
item line.Term x = Word name x
item line.Number x = Word number x
item line.Expr x = Word number x
item line.EffectExpr x = Word number x
item line.DurationName x = Word duration x
item line.Name x = Word name x
item line.Keyword x = Word derived x
item line.Fluent x = Word name x
item (line.Domain l) x = domain_item l x
item (line.Problem l) x = problem_item l x
item l x = Inner 0 (whole l) x

-- what ends a list well
abbrev body_complete : ActionSort → Content
body_complete Instant = End 0
body_complete Durative = Word duration_word (Inner 0 (Word and (End 0)) (End 0))

abbrev action_complete : ActionPlace → Content
action_complete (action.Name sort) = Word name (body_complete sort)
action_complete (action.Head sort) = body_complete sort
action_complete (action.Parameters sort) = Inner 0 (End 0) (body_complete sort)
action_complete (action.Body sort) = body_complete sort
action_complete action.Duration = Inner 0 (Word and (End 0)) (End 0)
action_complete action.Timed = End 0
action_complete (action.Condition sort) = Inner 0 (End 0) (End 0)
action_complete (action.Tail sort) = End 0

abbrev domain_complete : DomainRest → Content
domain_complete domain.Heading = pair domain_word name (End 0)
domain_complete domain.FunctionType = Word number_word (End 0)
domain_complete (domain.Snap l) = Word end (item l (End 0))
domain_complete (domain.All l) = Word all (item l (End 0))
domain_complete domain.Factors = Word time (Word number (End 0))
domain_complete r = End 0

abbrev problem_complete : ProblemRest → Content
problem_complete problem.Heading = pair problem_word name (pair of_domain_word name (needed false false))
problem_complete problem.DomainName = pair of_domain_word name (needed false false)
problem_complete (problem.Sections given) = needed given.init given.goal
problem_complete problem.AtInit = End 0
problem_complete problem.CostFormula = Inner 0 (End 0) three
problem_complete problem.CostCurve = three
problem_complete problem.Metric = Word minimize (Word number (End 0))

abbrev pub complete : Rest → Content
complete (rest.One l) = item l (End 0)
complete (rest.Two l m) = item l (item m (End 0))
complete (rest.OneAndSome l) = item l (item l (End 0))
complete (rest.Some l) = item l (End 0)
complete (rest.OneAndMaybe l) = item l (End 0)
complete (rest.Whole l) = whole l
complete rest.Skipped = Word either (End 0)
complete (rest.TypeName of) = Word name (End 0)
complete rest.Sides = Word name (Word name (End 0))
complete (rest.Side plain) = Word name (End 0)
complete (rest.OptionalName l) = Word name (item l (End 0))
complete (rest.EndAnd l) = Word end (item l (End 0))
complete rest.Tag = Word end (item line.UntaggedDur (End 0))
complete rest.OneUntagged = item line.UntaggedDur (End 0)
complete (rest.Action place) = action_complete place
complete (rest.Domain r) = domain_complete r
complete (rest.Problem r) = problem_complete r
complete r = End 0

domain-whole-right : (l : DomainLine) → may_go_on (rest.Whole (line.Domain l)) ≡ true → wrong (rest.Whole (line.Domain l)) (domain_whole l) ≡ []
unfolding wrong takes enters leaves domain_begins domain_takes domain_head is_left_out is_left_out_of_effect
domain-whole-right of_domain.File h = refl
domain-whole-right of_domain.Heading h = refl
domain-whole-right of_domain.Section h = refl
domain-whole-right of_domain.Declared h = refl
domain-whole-right of_domain.TimedCond h = refl
domain-whole-right of_domain.Effect h = refl
domain-whole-right of_domain.SnapEffect h = refl
domain-whole-right of_domain.TimedEffect h = refl
domain-whole-right of_domain.Deleted h = refl
domain-whole-right of_domain.Rate h = refl
domain-whole-right of_domain.Time h = absurd cc

needed-right : (requirements objects constraints time_costs metric init goal : Bool)
    → wrong (rest.Problem (problem.Sections (record { requirements = requirements; objects = objects; init = init; goal = goal; constraints = constraints; time_costs = time_costs; metric = metric }))) (needed init goal) ≡ []
unfolding wrong takes enters leaves problem_begins problem_head goal_head is_left_out
needed-right requirements objects constraints time_costs metric true true = refl
needed-right requirements objects constraints time_costs metric true false = refl
needed-right requirements objects constraints time_costs metric false true = refl
needed-right requirements objects constraints time_costs metric false false = refl

problem-whole-right : (l : ProblemLine) → wrong (rest.Whole (line.Problem l)) (problem_whole l) ≡ []
unfolding wrong takes enters leaves problem_begins problem_takes problem_head init_head goal_head measure_head expr_head is_left_out
problem-whole-right of_problem.File = refl
problem-whole-right of_problem.Heading = refl
problem-whole-right of_problem.DomainName = refl
problem-whole-right of_problem.Section = refl
problem-whole-right of_problem.Init = refl
problem-whole-right of_problem.Literal = refl
problem-whole-right of_problem.Goal = refl
problem-whole-right of_problem.Soft = refl
problem-whole-right of_problem.SoftDenied = refl
problem-whole-right of_problem.TimeCost = refl
problem-whole-right of_problem.Piece = refl
problem-whole-right of_problem.Measure = refl

whole-right : (l : Line) → may_go_on (rest.Whole l) ≡ true → wrong (rest.Whole l) (whole l) ≡ []
unfolding wrong takes enters leaves expr_head cond_head con_head dur_head is_left_out is_left_out_of_condition
whole-right line.Expr h = refl
whole-right line.EffectExpr h = refl
whole-right line.Cond h = refl
whole-right line.Denied h = refl
whole-right line.Cmp h = refl
whole-right line.Tree h = refl
whole-right line.Con h = refl
whole-right line.Trail h = refl
whole-right line.Dur h = refl
whole-right line.UntaggedDur h = refl
whole-right line.Fluent h = refl
whole-right line.Atom h = refl
whole-right (line.Domain l) h = domain-whole-right l h
whole-right (line.Problem l) h = problem-whole-right l
whole-right line.DurationName h = absurd cc
whole-right line.Term h = absurd cc
whole-right line.Number h = absurd cc
whole-right line.VariableList h = absurd cc
whole-right line.Name h = absurd cc
whole-right line.Keyword h = absurd cc

-- where one line is wanted next, one of it goes on behind
module _ (r : Rest) (x : Content) where
  abbrev Words : Line → Type 0
  Words l = (w : Lexeme) (y : Content) → wrong r (Word w y) ≡ or_here w.at (takes_line (Some l) w.bytes w.kind (after r)) (λ s. wrong s y)

  abbrev Lists : Line → Type 0
  Lists l = (at : ℕ) (z y : Content) → wrong r (Inner at z y) ≡ or_here at (inside l) (λ s. wrong s z ++ wrong (after r) y)

  -- a list of the line
  listed : (l : Line) → inside l ≡ Some (rest.Whole l) → may_go_on (rest.Whole l) ≡ true → Lists l → wrong r (Inner 0 (whole l) x) ≡ wrong (after r) x
  listed l e h g = g 0 (whole l) x ∙ ap (λ o. or_here 0 o (λ s. wrong s (whole l) ++ wrong (after r) x)) e ∙ ap (λ p. p ++ wrong (after r) x) (whole-right l h)

  domain-item-goes : (l : DomainLine) → Words (line.Domain l) → Lists (line.Domain l) → wrong r (domain_item l x) ≡ wrong (after r) x
  domain-item-goes of_domain.File f g = listed (line.Domain of_domain.File) refl refl g
  domain-item-goes of_domain.Heading f g = listed (line.Domain of_domain.Heading) refl refl g
  domain-item-goes of_domain.Section f g = listed (line.Domain of_domain.Section) refl refl g
  domain-item-goes of_domain.Declared f g = listed (line.Domain of_domain.Declared) refl refl g
  domain-item-goes of_domain.TimedCond f g = listed (line.Domain of_domain.TimedCond) refl refl g
  domain-item-goes of_domain.Effect f g = listed (line.Domain of_domain.Effect) refl refl g
  domain-item-goes of_domain.SnapEffect f g = listed (line.Domain of_domain.SnapEffect) refl refl g
  domain-item-goes of_domain.TimedEffect f g = listed (line.Domain of_domain.TimedEffect) refl refl g
  domain-item-goes of_domain.Deleted f g = listed (line.Domain of_domain.Deleted) refl refl g
  domain-item-goes of_domain.Rate f g = f time x
  domain-item-goes of_domain.Time f g = f time x

  problem-item-goes : (l : ProblemLine) → Words (line.Problem l) → Lists (line.Problem l) → wrong r (problem_item l x) ≡ wrong (after r) x
  problem-item-goes of_problem.Measure f g = f number x
  problem-item-goes of_problem.File f g = listed (line.Problem of_problem.File) refl refl g
  problem-item-goes of_problem.Heading f g = listed (line.Problem of_problem.Heading) refl refl g
  problem-item-goes of_problem.DomainName f g = listed (line.Problem of_problem.DomainName) refl refl g
  problem-item-goes of_problem.Section f g = listed (line.Problem of_problem.Section) refl refl g
  problem-item-goes of_problem.Init f g = listed (line.Problem of_problem.Init) refl refl g
  problem-item-goes of_problem.Literal f g = listed (line.Problem of_problem.Literal) refl refl g
  problem-item-goes of_problem.Goal f g = listed (line.Problem of_problem.Goal) refl refl g
  problem-item-goes of_problem.Soft f g = listed (line.Problem of_problem.Soft) refl refl g
  problem-item-goes of_problem.SoftDenied f g = listed (line.Problem of_problem.SoftDenied) refl refl g
  problem-item-goes of_problem.TimeCost f g = listed (line.Problem of_problem.TimeCost) refl refl g
  problem-item-goes of_problem.Piece f g = listed (line.Problem of_problem.Piece) refl refl g

  pub item-goes : (l : Line) → Words l → Lists l → wrong r (item l x) ≡ wrong (after r) x
  unfolding wrong
  item-goes line.Term f g = f name x
  item-goes line.Number f g = f number x
  item-goes line.Expr f g = f number x
  item-goes line.EffectExpr f g = f number x
  item-goes line.DurationName f g = f duration x
  item-goes line.Name f g = f name x
  item-goes line.Keyword f g = f derived x
  item-goes line.Fluent f g = f name x
  item-goes line.VariableList f g = g 0 (End 0) x
  item-goes line.Cond f g = listed line.Cond refl refl g
  item-goes line.Tree f g = listed line.Tree refl refl g
  item-goes line.Denied f g = listed line.Denied refl refl g
  item-goes line.Cmp f g = listed line.Cmp refl refl g
  item-goes line.Con f g = listed line.Con refl refl g
  item-goes line.Trail f g = listed line.Trail refl refl g
  item-goes line.Dur f g = listed line.Dur refl refl g
  item-goes line.UntaggedDur f g = listed line.UntaggedDur refl refl g
  item-goes line.Atom f g = listed line.Atom refl refl g
  item-goes (line.Domain l) f g = domain-item-goes l f g
  item-goes (line.Problem l) f g = problem-item-goes l f g

one : (l : Line) (x : Content) → wrong (rest.One l) (item l x) ≡ wrong rest.Nothing x
unfolding wrong takes enters leaves
one l x = item-goes (rest.One l) x l (λ w y. refl) (λ at z y. refl)

-- what ends an action well
dur-right : wrong (rest.Whole line.Dur) (Word and (End 0)) ≡ []
dur-right = whole-right line.Dur refl

duration-right : wrong (rest.Action action.Duration) (Inner 0 (Word and (End 0)) (End 0)) ≡ []
unfolding wrong takes enters leaves
duration-right = ap (λ l. l ++ []) dur-right

body-right : (sort : ActionSort) → wrong (rest.Action (action.Body sort)) (body_complete sort) ≡ []
unfolding wrong takes enters leaves action_takes
body-right Instant = refl
body-right Durative = duration-right

head-right : (sort : ActionSort) → wrong (rest.Action (action.Head sort)) (body_complete sort) ≡ []
unfolding wrong takes enters leaves action_takes
head-right Instant = refl
head-right Durative = duration-right

action-right : (place : ActionPlace) → wrong (rest.Action place) (action_complete place) ≡ []
unfolding wrong takes enters leaves action_takes
action-right (action.Name sort) = head-right sort
action-right (action.Head sort) = head-right sort
action-right (action.Parameters sort) = body-right sort
action-right (action.Body sort) = body-right sort
action-right action.Duration = duration-right
action-right action.Timed = refl
action-right (action.Condition Instant) = refl
action-right (action.Condition Durative) = refl
action-right (action.Tail sort) = refl

domain-right : (r : DomainRest) → wrong (rest.Domain r) (domain_complete r) ≡ []
unfolding wrong takes enters leaves domain_begins domain_takes
domain-right domain.Heading = refl
domain-right (domain.Sections given) = refl
domain-right domain.Functions = refl
domain-right domain.FunctionsMore = refl
domain-right domain.FunctionType = refl
domain-right (domain.Snap l) = one l (End 0)
domain-right (domain.All l) = one l (End 0)
domain-right domain.Factors = refl

sections-right : wrong (rest.Problem (problem.Sections no_problem_section)) (needed false false) ≡ []
sections-right = needed-right false false false false false false false

problem-right : (r : ProblemRest) → wrong (rest.Problem r) (problem_complete r) ≡ []
unfolding wrong takes enters leaves problem_begins problem_takes
problem-right problem.Heading = sections-right
problem-right problem.DomainName = sections-right
problem-right (problem.Sections given) = needed-right given.requirements given.objects given.constraints given.time_costs given.metric given.init given.goal
problem-right problem.AtInit = refl
problem-right problem.CostFormula = refl
problem-right problem.CostCurve = refl
problem-right problem.Metric = refl

pub complete-right : (r : Rest) → may_go_on r ≡ true → wrong r (complete r) ≡ []
unfolding wrong takes enters leaves is_left_out
complete-right rest.Nothing h = refl
complete-right (rest.One l) h = one l (End 0)
complete-right (rest.Two l m) h = item-goes (rest.Two l m) (item m (End 0)) l (λ w y. refl) (λ at z y. refl) ∙ one m (End 0)
complete-right (rest.Many l) h = refl
complete-right (rest.OneAndSome l) h = item-goes (rest.OneAndSome l) (item l (End 0)) l (λ w y. refl) (λ at z y. refl)
    ∙ item-goes (rest.Some l) (End 0) l (λ w y. refl) (λ at z y. refl)
complete-right (rest.Some l) h = item-goes (rest.Some l) (End 0) l (λ w y. refl) (λ at z y. refl)
complete-right (rest.OneAndMaybe l) h = item-goes (rest.OneAndMaybe l) (End 0) l (λ w y. refl) (λ at z y. refl)
complete-right (rest.Maybe l) h = refl
complete-right (rest.Whole l) h = whole-right l h
complete-right rest.Skipped h = refl
complete-right (rest.Typed of) h = refl
complete-right (rest.TypedMore of) h = refl
complete-right (rest.TypeName of) h = refl
complete-right rest.Sides h = refl
complete-right (rest.Side plain) h = refl
complete-right (rest.OptionalName l) h = one l (End 0)
complete-right (rest.EndAnd l) h = one l (End 0)
complete-right rest.Tag h = ap (λ l. l ++ []) (whole-right line.UntaggedDur refl)
complete-right rest.OneUntagged h = ap (λ l. l ++ []) (whole-right line.UntaggedDur refl)
complete-right rest.ManyUntagged h = refl
complete-right (rest.Action place) h = action-right place
complete-right (rest.Domain r) h = domain-right r
complete-right (rest.Problem r) h = problem-right r

domain-item-right : (l : DomainLine) (x : Content) → wrong_item (line.Domain l) (domain_item l x) ≡ []
unfolding wrong_item
domain-item-right of_domain.Rate x = refl
domain-item-right of_domain.Time x = refl
domain-item-right of_domain.File x = whole-right (line.Domain of_domain.File) refl
domain-item-right of_domain.Heading x = whole-right (line.Domain of_domain.Heading) refl
domain-item-right of_domain.Section x = whole-right (line.Domain of_domain.Section) refl
domain-item-right of_domain.Declared x = whole-right (line.Domain of_domain.Declared) refl
domain-item-right of_domain.TimedCond x = whole-right (line.Domain of_domain.TimedCond) refl
domain-item-right of_domain.Effect x = whole-right (line.Domain of_domain.Effect) refl
domain-item-right of_domain.SnapEffect x = whole-right (line.Domain of_domain.SnapEffect) refl
domain-item-right of_domain.TimedEffect x = whole-right (line.Domain of_domain.TimedEffect) refl
domain-item-right of_domain.Deleted x = whole-right (line.Domain of_domain.Deleted) refl

problem-item-right : (l : ProblemLine) (x : Content) → wrong_item (line.Problem l) (problem_item l x) ≡ []
unfolding wrong_item
problem-item-right of_problem.Measure x = refl
problem-item-right of_problem.File x = problem-whole-right of_problem.File
problem-item-right of_problem.Heading x = problem-whole-right of_problem.Heading
problem-item-right of_problem.DomainName x = problem-whole-right of_problem.DomainName
problem-item-right of_problem.Section x = problem-whole-right of_problem.Section
problem-item-right of_problem.Init x = problem-whole-right of_problem.Init
problem-item-right of_problem.Literal x = problem-whole-right of_problem.Literal
problem-item-right of_problem.Goal x = problem-whole-right of_problem.Goal
problem-item-right of_problem.Soft x = problem-whole-right of_problem.Soft
problem-item-right of_problem.SoftDenied x = problem-whole-right of_problem.SoftDenied
problem-item-right of_problem.TimeCost x = problem-whole-right of_problem.TimeCost
problem-item-right of_problem.Piece x = problem-whole-right of_problem.Piece

pub item-right : (l : Line) (x : Content) → wrong_item l (item l x) ≡ []
unfolding wrong_item wrong
item-right line.Term x = refl
item-right line.Number x = refl
item-right line.Expr x = refl
item-right line.EffectExpr x = refl
item-right line.VariableList x = refl
item-right line.Cond x = refl
item-right line.Tree x = refl
item-right line.Name x = refl
item-right line.Keyword x = refl
item-right line.Fluent x = refl
item-right line.Denied x = whole-right line.Denied refl
item-right line.Cmp x = whole-right line.Cmp refl
item-right line.DurationName x = refl
item-right line.Dur x = whole-right line.Dur refl
item-right line.UntaggedDur x = whole-right line.UntaggedDur refl
item-right line.Con x = whole-right line.Con refl
item-right line.Trail x = whole-right line.Trail refl
item-right line.Atom x = whole-right line.Atom refl
item-right (line.Domain l) x = domain-item-right l x
item-right (line.Problem l) x = problem-item-right l x
