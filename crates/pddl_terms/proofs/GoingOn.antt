-- Up to its first wrong place a list goes on as one that is right.
use Rattle.std.proofs.Common.{◌≡◌, ◌⊎◌, ℕ, Bool, true, false, List, [], ◌∷◌, ◌++◌, Option, Some, None, refl, ap, ◌∙◌, subst, inl, inr, if◌then◌else◌}
use lib.Chars.{codes}
use Rattle.sexpr_text.specs.declared.token.TokenKind.{TokenKind}
use Rattle.pddl_terms.specs.declared.grammar.Line.{Line}
use Rattle.pddl_terms.specs.declared.grammar.Line.TheVariants as line
use Rattle.pddl_terms.specs.declared.grammar.Rest.{Rest}
use Rattle.pddl_terms.specs.declared.grammar.Rest.TheVariants as rest
use Rattle.pddl_terms.specs.declared.heads.ExprHead.{ExprHead}
use Rattle.pddl_terms.specs.declared.heads.ExprHead.TheVariants as expr
use Rattle.pddl_terms.specs.declared.heads.CondHead.{CondHead}
use Rattle.pddl_terms.specs.declared.heads.CondHead.TheVariants as cond
use Rattle.pddl_terms.specs.declared.heads.TreeHead.{TreeHead}
use Rattle.pddl_terms.specs.declared.heads.TreeHead.TheVariants as tree
use Rattle.pddl_terms.specs.declared.heads.TrailHead.{TrailHead}
use Rattle.pddl_terms.specs.declared.heads.TrailHead.TheVariants as trail
use Rattle.pddl_terms.specs.declared.heads.ConHead.{ConHead}
use Rattle.pddl_terms.specs.declared.heads.ConHead.TheVariants as con
use Rattle.pddl_terms.specs.declared.heads.DurHead.{DurHead}
use Rattle.pddl_terms.specs.declared.heads.DurHead.TheVariants as dur
use Rattle.pddl_terms.specs.declared.grammar.ActionPlace.{ActionPlace}
use Rattle.pddl_terms.specs.declared.grammar.ActionPlace.TheVariants as action
use Rattle.pddl_terms.specs.declared.grammar.ActionSort.{ActionSort}
use Rattle.pddl_terms.specs.declared.grammar.ActionSort.TheVariants.{Instant, Durative}
use Rattle.pddl_terms.specs.declared.grammar.DomainGiven.{DomainGiven}
use Rattle.pddl_terms.specs.declared.grammar.DomainLine.{DomainLine}
use Rattle.pddl_terms.specs.declared.grammar.DomainLine.TheVariants as of_domain
use Rattle.pddl_terms.specs.declared.grammar.DomainRest.{DomainRest}
use Rattle.pddl_terms.specs.declared.grammar.DomainRest.TheVariants as domain
use Rattle.pddl_terms.specs.declared.grammar.ProblemGiven.{ProblemGiven}
use Rattle.pddl_terms.specs.declared.grammar.ProblemLine.{ProblemLine}
use Rattle.pddl_terms.specs.declared.grammar.ProblemLine.TheVariants as of_problem
use Rattle.pddl_terms.specs.declared.grammar.ProblemRest.{ProblemRest}
use Rattle.pddl_terms.specs.declared.grammar.ProblemRest.TheVariants as problem
use Rattle.pddl_terms.specs.declared.domain_heads.DomainHead.{DomainHead}
use Rattle.pddl_terms.specs.declared.domain_heads.DomainHead.TheVariants as section
use Rattle.pddl_terms.specs.declared.domain_heads.EffHead.{EffHead}
use Rattle.pddl_terms.specs.declared.domain_heads.EffHead.TheVariants as eff
use Rattle.pddl_terms.specs.declared.domain_heads.TimedEffHead.{TimedEffHead}
use Rattle.pddl_terms.specs.declared.domain_heads.TimedEffHead.TheVariants as timed_eff
use Rattle.pddl_terms.specs.declared.domain_heads.TimedCondHead.{TimedCondHead}
use Rattle.pddl_terms.specs.declared.domain_heads.TimedCondHead.TheVariants as timed_cond
use Rattle.pddl_terms.specs.declared.problem_heads.ProblemHead.{ProblemHead}
use Rattle.pddl_terms.specs.declared.problem_heads.ProblemHead.TheVariants as problem_section
use Rattle.pddl_terms.specs.declared.problem_heads.InitHead.{InitHead}
use Rattle.pddl_terms.specs.declared.problem_heads.InitHead.TheVariants as init
use Rattle.pddl_terms.specs.declared.problem_heads.GoalHead.{GoalHead}
use Rattle.pddl_terms.specs.declared.problem_heads.GoalHead.TheVariants as goal
use Rattle.pddl_terms.specs.declared.problem_heads.SoftHead.{SoftHead}
use Rattle.pddl_terms.specs.declared.problem_heads.SoftHead.TheVariants as soft
use Rattle.pddl_terms.specs.declared.problem_heads.MeasureHead.{MeasureHead}
use Rattle.pddl_terms.specs.declared.problem_heads.MeasureHead.TheVariants as measure
use Rattle.pddl_terms.specs.Effects.{eff_head, eff_rest, is_left_out_of_effect, deleted_rest, timed_eff_head, timed_eff_rest, rate_rest, first_factor, timed_cond_head, timed_cond_rest}
use Rattle.pddl_terms.specs.Actions.{tail_takes, effect_line, timed_takes, instant_takes, body_takes, head_takes, action_takes}
use Rattle.pddl_terms.specs.Domains.{domain_head, domain_section_rest, declared_rest, domain_begins, domain_takes, domain_section_enters, domain_leaves}
use Rattle.pddl_terms.specs.Domains as of_domains
use Rattle.pddl_terms.specs.Goals.{goal_head, goal_cond_rest, goal_rest, soft_head, denied_tree_rest, soft_denied_rest, soft_tree_rest, soft_rest, measure_head, measure_rest}
use Rattle.pddl_terms.specs.Problems.{problem_head, problem_section_rest, init_head, init_rest, literal_rest, at_init, time_cost_rest, piece_rest, problem_begins, problem_takes, problem_section_enters, problem_leaves}
use Rattle.pddl_terms.specs.Problems as of_problems
use Rattle.pddl_terms.specs.Durations.{dur_head, dur_rest, untagged_rest}
use Rattle.pddl_terms.specs.Content.{Content, End, Word, Inner}
use Rattle.pddl_terms.specs.Words.{same_word, is_name, is_variable, is_number, is_time, is_term_or_end, is_left_out}
use Rattle.pddl_terms.specs.Grammar.{action_after, domain_after, problem_after, wanted, after, only_if}
use Rattle.pddl_terms.specs.Typed.{is_listed, named}
use Rattle.pddl_terms.specs.Expressions.{expr_head, expr_rest, first_side}
use Rattle.pddl_terms.specs.Conditions.{cond_head, cond_rest, denied_rest, cmp_rest}
use Rattle.pddl_terms.specs.Formulas.{tree_head, tree_rest}
use Rattle.pddl_terms.specs.Constraints.{con_head, con_rest, trail_rest, behind_trail}
use Rattle.pddl_terms.specs.Lines.{begins, inside, stands, call_rest}
use Rattle.pddl_terms.specs.Shape.{may_end, takes, takes_line, enters, enters_line, enters_untagged, leaves, kind_ahead, word_ahead, or_here, wrong, wrong_item, IsFirst}
use Rattle.pddl_terms.specs.Beginnings.{SameBefore, may_go_on}
use Rattle.pddl_terms.proofs.Completions.{complete, complete-right, item, item-right}

-- what may follow, if something may, may go on
goes : Option Rest → Bool
goes None = true
goes (Some r) = may_go_on r

goes-some : (o : Option Rest) (r : Rest) → goes o ≡ true → o ≡ Some r → may_go_on r ≡ true
unfolding goes
goes-some o r h e = subst (λ (p : Option Rest). goes p ≡ true) e h

goes-only_if : (b : Bool) (r : Rest) → may_go_on r ≡ true → goes (only_if b r) ≡ true
unfolding goes
goes-only_if true r h = h
goes-only_if false r h = refl

goes-if : (b : Bool) (o p : Option Rest) → goes o ≡ true → goes p ≡ true → goes (if b then o else p) ≡ true
goes-if true o p f g = f
goes-if false o p f g = g

goes-skipped : goes (Some rest.Skipped) ≡ true
unfolding goes
goes-skipped = refl

goes-named : (kind : TokenKind) → goes (named kind) ≡ true
goes-named kind = goes-only_if (is_name kind) (rest.Many line.Term) refl

module _ (kind : TokenKind) where
  goes-expr : (l : Line) (h : ExprHead) → goes (expr_rest l h kind) ≡ true
  unfolding goes
  goes-expr l expr.LeftOut = refl
  goes-expr l expr.Sum = refl
  goes-expr l expr.Product = refl
  goes-expr l expr.Minus = refl
  goes-expr l expr.Quotient = refl
  goes-expr l expr.Named = goes-only_if (is_name kind) (rest.Many line.Term) refl

  goes-cond : (h : CondHead) → goes (cond_rest h kind) ≡ true
  unfolding goes
  goes-cond cond.LeftOut = refl
  goes-cond cond.And = refl
  goes-cond cond.Forall = refl
  goes-cond cond.Not = refl
  goes-cond cond.Equal = refl
  goes-cond (cond.Compare c) = refl
  goes-cond cond.Named = goes-only_if (is_name kind) (rest.Many line.Term) refl

  goes-denied : (h : CondHead) → goes (denied_rest h kind) ≡ true
  unfolding goes
  goes-denied cond.LeftOut = refl
  goes-denied cond.And = goes-only_if (is_name kind) (rest.Many line.Term) refl
  goes-denied cond.Forall = goes-only_if (is_name kind) (rest.Many line.Term) refl
  goes-denied cond.Not = refl
  goes-denied cond.Equal = refl
  goes-denied (cond.Compare c) = refl
  goes-denied cond.Named = goes-only_if (is_name kind) (rest.Many line.Term) refl

  goes-cmp : (h : CondHead) → goes (cmp_rest h) ≡ true
  unfolding goes
  goes-cmp cond.LeftOut = refl
  goes-cmp cond.And = refl
  goes-cmp cond.Forall = refl
  goes-cmp cond.Not = refl
  goes-cmp cond.Equal = refl
  goes-cmp (cond.Compare c) = refl
  goes-cmp cond.Named = refl

  goes-tree : (h : TreeHead) → goes (tree_rest h kind) ≡ true
  unfolding goes
  goes-tree tree.LeftOut = refl
  goes-tree tree.Named = goes-only_if (is_name kind) (rest.Many line.Term) refl
  goes-tree tree.Equal = refl
  goes-tree tree.And = refl
  goes-tree tree.Or = refl
  goes-tree tree.Not = refl
  goes-tree tree.Imply = refl
  goes-tree tree.Exists = refl
  goes-tree tree.Forall = refl

goes-trail : (h : TrailHead) → may_go_on (behind_trail h) ≡ true
goes-trail trail.Always = refl
goes-trail trail.Sometime = refl
goes-trail trail.Within = refl
goes-trail trail.AtMostOnce = refl
goes-trail trail.SometimeAfter = refl
goes-trail trail.SometimeBefore = refl
goes-trail trail.AtEnd = refl

goes-con : (h : ConHead) → goes (con_rest h) ≡ true
unfolding goes
goes-con con.LeftOut = refl
goes-con con.And = refl
goes-con con.Forall = refl
goes-con con.Preference = refl
goes-con (con.Trail h) = goes-trail h
goes-con con.Unknown = refl

goes-trails : (h : ConHead) → goes (trail_rest h) ≡ true
unfolding goes
goes-trails con.LeftOut = refl
goes-trails con.And = refl
goes-trails con.Forall = refl
goes-trails con.Preference = refl
goes-trails (con.Trail h) = goes-trail h
goes-trails con.Unknown = refl

goes-dur : (h : DurHead) → goes (dur_rest h) ≡ true
unfolding goes
goes-dur dur.LeftOut = refl
goes-dur dur.And = refl
goes-dur dur.At = refl
goes-dur (dur.Bound c) = refl
goes-dur dur.Unknown = refl

goes-untagged : (h : DurHead) → goes (untagged_rest h) ≡ true
unfolding goes
goes-untagged dur.LeftOut = refl
goes-untagged dur.And = refl
goes-untagged dur.At = refl
goes-untagged (dur.Bound c) = refl
goes-untagged dur.Unknown = refl

-- the lines of a domain
module _ (kind : TokenKind) where
  goes-eff : (l e : Line) (h : EffHead) → goes (eff_rest l e h kind) ≡ true
  unfolding goes
  goes-eff l e eff.LeftOut = refl
  goes-eff l e eff.And = refl
  goes-eff l e eff.Not = refl
  goes-eff l e (eff.Change c) = refl
  goes-eff l e eff.Named = goes-named kind

goes-timed_eff : (h : TimedEffHead) → goes (timed_eff_rest h) ≡ true
unfolding goes
goes-timed_eff timed_eff.LeftOut = refl
goes-timed_eff timed_eff.And = refl
goes-timed_eff timed_eff.At = refl
goes-timed_eff (timed_eff.Rate t) = refl
goes-timed_eff timed_eff.Unknown = refl

goes-timed_cond : (h : TimedCondHead) → goes (timed_cond_rest h) ≡ true
unfolding goes
goes-timed_cond timed_cond.LeftOut = refl
goes-timed_cond timed_cond.And = refl
goes-timed_cond timed_cond.At = refl
goes-timed_cond timed_cond.Over = refl
goes-timed_cond timed_cond.Unknown = refl

goes-section : (h : DomainHead) → goes (domain_section_rest h) ≡ true
unfolding goes
goes-section section.LeftOut = refl
goes-section section.Requirements = refl
goes-section section.Types = refl
goes-section section.Constants = refl
goes-section section.Predicates = refl
goes-section section.Functions = refl
goes-section section.Constraints = refl
goes-section (section.Action sort) = refl
goes-section section.Unknown = refl

goes-domain : (l : DomainLine) (word : List ℕ) (kind : TokenKind) → goes (domain_begins l word kind) ≡ true
unfolding goes domain_begins
goes-domain of_domain.File word kind = goes-only_if (same_word word (codes "define")) (rest.Domain domain.Heading) refl
goes-domain of_domain.Heading word kind = goes-only_if (same_word word (codes "domain")) (rest.One line.Name) refl
goes-domain of_domain.Section word kind = goes-section (domain_head word)
goes-domain of_domain.Declared word kind = goes-if (is_left_out word) _ _ goes-skipped (goes-only_if (is_name kind) _ refl)
goes-domain of_domain.TimedCond word kind = goes-timed_cond (timed_cond_head word)
goes-domain of_domain.Effect word kind = goes-eff kind _ _ (eff_head word)
goes-domain of_domain.SnapEffect word kind = goes-eff kind _ _ (eff_head word)
goes-domain of_domain.TimedEffect word kind = goes-timed_eff (timed_eff_head word)
goes-domain of_domain.Deleted word kind = goes-if (is_left_out_of_effect word) _ _ goes-skipped (goes-named kind)
goes-domain of_domain.Rate word kind = goes-if (is_left_out word) _ _ goes-skipped (goes-only_if (same_word word (codes "*")) (rest.Domain domain.Factors) refl)
goes-domain of_domain.Time word kind = refl

-- the lines of a problem
goes-problem_section : (h : ProblemHead) → goes (problem_section_rest h) ≡ true
unfolding goes
goes-problem_section problem_section.LeftOut = refl
goes-problem_section problem_section.Requirements = refl
goes-problem_section problem_section.Objects = refl
goes-problem_section problem_section.Init = refl
goes-problem_section problem_section.Goal = refl
goes-problem_section problem_section.Constraints = refl
goes-problem_section problem_section.TimeCosts = refl
goes-problem_section problem_section.Metric = refl
goes-problem_section problem_section.Unknown = refl

module _ (kind : TokenKind) where
  goes-init : (h : InitHead) → goes (init_rest h kind) ≡ true
  unfolding goes
  goes-init init.LeftOut = refl
  goes-init init.Not = refl
  goes-init init.Value = refl
  goes-init init.At = refl
  goes-init init.Named = goes-named kind

  goes-literal : (h : InitHead) → goes (literal_rest h kind) ≡ true
  unfolding goes
  goes-literal init.LeftOut = refl
  goes-literal init.Not = refl
  goes-literal init.Value = goes-named kind
  goes-literal init.At = goes-named kind
  goes-literal init.Named = goes-named kind

  goes-goal_cond : (h : CondHead) → goes (goal_cond_rest h kind) ≡ true
  unfolding goes
  goes-goal_cond cond.And = refl
  goes-goal_cond cond.Forall = refl
  goes-goal_cond h = goes-cond kind h

  goes-goal : (h : GoalHead) → goes (goal_rest h kind) ≡ true
  unfolding goes
  goes-goal goal.Preference = refl
  goes-goal (goal.Condition h) = goes-goal_cond h

  goes-denied_tree : (h : TreeHead) → goes (denied_tree_rest h kind) ≡ true
  unfolding goes
  goes-denied_tree tree.Not = refl
  goes-denied_tree h = goes-tree kind h

  goes-soft_denied : (h : SoftHead) → goes (soft_denied_rest h kind) ≡ true
  unfolding goes
  goes-soft_denied (soft.Compare c) = refl
  goes-soft_denied (soft.Formula h) = goes-denied_tree h

  goes-soft_tree : (h : TreeHead) → goes (soft_tree_rest h kind) ≡ true
  unfolding goes
  goes-soft_tree tree.And = refl
  goes-soft_tree h = goes-denied_tree h

  goes-soft : (h : SoftHead) → goes (soft_rest h kind) ≡ true
  unfolding goes
  goes-soft (soft.Compare c) = refl
  goes-soft (soft.Formula h) = goes-soft_tree h

  goes-measure : (h : MeasureHead) → goes (measure_rest h kind) ≡ true
  unfolding goes
  goes-measure measure.TotalTime = refl
  goes-measure measure.Violated = refl
  goes-measure measure.TimeCost = refl
  goes-measure (measure.Expression h) = goes-expr kind (line.Problem of_problem.Measure) h

goes-problem : (l : ProblemLine) (word : List ℕ) (kind : TokenKind) → goes (problem_begins l word kind) ≡ true
unfolding goes problem_begins
goes-problem of_problem.File word kind = goes-only_if (same_word word (codes "define")) (rest.Problem problem.Heading) refl
goes-problem of_problem.Heading word kind = goes-only_if (same_word word (codes "problem")) (rest.One line.Name) refl
goes-problem of_problem.DomainName word kind = goes-only_if (same_word word (codes ":domain")) (rest.One line.Name) refl
goes-problem of_problem.Section word kind = goes-problem_section (problem_head word)
goes-problem of_problem.Init word kind = goes-init kind (init_head word)
goes-problem of_problem.Literal word kind = goes-literal kind (init_head word)
goes-problem of_problem.Goal word kind = goes-goal kind (goal_head word)
goes-problem of_problem.Soft word kind = goes-soft kind (soft_head word)
goes-problem of_problem.SoftDenied word kind = goes-soft_denied kind (soft_head word)
goes-problem of_problem.TimeCost word kind = goes-if (is_left_out word) _ _ goes-skipped (goes-only_if (is_name kind) (rest.Problem problem.CostFormula) refl)
goes-problem of_problem.Piece word kind = goes-if (is_left_out word) _ _ goes-skipped (goes-only_if (is_number kind) (rest.Two line.Number line.Number) refl)
goes-problem of_problem.Measure word kind = goes-measure kind (measure_head word)

goes-begins : (l : Line) (word : List ℕ) (kind : TokenKind) → goes (begins l word kind) ≡ true
unfolding goes
goes-begins line.Expr word kind = goes-expr kind line.Expr (expr_head word)
goes-begins line.EffectExpr word kind = goes-expr kind line.EffectExpr (expr_head word)
goes-begins line.Cond word kind = goes-cond kind (cond_head word)
goes-begins line.Denied word kind = goes-denied kind (cond_head word)
goes-begins line.Cmp word kind = goes-cmp kind (cond_head word)
goes-begins line.Tree word kind = goes-tree kind (tree_head word)
goes-begins line.Con word kind = goes-con (con_head word)
goes-begins line.Trail word kind = goes-trails (con_head word)
goes-begins line.Dur word kind = goes-dur (dur_head word)
goes-begins line.UntaggedDur word kind = goes-untagged (dur_head word)
goes-begins line.DurationName word kind = refl
goes-begins line.Term word kind = refl
goes-begins line.Number word kind = refl
goes-begins line.VariableList word kind = refl
goes-begins line.Name word kind = refl
goes-begins line.Keyword word kind = refl
goes-begins line.Fluent word kind = goes-if (is_left_out word) _ _ goes-skipped (goes-named kind)
goes-begins line.Atom word kind = goes-if (is_left_out word) _ _ goes-skipped (goes-named kind)
goes-begins (line.Domain l) word kind = goes-domain l word kind
goes-begins (line.Problem l) word kind = goes-problem l word kind

goes-action_after : (place : ActionPlace) → may_go_on (action_after place) ≡ true
goes-action_after (action.Parameters sort) = refl
goes-action_after action.Duration = refl
goes-action_after (action.Condition sort) = refl
goes-action_after place = refl

goes-domain_after : (r : DomainRest) → may_go_on (domain_after r) ≡ true
goes-domain_after domain.Heading = refl
goes-domain_after domain.Functions = refl
goes-domain_after domain.FunctionsMore = refl
goes-domain_after domain.Factors = refl
goes-domain_after r = refl

goes-problem_after : (r : ProblemRest) → may_go_on (problem_after r) ≡ true
goes-problem_after problem.Heading = refl
goes-problem_after problem.DomainName = refl
goes-problem_after problem.CostFormula = refl
goes-problem_after problem.CostCurve = refl
goes-problem_after r = refl

goes-after : (r : Rest) → may_go_on (after r) ≡ true
goes-after (rest.Action place) = goes-action_after place
goes-after (rest.Domain r) = goes-domain_after r
goes-after (rest.Problem r) = goes-problem_after r
goes-after (rest.Two l m) = refl
goes-after (rest.Many l) = refl
goes-after (rest.OneAndSome l) = refl
goes-after (rest.Some l) = refl
goes-after (rest.OneAndMaybe l) = refl
goes-after r = refl

goes-line : (o : Option Line) (word : List ℕ) (kind : TokenKind) (r : Rest) → may_go_on r ≡ true → goes (takes_line o word kind r) ≡ true
unfolding goes
goes-line None word kind r h = refl
goes-line (Some l) word kind r h = goes-only_if (stands l word kind) r h

goes-tail : (sort : ActionSort) (word : List ℕ) → goes (tail_takes sort word) ≡ true
goes-tail sort word = goes-only_if (same_word word (codes ":effect")) (rest.One (effect_line sort)) refl

goes-body : (sort : ActionSort) (word : List ℕ) → goes (body_takes sort word) ≡ true
unfolding goes
goes-body Instant word = goes-if (same_word word (codes ":precondition")) _ _ refl (goes-tail Instant word)
goes-body Durative word = goes-only_if (same_word word (codes ":duration")) (rest.Action action.Duration) refl

goes-action : (place : ActionPlace) (word : List ℕ) (kind : TokenKind) → goes (action_takes place word kind) ≡ true
unfolding goes action_takes
goes-action (action.Name sort) word kind = goes-only_if (is_name kind) (rest.Action (action.Head sort)) refl
goes-action (action.Head sort) word kind = goes-if (same_word word (codes ":parameters")) _ _ refl (goes-body sort word)
goes-action (action.Parameters sort) word kind = refl
goes-action (action.Body sort) word kind = goes-body sort word
goes-action action.Duration word kind = refl
goes-action action.Timed word kind = goes-if (same_word word (codes ":condition")) _ _ refl (goes-tail Durative word)
goes-action (action.Condition sort) word kind = refl
goes-action (action.Tail sort) word kind = goes-tail sort word

goes-domain_takes : (r : DomainRest) (word : List ℕ) (kind : TokenKind) → goes (domain_takes r word kind) ≡ true
unfolding goes domain_takes
goes-domain_takes domain.FunctionsMore word kind = goes-only_if (same_word word (codes "-")) (rest.Domain domain.FunctionType) refl
goes-domain_takes domain.FunctionType word kind = goes-only_if (same_word word (codes "number")) (rest.Domain domain.Functions) refl
goes-domain_takes (domain.Snap l) word kind = goes-only_if _ (rest.One l) refl
goes-domain_takes (domain.All l) word kind = goes-only_if (same_word word (codes "all")) (rest.One l) refl
goes-domain_takes domain.Factors word kind = goes-if (is_time kind) _ _ refl (goes-only_if _ (rest.One (line.Domain of_domain.Time)) refl)
goes-domain_takes r word kind = refl

goes-problem_takes : (r : ProblemRest) (word : List ℕ) (kind : TokenKind) → goes (problem_takes r word kind) ≡ true
unfolding goes problem_takes
goes-problem_takes problem.AtInit word kind = goes-if (is_number kind) _ _ refl (goes-only_if _ (rest.Many line.Term) refl)
goes-problem_takes problem.CostCurve word kind = goes-only_if (is_number kind) (rest.Two line.Number line.Number) refl
goes-problem_takes problem.Metric word kind = goes-only_if _ (rest.One (line.Problem of_problem.Measure)) refl
goes-problem_takes r word kind = refl

goes-takes : (r : Rest) (word : List ℕ) (kind ahead : TokenKind) → goes (takes r word kind ahead) ≡ true
unfolding takes goes
goes-takes (rest.Whole l) word kind ahead = goes-begins l word kind
goes-takes rest.Skipped word kind ahead = refl
goes-takes (rest.Typed of) word kind ahead = goes-only_if (is_listed of kind) (rest.TypedMore of) refl
goes-takes (rest.TypedMore of) word kind ahead = goes-if (is_listed of kind) _ _ (goes-only_if (is_listed of kind) (rest.TypedMore of) refl)
    (goes-only_if (same_word word (codes "-")) (rest.TypeName of) refl)
goes-takes (rest.TypeName of) word kind ahead = goes-only_if (is_name kind) (rest.Typed of) refl
goes-takes rest.Sides word kind ahead = goes-if (is_variable kind) _ _ (goes-only_if (is_term_or_end ahead) (rest.Side true) refl)
    (goes-if (is_name kind) _ _ refl (goes-only_if (is_number kind) (rest.Side false) refl))
goes-takes (rest.Side plain) word kind ahead = goes-if (is_variable kind) _ _ (goes-only_if plain rest.Nothing refl) (goes-only_if _ rest.Nothing refl)
goes-takes (rest.OptionalName l) word kind ahead = goes-only_if (is_name kind) (rest.One l) refl
goes-takes (rest.EndAnd l) word kind ahead = goes-only_if (same_word word (codes "end")) (rest.One l) refl
goes-takes rest.Tag word kind ahead = goes-only_if _ rest.OneUntagged refl
goes-takes (rest.Action place) word kind ahead = goes-action place word kind
goes-takes (rest.Domain r) word kind ahead = goes-domain_takes r word kind
goes-takes (rest.Problem r) word kind ahead = goes-problem_takes r word kind
goes-takes r word kind ahead = goes-line (wanted r) word kind (after r) (goes-after r)

goes-inside : (l : Line) → goes (inside l) ≡ true
unfolding goes
goes-inside line.Term = refl
goes-inside line.Number = refl
goes-inside line.DurationName = refl
goes-inside line.VariableList = refl
goes-inside line.Name = refl
goes-inside line.Keyword = refl
goes-inside (line.Domain of_domain.Time) = refl
goes-inside (line.Domain l) = refl
goes-inside l = refl

goes-enters_line : (o : Option Line) → goes (enters_line o) ≡ true
unfolding goes
goes-enters_line None = refl
goes-enters_line (Some l) = goes-inside l

goes-enters : (r : Rest) (first : List ℕ) → goes (enters r first) ≡ true
unfolding enters goes
goes-enters (rest.Domain (domain.Sections given)) first = goes-if (of_domains.is_given given (domain_head first)) None (Some (rest.Whole (line.Domain of_domain.Section))) refl refl
goes-enters (rest.Problem (problem.Sections given)) first = goes-if (of_problems.is_given given (problem_head first)) None (Some (rest.Whole (line.Problem of_problem.Section))) refl refl
goes-enters rest.Skipped first = refl
goes-enters (rest.TypeName of) first = goes-only_if (is_left_out first) rest.Skipped refl
goes-enters rest.Sides first = refl
goes-enters (rest.Side plain) first = refl
goes-enters rest.OneUntagged first = goes-if (same_word first (codes "at")) None (Some (rest.Whole line.UntaggedDur)) refl refl
goes-enters rest.ManyUntagged first = goes-if (same_word first (codes "at")) None (Some (rest.Whole line.UntaggedDur)) refl refl
goes-enters r first = goes-enters_line (wanted r)

goes-leaves : (r : Rest) (first : List ℕ) → may_go_on (leaves r first) ≡ true
unfolding leaves
goes-leaves rest.Skipped first = refl
goes-leaves (rest.TypeName of) first = refl
goes-leaves rest.Sides first = refl
goes-leaves (rest.Side plain) first = refl
goes-leaves rest.ManyUntagged first = refl
goes-leaves (rest.Domain (domain.Sections given)) first = refl
goes-leaves (rest.Domain r) first = goes-domain_after r
goes-leaves (rest.Problem (problem.Sections given)) first = refl
goes-leaves (rest.Problem r) first = goes-problem_after r
goes-leaves r first = goes-after r

-- A word before what ends the rest well: the token ahead changes nothing.
side-ahead : (kind ahead : TokenKind) (s : Rest) → first_side kind ahead ≡ Some s → first_side kind (kind_ahead (complete s)) ≡ Some s
side-ahead kind ahead s e = by_tests (is_variable kind) (is_term_or_end ahead) (is_name kind) (is_number kind) s e
  where
    by_tests : (v a n m : Bool) (s : Rest)
        → (if v then only_if a (rest.Side true) else (if n then Some (rest.Side true) else only_if m (rest.Side false))) ≡ Some s
        → (if v then only_if (is_term_or_end (kind_ahead (complete s))) (rest.Side true) else (if n then Some (rest.Side true) else only_if m (rest.Side false))) ≡ Some s
    by_tests true true n m s e = let same : rest.Side true ≡ s = cc in subst (λ (t : Rest). only_if (is_term_or_end (kind_ahead (complete t))) (rest.Side true) ≡ Some t) same refl
    by_tests true false n m s e = absurd cc
    by_tests false a n m s e = e

takes-ahead : (r : Rest) (word : List ℕ) (kind ahead : TokenKind) (s : Rest) → takes r word kind ahead ≡ Some s → takes r word kind (kind_ahead (complete s)) ≡ Some s
unfolding takes
takes-ahead rest.Sides word kind ahead s e = side-ahead kind ahead s e
takes-ahead (rest.Whole l) word kind ahead s e = e
takes-ahead rest.Skipped word kind ahead s e = e
takes-ahead (rest.Typed of) word kind ahead s e = e
takes-ahead (rest.TypedMore of) word kind ahead s e = e
takes-ahead (rest.TypeName of) word kind ahead s e = e
takes-ahead (rest.Side plain) word kind ahead s e = e
takes-ahead (rest.OptionalName l) word kind ahead s e = e
takes-ahead (rest.EndAnd l) word kind ahead s e = e
takes-ahead rest.Tag word kind ahead s e = e
takes-ahead r word kind ahead s e = e

untagged-ahead : (first : List ℕ) (s : Rest) → enters_untagged first ≡ Some s → enters_untagged (word_ahead (complete s)) ≡ Some s
untagged-ahead first s e = by_test (same_word first (codes "at")) e
  where
    by_test : (b : Bool) → (if b then None else Some (rest.Whole line.UntaggedDur)) ≡ Some s → enters_untagged (word_ahead (complete s)) ≡ Some s
    by_test true f = absurd cc
    by_test false f = let same : rest.Whole line.UntaggedDur ≡ s = cc in subst (λ (t : Rest). enters_untagged (word_ahead (complete t)) ≡ Some t) same refl

-- a left-out section stands wherever a section stands
domain-ahead : (given : DomainGiven) (first : List ℕ) (s : Rest) → domain_section_enters given first ≡ Some s → domain_section_enters given (word_ahead (complete s)) ≡ Some s
unfolding domain_head is_left_out
domain-ahead given first s e = by_test (of_domains.is_given given (domain_head first)) e
  where
    by_test : (b : Bool) → (if b then None else Some (rest.Whole (line.Domain of_domain.Section))) ≡ Some s → domain_section_enters given (word_ahead (complete s)) ≡ Some s
    by_test true f = absurd cc
    by_test false f = let same : rest.Whole (line.Domain of_domain.Section) ≡ s = cc in subst (λ (t : Rest). domain_section_enters given (word_ahead (complete t)) ≡ Some t) same refl

problem-ahead : (given : ProblemGiven) (first : List ℕ) (s : Rest) → problem_section_enters given first ≡ Some s → problem_section_enters given (word_ahead (complete s)) ≡ Some s
unfolding problem_head is_left_out
problem-ahead given first s e = by_test (of_problems.is_given given (problem_head first)) e
  where
    by_test : (b : Bool) → (if b then None else Some (rest.Whole (line.Problem of_problem.Section))) ≡ Some s → problem_section_enters given (word_ahead (complete s)) ≡ Some s
    by_test true f = absurd cc
    by_test false f = let same : rest.Whole (line.Problem of_problem.Section) ≡ s = cc in subst (λ (t : Rest). problem_section_enters given (word_ahead (complete t)) ≡ Some t) same refl

enters-ahead : (r : Rest) (first : List ℕ) (s : Rest) → enters r first ≡ Some s → enters r (word_ahead (complete s)) ≡ Some s
unfolding enters is_left_out
enters-ahead (rest.TypeName of) first s e = by_test (is_left_out first) e
  where
    by_test : (b : Bool) → only_if b rest.Skipped ≡ Some s → only_if (is_left_out (word_ahead (complete s))) rest.Skipped ≡ Some s
    by_test true f = let same : rest.Skipped ≡ s = cc in subst (λ (t : Rest). only_if (is_left_out (word_ahead (complete t))) rest.Skipped ≡ Some t) same refl
    by_test false f = absurd cc
enters-ahead rest.Skipped first s e = e
enters-ahead rest.Sides first s e = e
enters-ahead (rest.Side plain) first s e = e
enters-ahead (rest.Domain (domain.Sections given)) first s e = domain-ahead given first s e
enters-ahead (rest.Problem (problem.Sections given)) first s e = problem-ahead given first s e
enters-ahead rest.OneUntagged first s e = untagged-ahead first s e
enters-ahead rest.ManyUntagged first s e = untagged-ahead first s e
enters-ahead r first s e = e

-- Another content of the list, which is right and has the same tokens before the place. Where the place isn't that of
-- its first token, it begins alike; else it is what ends the rest well.
pub record GoesOn (r : Rest) (x : Content) (place : ℕ) : Type 0 where
  pub other : Content
  pub same : SameBefore place x other
  pub right : wrong r other ≡ []
  pub ahead : ((kind_ahead other ≡ kind_ahead x) × (word_ahead other ≡ word_ahead x)) ⊎ (other ≡ complete r)

pub split-first : (xs ys : List ℕ) (place : ℕ) → IsFirst place (xs ++ ys) → IsFirst place xs ⊎ ((xs ≡ []) × IsFirst place ys)
split-first [] ys place f = inr (refl, f)
split-first (x ∷ xs) ys place f = let same : x ≡ place = cc (f.1) in inl (xs, ap (λ p. p ∷ xs) same)

module _ (r : Rest) (h : may_go_on r ≡ true) (place : ℕ) where
  stops : (x : Content) → SameBefore place x (complete r) → GoesOn r x place
  stops x s = record { other = complete r; same = s; right = complete-right r h; ahead = inr refl }

  at_end : (close : ℕ) (b : Bool) → IsFirst place (if b then [] else close ∷ []) → close ≡ place
  at_end close true f = absurd (cc (f.1))
  at_end close false f = cc (f.1)

pub goes_on : (x : Content) (r : Rest) (place : ℕ) → may_go_on r ≡ true → IsFirst place (wrong r x) → GoesOn r x place
unfolding wrong
goes_on (End close) r place h f = stops r h place (End close) (at_end r h place close (may_end r) f)
goes_on (Word w more) r place h f = by_takes (takes r w.bytes w.kind (kind_ahead more)) refl f (λ s g k. goes_on more s place g k)
  where
    by_takes : (o : Option Rest) → takes r w.bytes w.kind (kind_ahead more) ≡ o → IsFirst place (or_here w.at o (λ s. wrong s more))
        → ((s : Rest) → may_go_on s ≡ true → IsFirst place (wrong s more) → GoesOn s more place) → GoesOn r (Word w more) place
    by_takes None e g ih = stops r h place (Word w more) (inl (cc (g.1)))
    by_takes (Some s) e g ih =
        let open_s : may_go_on s ≡ true = goes-some _ s (goes-takes r w.bytes w.kind (kind_ahead more)) e in
        let on : GoesOn s more place = ih s open_s g in
        let takes_other : takes r w.bytes w.kind (kind_ahead on.other) ≡ Some s = elim on.ahead [
          | inl alike ↦ ap (takes r w.bytes w.kind) alike.0 ∙ e
          | inr ends ↦ ap (λ y. takes r w.bytes w.kind (kind_ahead y)) ends ∙ takes-ahead r w.bytes w.kind (kind_ahead more) s e
        ] in
        record {
          other = Word w on.other;
          same = inr (on.other, refl, on.same);
          right = ap (λ o. or_here w.at o (λ s. wrong s on.other)) takes_other ∙ on.right;
          ahead = inl (refl, refl);
        }
goes_on (Inner at inner more) r place h f = by_enters (enters r (word_ahead inner)) refl f (λ s g k. goes_on inner s place g k) (λ g k. goes_on more (leaves r (word_ahead inner)) place g k)
  where
    by_enters : (o : Option Rest) → enters r (word_ahead inner) ≡ o → IsFirst place (or_here at o (λ s. wrong s inner ++ wrong (leaves r (word_ahead inner)) more))
        → ((s : Rest) → may_go_on s ≡ true → IsFirst place (wrong s inner) → GoesOn s inner place)
        → (may_go_on (leaves r (word_ahead inner)) ≡ true → IsFirst place (wrong (leaves r (word_ahead inner)) more) → GoesOn (leaves r (word_ahead inner)) more place)
        → GoesOn r (Inner at inner more) place
    by_enters None e g held next = stops r h place (Inner at inner more) (inl (cc (g.1)))
    by_enters (Some s) e g held next = elim (split-first (wrong s inner) (wrong (leaves r (word_ahead inner)) more) place g) [
      | inl within ↦
          let open_s : may_go_on s ≡ true = goes-some _ s (goes-enters r (word_ahead inner)) e in
          let on : GoesOn s inner place = held s open_s within in
          let enters_other : enters r (word_ahead on.other) ≡ Some s = elim on.ahead [
            | inl alike ↦ ap (enters r) alike.1 ∙ e
            | inr ends ↦ ap (λ y. enters r (word_ahead y)) ends ∙ enters-ahead r (word_ahead inner) s e
          ] in
          let behind : Rest = leaves r (word_ahead on.other) in
          record {
            other = Inner at on.other (complete behind);
            same = inr (on.other, complete behind, refl, inl on.same);
            right = ap (λ o. or_here at o (λ s. wrong s on.other ++ wrong behind (complete behind))) enters_other
                ∙ ap (λ l. l ++ wrong behind (complete behind)) on.right ∙ complete-right behind (goes-leaves r (word_ahead on.other));
            ahead = inl (refl, refl);
          }
      | inr behind ↦
          let on : GoesOn (leaves r (word_ahead inner)) more place = next (goes-leaves r (word_ahead inner)) behind.1 in
          record {
            other = Inner at inner on.other;
            same = inr (inner, on.other, refl, inr (refl, on.same));
            right = ap (λ o. or_here at o (λ s. wrong s inner ++ wrong (leaves r (word_ahead inner)) on.other)) e
                ∙ ap (λ l. l ++ wrong (leaves r (word_ahead inner)) on.other) behind.0 ∙ on.right;
            ahead = inl (refl, refl);
          }
    ]

-- the same of what stands next
pub item_goes_on : (l : Line) (x : Content) (place : ℕ) → IsFirst place (wrong_item l x) → (y : Content) × SameBefore place x y × (wrong_item l y ≡ [])
unfolding wrong_item
item_goes_on l (End close) place f = (item l (End 0), cc (f.1), item-right l (End 0))
item_goes_on l (Word w more) place f = (item l (End 0), inl (by_test (stands l w.bytes w.kind) f), item-right l (End 0))
  where
    by_test : (b : Bool) → IsFirst place (if b then [] else w.at ∷ []) → w.at ≡ place
    by_test true g = absurd (cc (g.1))
    by_test false g = cc (g.1)
item_goes_on l (Inner at inner more) place f = by_inside (inside l) refl f
  where
    by_inside : (o : Option Rest) → inside l ≡ o → IsFirst place (or_here at o (λ s. wrong s inner)) → (y : Content) × SameBefore place (Inner at inner more) y × (wrong_item l y ≡ [])
    by_inside None e g = (item l (End 0), inl (cc (g.1)), item-right l (End 0))
    by_inside (Some s) e g =
        let on : GoesOn s inner place = goes_on inner s place (goes-some (inside l) s (goes-inside l) e) g in (
          Inner at on.other more,
          inr (on.other, more, refl, inl on.same),
          ap (λ o. or_here at o (λ s. wrong s on.other)) e ∙ on.right,
        )
