-- What holds of each expression but `?duration` where it holds of its parts, holds of a metric that a reader accepts.
use Rattle.std.proofs.Common.{◌≡◌, refl, sym, ap, subst, ◌∙◌, ℕ, Bool, true, false, ◌||◌, List, [], ◌∷◌, ◌++◌, Option, Some, None, if◌then◌else◌}
use Rattle.std.specs.List.{AllByRecursion as Each}
use Rattle.std.specs.Str.{bytes_eq, str_to_ascii_lowercase}
use lib.Chars.{codes}
use Rattle.basics.proofs.Lists.{nothing_left, nothing_right}
use Rattle.rational.specs.Rational.{ℚ}
use Rattle.sexpr_text.specs.declared.token.TokenKind.{TokenKind}
use Rattle.sexpr_text.specs.declared.token.TokenKind.TheVariants.{Variable}
use Rattle.pddl_terms.specs.declared.heads.ExprHead.TheVariants as heads
use Rattle.pddl_terms.specs.declared.problem_heads.MeasureHead.{MeasureHead}
use Rattle.pddl_terms.specs.declared.problem_heads.MeasureHead.TheVariants as measure
use Rattle.pddl_terms.specs.declared.problem_heads.ProblemHead.TheVariants as section_heads
use Rattle.pddl_terms.specs.declared.files.Domain.{Domain}
use Rattle.pddl_terms.specs.declared.files.Metric.{Metric}
use Rattle.pddl_terms.specs.declared.files.Problem.{Problem}
use Rattle.pddl_terms.specs.declared.grammar.Line.{Line}
use Rattle.pddl_terms.specs.declared.grammar.Line.TheVariants as line
use Rattle.pddl_terms.specs.declared.grammar.ProblemGiven.{ProblemGiven}
use Rattle.pddl_terms.specs.declared.grammar.ProblemLine.TheVariants as of_problem
use Rattle.pddl_terms.specs.declared.grammar.ProblemRest.TheVariants as problem
use Rattle.pddl_terms.specs.declared.grammar.Rest.{Rest}
use Rattle.pddl_terms.specs.declared.grammar.Rest.TheVariants as rest
use Rattle.pddl_terms.specs.declared.trees.Atom.{Atom}
use Rattle.pddl_terms.specs.declared.trees.ExprTree.{ExprTree}
use Rattle.pddl_terms.specs.declared.trees.ExprTree.TheVariants as expr
use Rattle.pddl_terms.specs.declared.trees.Name.{Name as NameOf}
use Rattle.pddl_terms.specs.Words.{same_word, is_left_out, is_name, is_number, is_variable}
use Rattle.pddl_terms.specs.Content.{Lexeme, Content, End, Word, Inner, behind, content_at}
use Rattle.pddl_terms.specs.Expressions.{expr_word, minus}
use Rattle.pddl_terms.specs.Files.{lexed, problem_file}
use Rattle.pddl_terms.specs.Goals.{measure_head, measure_rest}
use Rattle.pddl_terms.specs.Grammar.{no_problem_section}
use Rattle.pddl_terms.specs.Numbers.{number_value}
use Rattle.pddl_terms.specs.Problems.{problem_head, problem_section_rest, is_given, and_given, problem_begins, problem_takes}
use Rattle.pddl_terms.specs.Sections.{section, name_at}
use Rattle.pddl_terms.specs.Shape.{takes, enters, leaves, word_ahead, or_here, wrong}
use Rattle.pddl_terms.specs.Typed.{atom_of, bare_atom}
use Rattle.pddl_names.proofs.Ways.{same_text}
use Rattle.pddl_problem.specs.Metrics.{measure_word, measure_by, measure_list, measures, measure_behind, measure_tree, metric_of}
use Rattle.pddl_problem.specs.Problems.{problem_of, problem_tree}
use Rattle.pddl_problem.specs.Readings.{IsProblem}
use Rattle.accepted_files.proofs.ActionNames.{gone, let_through}

-- ---- words

other-word : (w a b : List ℕ) → same_word w a ≡ true → same_word a b ≡ false → same_word w b ≡ false
other-word w a b h k = ap (λ l. bytes_eq l (str_to_ascii_lowercase b)) (same_text (str_to_ascii_lowercase w) (str_to_ascii_lowercase a) h) ∙ k

-- two words that a word can't be at once
apart-words : {P : Type 0} (w a b : List ℕ) → same_word w a ≡ true → same_word w b ≡ true → same_word a b ≡ false → P
apart-words w a b h k f = let c : true ≡ false = sym k ∙ other-word w a b h f in absurd cc

metric-head : (w : List ℕ) → same_word w (codes ":metric") ≡ true → problem_head w ≡ section_heads.Metric
unfolding problem_head is_left_out
metric-head w h = let e = same_text (str_to_ascii_lowercase w) (str_to_ascii_lowercase (codes ":metric")) h in rw e refl

-- ---- places in a list of expressions of a metric

data Place : Type 0 where
  AtMany : Place
  AtOneAndSome : Place
  AtSome : Place
  AtOneAndMaybe : Place
  AtMaybe : Place
  AtTwo : Place
  AtOne : Place
  AtEnd : Place

abbrev measured : Line
measured = line.Problem of_problem.Measure

abbrev rest_of : Place → Rest
rest_of AtMany = rest.Many measured
rest_of AtOneAndSome = rest.OneAndSome measured
rest_of AtSome = rest.Some measured
rest_of AtOneAndMaybe = rest.OneAndMaybe measured
rest_of AtMaybe = rest.Maybe measured
rest_of AtTwo = rest.Two measured measured
rest_of AtOne = rest.One measured
rest_of AtEnd = rest.Nothing

abbrev next : Place → Place
next AtMany = AtMany
next AtOneAndSome = AtSome
next AtSome = AtMany
next AtOneAndMaybe = AtMaybe
next AtMaybe = AtEnd
next AtTwo = AtOne
next AtOne = AtEnd
next AtEnd = AtEnd

word-goes : (p : Place) (w : Lexeme) (more : Content) → wrong (rest_of p) (Word w more) ≡ [] → ((is_name w.kind || is_number w.kind) ≡ true) × (wrong (rest_of (next p)) more ≡ [])
unfolding wrong takes
word-goes AtEnd w more e = let t : w.at ∷ [] ≡ [] = e in absurd cc
word-goes p w more e = let_through w.at (is_name w.kind || is_number w.kind) (rest_of (next p)) (λ s. wrong s more) e

list-goes : (p : Place) (at : ℕ) (inner more : Content) → wrong (rest_of p) (Inner at inner more) ≡ [] → (wrong (rest.Whole measured) inner ≡ []) × (wrong (rest_of (next p)) more ≡ [])
unfolding wrong enters leaves
list-goes AtEnd at inner more e = let t : at ∷ [] ≡ [] = e in absurd cc
list-goes p at inner more e = (nothing_left (wrong (rest.Whole measured) inner) (wrong (rest_of (next p)) more) e, nothing_right (wrong (rest.Whole measured) inner) (wrong (rest_of (next p)) more) e)

no-variable : (kind : TokenKind) → (is_name kind || is_number kind) ≡ true → is_variable kind ≡ false
no-variable Variable e = let t : false ≡ true = e in absurd cc
no-variable kind e = refl

module _ (P : ExprTree → Type 0)
    (of_Number : (a : ℕ) (q : ℚ) → P (expr.Number a q))
    (of_Fluent : (a : Atom) → P (expr.Fluent a))
    (of_Sum : (a : ℕ) (b : List ExprTree) → Each P b → P (expr.Sum a b))
    (of_Product : (a : ℕ) (b : List ExprTree) → Each P b → P (expr.Product a b))
    (of_Negative : (a : ℕ) (b : ExprTree) → P b → P (expr.Negative a b))
    (of_Difference : (a : ℕ) (b c : ExprTree) → P b → P c → P (expr.Difference a b c))
    (of_Quotient : (a : ℕ) (b c : ExprTree) → P b → P c → P (expr.Quotient a b c))
    (of_LeftOut : (a : ℕ) → P (expr.LeftOut a))
    (of_TotalTime : (a : ℕ) → P (expr.TotalTime a))
    (of_Violated : (a : ℕ) (n : NameOf) → P (expr.Violated a n))
    (of_TimeCost : (a : ℕ) (n : NameOf) → P (expr.TimeCost a n)) where
  plain-holds : (w : Lexeme) → is_variable w.kind ≡ false → P (expr_word w)
  plain-holds w v = by (is_number w.kind) (is_variable w.kind) v
    where
      by : (b c : Bool) → c ≡ false → P (if b then expr.Number w.at (number_value w.bytes) else (if c then expr.Duration w.at else expr.Fluent (bare_atom w)))
      by true c e = of_Number w.at (number_value w.bytes)
      by false true e = let t : true ≡ false = e in absurd cc
      by false false e = of_Fluent (bare_atom w)

  word-holds : (w : Lexeme) → (is_name w.kind || is_number w.kind) ≡ true → P (measure_word w)
  word-holds w e = by (same_word w.bytes (codes "total-time"))
    where
      by : (b : Bool) → P (if b then expr.TotalTime w.at else expr_word w)
      by true = of_TotalTime w.at
      by false = plain-holds w (no-variable w.kind e)

  minus-holds : (at : ℕ) (first second : ExprTree) (y : Content) → P first → P second → P (minus at first second y)
  minus-holds at first second (End close) h k = of_Negative at first h
  minus-holds at first second (Word w more) h k = of_Difference at first second h k
  minus-holds at first second (Inner place inner more) h k = of_Difference at first second h k

  head-holds : (h : MeasureHead) (at : ℕ) (w : Lexeme) (x : Content) → or_here w.at (measure_rest h w.kind) (λ s. wrong s x) ≡ []
      → ((p : Place) → wrong (rest_of p) x ≡ [] → Each P (measures x)) → ((p : Place) → wrong (rest_of p) x ≡ [] → P (measure_tree x)) → ((p : Place) → wrong (rest_of p) x ≡ [] → P (measure_behind x))
      → P (measure_by h at w (measures x) (measure_tree x) (measure_behind x) x)
  head-holds measure.TotalTime at w x e all first second = of_TotalTime at
  head-holds measure.Violated at w x e all first second = of_Violated at (name_at x)
  head-holds measure.TimeCost at w x e all first second = of_TimeCost at (name_at x)
  head-holds (measure.Expression heads.LeftOut) at w x e all first second = of_LeftOut at
  head-holds (measure.Expression heads.Sum) at w x e all first second = of_Sum at (measures x) (all AtOneAndSome e)
  head-holds (measure.Expression heads.Product) at w x e all first second = of_Product at (measures x) (all AtOneAndSome e)
  head-holds (measure.Expression heads.Minus) at w x e all first second = minus-holds at (measure_tree x) (measure_behind x) (behind x) (first AtOneAndMaybe e) (second AtOneAndMaybe e)
  head-holds (measure.Expression heads.Quotient) at w x e all first second = of_Quotient at (measure_tree x) (measure_behind x) (first AtTwo e) (second AtTwo e)
  head-holds (measure.Expression heads.Named) at w x e all first second = of_Fluent (atom_of at w x)

  mutual
    unfolding wrong takes problem_begins measure_list measures measure_behind measure_tree

    list-holds : (at : ℕ) (x : Content) → wrong (rest.Whole measured) x ≡ [] → P (measure_list at x)
    list-holds at (End close) e = of_LeftOut at
    list-holds at (Word w more) e = head-holds (measure_head w.bytes) at w more e (all-hold more) (first-holds more) (second-holds more)
    list-holds at (Inner place inner more) e = of_LeftOut at

    all-hold : (x : Content) (p : Place) → wrong (rest_of p) x ≡ [] → Each P (measures x)
    all-hold (End close) p e = tt
    all-hold (Word w more) p e = let g = word-goes p w more e in (word-holds w g.0, all-hold more (next p) g.1)
    all-hold (Inner at inner more) p e = let g = list-goes p at inner more e in (list-holds at inner g.0, all-hold more (next p) g.1)

    first-holds : (x : Content) (p : Place) → wrong (rest_of p) x ≡ [] → P (measure_tree x)
    first-holds (End close) p e = of_LeftOut 0
    first-holds (Word w more) p e = word-holds w (word-goes p w more e).0
    first-holds (Inner at inner more) p e = list-holds at inner (list-goes p at inner more e).0

    second-holds : (x : Content) (p : Place) → wrong (rest_of p) x ≡ [] → P (measure_behind x)
    second-holds (End close) p e = of_LeftOut 0
    second-holds (Word w more) p e = first-holds more (next p) (word-goes p w more e).1
    second-holds (Inner at inner more) p e = first-holds more (next p) (list-goes p at inner more e).1

  -- ---- the section of the metric

  abbrev Holds : Option Metric → Type 0
  Holds None = Unit {0}
  Holds (Some m) = P m.expression

  metric-holds : (x : Content) → wrong (rest.Problem problem.Metric) x ≡ [] → P (measure_tree (behind x))
  unfolding wrong takes enters problem_takes measure_tree
  metric-holds (End close) e = of_LeftOut 0
  metric-holds (Word w more) e = first-holds more AtOne (let_through w.at (same_word w.bytes (codes "minimize") || same_word w.bytes (codes "maximize")) (rest.One measured) (λ s. wrong s more) e).1
  metric-holds (Inner at inner more) e = let t : at ∷ [] ≡ [] = e in absurd cc

  section-holds : (x : Content) → wrong (rest.Whole (line.Problem of_problem.Section)) x ≡ [] → same_word (word_ahead x) (codes ":metric") ≡ true → Holds (metric_of (Some (behind x)))
  unfolding wrong takes enters problem_begins
  section-holds (End close) e h = let t : close ∷ [] ≡ [] = e in absurd cc
  section-holds (Word w more) e h = metric-holds more (gone w.at (problem_section_rest (problem_head w.bytes)) (λ s. wrong s more) (rest.Problem problem.Metric) (ap problem_section_rest (metric-head w.bytes h)) e)
  section-holds (Inner at inner more) e h = let t : at ∷ [] ≡ [] = e in absurd cc

  chosen : (b : Bool) (inner more : Content) → (b ≡ true → Holds (metric_of (Some (behind inner)))) → Holds (metric_of (section (codes ":metric") more))
      → Holds (metric_of (if b then Some (behind inner) else section (codes ":metric") more))
  chosen true inner more f g = f refl
  chosen false inner more f g = g

  sections-hold : (given : ProblemGiven) (x : Content) → wrong (rest.Problem (problem.Sections given)) x ≡ [] → Holds (metric_of (section (codes ":metric") x))
  unfolding wrong takes enters leaves problem_takes section
  sections-hold given (End close) e = tt
  sections-hold given (Word w more) e = let t : w.at ∷ [] ≡ [] = e in absurd cc
  sections-hold given (Inner at inner more) e = by (is_given given (problem_head (word_ahead inner))) e (sections-hold (and_given given (problem_head (word_ahead inner))) more)
    where
      later : Rest
      later = rest.Problem (problem.Sections (and_given given (problem_head (word_ahead inner))))

      by : (b : Bool) → or_here at (if b then None else Some (rest.Whole (line.Problem of_problem.Section))) (λ s. wrong s inner ++ wrong later more) ≡ []
          → (wrong later more ≡ [] → Holds (metric_of (section (codes ":metric") more)))
          → Holds (metric_of (if same_word (word_ahead inner) (codes ":metric") then Some (behind inner) else section (codes ":metric") more))
      by true f others = let t : at ∷ [] ≡ [] = f in absurd cc
      by false f others = chosen (same_word (word_ahead inner) (codes ":metric")) inner more
          (section-holds inner (nothing_left (wrong (rest.Whole (line.Problem of_problem.Section)) inner) (wrong later more) f))
          (others (nothing_right (wrong (rest.Whole (line.Problem of_problem.Section)) inner) (wrong later more) f))

  -- a list that another word has to begin is no metric
  name_list-holds : (x : Content) → wrong (rest.Whole (line.Problem of_problem.DomainName)) x ≡ [] → same_word (word_ahead x) (codes ":metric") ≡ true → Holds (metric_of (Some (behind x)))
  unfolding wrong takes enters problem_begins
  name_list-holds (End close) e h = let t : close ∷ [] ≡ [] = e in absurd cc
  name_list-holds (Word w more) e h = apart-words w.bytes (codes ":metric") (codes ":domain") h (let_through w.at (same_word w.bytes (codes ":domain")) (rest.One line.Name) (λ s. wrong s more) e).0 refl
  name_list-holds (Inner at inner more) e h = let t : at ∷ [] ≡ [] = e in absurd cc

  heading_list-holds : (x : Content) → wrong (rest.Whole (line.Problem of_problem.Heading)) x ≡ [] → same_word (word_ahead x) (codes ":metric") ≡ true → Holds (metric_of (Some (behind x)))
  unfolding wrong takes enters problem_begins
  heading_list-holds (End close) e h = let t : close ∷ [] ≡ [] = e in absurd cc
  heading_list-holds (Word w more) e h = apart-words w.bytes (codes ":metric") (codes "problem") h (let_through w.at (same_word w.bytes (codes "problem")) (rest.One line.Name) (λ s. wrong s more) e).0 refl
  heading_list-holds (Inner at inner more) e h = let t : at ∷ [] ≡ [] = e in absurd cc

  domain_name-holds : (x : Content) → wrong (rest.Problem problem.DomainName) x ≡ [] → Holds (metric_of (section (codes ":metric") x))
  unfolding wrong takes enters leaves problem_takes section
  domain_name-holds (End close) e = tt
  domain_name-holds (Word w more) e = let t : w.at ∷ [] ≡ [] = e in absurd cc
  domain_name-holds (Inner at inner more) e = chosen (same_word (word_ahead inner) (codes ":metric")) inner more
      (name_list-holds inner (nothing_left (wrong (rest.Whole (line.Problem of_problem.DomainName)) inner) (wrong (rest.Problem (problem.Sections no_problem_section)) more) e))
      (sections-hold no_problem_section more (nothing_right (wrong (rest.Whole (line.Problem of_problem.DomainName)) inner) (wrong (rest.Problem (problem.Sections no_problem_section)) more) e))

  heading-holds : (x : Content) → wrong (rest.Problem problem.Heading) x ≡ [] → Holds (metric_of (section (codes ":metric") x))
  unfolding wrong takes enters leaves problem_takes section
  heading-holds (End close) e = tt
  heading-holds (Word w more) e = let t : w.at ∷ [] ≡ [] = e in absurd cc
  heading-holds (Inner at inner more) e = chosen (same_word (word_ahead inner) (codes ":metric")) inner more
      (heading_list-holds inner (nothing_left (wrong (rest.Whole (line.Problem of_problem.Heading)) inner) (wrong (rest.Problem problem.DomainName) more) e))
      (domain_name-holds more (nothing_right (wrong (rest.Whole (line.Problem of_problem.Heading)) inner) (wrong (rest.Problem problem.DomainName) more) e))

  file-holds : (x : Content) → wrong (rest.Whole (line.Problem of_problem.File)) x ≡ [] → Holds (metric_of (section (codes ":metric") (behind x)))
  unfolding wrong takes enters problem_begins
  file-holds (End close) e = let t : close ∷ [] ≡ [] = e in absurd cc
  file-holds (Word w more) e = heading-holds more (let_through w.at (same_word w.bytes (codes "define")) (rest.Problem problem.Heading) (λ s. wrong s more) e).1
  file-holds (Inner at inner more) e = let t : at ∷ [] ≡ [] = e in absurd cc

  tree-holds : (x : Content) → wrong problem_file x ≡ [] → Holds (problem_tree x).metric
  unfolding wrong takes enters problem_tree problem_of
  tree-holds (End close) e = let t : close ∷ [] ≡ [] = e in absurd cc
  tree-holds (Word w more) e = let t : w.at ∷ [] ≡ [] = e in absurd cc
  tree-holds (Inner at inner more) e = file-holds inner (nothing_left (wrong (rest.Whole (line.Problem of_problem.File)) inner) (wrong (leaves problem_file (word_ahead inner)) more) e)

  pub metric_parts : (d : Domain) (text : List ℕ) (p : Problem) → IsProblem d text p → Holds p.metric
  metric_parts d text p f = subst (λ (t : Problem). Holds t.metric) (sym f.tree_is) (tree-holds (content_at (lexed text f.tokens) 0) f.shape)
