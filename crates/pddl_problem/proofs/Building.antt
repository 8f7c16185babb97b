-- The trees of a problem, one item after the other.
use Rattle.std.proofs.Common.{◌≡◌, ℕ, List, [], ◌∷◌, refl, sym, ap, ◌∙◌, true, false, if◌then◌else◌, Some, None}
use lib.Chars.{codes}
use Rattle.pddl_terms.specs.declared.problem_heads.SoftHead.{SoftHead}
use Rattle.pddl_terms.specs.declared.problem_heads.GoalHead.{GoalHead}
use Rattle.pddl_terms.specs.declared.problem_heads.MeasureHead.{MeasureHead}
use Rattle.pddl_terms.specs.declared.files.CostCurve.TheVariants as curve
use Rattle.pddl_terms.specs.declared.files.InitEntry.TheVariants as entry
use Rattle.pddl_terms.specs.declared.files.Problem.{Problem}
use Rattle.pddl_terms.specs.declared.files.TimeCost.TheVariants as cost
use Rattle.pddl_terms.specs.declared.trees.Call.TheVariants as call
use Rattle.pddl_terms.specs.declared.trees.CondTree.TheVariants as cond
use Rattle.pddl_terms.specs.declared.trees.ExprTree.TheVariants as expr
use Rattle.pddl_terms.specs.declared.trees.FactForm.TheVariants as fact
use Rattle.pddl_terms.specs.declared.trees.Name.{Name}
use Rattle.pddl_terms.specs.declared.trees.GoalTree.TheVariants as goal
use Rattle.pddl_terms.specs.declared.trees.SoftTree.{SoftTree}
use Rattle.pddl_terms.specs.declared.trees.SoftTree.TheVariants as soft
use Rattle.pddl_terms.specs.Content.{Content, Lexeme, End, Word, Inner, behind}
use Rattle.pddl_terms.specs.Items.{IsNoList, IsNoWord}
use Rattle.pddl_terms.specs.Words.{is_left_out, is_left_out_of_condition, same_word}
use Rattle.pddl_terms.specs.Shape.{word_ahead}
use Rattle.pddl_terms.specs.Typed.{name_of}
use Rattle.pddl_terms.specs.Conditions.{cond_head, cond_list, cond_tree, cmp_list, cmp_tree}
use Rattle.pddl_terms.specs.Formulas.{tree_head, fact_list, fact_tree}
use Rattle.pddl_terms.specs.Calls.{call_list, call_tree}
use Rattle.pddl_terms.specs.Sections.{section, left_out, heading, names_of, groups_of, constraints_of}
use Rattle.pddl_terms.specs.Goals.{goal_head, soft_head, measure_head}
use Rattle.pddl_terms.specs.Problems.{init_head}
use Rattle.pddl_problem.specs.Goals.{compares_by, compares, is_comparison, soft_by, soft_list, softs, soft_tree, preference, goal_by, goal_list, goals, goal_behind, goal_tree}
use Rattle.pddl_problem.specs.Metrics.{metric_of, measure_word, measure_by, measure_list, measures, measure_behind, measure_tree}
use Rattle.pddl_problem.specs.Entries.{entries_of, is_denied, literal_atom, entry_by, entry_list, entries}
use Rattle.pddl_problem.specs.TimeCosts.{costs_of, piece_list, pieces, three, cost_curve, cost_by, cost_list, costs}
use Rattle.pddl_problem.specs.Problems.{goal_of, problem_of, problem_tree}

-- a tree of a list, from what the list holds
module _ (x : Content) (at : ℕ) (y more : Content) (e : x ≡ Inner at y more) where
  pub cmp-held : cmp_tree x ≡ cmp_list at y
  unfolding cmp_tree
  cmp-held = ap cmp_tree e

  pub fact-held : fact_tree x ≡ fact_list at y
  unfolding fact_tree
  fact-held = ap fact_tree e

  pub cond-held : cond_tree x ≡ cond_list at y
  unfolding cond_tree
  cond-held = ap cond_tree e

-- Comparisons.

module _ (x : Content) where
  pub is_comparison-none : IsNoList x → is_comparison x ≡ false
  unfolding is_comparison
  is_comparison-none = by_content x
    where
      by_content : (y : Content) → IsNoList y → is_comparison y ≡ false
      by_content (End c) n = refl
      by_content (Word w more) n = refl
      by_content (Inner at inner more) n = absurd n

  pub is_comparison-empty : (at : ℕ) (y more : Content) → x ≡ Inner at y more → IsNoWord y → is_comparison x ≡ false
  unfolding is_comparison compares
  is_comparison-empty at y more e n = ap is_comparison e ∙ by_content y n
    where
      by_content : (z : Content) → IsNoWord z → compares z ≡ false
      by_content (End c) n = refl
      by_content (Word w more) n = absurd n
      by_content (Inner at inner more) n = refl

  pub is_comparison-by : (h : SoftHead) (at : ℕ) (w : Lexeme) (z more : Content) {v : List ℕ} → h ≡ soft_head v → v ≡ w.bytes → x ≡ Inner at (Word w z) more
      → is_comparison x ≡ compares_by h (is_comparison z)
  unfolding is_comparison compares
  is_comparison-by h at w z more e f k = ap is_comparison k ∙ ap (λ g. compares_by g (is_comparison z)) (sym (e ∙ ap soft_head f))

-- Preferences.

module _ (x : Content) where
  pub softs-end : (c : ℕ) → x ≡ End c → softs x ≡ []
  unfolding softs
  softs-end c e = ap softs e

  pub softs-word : (w : Lexeme) (more : Content) → x ≡ Word w more → softs x ≡ softs more
  unfolding softs
  softs-word w more e = ap softs e

  pub softs-list : (at : ℕ) (inner more : Content) → x ≡ Inner at inner more → softs x ≡ soft_tree x ∷ softs more
  unfolding softs soft_tree
  softs-list at inner more e = ap softs e ∙ ap (λ t. t ∷ softs more) (sym (ap soft_tree e))

module _ (x : Content) where
  pub soft_tree-end : (c : ℕ) → x ≡ End c → soft.Formula (fact.Empty 0) ≡ soft_tree x
  unfolding soft_tree
  soft_tree-end c e = sym (ap soft_tree e)

  pub soft_tree-word : (w : Lexeme) (more : Content) → x ≡ Word w more → soft.Formula (fact.Empty 0) ≡ soft_tree x
  unfolding soft_tree
  soft_tree-word w more e = sym (ap soft_tree e)

soft_list-by : (at : ℕ) (y : Content) → soft_by (soft_head (word_ahead y)) at (softs (behind y)) y ≡ soft_list at y
unfolding soft_list soft_head tree_head fact_list is_left_out
soft_list-by at (End c) = refl
soft_list-by at (Word w more) = refl
soft_list-by at (Inner place inner more) = refl

module _ (x : Content) (at : ℕ) (y more : Content) (e : x ≡ Inner at y more) where
  pub soft_tree-by : (h : SoftHead) {v : List ℕ} → h ≡ soft_head v → v ≡ word_ahead y → soft_by h at (softs (behind y)) y ≡ soft_tree x
  unfolding soft_tree
  soft_tree-by h f g = ap (λ k. soft_by k at (softs (behind y)) y) (f ∙ ap soft_head g) ∙ soft_list-by at y ∙ sym (ap soft_tree e)

module _ (at : ℕ) (x : Content) where
  pub preference-end : (c : ℕ) → x ≡ End c → goal.Preference at None (soft.Formula (fact.Empty 0)) ≡ preference at x
  unfolding preference
  preference-end c e = sym (ap (preference at) e)

  pub preference-word : (w : Lexeme) (more : Content) → x ≡ Word w more → (n : Name) (t : SoftTree) → n ≡ name_of w → t ≡ soft_tree more
      → goal.Preference at (Some n) t ≡ preference at x
  unfolding preference
  preference-word w more e n t f g = ap (λ m. goal.Preference at (Some m) t) f ∙ ap (goal.Preference at (Some (name_of w))) g ∙ sym (ap (preference at) e)

  pub preference-list : (place : ℕ) (inner more : Content) → x ≡ Inner place inner more → goal.Preference at None (soft_tree x) ≡ preference at x
  unfolding preference soft_tree
  preference-list place inner more e = ap (λ y. goal.Preference at None (soft_tree y)) e ∙ sym (ap (preference at) e)

-- Goals.

module _ (x : Content) where
  pub goals-end : (c : ℕ) → x ≡ End c → goals x ≡ []
  unfolding goals
  goals-end c e = ap goals e

  pub goals-word : (w : Lexeme) (more : Content) → x ≡ Word w more → goals x ≡ goals more
  unfolding goals
  goals-word w more e = ap goals e

  pub goals-list : (at : ℕ) (inner more : Content) → x ≡ Inner at inner more → goals x ≡ goal_tree x ∷ goals more
  unfolding goals goal_tree
  goals-list at inner more e = ap goals e ∙ ap (λ t. t ∷ goals more) (sym (ap goal_tree e))

goal_behind-is : (x : Content) → goal_behind x ≡ goal_tree (behind x)
unfolding goal_behind goal_tree
goal_behind-is (End c) = refl
goal_behind-is (Word w more) = refl
goal_behind-is (Inner at inner more) = refl

goal_list-by : (at : ℕ) (y : Content) → goal_by (goal_head (word_ahead y)) at (goals (behind y)) (goal_tree (behind (behind y))) y ≡ goal_list at y
unfolding goal_list goal_head cond_head cond_list is_left_out is_left_out_of_condition
goal_list-by at (End c) = refl
goal_list-by at (Word w more) = ap (λ b. goal_by (goal_head w.bytes) at (goals more) b (Word w more)) (sym (goal_behind-is more))
goal_list-by at (Inner place inner more) = refl

module _ (x : Content) where
  pub goal_tree-end : (c : ℕ) → x ≡ End c → goal.Condition (cond.Empty 0) ≡ goal_tree x
  unfolding goal_tree
  goal_tree-end c e = sym (ap goal_tree e)

  pub goal_tree-word : (w : Lexeme) (more : Content) → x ≡ Word w more → goal.Condition (cond.Empty 0) ≡ goal_tree x
  unfolding goal_tree
  goal_tree-word w more e = sym (ap goal_tree e)

  pub goal_tree-by : (at : ℕ) (y more : Content) → x ≡ Inner at y more → (h : GoalHead) {v : List ℕ} → h ≡ goal_head v → v ≡ word_ahead y
      → goal_by h at (goals (behind y)) (goal_tree (behind (behind y))) y ≡ goal_tree x
  unfolding goal_tree
  goal_tree-by at y more e h f g = ap (λ k. goal_by k at (goals (behind y)) (goal_tree (behind (behind y))) y) (f ∙ ap goal_head g) ∙ goal_list-by at y ∙ sym (ap goal_tree e)

-- Metrics.

module _ (x : Content) where
  pub measures-end : (c : ℕ) → x ≡ End c → measures x ≡ []
  unfolding measures
  measures-end c e = ap measures e

  pub measures-word : (w : Lexeme) (more : Content) → x ≡ Word w more → measures x ≡ measure_word w ∷ measures more
  unfolding measures
  measures-word w more e = ap measures e

  pub measures-list : (at : ℕ) (inner more : Content) → x ≡ Inner at inner more → measures x ≡ measure_tree x ∷ measures more
  unfolding measures measure_tree
  measures-list at inner more e = ap measures e ∙ ap (λ t. t ∷ measures more) (sym (ap measure_tree e))

measure_behind-is : (x : Content) → measure_behind x ≡ measure_tree (behind x)
unfolding measure_behind measure_tree
measure_behind-is (End c) = refl
measure_behind-is (Word w more) = refl
measure_behind-is (Inner at inner more) = refl

module _ (x : Content) where
  pub measure_tree-end : (c : ℕ) → x ≡ End c → expr.LeftOut 0 ≡ measure_tree x
  unfolding measure_tree
  measure_tree-end c e = sym (ap measure_tree e)

  pub measure_tree-word : (w : Lexeme) (more : Content) → x ≡ Word w more → measure_word w ≡ measure_tree x
  unfolding measure_tree
  measure_tree-word w more e = sym (ap measure_tree e)

  pub measure_tree-empty : (at : ℕ) (y more : Content) → x ≡ Inner at y more → IsNoWord y → expr.LeftOut at ≡ measure_tree x
  unfolding measure_tree measure_list
  measure_tree-empty at y more e n = by_content y n ∙ sym (ap measure_tree e)
    where
      by_content : (z : Content) → IsNoWord z → expr.LeftOut at ≡ measure_list at z
      by_content (End c) n = refl
      by_content (Word w more) n = absurd n
      by_content (Inner at inner more) n = refl

  pub measure_tree-by : (h : MeasureHead) (at : ℕ) (w : Lexeme) (z more : Content) {v : List ℕ} → h ≡ measure_head v → v ≡ w.bytes → x ≡ Inner at (Word w z) more
      → measure_by h at w (measures z) (measure_tree z) (measure_tree (behind z)) z ≡ measure_tree x
  unfolding measure_tree measure_list
  measure_tree-by h at w z more e f k = ap (λ g. measure_by g at w (measures z) (measure_tree z) (measure_tree (behind z)) z) (e ∙ ap measure_head f)
      ∙ ap (λ b. measure_by (measure_head w.bytes) at w (measures z) (measure_tree z) b z) (sym (measure_behind-is z)) ∙ sym (ap measure_tree k)

-- Entries.

module _ (x : Content) where
  pub is_denied-end : (c : ℕ) → x ≡ End c → is_denied x ≡ false
  unfolding is_denied
  is_denied-end c e = ap is_denied e

  pub is_denied-word : (w : Lexeme) (more : Content) → x ≡ Word w more → is_denied x ≡ false
  unfolding is_denied
  is_denied-word w more e = ap is_denied e

  pub is_denied-list : (at : ℕ) (inner more : Content) → x ≡ Inner at inner more → same_word (word_ahead inner) (codes "not") ≡ is_denied x
  unfolding is_denied
  is_denied-list at inner more e = sym (ap is_denied e)

  pub literal_atom-end : (c : ℕ) → x ≡ End c → call.LeftOut 0 ≡ literal_atom x
  unfolding literal_atom
  literal_atom-end c e = sym (ap literal_atom e)

  pub literal_atom-word : (w : Lexeme) (more : Content) → x ≡ Word w more → call.LeftOut 0 ≡ literal_atom x
  unfolding literal_atom
  literal_atom-word w more e = sym (ap literal_atom e)

  module _ (at : ℕ) (inner more : Content) (e : x ≡ Inner at inner more) where
    pub literal_atom-denied : same_word (word_ahead inner) (codes "not") ≡ true → call_tree (behind inner) ≡ literal_atom x
    unfolding literal_atom
    literal_atom-denied f = sym (ap literal_atom e ∙ ap (λ b. if b then call_tree (behind inner) else call_list at inner) f)

    pub literal_atom-plain : same_word (word_ahead inner) (codes "not") ≡ false → call_list at inner ≡ literal_atom x
    unfolding literal_atom
    literal_atom-plain f = sym (ap literal_atom e ∙ ap (λ b. if b then call_tree (behind inner) else call_list at inner) f)

module _ (at : ℕ) (x : Content) where
  pub entry_list-end : (c : ℕ) → x ≡ End c → entry.LeftOut at ≡ entry_list at x
  entry_list-end c e = sym (ap (entry_list at) e)

  pub entry_list-list : (place : ℕ) (inner more : Content) → x ≡ Inner place inner more → entry.LeftOut at ≡ entry_list at x
  entry_list-list place inner more e = sym (ap (entry_list at) e)

  pub entry_list-word : (w : Lexeme) (more : Content) → x ≡ Word w more → entry_by (init_head w.bytes) at w more ≡ entry_list at x
  entry_list-word w more e = sym (ap (entry_list at) e)

  pub cost_list-end : (c : ℕ) → x ≡ End c → cost.LeftOut at ≡ cost_list at x
  cost_list-end c e = sym (ap (cost_list at) e)

  pub cost_list-list : (place : ℕ) (inner more : Content) → x ≡ Inner place inner more → cost.LeftOut at ≡ cost_list at x
  cost_list-list place inner more e = sym (ap (cost_list at) e)

  pub cost_list-word : (w : Lexeme) (more : Content) → x ≡ Word w more → cost_by (is_left_out w.bytes) at w more ≡ cost_list at x
  cost_list-word w more e = sym (ap (cost_list at) e)

module _ (x : Content) where
  pub entries-end : (c : ℕ) → x ≡ End c → entries x ≡ []
  unfolding entries
  entries-end c e = ap entries e

  pub entries-word : (w : Lexeme) (more : Content) → x ≡ Word w more → entries x ≡ entries more
  unfolding entries
  entries-word w more e = ap entries e

  pub entries-list : (at : ℕ) (inner more : Content) → x ≡ Inner at inner more → entries x ≡ entry_list at inner ∷ entries more
  unfolding entries
  entries-list at inner more e = ap entries e

module _ (x : Content) where
  pub pieces-end : (c : ℕ) → x ≡ End c → pieces x ≡ []
  unfolding pieces
  pieces-end c e = ap pieces e

  pub pieces-word : (w : Lexeme) (more : Content) → x ≡ Word w more → pieces x ≡ pieces more
  unfolding pieces
  pieces-word w more e = ap pieces e

  pub pieces-list : (at : ℕ) (inner more : Content) → x ≡ Inner at inner more → pieces x ≡ piece_list at inner ∷ pieces more
  unfolding pieces
  pieces-list at inner more e = ap pieces e

module _ (x : Content) where
  pub costs-end : (c : ℕ) → x ≡ End c → costs x ≡ []
  unfolding costs
  costs-end c e = ap costs e

  pub costs-word : (w : Lexeme) (more : Content) → x ≡ Word w more → costs x ≡ costs more
  unfolding costs
  costs-word w more e = ap costs e

  pub costs-list : (at : ℕ) (inner more : Content) → x ≡ Inner at inner more → costs x ≡ cost_list at inner ∷ costs more
  unfolding costs
  costs-list at inner more e = ap costs e

module _ (x : Content) where
  pub cost_curve-end : (c : ℕ) → x ≡ End c → three x ≡ cost_curve x
  unfolding cost_curve
  cost_curve-end c e = ap three e ∙ sym (ap cost_curve e)

  pub cost_curve-word : (w : Lexeme) (more : Content) → x ≡ Word w more → three x ≡ cost_curve x
  unfolding cost_curve
  cost_curve-word w more e = ap three e ∙ sym (ap cost_curve e)

  pub cost_curve-list : (at : ℕ) (inner more : Content) → x ≡ Inner at inner more → curve.Pieces (pieces x) ≡ cost_curve x
  unfolding cost_curve
  cost_curve-list at inner more e = ap (λ y. curve.Pieces (pieces y)) e ∙ sym (ap cost_curve e)

  pub problem_tree-end : (c : ℕ) → x ≡ End c → problem_of x ≡ problem_tree x
  unfolding problem_tree
  problem_tree-end c e = ap problem_of e ∙ sym (ap problem_tree e)

  pub problem_tree-word : (w : Lexeme) (more : Content) → x ≡ Word w more → problem_of more ≡ problem_tree x
  unfolding problem_tree
  problem_tree-word w more e = sym (ap problem_tree e)

  pub problem_tree-list : (at : ℕ) (inner more : Content) → x ≡ Inner at inner more → problem_of (behind inner) ≡ problem_tree x
  unfolding problem_tree
  problem_tree-list at inner more e = sym (ap problem_tree e)

-- a problem whose parts are those that the text tells
pub whole-problem : (x : Content) (p : Problem) → p.name ≡ heading x → p.domain ≡ heading (behind x) → p.requirements ≡ names_of (section (codes ":requirements") x) → p.objects ≡ groups_of (section (codes ":objects") x) → p.init ≡ entries_of (section (codes ":init") x) → p.goal ≡ goal_of (section (codes ":goal") x) → p.constraints ≡ constraints_of (section (codes ":constraints") x) → p.time_costs ≡ costs_of (section (codes ":time-costs") x) → p.metric ≡ metric_of (section (codes ":metric") x) → p.left_out ≡ left_out x → p ≡ problem_of x
unfolding problem_of
whole-problem x p a b c d e f g h i j =
    ap (λ v. record (problem_of x) { name = v; domain = p.domain; requirements = p.requirements; objects = p.objects; init = p.init; goal = p.goal; constraints = p.constraints; time_costs = p.time_costs; metric = p.metric; left_out = p.left_out }) a
    ∙ ap (λ v. record (problem_of x) { domain = v; requirements = p.requirements; objects = p.objects; init = p.init; goal = p.goal; constraints = p.constraints; time_costs = p.time_costs; metric = p.metric; left_out = p.left_out }) b
    ∙ ap (λ v. record (problem_of x) { requirements = v; objects = p.objects; init = p.init; goal = p.goal; constraints = p.constraints; time_costs = p.time_costs; metric = p.metric; left_out = p.left_out }) c
    ∙ ap (λ v. record (problem_of x) { objects = v; init = p.init; goal = p.goal; constraints = p.constraints; time_costs = p.time_costs; metric = p.metric; left_out = p.left_out }) d
    ∙ ap (λ v. record (problem_of x) { init = v; goal = p.goal; constraints = p.constraints; time_costs = p.time_costs; metric = p.metric; left_out = p.left_out }) e
    ∙ ap (λ v. record (problem_of x) { goal = v; constraints = p.constraints; time_costs = p.time_costs; metric = p.metric; left_out = p.left_out }) f
    ∙ ap (λ v. record (problem_of x) { constraints = v; time_costs = p.time_costs; metric = p.metric; left_out = p.left_out }) g
    ∙ ap (λ v. record (problem_of x) { time_costs = v; metric = p.metric; left_out = p.left_out }) h
    ∙ ap (λ v. record (problem_of x) { metric = v; left_out = p.left_out }) i
    ∙ ap (λ v. record (problem_of x) { left_out = v }) j
