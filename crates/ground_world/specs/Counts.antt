-- Believed: how many literals and comparisons there are, quantifiers written out, before anything is dropped.
use Rattle.std.specs.Prelude.{ℕ, ◌+◌, ◌*◌, Bool, ◌&&◌, ◌||◌, not, nat_le, nat_lt, if◌then◌else◌, List, [], ◌∷◌, Option, Some, None}
use Rattle.std.specs.List.{list_all}
use Rattle.pddl_terms.specs.declared.trees.Group.{Group}
use Rattle.pddl_terms.specs.declared.trees.Comparison.{Comparison}
use Rattle.pddl_terms.specs.declared.trees.Comparison.TheVariants.{Equal, AtMost, AtLeast, Below, Above}
use Rattle.pddl_terms.specs.declared.trees.Side.{Side}
use Rattle.pddl_terms.specs.declared.trees.CondTree.{CondTree, fold-CondTree}
use Rattle.pddl_terms.specs.declared.trees.CondTree.TheOpen.{CondTree-F}
use Rattle.pddl_terms.specs.declared.trees.TimedCond.{TimedCond, fold-TimedCond}
use Rattle.pddl_terms.specs.declared.trees.TimedCond.TheOpen.{TimedCond-F}
use Rattle.pddl_terms.specs.declared.trees.FactForm.{FactForm, fold-FactForm}
use Rattle.pddl_terms.specs.declared.trees.FactForm.TheOpen.{FactForm-F}
use Rattle.pddl_terms.specs.declared.trees.SoftTree.{SoftTree, fold-SoftTree}
use Rattle.pddl_terms.specs.declared.trees.SoftTree.TheOpen.{SoftTree-F}
use Rattle.pddl_terms.specs.declared.trees.GoalTree.{GoalTree, fold-GoalTree}
use Rattle.pddl_terms.specs.declared.trees.GoalTree.TheOpen.{GoalTree-F}
use Rattle.pddl_terms.specs.declared.trees.Trajectory.{Trajectory}
use Rattle.pddl_terms.specs.declared.trees.Trajectory.TheVariants as trail
use Rattle.pddl_terms.specs.declared.files.ActionBody.{ActionBody}
use Rattle.pddl_terms.specs.declared.files.ActionBody.TheVariants.{Instant, Durative}
use Rattle.pddl_terms.specs.declared.files.Domain.{Domain}
use Rattle.pddl_terms.specs.declared.files.Problem.{Problem}
use Rattle.pddl_names.specs.Equalities.{is_equality}
use Rattle.ground_world.specs.World.{World, either, columns}
use Rattle.ground_world.specs.Bindings.{choice_count}
use Rattle.ground_world.specs.Leaves.{goal_preferences, constraints, costs}

-- an empty list counts as one
abbrev pub or_one : ℕ → ℕ
or_one n = if nat_lt 0 n then n else 1

abbrev pub together : List ℕ → ℕ
together [] = 0
together (n ∷ ns) = n + together ns

abbrev pub sum_or_one : List ℕ → ℕ
sum_or_one [] = 1
sum_or_one (n ∷ ns) = n + together ns

abbrev pub written_out : World → List Group → ℕ → ℕ
written_out w vars n = or_one (choice_count (columns w vars) * or_one n)

-- a numeric equality is two comparisons
abbrev pub compare_count : Comparison → ℕ
compare_count Equal = 2
compare_count AtMost = 1
compare_count AtLeast = 1
compare_count Below = 1
compare_count Above = 1

abbrev pub equal_count : World → Side → Side → ℕ
equal_count w l r = if is_equality w.functions l r then 1 else 2

abbrev pub condition_count_layer : World → CondTree-F ℕ → ℕ
condition_count_layer w (CondTree-F.Empty at) = 1
condition_count_layer w (CondTree-F.And at parts) = sum_or_one parts
condition_count_layer w (CondTree-F.Forall at vars body) = written_out w vars body
condition_count_layer w (CondTree-F.Atom a) = 1
condition_count_layer w (CondTree-F.Not at part) = part
condition_count_layer w (CondTree-F.Equal at l r) = equal_count w l r
condition_count_layer w (CondTree-F.Compare at order l r) = compare_count order
condition_count_layer w (CondTree-F.LeftOut at) = 1

unfoldable pub condition_count : World → CondTree → ℕ
condition_count w c = fold-CondTree ℕ (condition_count_layer w) c

abbrev pub timed_count_layer : World → TimedCond-F ℕ → ℕ
timed_count_layer w (TimedCond-F.Empty at) = 1
timed_count_layer w (TimedCond-F.And at parts) = sum_or_one parts
timed_count_layer w (TimedCond-F.AtStart at c) = condition_count w c
timed_count_layer w (TimedCond-F.OverAll at c) = condition_count w c
timed_count_layer w (TimedCond-F.AtEnd at c) = condition_count w c
timed_count_layer w (TimedCond-F.LeftOut at) = 1

unfoldable pub timed_count : World → TimedCond → ℕ
timed_count w c = fold-TimedCond ℕ (timed_count_layer w) c

-- all stages of an action together; a missing condition counts 0
abbrev pub body_count : World → ActionBody → ℕ
body_count w (Instant c e) = either 0 (condition_count w) c
body_count w (Durative d c e) = either 0 (timed_count w) c

abbrev pub formula_count_layer : World → FactForm-F ℕ → ℕ
formula_count_layer w (FactForm-F.Empty at) = 1
formula_count_layer w (FactForm-F.Atom a) = 1
formula_count_layer w (FactForm-F.Equal at l r) = 1
formula_count_layer w (FactForm-F.And at parts) = sum_or_one parts
formula_count_layer w (FactForm-F.Or at parts) = sum_or_one parts
formula_count_layer w (FactForm-F.Not at part) = part
formula_count_layer w (FactForm-F.Imply at a b) = a + b
formula_count_layer w (FactForm-F.Exists at vars body) = written_out w vars body
formula_count_layer w (FactForm-F.Forall at vars body) = written_out w vars body
formula_count_layer w (FactForm-F.LeftOut at) = 1

unfoldable pub formula_count : World → FactForm → ℕ
formula_count w f = fold-FactForm ℕ (formula_count_layer w) f

abbrev pub soft_count_layer : World → SoftTree-F ℕ → ℕ
soft_count_layer w (SoftTree-F.Formula f) = formula_count w f
soft_count_layer w (SoftTree-F.Equal at l r) = equal_count w l r
soft_count_layer w (SoftTree-F.Comparison c) = condition_count w c
soft_count_layer w (SoftTree-F.And at parts) = sum_or_one parts

unfoldable pub soft_count : World → SoftTree → ℕ
soft_count w s = fold-SoftTree ℕ (soft_count_layer w) s

abbrev pub trajectory_count : World → Trajectory → ℕ
trajectory_count w (trail.Always at f) = formula_count w f
trajectory_count w (trail.Sometime at f) = formula_count w f
trajectory_count w (trail.Within at t f) = formula_count w f
trajectory_count w (trail.AtMostOnce at f) = formula_count w f
trajectory_count w (trail.SometimeAfter at f g) = formula_count w f + formula_count w g
trajectory_count w (trail.SometimeBefore at f g) = formula_count w f + formula_count w g
trajectory_count w (trail.AtEnd at f) = formula_count w f
trajectory_count w (trail.LeftOut at) = 1

-- a part of the goal that holds nothing but preferences counts nothing
abbrev pub somes : List (Option ℕ) → Option ℕ
somes [] = None
somes (n ∷ ns) = either (somes ns) (λ m. Some (m + either 0 (λ k. k) (somes ns))) n

abbrev pub goal_count_layer : World → GoalTree-F (Option ℕ) → Option ℕ
goal_count_layer w (GoalTree-F.Condition c) = Some (condition_count w c)
goal_count_layer w (GoalTree-F.And at []) = Some 1
goal_count_layer w (GoalTree-F.And at (p ∷ ps)) = somes (p ∷ ps)
goal_count_layer w (GoalTree-F.Forall at vars body) = either None (λ n. Some (written_out w vars n)) body
goal_count_layer w (GoalTree-F.Preference at name s) = None

unfoldable pub hard_count : World → GoalTree → Option ℕ
hard_count w g = fold-GoalTree (Option ℕ) (goal_count_layer w) g

abbrev pub goal_count : World → GoalTree → ℕ
goal_count w g = either 0 (λ n. n) (hard_count w g)

-- ---- the limits of what is looked at

abbrev pub binding_limit : ℕ
binding_limit = 1048576

abbrev pub part_limit : ℕ
part_limit = 65536

-- a number of outer bindings, and how many literals and comparisons one of them has
abbrev pub fit_limits : ℕ → ℕ → Bool
fit_limits outer parts = nat_le outer binding_limit && (nat_le parts part_limit || not (nat_lt 0 outer))

abbrev pub around_count : World → List (List Group) → ℕ
around_count w [] = 1
around_count w (vars ∷ inner) = choice_count (columns w vars) * around_count w inner

unfoldable pub bindings_fit : World → Domain → Problem → Bool
bindings_fit w d p = list_all (λ a. fit_limits (choice_count (columns w a.parameters)) (body_count w a.body)) d.actions
    && list_all (λ l. fit_limits (around_count w l.around) (soft_count w l.leaf.body)) (goal_preferences p.goal)
    && list_all (λ l. fit_limits (around_count w l.around) (trajectory_count w l.leaf.1)) (constraints d p)
    && fit_limits 1 (goal_count w p.goal)
    && list_all (λ c. fit_limits 1 (formula_count w c.formula)) (costs p)
