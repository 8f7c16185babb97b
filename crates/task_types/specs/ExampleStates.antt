-- Believed: the states of small plans, worked out by hand.
use Rattle.std.specs.Prelude.{◌≡◌, ◌↔◌, true, false, IsTrue, [], ◌∷◌, pos}
use Rattle.rational.specs.Rational.{ratio, ◌<ℚ◌, ◌≤ℚ◌, ℚ}
use Rattle.task_types.specs.declared.formulas.FactTree.TheVariants as tree
use Rattle.task_types.specs.State.{holds, tree_holds}
use Rattle.task_types.specs.Plan.{action_of, happenings, step_count}
use Rattle.task_types.specs.Course.{initial, before, after}
use Rattle.task_types.specs.Examples.{n, just, once, tank, small, puts, gate, done, fact_fails, fill, fill_and_leak, passing}

pub record StatesComeOut : Type 0 where
  -- rates add up, and filling from 1 is over the bound after 9/2, at no happening
  pub rates_add : (before (tank (n 0)) fill_and_leak (ratio (pos 7) 3)).fluents 0 ≡ ratio (pos 7) 3
  pub over_after : (t : ℚ) → n 0 <ℚ t → t <ℚ n 5
      → IsTrue (holds (action_of (tank (n 1)) 0).over_all (before (tank (n 1)) fill t)) ↔ (t ≤ℚ ratio (pos 9) 2)
  -- a moment of two steps is one happening, and so is one of timed steps alone
  pub moments : happenings (tank (n 0)) fill_and_leak ≡ n 0 ∷ n 5 ∷ []
  pub timed_moments : happenings gate (passing (n 5)) ≡ n 5 ∷ n 9 ∷ n 10 ∷ []
  pub plan_steps : step_count gate (passing (n 5)) ≡ 2
  -- a fact that one step deletes and adds holds after it
  pub added_last : (after small (once 1 (n 1) 1 ∷ []) (n 1)).facts 1 ≡ true
  -- of two assignments the last counts, and then come the increases
  pub last_counts : (after (puts []) (once 0 (n 1) 1 ∷ once 1 (n 1) 2 ∷ []) (n 1)).fluents 0 ≡ n 7
  pub raised_after : (after (puts ((0, just (n 1)) ∷ [])) (once 0 (n 1) 1 ∷ []) (n 1)).fluents 0 ≡ n 6
  -- a negated literal, and the first state of a formula
  pub one_of_two : tree_holds (tree.Or (done ∷ fact_fails 0 ∷ [])) (initial gate).facts ≡ true
  pub not_both : tree_holds (tree.And (done ∷ fact_fails 0 ∷ [])) (initial gate).facts ≡ false
