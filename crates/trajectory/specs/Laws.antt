-- Believed: laws that show the verdict to be the one that is meant, and what its conditions ask of a task.
use Rattle.std.specs.Prelude.{◌≡◌, ◌≤◌, ◌==◌, Bool, true, false, IsTrue, List, map, length, All}
use Rattle.std.specs.List.{AllPairs}
use Rattle.rational.specs.Rational.{zeroℚ, ◌≤ℚ◌}
use Rattle.task_types.specs.declared.constraints.Trail.{Trail}
use Rattle.task_types.specs.declared.formulas.FactTree.{FactTree}
use Rattle.task_types.specs.declared.parts.TaskParts.{TaskParts}
use Rattle.task_types.specs.Tests.{◌≤?◌, ◌⇒◌}
use Rattle.task_types.specs.Plan.{Plan, steps}
use Rattle.task_types.specs.Trace.{Trace, at, met, trace}
use Rattle.task_types.specs.Touch.{tree_facts, trail_facts}
use Rattle.task_types.specs.Blocking.{may_be_met}
use Rattle.task_types.specs.WellMade.{tree_fits, trail_fits}
use Rattle.trajectory.specs.declared.automaton.TrailEnd.{TrailEnd}
use Rattle.trajectory.specs.declared.automaton.TrailEnd.TheVariants.{Met, Broken, Timed}
use Rattle.trajectory.specs.Facts.{AreCovered}
use Rattle.trajectory.specs.Verdicts.{verdict_on}

-- no state comes before an earlier one
abbrev pub NeverFall : Trace → Type 0
NeverFall states = AllPairs (λ m n. m.time ≤ℚ n.time) states

-- What a verdict tells of a trace: that it meets the constraint, that it doesn't, or that it does where this state
-- comes no later than the constraint's moment.
abbrev pub tells_met : Trail → Trace → TrailEnd → Bool
tells_met c states Met = true
tells_met c states Broken = false
tells_met c states (Timed k) = at states k (λ m. m.time ≤? c.moment)

-- What a verdict tells of states whose times aren't known yet, but that the first comes at 0: whether some times could
-- let them meet the constraint.
abbrev pub tells_possible : Trail → TrailEnd → Bool
tells_possible c Met = true
tells_possible c Broken = false
tells_possible c (Timed k) = k == 0 ⇒ (zeroℚ ≤? c.moment)

-- A trace whose times never fall meets a constraint exactly where the verdict tells so. The times of a plan's trace
-- never fall where no step comes before time 0. A verdict goes by the facts alone, and it is all that an ordering is
-- asked of its constraints.
pub record VerdictsTellWhatIsMet : Type 0 where
  pub met : (c : Trail) (states : Trace) → NeverFall states → met c states ≡ tells_met c states (verdict_on c states)
  pub plans : (task : TaskParts) (plan : Plan) → All (λ s. zeroℚ ≤ℚ s.time) (steps task plan) → NeverFall (trace task plan)
  pub facts : (c : Trail) (xs ys : Trace) → map (λ m. m.facts) xs ≡ map (λ m. m.facts) ys → verdict_on c xs ≡ verdict_on c ys
  pub orderings : (c : Trail) (states : Trace) → may_be_met c.kind c states ≡ tells_possible c (verdict_on c states)

-- A list with a place for each fact of a task covers each formula and each constraint that fits the task.
pub record TasksAreCovered : Type 0 where
  pub formulas : (task : TaskParts) (formula : FactTree) (bs : List Bool) → length task.facts ≤ length bs → IsTrue (tree_fits task formula) → AreCovered (tree_facts formula) bs
  pub constraints : (task : TaskParts) (c : Trail) (bs : List Bool) → length task.facts ≤ length bs → IsTrue (trail_fits task c) → AreCovered (trail_facts c) bs
