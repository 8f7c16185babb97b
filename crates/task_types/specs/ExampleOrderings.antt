-- Believed: small orderings: which are built, closed and blocked, which times agree with them, and their timed plans.
use Rattle.std.specs.Prelude.{ℕ, ◌≡◌, false, IsTrue, List, [], ◌∷◌, Some, None, pos, negsuc, replicate}
use Rattle.rational.specs.Rational.{ratio}
use Rattle.task_types.specs.declared.constraints.TrailKind.TheVariants.{Sometime, Within}
use Rattle.task_types.specs.declared.orderings.Blocked.TheVariants as blocked_by
use Rattle.task_types.specs.Valid.{HoldsOverAll}
use Rattle.task_types.specs.Order.{Order, is_built, is_closed}
use Rattle.task_types.specs.Blocking.{blocked}
use Rattle.task_types.specs.Agreement.{agree, plan_of, ValidTimes}
use Rattle.task_types.specs.Examples.{n, rules, lasting, tank, flags, meters, pair_watch, gate, work, given, done, trail, up_then_down, up_then_down_times, up_then_down_plan, down_then_up_plan, through_the_gate, fill_then_leak}

abbrev pub of_steps : List ℕ → Order
of_steps steps = record { steps = steps; extra = [] }

-- Steps that may follow, at most 128 of them, and extra pairs of a step and a later one.
pub record BuiltOrderingsComeOut : Type 0 where
  pub pair_built : IsTrue (is_built pair_watch up_then_down)
  pub gate_built : IsTrue (is_built gate through_the_gate)
  pub closing_first : is_built gate (of_steps (3 ∷ [])) ≡ false
  pub started_twice : is_built gate (of_steps (0 ∷ 0 ∷ [])) ≡ false
  pub not_started : is_built gate (of_steps (1 ∷ [])) ≡ false
  pub as_many_as_may_be : IsTrue (is_built flags (of_steps (replicate 128 0)))
  pub one_too_many : is_built flags (of_steps (replicate 129 0)) ≡ false
  pub pair_to_later : IsTrue (is_built meters (record { steps = 0 ∷ 1 ∷ []; extra = (0, 1) ∷ [] }))
  pub pair_to_itself : is_built meters (record { steps = 0 ∷ 1 ∷ []; extra = (1, 1) ∷ [] }) ≡ false
  pub pair_past_the_end : is_built meters (record { steps = 0 ∷ 1 ∷ []; extra = (0, 2) ∷ [] }) ≡ false

pub record ClosedOrderingsComeOut : Type 0 where
  pub pair_closed : IsTrue (is_closed pair_watch up_then_down)
  pub gate_closed : IsTrue (is_closed gate through_the_gate)
  pub no_timed_steps : is_closed gate (of_steps (0 ∷ 1 ∷ [])) ≡ false
  pub still_running : is_closed gate (of_steps (2 ∷ 0 ∷ 3 ∷ [])) ≡ false

-- Raising before lowering keeps a sum, and lowering first breaks it; a weak link asks for no earlier time, an extra
-- pair for epsilon, a timed step for its moment.
pub record TimesComeOut : Type 0 where
  pub its_plan : plan_of pair_watch up_then_down up_then_down_times ≡ up_then_down_plan
  pub its_times : ValidTimes pair_watch rules up_then_down up_then_down_times
  pub wrong_way : ¬ HoldsOverAll pair_watch down_then_up_plan (lasting 0 (n 0) (n 1) 1)
  pub too_near : agree pair_watch rules up_then_down (n 0 ∷ ratio (pos 9985) 10000 ∷ ratio (pos 999) 1000 ∷ n 1 ∷ []) ≡ false
  pub weak : IsTrue (agree (tank (n 0)) rules fill_then_leak (n 1 ∷ n 1 ∷ n 6 ∷ n 6 ∷ []))
  pub not_weak : agree (tank (n 0)) rules fill_then_leak (n 1 ∷ n 0 ∷ n 6 ∷ n 6 ∷ []) ≡ false
  pub free : IsTrue (agree meters rules (of_steps (0 ∷ 1 ∷ [])) (n 0 ∷ n 0 ∷ []))
  pub set_apart : agree meters rules (record { steps = 0 ∷ 1 ∷ []; extra = (0, 1) ∷ [] }) (n 0 ∷ n 0 ∷ []) ≡ false
  pub on_time : IsTrue (agree gate rules through_the_gate (n 5 ∷ ratio (pos 5001) 1000 ∷ ratio (pos 9001) 1000 ∷ n 10 ∷ []))
  pub gate_moved : agree gate rules through_the_gate (n 4 ∷ ratio (pos 5001) 1000 ∷ ratio (pos 9001) 1000 ∷ n 10 ∷ []) ≡ false
  pub gate_plan : plan_of gate through_the_gate (n 5 ∷ ratio (pos 5001) 1000 ∷ ratio (pos 9001) 1000 ∷ n 10 ∷ []) ≡ lasting 0 (ratio (pos 5001) 1000) (n 4) 1 ∷ []
  pub too_few : agree gate rules through_the_gate (n 5 ∷ []) ≡ false

-- In the order in which they are asked: own literals, over-all literals, the goal, hard constraints.
pub record BlockedOrderingsComeOut : Type 0 where
  pub not_blocked : blocked pair_watch up_then_down.steps ≡ None
  pub through : blocked gate through_the_gate.steps ≡ None
  pub own_literal : blocked flags (1 ∷ []) ≡ Some (blocked_by.AtStart 1 1)
  pub over_all : blocked gate (2 ∷ 0 ∷ 3 ∷ 1 ∷ []) ≡ Some (blocked_by.OverAll 3 1 2)
  pub goal : blocked flags (0 ∷ []) ≡ Some (blocked_by.Goal 1)
  pub never_met : blocked (record (work (n 5) []) { goal = record { literals = []; comparisons = [] }; hard = trail Sometime done (n 0) ∷ [] }) [] ≡ Some (blocked_by.Constraint 1)
  pub within_at_first : blocked (record (given []) { hard = trail Within done (n 0) ∷ [] }) [] ≡ None
  pub too_late_at_first : blocked (record (given []) { hard = trail Within done (ratio (negsuc 0) 1) ∷ [] }) [] ≡ Some (blocked_by.Constraint 1)
