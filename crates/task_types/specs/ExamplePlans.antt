-- Believed: small plans that are valid, and others with the first reason why they aren't.
use Rattle.std.specs.Prelude.{true, false, [], ◌∷◌, pos, negsuc}
use Rattle.rational.specs.Rational.{ratio}
use Rattle.task_types.specs.declared.constraints.TrailKind.TheVariants.{Always, SometimeBefore}
use Rattle.task_types.specs.declared.parts.TaskParts.{TaskParts}
use Rattle.task_types.specs.declared.plans.Reason.TheVariants as reason
use Rattle.task_types.specs.Valid.{Valid, IsFirstReason}
use Rattle.task_types.specs.Examples.{n, rules, lasting, once, tank, charge, small, flags, puts, gate, fill, passing, fact_holds, fact_fails, done, trail, pair_trail, at_start, at_end, at_moment, makes, ends_fact}

-- the gate, where `pass` may start only while it is open
abbrev pub open_at_start : TaskParts
open_at_start = record gate { snaps = record (at_start 0 []) { condition = fact_holds 0 } ∷ at_end 0 (makes 1) ∷ at_moment (makes 0) ∷ at_moment (ends_fact 0) ∷ [] }

-- the gate, with hard constraints: nobody ever gets through; it is closed before it is open, and it is always open
abbrev pub nobody_through : TaskParts
nobody_through = record gate { hard = trail Always (fact_fails 1) (n 0) ∷ [] }

abbrev pub always_open : TaskParts
always_open = record gate { hard = pair_trail SometimeBefore done (fact_fails 0) ∷ trail Always done (n 0) ∷ [] }

-- Filling from 0 just reaches the bound at its end, and from 1 overflows; bounds are read where they are tagged; the
-- gate is open from 5 to 10.
pub record PlansAreValid : Type 0 where
  pub full : Valid (tank (n 0)) rules fill
  pub charged : Valid (charge true) rules (lasting 0 (n 0) (n 1) 1 ∷ [])
  pub passed : Valid gate rules (passing (n 5))

-- One plan for each reason, the reasons in their order.
pub record PlansAreRefused : Type 0 where
  -- a durative line has a duration, and its action is one of the task
  pub no_duration : ¬ Valid gate rules (once 0 (n 0) 1 ∷ [])
  pub no_such_action : ¬ Valid flags rules (once 0 (n 1) 1 ∷ once 1 (n 2) 2 ∷ once 2 (n 3) 3 ∷ [])
  -- starts and ends from 0 to the horizon
  pub early : IsFirstReason gate rules (passing (ratio (negsuc 0) 1)) (reason.Time 7)
  pub past_horizon : IsFirstReason gate (record rules { horizon = n 8 }) (passing (n 5)) (reason.Time 7)
  -- durations at least epsilon and within their bounds, which are read at the start or at the end
  pub under_epsilon : IsFirstReason small rules (lasting 2 (n 1) (ratio (pos 1) 2000) 2 ∷ []) (reason.Duration 2)
  pub too_short : IsFirstReason (charge true) rules (lasting 0 (n 0) (ratio (pos 1) 2) 1 ∷ []) (reason.Duration 1)
  pub not_charged : IsFirstReason (charge false) rules (lasting 0 (n 0) (n 1) 1 ∷ []) (reason.Duration 1)
  -- steps that clash, also with a timed step
  pub both_put : IsFirstReason (puts []) rules (once 0 (n 1) 1 ∷ once 1 (n 1) 2 ∷ []) (reason.Clash 1 2)
  pub at_the_opening : IsFirstReason open_at_start rules (passing (n 5)) (reason.ClashTimed 7 (n 5))
  -- conditions read the state before: not what the step itself adds
  pub own_effect : IsFirstReason flags rules (once 1 (n 1) 1 ∷ []) (reason.Start 1)
  pub not_false : IsFirstReason small rules (once 0 (n 1) 1 ∷ []) (reason.Start 1)
  pub end_asks : IsFirstReason small rules (lasting 2 (n 0) (n 3) 1 ∷ []) (reason.End 1)
  -- the over-all condition, on the segment where it fails first
  pub overflows : IsFirstReason (tank (n 1)) rules fill (reason.OverAll 1 (n 0) (n 5))
  pub too_early : IsFirstReason gate rules (passing (n 4)) (reason.OverAll 7 (n 4) (n 5))
  pub too_late : IsFirstReason gate rules (passing (n 7)) (reason.OverAll 7 (n 10) (n 11))
  -- the goal is read after the last timed step
  pub closed_at_last : IsFirstReason (record gate { goal = fact_holds 0 }) rules (passing (n 5)) reason.Goal
  -- the first hard constraint that isn't met; the trace begins with the initial state
  pub got_through : IsFirstReason nobody_through rules (passing (n 5)) (reason.Constraint 1)
  pub closed_at_first : IsFirstReason always_open rules (passing (n 5)) (reason.Constraint 2)
