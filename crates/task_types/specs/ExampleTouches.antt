-- Believed: the touches of the steps of small tasks, token by token, and how many tokens there are.
use Rattle.std.specs.Prelude.{◌≡◌, true, false, [], ◌∷◌, length}
use Rattle.task_types.specs.declared.costs.Soft.TheVariants as soft
use Rattle.task_types.specs.declared.parts.TaskParts.{TaskParts}
use Rattle.task_types.specs.declared.tokens.Touch.TheVariants.{Look, Mark, Bend}
use Rattle.task_types.specs.Plan.{snap_of}
use Rattle.task_types.specs.Touch.{tokens, touches_of}
use Rattle.task_types.specs.Examples.{n, linear, always_true, at_once, just, tank, flags, meters, pair_watch, gate, charge, done, adds_and_raises}

-- The touches of the steps of these tasks, token by token.
pub record TouchesComeOut : Type 0 where
  pub tank_start : touches_of (tank (n 0)) (snap_of (tank (n 0)) 0) ≡ (0, Look) ∷ (0, Bend) ∷ (1, Mark) ∷ []
  pub tank_leak_end : touches_of (tank (n 0)) (snap_of (tank (n 0)) 3) ≡ (0, Bend) ∷ (2, Mark) ∷ []
  pub flags_set : touches_of flags (snap_of flags 0) ≡ (0, Mark) ∷ []
  pub flags_use : touches_of flags (snap_of flags 1) ≡ (0, Look) ∷ (1, Mark) ∷ []
  pub meters_a : touches_of meters (snap_of meters 0) ≡ (0, Mark) ∷ []
  pub pair_watch_hold : touches_of pair_watch (snap_of pair_watch 0) ≡ (0, Look) ∷ (1, Look) ∷ (2, Look) ∷ (3, Mark) ∷ []
  pub pair_watch_up : touches_of pair_watch (snap_of pair_watch 2) ≡ (0, Mark) ∷ (2, Mark) ∷ []
  pub pair_watch_down : touches_of pair_watch (snap_of pair_watch 3) ≡ (1, Mark) ∷ (2, Mark) ∷ []
  pub gate_start : touches_of gate (snap_of gate 0) ≡ (0, Look) ∷ (2, Mark) ∷ []
  pub gate_end : touches_of gate (snap_of gate 1) ≡ (0, Look) ∷ (1, Mark) ∷ (2, Mark) ∷ []
  pub gate_opens : touches_of gate (snap_of gate 2) ≡ (0, Mark) ∷ []
  -- a duration bound is looked at where it is read
  pub late_bound_at_start : touches_of (charge true) (snap_of (charge true) 0) ≡ (0, Bend) ∷ (1, Mark) ∷ []
  pub late_bound_at_end : touches_of (charge true) (snap_of (charge true) 1) ≡ (0, Look) ∷ (0, Bend) ∷ (1, Mark) ∷ []
  pub early_bound_at_start : touches_of (charge false) (snap_of (charge false) 0) ≡ (0, Look) ∷ (0, Bend) ∷ (1, Mark) ∷ []

-- a preference that reads the total cost, and an action that assigns it: then it is no meter
abbrev pub preferred : TaskParts
preferred = record meters { soft = soft.Goal done (linear (n 3) ((0, n 1) ∷ []) ∷ []) (n 1) ∷ [] }

abbrev pub assigned : TaskParts
assigned = record meters { snaps = at_once 0 always_true (record { adds = 0 ∷ []; deletes = []; assigns = (0, just (n 2)) ∷ []; increases = [] }) ∷ at_once 1 always_true (adds_and_raises 1) ∷ [] }

pub record TokensComeOut : Type 0 where
  pub a_meter : length (tokens meters) ≡ 2
  pub preferred : length (tokens preferred) ≡ 3
  pub assigned : length (tokens assigned) ≡ 3
