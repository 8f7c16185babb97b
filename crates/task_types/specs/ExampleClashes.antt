-- Believed: pairs of steps that clash or don't, and plans that keep or don't keep them apart.
use Rattle.std.specs.Prelude.{◌≡◌, true, false, [], ◌∷◌, pos}
use Rattle.rational.specs.Rational.{ratio}
use Rattle.task_types.specs.declared.actions.Snap.{Snap}
use Rattle.task_types.specs.declared.conditions.Effect.{Effect}
use Rattle.task_types.specs.declared.plans.Reason.TheVariants as reason
use Rattle.task_types.specs.Plan.{snap_of}
use Rattle.task_types.specs.Clash.{clash}
use Rattle.task_types.specs.Cost.{cost}
use Rattle.task_types.specs.Valid.{Valid, IsFirstReason}
use Rattle.task_types.specs.Examples.{n, rules, linear, once, always_true, at_once, makes, ends_fact, raises, assigns_to, flags, meters, charge}

-- a step that does no more than this
abbrev pub doing : Effect → Snap
doing effect = at_once 9 always_true effect

-- fluent 1 rises by the value of fluent 0
abbrev pub rises_by : Effect
rises_by = record { adds = []; deletes = []; assigns = []; increases = (1, record { form = linear (n 0) ((0, n 1) ∷ []); duration = n 0 }) ∷ [] }

-- A task matters for a clash by its duration bounds alone, which are read at the end in `charge true` and at the start
-- in `charge false`.
pub record ClashesComeOut : Type 0 where
  pub adds_deletes : clash flags (doing (makes 0)) (doing (ends_fact 0)) ≡ true
  pub adds_twice : clash flags (doing (makes 0)) (doing (makes 0)) ≡ false
  pub assigns_raises : clash flags (doing (assigns_to 0 (n 1))) (doing (raises 0 (n 1))) ≡ true
  pub assigns_twice : clash flags (doing (assigns_to 0 (n 1))) (doing (assigns_to 0 (n 1))) ≡ true
  pub raises_twice : clash flags (doing (raises 0 (n 1))) (doing (raises 0 (n 1))) ≡ false
  pub reads_in_effect : clash flags (doing rises_by) (doing (raises 0 (n 1))) ≡ true
  pub late_bound_at_end : clash (charge true) (snap_of (charge true) 1) (doing (raises 0 (n 1))) ≡ true
  pub late_bound_at_start : clash (charge true) (snap_of (charge true) 0) (doing (raises 0 (n 1))) ≡ false
  pub early_bound_at_start : clash (charge false) (snap_of (charge false) 0) (doing (raises 0 (n 1))) ≡ true
  pub early_bound_at_end : clash (charge false) (snap_of (charge false) 1) (doing (raises 0 (n 1))) ≡ false

-- Setting and using one fact clash at less than epsilon; two increases at one moment don't, and both count.
pub record ClashingPlansComeOut : Type 0 where
  pub too_near : IsFirstReason flags rules (once 0 (n 1) 1 ∷ once 1 (ratio (pos 10009) 10000) 2 ∷ []) (reason.Clash 1 2)
  pub near_enough : Valid flags rules (once 0 (n 1) 1 ∷ once 1 (ratio (pos 1001) 1000) 2 ∷ [])
  pub its_cost : cost flags (once 0 (n 1) 1 ∷ once 1 (ratio (pos 1001) 1000) 2 ∷ []) ≡ ratio (pos 1001) 1000
  pub both_count : Valid meters rules (once 0 (n 0) 1 ∷ once 1 (n 0) 2 ∷ [])
  pub both_cost : cost meters (once 0 (n 0) 1 ∷ once 1 (n 0) 2 ∷ []) ≡ n 4
