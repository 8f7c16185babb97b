-- A step that a line of an ordering file names is one of the task.
use Rattle.std.proofs.Common.{◌≡◌, refl, subst, ℕ, ◌<◌, Bool, true, false, List, [], ◌∷◌, ◌++◌, map, length, Option, Some, None, cond}
use Rattle.std.specs.Prelude.{find, option_map, is_some, if◌then◌else◌}
use Rattle.rational.specs.Rational.{ℚ, zeroℚ}
use Rattle.task_types.specs.declared.parts.TaskParts.{TaskParts}
use Rattle.task_types.specs.declared.plans.PlanLine.{PlanLine}
use Rattle.task_types.specs.Tests.{◌=?◌}
use Rattle.task_types.specs.Plan.{action_of, end_step}
use Rattle.task_types.specs.WellMade.{IsWellMade}
use Rattle.timed_meaning.specs.Told.{AreSteps, timed_step}
use Rattle.timed_meaning.proofs.Known.{steps-known}
use Rattle.plan_files.specs.declared.order_words.Doing.{Doing}
use Rattle.plan_files.specs.declared.order_words.Doing.TheVariants.{Start, End, Do}
use Rattle.plan_files.specs.OrderFiles.{snap_for, timed_at}
use Rattle.plan_files.specs.OrderFiles as file
use Rattle.plan_files.specs.OrderParts.{IsKnown}

module _ (task : TaskParts) (w : IsWellMade task) where
  start-known : (a : ℕ) → a < length task.actions → (action_of task a).start < length task.snaps
  start-known a h = (steps-known task w (record { action = a; at = zeroℚ; duration = None; line = 0 } ∷ []) (h, tt)).0

  end-known : (a s : ℕ) → a < length task.actions → (action_of task a).end ≡ Some s → s < length task.snaps
  end-known a s h e =
      let l : PlanLine = record { action = a; at = zeroℚ; duration = None; line = 0 } in
      go (action_of task a).end e (steps-known task w (l ∷ []) (h, tt)).1
    where
      go : (o : Option ℕ) → o ≡ Some s → AreSteps task ((end_step (record { action = a; at = zeroℚ; duration = None; line = 0 }) o ++ []) ++ map timed_step task.timed) → s < length task.snaps
      go None f k = absurd (cc)
      go (Some r) f k = let same : r ≡ s = cc in subst (λ m. m < length task.snaps) same k.0

  of_step : (o : Option ℕ) → ((s : ℕ) → o ≡ Some s → s < length task.snaps) → IsKnown task (option_map file.Step o)
  of_step None h = tt
  of_step (Some s) h = h s refl

  snap-cases : (what : Doing) (start s : ℕ) (o : Option ℕ) → start < length task.snaps → ((e : ℕ) → o ≡ Some e → e < length task.snaps)
      → (elim what as (λ d. Option ℕ) [ Start ↦ (if is_some o then Some start else None) | End ↦ o | Do ↦ (if is_some o then None else Some start) ]) ≡ Some s → s < length task.snaps
  snap-cases Start start s None h k e = absurd (cc)
  snap-cases Start start s (Some m) h k e = let same : start ≡ s = cc in subst (λ n. n < length task.snaps) same h
  snap-cases End start s o h k e = k s e
  snap-cases Do start s None h k e = let same : start ≡ s = cc in subst (λ n. n < length task.snaps) same h
  snap-cases Do start s (Some m) h k e = absurd (cc)

  pub snap-known : (a : ℕ) (what : Doing) → a < length task.actions → IsKnown task (option_map file.Step (snap_for what (action_of task a)))
  snap-known a Start h = of_step (snap_for Start (action_of task a)) (λ s e. snap-cases Start (action_of task a).start s (action_of task a).end (start-known a h) (λ m f. end-known a m h f) e)
  snap-known a End h = of_step (snap_for End (action_of task a)) (λ s e. end-known a s h e)
  snap-known a Do h = of_step (snap_for Do (action_of task a)) (λ s e. snap-cases Do (action_of task a).start s (action_of task a).end (start-known a h) (λ m f. end-known a m h f) e)

  among : (q : ℚ) (ts : List (ℚ × ℕ)) → AreSteps task (map timed_step ts) → IsKnown task (option_map file.Step (option_map (λ t. t.1) (find (λ t. t.0 =? q) ts)))
  among q [] k = tt
  among q (t ∷ ts) k = go (t.0 =? q) (among q ts k.1)
    where
      go : (b : Bool) → IsKnown task (option_map file.Step (option_map (λ t. t.1) (find (λ t. t.0 =? q) ts))) → IsKnown task (option_map file.Step (option_map (λ t. t.1) (cond b (Some t) (find (λ t. t.0 =? q) ts))))
      go true more = k.0
      go false more = more

  pub timed-known : (q : ℚ) → IsKnown task (option_map file.Step (timed_at task q))
  timed-known q = among q task.timed (steps-known task w [] tt)
