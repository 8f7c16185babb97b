-- What the steps so far carry, at the time of a step, is what the earlier steps carry, where the other steps so far
-- and the earlier steps to come leave it.
use Rattle.std.proofs.Common.{◌≡◌, refl, sym, ap, ap₂, ◌∙◌, ℕ, Bool, true, false, List, [], ◌∷◌, ◌++◌}
use Rattle.std.proofs.lemmas.List.Elements.{filter-append}
use Rattle.std.specs.Prelude.{not}
use Rattle.std.specs.List.{filter, AllByRecursion}
use Rattle.rational.specs.Rational.{ℚ, zeroℚ, ◌+ℚ◌, ◌*ℚ◌, ◌-ℚ◌}
use Rattle.rational.proofs.Ring.{law, num, ◌⊕◌, ◌⊗◌, ◌⊖◌, ◌≐◌}
use Rattle.rational.proofs.Field.{ℚ_ring}
use Rattle.basics.proofs.Bools.{or_false_left, or_false_right}
use Rattle.task_types.specs.declared.parts.TaskParts.{TaskParts}
use Rattle.task_types.specs.Tests.{total, last_or_else}
use Rattle.task_types.specs.Sets.{is_in}
use Rattle.task_types.specs.Plan.{Step, snap_of}
use Rattle.task_types.specs.Course.{effect_of, happen}
use Rattle.task_types.specs.Clash.{assigned_fluents, increased_fluents}
use Rattle.task_types.specs.Touch.{bent_fluents}
use Rattle.task_types.proofs.Everyone.{all_both}
use Rattle.ordering.specs.Along.{Carried, at_time, at_first, turn, carry, carry_all, carried, changes_fact, Independent}
use Rattle.ordered_course.specs.Quiet.{IsQuiet}
use Rattle.ordering.proofs.Crossing.{parted, MayCross}
use Rattle.ordering.proofs.Swapping.{swapped, is_in-append-out, new_level, new_slope, none_assigned, none_increased, no_turn}
use Rattle.ordering.proofs.ByTime.{all_passing, all_kept}

quiet_step : (task : TaskParts) (t : ℚ) (f : ℕ) (m : Carried) (x : Step) → IsQuiet task t f x → (at_time (carry task m x) t).fluents f ≡ (at_time m t).fluents f
quiet_step task t f m x h = ap₂ (λ (l s : ℚ). l +ℚ s *ℚ t) level (new_slope task m x f) ∙ go (is_in f (bent_fluents task (snap_of task x.snap))) refl
  where
    level : (carry task m x).level f ≡ ((m.level f +ℚ m.slope f *ℚ x.time) +ℚ zeroℚ) -ℚ (m.slope f +ℚ turn task (snap_of task x.snap) f) *ℚ x.time
    level = let w = is_in-append-out f (assigned_fluents (snap_of task x.snap)) (increased_fluents (snap_of task x.snap)) h.writes in
        new_level task m x f
        ∙ ap₂ (λ (a i : List ℚ). (last_or_else (m.level f +ℚ m.slope f *ℚ x.time) a +ℚ total i) -ℚ (m.slope f +ℚ turn task (snap_of task x.snap) f) *ℚ x.time) (none_assigned task x (at_time m x.time) f w.0) (none_increased task x (at_time m x.time) f w.1)

    go : (b : Bool) → is_in f (bent_fluents task (snap_of task x.snap)) ≡ b
        → (((m.level f +ℚ m.slope f *ℚ x.time) +ℚ zeroℚ) -ℚ (m.slope f +ℚ turn task (snap_of task x.snap) f) *ℚ x.time) +ℚ (m.slope f +ℚ turn task (snap_of task x.snap) f) *ℚ t ≡ m.level f +ℚ m.slope f *ℚ t
    go true e = ap (λ u. (((m.level f +ℚ m.slope f *ℚ u) +ℚ zeroℚ) -ℚ (m.slope f +ℚ turn task (snap_of task x.snap) f) *ℚ u) +ℚ (m.slope f +ℚ turn task (snap_of task x.snap) f) *ℚ t) (h.turns e)
        ∙ law ℚ_ring (m.level f ∷ m.slope f ∷ turn task (snap_of task x.snap) f ∷ t ∷ []) (λ l s d t. (((l ⊕ s ⊗ t) ⊕ num 0) ⊖ (s ⊕ d) ⊗ t) ⊕ (s ⊕ d) ⊗ t ≐ l ⊕ s ⊗ t) refl
    go false e = ap (λ d. (((m.level f +ℚ m.slope f *ℚ x.time) +ℚ zeroℚ) -ℚ (m.slope f +ℚ d) *ℚ x.time) +ℚ (m.slope f +ℚ d) *ℚ t) (no_turn task (snap_of task x.snap) f e)
        ∙ law ℚ_ring (m.level f ∷ m.slope f ∷ x.time ∷ t ∷ []) (λ l s u t. (((l ⊕ s ⊗ u) ⊕ num 0) ⊖ (s ⊕ num 0) ⊗ u) ⊕ (s ⊕ num 0) ⊗ t ≐ l ⊕ s ⊗ t) refl

pub quiet_steps : (task : TaskParts) (t : ℚ) (f : ℕ) (m : Carried) (xs : List Step) → AllByRecursion (IsQuiet task t f) xs → (at_time (carry_all task m xs) t).fluents f ≡ (at_time m t).fluents f
quiet_steps task t f m [] h = refl
quiet_steps task t f m (x ∷ xs) h = quiet_steps task t f (carry task m x) xs h.1 ∙ quiet_step task t f m x h.0

-- a step that changes no fact f
pub quiet_fact : (task : TaskParts) (f : ℕ) (m : Carried) (x : Step) → changes_fact (snap_of task x.snap) f ≡ false → (carry task m x).facts f ≡ m.facts f
unfolding carry happen
quiet_fact task f m x h = rw (or_false_left (is_in f (effect_of task x).adds) (is_in f (effect_of task x).deletes) h, or_false_right (is_in f (effect_of task x).adds) (is_in f (effect_of task x).deletes) h) refl

pub quiet_facts : (task : TaskParts) (f : ℕ) (m : Carried) (xs : List Step) → AllByRecursion (λ x. changes_fact (snap_of task x.snap) f ≡ false) xs → (carry_all task m xs).facts f ≡ m.facts f
quiet_facts task f m [] h = refl
quiet_facts task f m (x ∷ xs) h = quiet_facts task f (carry task m x) xs h.1 ∙ quiet_fact task f m x h.0

pub carry_append : (task : TaskParts) (m : Carried) (xs ys : List Step) → carry_all task m (xs ++ ys) ≡ carry_all task (carry_all task m xs) ys
carry_append task m [] ys = refl
carry_append task m (x ∷ xs) ys = carry_append task (carry task m x) xs ys

-- those that pass a test are as those that pass it are said to be
kept_as : (P : Step → Type 0) (p : Step → Bool) (xs : List Step) → AllByRecursion (λ x. p x ≡ true → P x) xs → AllByRecursion P (filter p xs)
kept_as P p xs h = all_both (λ x. p x ≡ true → P x) (λ x. p x ≡ true) P (filter p xs) (λ x f e. f e) (all_kept (λ x. p x ≡ true → P x) p xs h) (all_passing p xs)

abbrev IndependentSteps : TaskParts → Step → Step → Type 0
IndependentSteps task x y = Independent task (snap_of task x.snap) (snap_of task y.snap)

-- A list is cut in two, and a test picks steps of both parts. Where those of the first part that fail it, and those
-- of the second that pass it, are quiet, the first part carries what the picked steps carry.
module _ (task : TaskParts) (p : Step → Bool) (xs ys : List Step) (cross : MayCross task (IndependentSteps task) (swapped task) p xs) where
  picked : carried task (filter p (xs ++ ys)) ≡ carry_all task (carry_all task (at_first task) (filter p xs)) (filter p ys)
  picked = ap (carry_all task (at_first task)) (filter-append p xs ys) ∙ carry_append task (at_first task) (filter p xs) (filter p ys)

  pub cut-fluent : (t : ℚ) (f : ℕ) → AllByRecursion (λ x. not (p x) ≡ true → IsQuiet task t f x) xs → AllByRecursion (λ y. p y ≡ true → IsQuiet task t f y) ys
      → (at_time (carried task xs) t).fluents f ≡ (at_time (carried task (filter p (xs ++ ys))) t).fluents f
  cut-fluent t f h k = ap (λ m. (at_time m t).fluents f) (parted task (IndependentSteps task) (swapped task) p (at_first task) xs cross)
      ∙ quiet_steps task t f (carry_all task (at_first task) (filter p xs)) (filter (λ x. not (p x)) xs) (kept_as (IsQuiet task t f) (λ x. not (p x)) xs h)
      ∙ sym (ap (λ m. (at_time m t).fluents f) picked ∙ quiet_steps task t f (carry_all task (at_first task) (filter p xs)) (filter p ys) (kept_as (IsQuiet task t f) p ys k))

  pub cut-fact : (f : ℕ) → AllByRecursion (λ x. not (p x) ≡ true → changes_fact (snap_of task x.snap) f ≡ false) xs → AllByRecursion (λ y. p y ≡ true → changes_fact (snap_of task y.snap) f ≡ false) ys
      → (carried task xs).facts f ≡ (carried task (filter p (xs ++ ys))).facts f
  cut-fact f h k = ap (λ m. m.facts f) (parted task (IndependentSteps task) (swapped task) p (at_first task) xs cross)
      ∙ quiet_facts task f (carry_all task (at_first task) (filter p xs)) (filter (λ x. not (p x)) xs) (kept_as (λ x. changes_fact (snap_of task x.snap) f ≡ false) (λ x. not (p x)) xs h)
      ∙ sym (ap (λ m. m.facts f) picked ∙ quiet_facts task f (carry_all task (at_first task) (filter p xs)) (filter p ys) (kept_as (λ x. changes_fact (snap_of task x.snap) f ≡ false) p ys k))
