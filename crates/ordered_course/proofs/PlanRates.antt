-- The rate of a fluent between two happenings of a plan is the slope that its steps so far have turned, in any order.
use Rattle.std.proofs.Common.{◌≡◌, refl, sym, ap, ap₂, subst, ◌∙◌, ℕ, Bool, true, false, cond, ◌&&◌, List, [], ◌∷◌, ◌++◌, map, inl, inr, Option, Some, None}
use Rattle.std.specs.Prelude.{◌⊎◌, IsPermutation, option_to_list}
use Rattle.std.specs.List.{filter, flat_map, AllByRecursion}
use Rattle.std.proofs.lemmas.List.Elements.{filter-append}
use Rattle.std.proofs.lemmas.List.Sorted.{IsPermutation-map}
use Rattle.rational.specs.Rational.{ℚ, zeroℚ, oneℚ, neg_ℚ, ◌+ℚ◌, ◌*ℚ◌, ◌<ℚ◌, ◌≤ℚ◌}
use Rattle.rational.proofs.Inequalities.{le_trans}
use Rattle.rational.proofs.Ring.{law, num, minus, ◌⊕◌, ◌⊗◌, ◌≐◌}
use Rattle.rational.proofs.Field.{ℚ_ring}
use Rattle.task_types.specs.declared.actions.SnapKind.{SnapKind}
use Rattle.task_types.specs.declared.actions.SnapKind.TheVariants.{Start, End, Instant, Timed}
use Rattle.task_types.specs.declared.parts.TaskParts.{TaskParts}
use Rattle.task_types.specs.declared.plans.PlanLine.{PlanLine}
use Rattle.task_types.specs.Tests.{◌≤?◌, total}
use Rattle.task_types.specs.Plan.{Plan, Step, action_of, snap_of, end_of, duration_of, end_step, line_steps, plan_steps, timed_steps, steps}
use Rattle.task_types.specs.Course.{entries_of, rates_of, runs_between, rate}
use Rattle.task_types.specs.Touch.{is_start_or_end}
use Rattle.task_types.proofs.Comparisons.{le_out, later_out, lt_le_absurd}
use Rattle.task_types.proofs.Reordering.{filter_reordered, total_reordered}
use Rattle.task_types.proofs.Segment.{Outside}
use Rattle.ordering.specs.Along.{Carried, at_first, sign, own_rates, turn, carry, carry_all, carried}
use Rattle.ordering.proofs.Swapping.{new_slope}
use Rattle.std.proofs.lemmas.List.{append-nil}
use Rattle.task_types.proofs.Values.{total-append}
use Rattle.ordering.proofs.ByTime.{no_later}

-- what steps turn
abbrev turns : TaskParts → ℕ → List Step → List ℚ
turns task f xs = map (λ s. turn task (snap_of task s.snap) f) xs

pub slope_sum : (task : TaskParts) (f : ℕ) (m : Carried) (xs : List Step) → (carry_all task m xs).slope f ≡ m.slope f +ℚ total (turns task f xs)
slope_sum task f m [] = law ℚ_ring (m.slope f ∷ []) (λ s. s ≐ s ⊕ num 0) refl
slope_sum task f m (x ∷ xs) = slope_sum task f (carry task m x) xs ∙ ap (λ q. q +ℚ total (turns task f xs)) (new_slope task m x f)
    ∙ law ℚ_ring (m.slope f ∷ turn task (snap_of task x.snap) f ∷ total (turns task f xs) ∷ []) (λ s t r. (s ⊕ t) ⊕ r ≐ s ⊕ (t ⊕ r)) refl

turns-append : (task : TaskParts) (f : ℕ) (xs ys : List Step) → total (turns task f (xs ++ ys)) ≡ total (turns task f xs) +ℚ total (turns task f ys)
turns-append task f [] ys = law ℚ_ring (total (turns task f ys) ∷ []) (λ a. a ≐ num 0 ⊕ a) refl
turns-append task f (x ∷ xs) ys = ap (λ q. turn task (snap_of task x.snap) f +ℚ q) (turns-append task f xs ys) ∙ law ℚ_ring (turn task (snap_of task x.snap) f ∷ total (turns task f xs) ∷ total (turns task f ys) ∷ []) (λ x a b. x ⊕ (a ⊕ b) ≐ (x ⊕ a) ⊕ b) refl

-- A line is that of a durative action, with its start and its end in that order, or of an instantaneous one.
pub record IsDurative (task : TaskParts) (l : PlanLine) : Type 0 where
  pub end : ℕ
  pub has_end : (action_of task l.action).end ≡ Some end
  pub start_kind : (snap_of task (action_of task l.action).start).kind ≡ Start
  pub start_action : (snap_of task (action_of task l.action).start).action ≡ Some l.action
  pub end_kind : (snap_of task end).kind ≡ End
  pub end_action : (snap_of task end).action ≡ Some l.action
  pub in_order : l.at ≤ℚ end_of l

pub record IsInstant (task : TaskParts) (l : PlanLine) : Type 0 where
  pub no_end : (action_of task l.action).end ≡ None
  pub kind : (snap_of task (action_of task l.action).start).kind ≡ Instant
  pub at_once : l.at ≡ end_of l

module _ (task : TaskParts) (f : ℕ) where
  turn_as : (s : ℕ) (k : SnapKind) (o : Option ℕ) → (snap_of task s).kind ≡ k → (snap_of task s).action ≡ o
      → turn task (snap_of task s) f ≡ sign k *ℚ total (entries_of f (flat_map (λ a. (snap_of task (action_of task a).start).rates) (filter (λ a. is_start_or_end k) (option_to_list o))))
  turn_as s k o e g = ap₂ (λ (k : SnapKind) (o : Option ℕ). sign k *ℚ total (entries_of f (flat_map (λ a. (snap_of task (action_of task a).start).rates) (filter (λ a. is_start_or_end k) (option_to_list o))))) e g

  own : (a : ℕ) → total (entries_of f ((snap_of task (action_of task a).start).rates ++ [])) ≡ total (entries_of f (snap_of task (action_of task a).start).rates)
  own a = ap (λ l. total (entries_of f l)) (append-nil (snap_of task (action_of task a).start).rates)

  start_turn : (s a : ℕ) → (snap_of task s).kind ≡ Start → (snap_of task s).action ≡ Some a → turn task (snap_of task s) f ≡ total (entries_of f (snap_of task (action_of task a).start).rates)
  start_turn s a e g = turn_as s Start (Some a) e g ∙ ap (λ q. oneℚ *ℚ q) (own a) ∙ law ℚ_ring (total (entries_of f (snap_of task (action_of task a).start).rates) ∷ []) (λ q. num 1 ⊗ q ≐ q) refl

  end_turn : (s a : ℕ) → (snap_of task s).kind ≡ End → (snap_of task s).action ≡ Some a → turn task (snap_of task s) f ≡ neg_ℚ (total (entries_of f (snap_of task (action_of task a).start).rates))
  end_turn s a e g = turn_as s End (Some a) e g ∙ ap (λ q. neg_ℚ oneℚ *ℚ q) (own a) ∙ law ℚ_ring (total (entries_of f (snap_of task (action_of task a).start).rates) ∷ []) (λ q. minus (num 1) ⊗ q ≐ minus q) refl

  still_turn : (s : ℕ) (k : SnapKind) → (snap_of task s).kind ≡ k → sign k ≡ zeroℚ → turn task (snap_of task s) f ≡ zeroℚ
  still_turn s k e z = ap (λ q. q *ℚ total (entries_of f (own_rates task (snap_of task s)))) (ap sign e ∙ z) ∙ law ℚ_ring (total (entries_of f (own_rates task (snap_of task s))) ∷ []) (λ q. num 0 ⊗ q ≐ num 0) refl

  module _ (from to : ℚ) (gap : from <ℚ to) where
    -- what a line adds to a rate
    abbrev rated : Bool → PlanLine → ℚ
    rated b l = cond b (total (rates_of task l f)) zeroℚ

    durative_line : (l : PlanLine) → IsDurative task l → Outside from to (end_of l) → total (turns task f (no_later from (line_steps task l))) ≡ rated (runs_between from to l) l
    durative_line l d o = ap (λ e. total (turns task f (no_later from (record { time = l.at; snap = (action_of task l.action).start; duration = duration_of l } ∷ end_step l e)))) d.has_end
        ∙ go (l.at ≤? from) (end_of l ≤? from) (to ≤? end_of l) refl refl refl
      where
        first : ℚ
        first = turn task (snap_of task (action_of task l.action).start) f

        last : ℚ
        last = turn task (snap_of task d.end) f

        two : (b c e : Bool) → Type 0
        two b c e = total (turns task f (cond b (record { time = l.at; snap = (action_of task l.action).start; duration = duration_of l } ∷ cond c (record { time = end_of l; snap = d.end; duration = duration_of l } ∷ []) []) (cond c (record { time = end_of l; snap = d.end; duration = duration_of l } ∷ []) []))) ≡ rated (b && e) l

        s : turn task (snap_of task (action_of task l.action).start) f ≡ total (rates_of task l f)
        s = start_turn (action_of task l.action).start l.action d.start_kind d.start_action

        t : turn task (snap_of task d.end) f ≡ neg_ℚ (total (rates_of task l f))
        t = end_turn d.end l.action d.end_kind d.end_action

        go : (b c e : Bool) → (l.at ≤? from) ≡ b → (end_of l ≤? from) ≡ c → (to ≤? end_of l) ≡ e
            → total (turns task f (cond b (record { time = l.at; snap = (action_of task l.action).start; duration = duration_of l } ∷ cond c (record { time = end_of l; snap = d.end; duration = duration_of l } ∷ []) []) (cond c (record { time = end_of l; snap = d.end; duration = duration_of l } ∷ []) []))) ≡ rated (b && e) l
        go true true true p q r = absurd (lt_le_absurd from to gap (le_trans to (end_of l) from (le_out to (end_of l) r) (le_out (end_of l) from q)))
        go true true false p q r = ap₂ (λ (x y : ℚ). x +ℚ (y +ℚ zeroℚ)) s t ∙ law ℚ_ring (total (rates_of task l f) ∷ []) (λ x. x ⊕ (minus x ⊕ num 0) ≐ num 0) refl
        go true false true p q r = ap (λ x. x +ℚ zeroℚ) s ∙ law ℚ_ring (total (rates_of task l f) ∷ []) (λ x. x ⊕ num 0 ≐ x) refl
        go true false false p q r = absurd (no o)
          where
            no : Outside from to (end_of l) → ⊥
            no (inl h) = lt_le_absurd from (end_of l) (later_out (end_of l) from q) h
            no (inr h) = lt_le_absurd (end_of l) to (later_out to (end_of l) r) h
        go false true e p q r = absurd (lt_le_absurd from l.at (later_out l.at from p) (le_trans l.at (end_of l) from d.in_order (le_out (end_of l) from q)))
        go false false e p q r = refl

    instant_line : (l : PlanLine) → IsInstant task l → total (turns task f (no_later from (line_steps task l))) ≡ rated (runs_between from to l) l
    instant_line l d = ap (λ e. total (turns task f (no_later from (record { time = l.at; snap = (action_of task l.action).start; duration = duration_of l } ∷ end_step l e)))) d.no_end
        ∙ go (l.at ≤? from) (to ≤? end_of l) refl refl
      where
        z : turn task (snap_of task (action_of task l.action).start) f ≡ zeroℚ
        z = still_turn (action_of task l.action).start Instant d.kind refl

        go : (b e : Bool) → (l.at ≤? from) ≡ b → (to ≤? end_of l) ≡ e → total (turns task f (cond b (record { time = l.at; snap = (action_of task l.action).start; duration = duration_of l } ∷ []) [])) ≡ rated (b && e) l
        go true true p r = absurd (lt_le_absurd from to gap (le_trans to l.at from (subst (λ x. to ≤ℚ x) (sym d.at_once) (le_out to (end_of l) r)) (le_out l.at from p)))
        go true false p r = ap (λ x. x +ℚ zeroℚ) z ∙ law ℚ_ring ([]) (num 0 ⊕ num 0 ≐ num 0) refl
        go false e p r = refl

    lines_rate : (plan : Plan) → AllByRecursion (λ l. (IsDurative task l × Outside from to (end_of l)) ⊎ IsInstant task l) plan → total (turns task f (no_later from (plan_steps task plan))) ≡ total (flat_map (λ l. rates_of task l f) (filter (runs_between from to) plan))
    lines_rate [] h = refl
    lines_rate (l ∷ ls) h = ap (λ xs. total (turns task f xs)) (filter-append (λ s. s.time ≤? from) (line_steps task l) (plan_steps task ls))
        ∙ turns-append task f (no_later from (line_steps task l)) (no_later from (plan_steps task ls))
        ∙ ap₂ (λ (x y : ℚ). x +ℚ y) (one h.0) (lines_rate ls h.1) ∙ go (runs_between from to l)
      where
        one : (IsDurative task l × Outside from to (end_of l)) ⊎ IsInstant task l → total (turns task f (no_later from (line_steps task l))) ≡ rated (runs_between from to l) l
        one (inl d) = durative_line l d.0 d.1
        one (inr d) = instant_line l d

        go : (b : Bool) → rated b l +ℚ total (flat_map (λ l. rates_of task l f) (filter (runs_between from to) ls)) ≡ total (flat_map (λ l. rates_of task l f) (cond b (l ∷ filter (runs_between from to) ls) (filter (runs_between from to) ls)))
        go true = sym (total-append (rates_of task l f) (flat_map (λ l. rates_of task l f) (filter (runs_between from to) ls)))
        go false = law ℚ_ring (total (flat_map (λ l. rates_of task l f) (filter (runs_between from to) ls)) ∷ []) (λ q. num 0 ⊕ q ≐ q) refl

    timed_rate : (us : List (ℚ × ℕ)) → AllByRecursion (λ u. (snap_of task u.1).kind ≡ Timed) us → total (turns task f (no_later from (map (λ u. record { time = u.0; snap = u.1; duration = zeroℚ }) us))) ≡ zeroℚ
    timed_rate [] h = refl
    timed_rate (u ∷ us) h = go (u.0 ≤? from) (timed_rate us h.1)
      where
        go : (b : Bool) → total (turns task f (no_later from (map (λ (u : ℚ × ℕ). record { time = u.0; snap = u.1; duration = zeroℚ }) us))) ≡ zeroℚ
            → total (turns task f (cond b (record { time = u.0; snap = u.1; duration = zeroℚ } ∷ no_later from (map (λ (u : ℚ × ℕ). record { time = u.0; snap = u.1; duration = zeroℚ }) us)) (no_later from (map (λ (u : ℚ × ℕ). record { time = u.0; snap = u.1; duration = zeroℚ }) us)))) ≡ zeroℚ
        go true r = ap₂ (λ (x y : ℚ). x +ℚ y) (still_turn u.1 Timed h.0 refl) r ∙ law ℚ_ring ([]) (num 0 ⊕ num 0 ≐ num 0) refl
        go false r = r

-- The rates of a plan between two of its times are the slopes that its steps, in any order, carry.
pub plan_rates : (task : TaskParts) (plan : Plan) (ss : List Step) (from to : ℚ) (f : ℕ) → IsPermutation (steps task plan) ss → from <ℚ to
    → AllByRecursion (λ l. (IsDurative task l × Outside from to (end_of l)) ⊎ IsInstant task l) plan → AllByRecursion (λ u. (snap_of task u.1).kind ≡ Timed) task.timed
    → rate task plan from to f ≡ (carried task (no_later from ss)).slope f
unfolding rate
plan_rates task plan ss from to f same gap lines timed = sym (
    slope_sum task f (at_first task) (no_later from ss)
    ∙ ap (λ q. zeroℚ +ℚ q) (sym (total_reordered (turns task f (no_later from (steps task plan))) (turns task f (no_later from ss)) (IsPermutation-map (λ (s : Step). turn task (snap_of task s.snap) f) (no_later from (steps task plan)) (no_later from ss) (filter_reordered (λ s. s.time ≤? from) (steps task plan) ss same))))
    ∙ ap (λ xs. zeroℚ +ℚ total (turns task f xs)) (filter-append (λ s. s.time ≤? from) (plan_steps task plan) (timed_steps task))
    ∙ ap (λ q. zeroℚ +ℚ q) (turns-append task f (no_later from (plan_steps task plan)) (no_later from (timed_steps task)))
    ∙ ap₂ (λ (x y : ℚ). zeroℚ +ℚ (x +ℚ y)) (lines_rate task f from to gap plan lines) (timed_rate task f from to gap task.timed timed)
    ∙ law ℚ_ring (total (flat_map (λ l. rates_of task l f) (filter (runs_between from to) plan)) ∷ []) (λ q. num 0 ⊕ (q ⊕ num 0) ≐ q) refl)
