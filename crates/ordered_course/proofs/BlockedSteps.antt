-- The literals of a valid plan hold along the list of its steps: those of each step's own condition, the over-all
-- literals of the actions that run, and those of the goal.
use Rattle.std.proofs.Common.{◌≡◌, refl, sym, ap, subst, ◌∙◌, ℕ, suc, ◌<◌, Bool, true, false, not, ◌||◌, List, [], ◌∷◌, ◌++◌, map, length, arith, inl, inr, Option, Some, None}
use Rattle.std.specs.Prelude.{◌⊎◌, slice_index_or, is_some}
use Rattle.std.specs.List.{list_all, AllByRecursion}
use Rattle.rational.specs.Rational.{ℚ, zeroℚ, ◌+ℚ◌, ◌*ℚ◌, ◌<ℚ◌, ◌≤ℚ◌}
use Rattle.rational.proofs.Order.{lt_le, lt_irrefl}
use Rattle.rational.proofs.Inequalities.{le_refl, lt_trans, le_trans}
use Rattle.basics.proofs.Bools.{and_left, and_right}
use Rattle.basics.proofs.Lists.{each_append}
use Rattle.task_types.specs.declared.actions.SnapKind.{SnapKind}
use Rattle.task_types.specs.declared.actions.SnapKind.TheVariants.{Start, End, Timed}
use Rattle.task_types.specs.declared.conditions.Condition.{Condition}
use Rattle.task_types.specs.declared.conditions.Literal.{Literal}
use Rattle.task_types.specs.declared.parts.TaskParts.{TaskParts}
use Rattle.task_types.specs.declared.plans.PlanLine.{PlanLine}
use Rattle.task_types.specs.declared.tokens.Token.TheVariants as token
use Rattle.task_types.specs.Sets.{is_in}
use Rattle.task_types.specs.State.{State, literal_holds, holds}
use Rattle.task_types.specs.Plan.{Plan, Step, action_of, snap_of, end_of, end_step, line_steps, plan_steps, timed_steps, steps, happenings}
use Rattle.task_types.specs.Course.{initial, before, after, time_of, state, last_state}
use Rattle.task_types.specs.Touch.{looks, is_timed}
use Rattle.task_types.specs.Laws.{Ascends}
use Rattle.task_types.specs.Valid.{can_start, can_end, end_holds, HoldsWithin}
use Rattle.task_types.specs.WellMade.{snap_fits, is_empty, changes_facts_alone}
use Rattle.task_types.proofs.ByNumber.{after-number}
use Rattle.task_types.proofs.Comparisons.{lt_le_absurd}
use Rattle.task_types.proofs.Everyone.{all_map}
use Rattle.task_types.proofs.Happenings.{Among, among, contained, happenings-times}
use Rattle.task_types.proofs.Unordered.{every_reordered}
use Rattle.ordering.specs.Along.{at_time, carried, changes_fact, Follows, AreInOrder}
use Rattle.ordering.specs.Laws.{Tells}
use Rattle.ordered_course.proofs.Lasting.{start_end_tied}
use Rattle.ordered_course.proofs.ListFacts.{Known, literals_hold, across, second_part, unless, changed_then_seen, seen_then_changed, changed_twice, looks_itself, looks_over_all}
use Rattle.ordered_course.proofs.RunningLines.{Has, Both, has_both}
use Rattle.ordered_course.proofs.Squeezing.{Between, squeezed}
use Rattle.ordered_course.proofs.States.{fluent_after, fact_before, fact_after}
use Rattle.ordered_course.specs.Quiet.{IsQuiet}
use Rattle.rational.proofs.Ring.{law, num, ◌⊕◌, ◌⊗◌, ◌≐◌}
use Rattle.rational.proofs.Field.{ℚ_ring}

pub holds_literals : (c : Condition) (s : State) → holds c s ≡ true → list_all (λ l. literal_holds l s.facts) c.literals ≡ true
unfolding holds
holds_literals c s h = and_left _ _ h

-- ---- in a plan, the literals of each step's condition hold before it

abbrev pub MayHappen : TaskParts → Plan → Step → Type 0
MayHappen task plan x = list_all (λ l. literal_holds l (before task plan x.time).facts) (snap_of task x.snap).condition.literals ≡ true

module _ (task : TaskParts) (plan : Plan) where
  end_may : (l : PlanLine) (o : Option ℕ) → end_holds task plan l o ≡ true → AllByRecursion (MayHappen task plan) (end_step l o)
  end_may l None h = tt
  end_may l (Some s) h = (holds_literals (snap_of task s).condition (before task plan (end_of l)) h, tt)

  lines_may : (ls : Plan) → list_all (can_start task plan) ls ≡ true → list_all (can_end task plan) ls ≡ true → AllByRecursion (MayHappen task plan) (plan_steps task ls)
  lines_may [] h k = tt
  lines_may (l ∷ ls) h k = each_append (MayHappen task plan) (line_steps task l) (plan_steps task ls)
      (holds_literals (snap_of task (action_of task l.action).start).condition (before task plan l.at) (and_left (can_start task plan l) (list_all (can_start task plan) ls) h), end_may l (action_of task l.action).end (and_left (can_end task plan l) (list_all (can_end task plan) ls) k))
      (lines_may ls (and_right (can_start task plan l) (list_all (can_start task plan) ls) h) (and_right (can_end task plan l) (list_all (can_end task plan) ls) k))

  none_asked : (ls : List Literal) (facts : ℕ → Bool) → is_empty ls ≡ true → list_all (λ l. literal_holds l facts) ls ≡ true
  none_asked [] facts h = refl
  none_asked (l ∷ ls) facts h = let c : false ≡ true = h in cc

  timed_may : (fits : (k : ℕ) → snap_fits task (snap_of task k) ≡ true) (us : List (ℚ × ℕ)) → AllByRecursion (λ u. (snap_of task u.1).kind ≡ Timed) us → AllByRecursion (MayHappen task plan) (map (λ u. record { time = u.0; snap = u.1; duration = zeroℚ }) us)
  timed_may fits [] h = tt
  timed_may fits (u ∷ us) h = (none_asked (snap_of task u.1).condition.literals (before task plan u.0).facts (alone (snap_of task u.1).kind h.0 (and_right _ _ (and_left _ _ (fits u.1)))), timed_may fits us h.1)
    where
      alone : (k : SnapKind) → k ≡ Timed → (not (is_timed k) || changes_facts_alone (snap_of task u.1)) ≡ true → is_empty (snap_of task u.1).condition.literals ≡ true
      alone k e f = and_left _ _ (and_left _ _ (and_left _ _ (subst (λ k. (not (is_timed k) || changes_facts_alone (snap_of task u.1)) ≡ true) e f)))

  pub steps_may : (fits : (k : ℕ) → snap_fits task (snap_of task k) ≡ true) → list_all (can_start task plan) plan ≡ true → list_all (can_end task plan) plan ≡ true → AllByRecursion (λ u. (snap_of task u.1).kind ≡ Timed) task.timed → AllByRecursion (MayHappen task plan) (steps task plan)
  steps_may fits h k t = each_append (MayHappen task plan) (plan_steps task plan) (timed_steps task) (lines_may plan h k) (timed_may fits task.timed t)

-- ---- along the list

module _ (task : TaskParts) (fits : (k : ℕ) → snap_fits task (snap_of task k) ≡ true) (plan : Plan) where
  abbrev Changes : ℕ → Step → Type 0
  Changes f x = changes_fact (snap_of task x.snap) f ≡ true

  abbrev Leaves : ℕ → Step → Type 0
  Leaves f x = changes_fact (snap_of task x.snap) f ≡ false

  -- the facts of a step's condition are, after the steps that precede it in the list, what they are before it
  own_fact : (xs ys : List Step) (x : Step) (f : ℕ) → Tells task plan (xs ++ x ∷ ys) → AreInOrder task (xs ++ x ∷ ys) → looks task (snap_of task x.snap) (token.Fact f) ≡ true → (carried task xs).facts f ≡ (before task plan x.time).facts f
  own_fact xs ys x f tells order s = fact_before task plan xs (x ∷ ys) x.time f tells
      (all_map (λ z. AllByRecursion (Follows task z) (x ∷ ys)) (λ z. x.time ≤ℚ z.time → Leaves f z) xs (λ z w l. unless _ (λ c. lt_le_absurd z.time x.time (w.0.later (changed_then_seen task fits z.snap x.snap f c s)) l)) (across task xs (x ∷ ys) order))
      (λ l. absurd (lt_irrefl x.time l), all_map (Follows task x) (λ z. z.time <ℚ x.time → Leaves f z) ys (λ z w l. unless _ (λ c. lt_irrefl x.time (lt_trans x.time z.time x.time (w.later (seen_then_changed task fits x.snap z.snap f s c)) l))) (second_part task xs (x ∷ ys) order).0)

  pub own_literals : (xs ys : List Step) (x : Step) → Tells task plan (xs ++ x ∷ ys) → AreInOrder task (xs ++ x ∷ ys) → MayHappen task plan x → list_all (λ l. literal_holds l (carried task xs).facts) (snap_of task x.snap).condition.literals ≡ true
  own_literals xs ys x tells order h = literals_hold (carried task xs).facts (snap_of task x.snap).condition.literals
      (λ f i. record { there = (before task plan x.time).facts; same = own_fact xs ys x f tells order (looks_itself task x.snap f i); hold = h })

  -- ---- the over-all literals of an action that runs

  -- a step of a kind and of an action, at a time
  pub record IsAt (k : SnapKind) (a : ℕ) (t : ℚ) (x : Step) : Type 0 where
    pub kind : (snap_of task x.snap).kind ≡ k
    pub action : (snap_of task x.snap).action ≡ Some a
    pub time : x.time ≡ t

  module _ (xs ys : List Step) (tells : Tells task plan (xs ++ ys)) (order : AreInOrder task (xs ++ ys)) (a : ℕ) (from to : ℚ) (start : Has (IsAt Start a from) xs) (end : Has (IsAt End a to) ys)
      (lasting : (action_of task a).end ≡ None → ⊥) where
    first : Both (IsAt Start a from) (λ x. AllByRecursion (Follows task x) ys)
    first = has_both (IsAt Start a from) (λ x. AllByRecursion (Follows task x) ys) xs start (across task xs ys order)

    -- steps of the first part that change a fact of the condition come before the end
    early : (f : ℕ) → is_in f (map (λ l. l.fact) (action_of task a).over_all.literals) ≡ true → AllByRecursion (λ x. Changes f x → x.time <ℚ to) xs
    early f i = all_map (λ x. AllByRecursion (Follows task x) ys) (λ x. Changes f x → x.time <ℚ to) xs one (across task xs ys order)
      where
        one : (x : Step) → AllByRecursion (Follows task x) ys → Changes f x → x.time <ℚ to
        one x w c = let e = has_both (IsAt End a to) (Follows task x) ys end w in
            subst (λ t. x.time <ℚ t) e.first.time (e.second.later (changed_then_seen task fits x.snap e.it.snap f c (looks_over_all task e.it.snap a f End e.first.kind refl e.first.action i)))

    -- those of the second part come after the start
    late : (f : ℕ) → is_in f (map (λ l. l.fact) (action_of task a).over_all.literals) ≡ true → AllByRecursion (λ y. Changes f y → from <ℚ y.time) ys
    late f i = all_map (Follows task first.it) (λ y. Changes f y → from <ℚ y.time) ys
        (λ y w c. subst (λ t. t <ℚ y.time) first.first.time (w.later (seen_then_changed task fits first.it.snap y.snap f (looks_over_all task first.it.snap a f Start first.first.kind refl first.first.action i) c))) first.second

    both : (f : ℕ) → AllByRecursion (λ x. Changes f x → AllByRecursion (λ y. Changes f y → x.time <ℚ y.time) ys) xs
    both f = all_map (λ x. AllByRecursion (Follows task x) ys) (λ x. Changes f x → AllByRecursion (λ y. Changes f y → x.time <ℚ y.time) ys) xs
        (λ x w c. all_map (Follows task x) (λ y. Changes f y → x.time <ℚ y.time) ys (λ y v d. v.later (changed_twice task fits x.snap y.snap f c d)) w) (across task xs ys order)

    gap : from <ℚ to
    gap = let e = has_both (IsAt End a to) (Follows task first.it) ys end first.second in
        subst (λ t. t <ℚ to) first.first.time (subst (λ t. first.it.time <ℚ t) e.first.time
        (e.second.later (start_end_tied task first.it.snap e.it.snap a first.first.kind first.first.action e.first.kind e.first.action (present (action_of task a).end refl))))
      where
        present : (o : Option ℕ) → (action_of task a).end ≡ o → is_some (action_of task a).end ≡ true
        present None q = absurd (lasting q)
        present (Some s) q = ap is_some q

    pub over_all_literals : HoldsWithin task plan (action_of task a).over_all from to → list_all (λ l. literal_holds l (carried task xs).facts) (action_of task a).over_all.literals ≡ true
    over_all_literals h = literals_hold (carried task xs).facts (action_of task a).over_all.literals known
      where
        known : (f : ℕ) → is_in f (map (λ l. l.fact) (action_of task a).over_all.literals) ≡ true → Known (carried task xs).facts f (action_of task a).over_all.literals
        known f i = record {
          there = (before task plan m.time).facts;
          same = fact_before task plan xs ys m.time f tells
              (all_map (λ x. Changes f x → x.time <ℚ m.time) (λ x. m.time ≤ℚ x.time → Leaves f x) xs (λ x g l. unless _ (λ c. lt_le_absurd x.time m.time (g c) l)) m.first)
              (all_map (λ y. Changes f y → m.time <ℚ y.time) (λ y. y.time <ℚ m.time → Leaves f y) ys (λ y g l. unless _ (λ c. lt_irrefl y.time (lt_trans y.time m.time y.time l (g c)))) m.second);
          hold = holds_literals (action_of task a).over_all (before task plan m.time) (h m.time m.after m.before).0;
        }
          where
            m : Between (λ x. changes_fact (snap_of task x.snap) f) xs ys from to
            m = squeezed (λ x. changes_fact (snap_of task x.snap) f) xs ys from to gap (early f i) (late f i) (both f)

-- ---- the last state

-- the last of ascending times is the greatest
pub last_greatest : (t : ℚ) (ts : List ℚ) → Ascends (t ∷ ts) → AllByRecursion (λ u. u ≤ℚ slice_index_or (t ∷ ts) (length ts) zeroℚ) (t ∷ ts)
last_greatest t [] h = (le_refl t, tt)
last_greatest t (u ∷ us) h = go (last_greatest u us h.1)
  where
    go : AllByRecursion (λ v. v ≤ℚ slice_index_or (u ∷ us) (length us) zeroℚ) (u ∷ us) → AllByRecursion (λ v. v ≤ℚ slice_index_or (u ∷ us) (length us) zeroℚ) (t ∷ u ∷ us)
    go r = (le_trans t u (slice_index_or (u ∷ us) (length us) zeroℚ) (lt_le t u h.0.0) r.0, r)

pub each_among : (P : ℚ → Type 0) (ts : List ℚ) (t : ℚ) → AllByRecursion P ts → Among t ts → P t
each_among P [] t a m = absurd m
each_among P (u ∷ us) t a (inl e) = subst P (sym e) a.0
each_among P (u ∷ us) t a (inr m) = each_among P us t a.1 m

-- each step of a plan is at one of its happenings
pub each_happens : (P : ℚ → Type 0) (task : TaskParts) (plan : Plan) → AllByRecursion P (happenings task plan) → AllByRecursion (λ x. P x.time) (steps task plan)
each_happens P task plan a = go (steps task plan) (λ x m. each_among P (happenings task plan) x a (among x (happenings task plan) ((happenings-times task plan).each x (contained x (map (λ s. s.time) (steps task plan)) m))))
  where
    go : (xs : List Step) → ((t : ℚ) → Among t (map (λ s. s.time) xs) → P t) → AllByRecursion (λ x. P x.time) xs
    go [] f = tt
    go (x ∷ xs) f = (f x.time (inl refl), go xs (λ t m. f t (inr m)))

no_steps : (xs : List Step) → AllByRecursion (λ x. ⊥) xs → xs ≡ []
no_steps [] h = refl
no_steps (x ∷ xs) h = absurd h.0

-- an instant no earlier than any step of a list, after which the last state is reached
pub record IsLast (task : TaskParts) (plan : Plan) (ss : List Step) : Type 0 where
  pub time : ℚ
  pub late : AllByRecursion (λ x. x.time ≤ℚ time) ss
  pub state : after task plan time ≡ last_state task plan

module _ (task : TaskParts) (plan : Plan) (ss : List Step) (tells : Tells task plan ss) where
  -- The last state is the initial one, where there are no steps, or that after the last step.
  pub last_is : ((ss ≡ []) × (initial task ≡ last_state task plan)) ⊎ IsLast task plan ss
  last_is = go (happenings task plan) refl
    where
      below : (n : ℕ) → n < suc n
      below n = omega arith

      go : (ts : List ℚ) → happenings task plan ≡ ts → ((ss ≡ []) × (initial task ≡ state task plan (length (happenings task plan)))) ⊎ IsLast task plan ss
      go [] e = inl (
        no_steps ss (every_reordered (λ x. ⊥) (steps task plan) ss tells.same (each_happens (λ t. ⊥) task plan (subst (AllByRecursion (λ t. ⊥)) (sym e) tt))),
        sym (ap (λ (hs : List ℚ). state task plan (length hs)) e),
      )
      go (t ∷ ts) e = inr (record {
        time = time_of task plan (length ts);
        late = every_reordered (λ x. x.time ≤ℚ time_of task plan (length ts)) (steps task plan) ss tells.same
            (each_happens (λ u. u ≤ℚ time_of task plan (length ts)) task plan (subst (λ (hs : List ℚ). AllByRecursion (λ u. u ≤ℚ slice_index_or hs (length ts) zeroℚ) hs) (sym e) (last_greatest t ts (subst Ascends e (happenings-times task plan).ascends))));
        state = after-number task plan (length ts) (subst (λ (hs : List ℚ). length ts < length hs) (sym e) (below (length ts))) ∙ sym (ap (λ (hs : List ℚ). state task plan (length hs)) e);
      })

  whole : (xs : List Step) → xs ++ [] ≡ xs
  whole [] = refl
  whole (x ∷ xs) = ap (λ l. x ∷ l) (whole xs)

  -- what the whole list carries is what is so in the last state
  pub last_fact : (f : ℕ) → (carried task ss).facts f ≡ (last_state task plan).facts f
  last_fact f = go last_is
    where
      go : ((ss ≡ []) × (initial task ≡ last_state task plan)) ⊎ IsLast task plan ss → (carried task ss).facts f ≡ (last_state task plan).facts f
      go (inl e) = ap (λ xs. (carried task xs).facts f) e.0 ∙ ap (λ (s : State). s.facts f) e.1
      go (inr l) = fact_after task plan ss [] l.time f (subst (Tells task plan) (sym (whole ss)) tells)
          (all_map (λ x. x.time ≤ℚ l.time) (λ x. l.time <ℚ x.time → changes_fact (snap_of task x.snap) f ≡ false) ss (λ x h k. absurd (lt_le_absurd l.time x.time k h)) l.late) tt
          ∙ ap (λ (s : State). s.facts f) l.state

  -- where nothing goes on in the end, each fluent has its level
  pub last_fluent : (f : ℕ) → (carried task ss).slope f ≡ zeroℚ → (carried task ss).level f ≡ (last_state task plan).fluents f
  last_fluent f z = go last_is
    where
      still : (t : ℚ) → (carried task ss).level f ≡ (at_time (carried task ss) t).fluents f
      still t = law ℚ_ring ((carried task ss).level f ∷ t ∷ []) (λ l t. l ≐ l ⊕ num 0 ⊗ t) refl ∙ ap (λ s. (carried task ss).level f +ℚ s *ℚ t) (sym z)

      go : ((ss ≡ []) × (initial task ≡ last_state task plan)) ⊎ IsLast task plan ss → (carried task ss).level f ≡ (last_state task plan).fluents f
      go (inl e) = ap (λ xs. (carried task xs).level f) e.0 ∙ ap (λ (s : State). s.fluents f) e.1
      go (inr l) = still l.time
          ∙ fluent_after task plan ss [] l.time f (subst (Tells task plan) (sym (whole ss)) tells)
          (all_map (λ x. x.time ≤ℚ l.time) (λ x. l.time <ℚ x.time → IsQuiet task l.time f x) ss (λ x h k. absurd (lt_le_absurd l.time x.time k h)) l.late) tt
          ∙ ap (λ (s : State). s.fluents f) l.state

  pub goal_literals : (c : Condition) → holds c (last_state task plan) ≡ true → list_all (λ l. literal_holds l (carried task ss).facts) c.literals ≡ true
  goal_literals c h = literals_hold (carried task ss).facts c.literals (λ f i. record { there = (last_state task plan).facts; same = last_fact f; hold = holds_literals c (last_state task plan) h })
