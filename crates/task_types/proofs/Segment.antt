-- A condition holds at every instant strictly between two adjacent happenings exactly where it holds at both ends.
use Rattle.std.proofs.Common.{◌≡◌, refl, sym, ap, subst, ◌∙◌, ℕ, zero, suc, ◌<◌, Bool, true, false, ◌&&◌, List, [], ◌∷◌, length, map, arith, inl, inr, Option, Some, None}
use Rattle.std.specs.Prelude.{slice_index_or, ◌⊎◌, ◌↔◌, IsTrue, if◌then◌else◌, is_some, is_none, unwrap_or, not}
use Rattle.std.specs.List.{AllByRecursion, list_all, filter, flat_map}
use Rattle.std.specs.declared.cmp.Ordering.{Ordering}
use Rattle.std.specs.declared.cmp.Ordering.TheVariants.{Less, Equal, Greater}
use Rattle.std.specs.Ordering.{MatchOrdering}
use Rattle.rational.specs.Rational.{ℚ, ◌+ℚ◌, ◌*ℚ◌, ◌-ℚ◌, cmp_ℚ, ◌≤ℚ◌, ◌<ℚ◌}
use Rattle.rational.specs.Rational.{zeroℚ}
use Rattle.rational.proofs.Comparisons.{cmp_ranks}
use Rattle.rational.proofs.Order.{lt_le}
use Rattle.rational.specs.Segment.{halfway}
use Rattle.rational.proofs.Inequalities.{below_halfway, halfway_below, le_trans, lt_le_trans, le_lt_trans}
use Rattle.exact_lin.specs.Forms.{LinearForm, terms_at}
use Rattle.rational.proofs.Ring.{law, ◌⊕◌, ◌⊗◌, num, ◌≐◌}
use Rattle.rational.proofs.Field.{ℚ_ring}
use Rattle.basics.proofs.Bools.{and_left, and_right, and_in}
use Rattle.basics.proofs.Lists.{all_out, all_in, each_left}
use Rattle.task_types.specs.declared.parts.TaskParts.{TaskParts}
use Rattle.task_types.specs.declared.conditions.Condition.{Condition}
use Rattle.task_types.specs.declared.plans.PlanLine.{PlanLine}
use Rattle.task_types.specs.Tests.{◌<?◌, ◌≤?◌, ◌=?◌, total}
use Rattle.task_types.specs.State.{State, value, literal_holds, comparison_holds, holds}
use Rattle.task_types.specs.Plan.{Plan, IsFormed, is_formed, runs_at, action_of, end_of, end_step, line_steps, timed_steps, steps, ascending, in_place, beside, happenings}
use Rattle.task_types.specs.Course.{runs_between, rates_of, rate, moved, happen, reached, before, after, time_of, steps_at, state_after, state_before, count}
use Rattle.task_types.specs.Valid.{HoldsWithin}
use Rattle.task_types.proofs.Comparisons.{lt_in, lt_out, le_in, le_out, eq_le, eq_out, lt_le_absurd}
use Rattle.task_types.proofs.Everyone.{all_map, all_both, all_swap, all_under, all_of_map, all_of_flat_map, filter_same, filter_none}
use Rattle.task_types.specs.Laws.{Ascends}
use Rattle.task_types.proofs.Instants.{happenings-Ascends, before-between}
use Rattle.task_types.proofs.Lines.{grown, HoldsInside, between, at_from, at_to}

-- ---- values grow linearly

pub terms-moved : (fluents r : ℕ → ℚ) (e : ℚ) (ts : List (ℕ × ℚ)) → terms_at ts (λ f. fluents f +ℚ r f *ℚ e) ≡ terms_at ts fluents +ℚ terms_at ts r *ℚ e
terms-moved fluents r e [] = law ℚ_ring (e ∷ []) (λ e. num 0 ≐ num 0 ⊕ num 0 ⊗ e) refl
terms-moved fluents r e (t ∷ ts) = ap (λ x. t.1 *ℚ (fluents t.0 +ℚ r t.0 *ℚ e) +ℚ x) (terms-moved fluents r e ts)
    ∙ law ℚ_ring (t.1 ∷ fluents t.0 ∷ r t.0 ∷ e ∷ terms_at ts fluents ∷ terms_at ts r ∷ []) (λ c v r e a b. c ⊗ (v ⊕ r ⊗ e) ⊕ (a ⊕ b ⊗ e) ≐ (c ⊗ v ⊕ a) ⊕ (c ⊗ r ⊕ b) ⊗ e) refl

-- the rate of a form, from the lines that run
abbrev pub slope : TaskParts → List PlanLine → LinearForm → ℚ
slope task lines form = terms_at form.terms (λ f. total (flat_map (λ l. rates_of task l f) lines))

pub value-moved : (task : TaskParts) (plan : Plan) (from t : ℚ) (s : State) (form : LinearForm) → value form (moved task plan from t s).fluents ≡ grown (value form s.fluents) (slope task (filter (runs_between from t) plan) form) from t
unfolding value moved rate
value-moved task plan from t s form = ap (λ x. form.constant +ℚ x) (terms-moved s.fluents (λ f. total (flat_map (λ l. rates_of task l f) (filter (runs_between from t) plan))) (t -ℚ from) form.terms)
    ∙ law ℚ_ring (form.constant ∷ terms_at form.terms s.fluents ∷ (slope task (filter (runs_between from t) plan) form *ℚ (t -ℚ from)) ∷ []) (λ c a b. c ⊕ (a ⊕ b) ≐ (c ⊕ a) ⊕ b) refl

-- ---- no step lies strictly between adjacent happenings

abbrev pub Outside : ℚ → ℚ → ℚ → Type 0
Outside from to x = (x ≤ℚ from) ⊎ (to ≤ℚ x)

first_outside : (u v : ℚ) (vs : List ℚ) → u <ℚ v → AllByRecursion (λ w. v <ℚ w) vs → AllByRecursion (Outside u v) (u ∷ v ∷ vs)
first_outside u v vs h a = (inl (eq_le u u refl), (inr (eq_le v v refl), all_map (λ w. v <ℚ w) (Outside u v) vs (λ w l. inr (lt_le v w l)) a))

pub below_later : (u : ℚ) (k : ℕ) (us : List ℚ) → AllByRecursion (λ v. u <ℚ v) us → k < length us → u <ℚ slice_index_or us k zeroℚ
below_later u k [] a h = absurd (omega arith)
below_later u zero (v ∷ vs) a h = a.0
below_later u (suc k) (v ∷ vs) a h = below_later u k vs a.1 (omega arith)

all_outside : (ts : List ℚ) (k : ℕ) → Ascends ts → suc k < length ts → AllByRecursion (Outside (slice_index_or ts k zeroℚ) (slice_index_or ts (suc k) zeroℚ)) ts
all_outside [] k a h = absurd (omega arith)
all_outside (u ∷ []) k a h = absurd (omega arith)
all_outside (u ∷ v ∷ vs) zero a h = first_outside u v vs a.0.0 a.1.0
all_outside (u ∷ v ∷ vs) (suc k) a h = (inl (lt_le u (slice_index_or (v ∷ vs) k zeroℚ) (below_later u k (v ∷ vs) a.0 (omega arith))), all_outside (v ∷ vs) k a.1 (omega arith))

in_place-all : (P : ℚ → Type 0) (t : ℚ) (us : List ℚ) → AllByRecursion P (in_place t us) → P t × AllByRecursion P us
in_place-all P t [] h = (h.0, tt)
in_place-all P t (u ∷ us) h = go (cmp_ℚ t u) (cmp_ranks t u) (in_place-all P t us) h
  where
    go : (o : Ordering) → MatchOrdering o (t <ℚ u) (t ≡ u) (u <ℚ t) → (AllByRecursion P (in_place t us) → P t × AllByRecursion P us) → AllByRecursion P (beside o t u us (in_place t us)) → P t × AllByRecursion P (u ∷ us)
    go Less m r h = (h.0, h.1)
    go Equal m r h = (subst P (sym m) h.0, h)
    go Greater m r h = ((r h.1).0, (h.0, (r h.1).1))

pub ascending-all : (P : ℚ → Type 0) (ts : List ℚ) → AllByRecursion P (ascending ts) → AllByRecursion P ts
ascending-all P [] h = tt
ascending-all P (t ∷ ts) h = ((in_place-all P t (ascending ts) h).0, ascending-all P ts (in_place-all P t (ascending ts) h).1)

steps_outside : (task : TaskParts) (plan : Plan) (k : ℕ) → suc k < count task plan → AllByRecursion (λ s. Outside (time_of task plan k) (time_of task plan (suc k)) s.time) (steps task plan)
unfolding happenings
steps_outside task plan k h = all_of_map (Outside (time_of task plan k) (time_of task plan (suc k))) (λ s. s.time) (steps task plan)
    (ascending-all (Outside (time_of task plan k) (time_of task plan (suc k))) (map (λ s. s.time) (steps task plan)) (all_outside (happenings task plan) k (happenings-Ascends task plan) h))

pub end_is_at : (l : PlanLine) → l.duration ≡ None → l.at ≡ end_of l
end_is_at l e = law ℚ_ring (l.at ∷ l.at ∷ []) (λ a b. (a) ≐ (a ⊕ num 0)) refl ∙ ap (λ d. l.at +ℚ unwrap_or d zeroℚ) (sym e)

-- the end of a line is the time of one of its steps
end_among : (P : ℚ → Type 0) (l : PlanLine) (e : Option ℕ) → (if is_some e then is_some l.duration else is_none l.duration) ≡ true → P l.at → AllByRecursion (λ s. P s.time) (end_step l e) → P (end_of l)
end_among P l None f p h = subst P (end_is_at l (none_out l.duration f)) p
  where
    none_out : (d : Option ℚ) → is_none d ≡ true → d ≡ None
    none_out None e = refl
    none_out (Some d) e = cc
end_among P l (Some s) f p h = h.0

pub ends_outside : (task : TaskParts) (plan : Plan) (P : ℚ → Type 0) → IsFormed task plan → AllByRecursion (λ s. P s.time) (steps task plan) → AllByRecursion (λ l. P (end_of l)) plan
ends_outside task plan P f h = all_both (λ l. is_formed task l ≡ true) (λ l. AllByRecursion (λ s. P s.time) (line_steps task l)) (λ l. P (end_of l)) plan
    (λ l f h. end_among P l (action_of task l.action).end (and_right _ _ f) h.0 h.1) (all_out (is_formed task) plan f) (all_of_flat_map (λ s. P s.time) (line_steps task) plan (each_left (λ s. P s.time) (flat_map (line_steps task) plan) (timed_steps task) h))

runs_same : (from to t : ℚ) (l : PlanLine) → from <ℚ t → t ≤ℚ to → Outside from to (end_of l) → runs_between from t l ≡ runs_between from to l
runs_same from to t l h k (inl e) = ap (λ b. (l.at ≤? from) && b) (ap not (lt_in (end_of l) t (le_lt_trans (end_of l) from t e h)) ∙ sym (ap not (lt_in (end_of l) to (le_lt_trans (end_of l) from to e (lt_le_trans from t to h k)))))
runs_same from to t l h k (inr e) = ap (λ b. (l.at ≤? from) && b) (le_in t (end_of l) (le_trans t to (end_of l) k e) ∙ sym (le_in to (end_of l) e))

running_same : (task : TaskParts) (plan : Plan) (from to t : ℚ) → from <ℚ t → t ≤ℚ to → AllByRecursion (λ l. Outside from to (end_of l)) plan → filter (runs_between from t) plan ≡ filter (runs_between from to) plan
running_same task plan from to t h k a = filter_same (runs_between from t) (runs_between from to) plan (all_map (λ l. Outside from to (end_of l)) (λ l. runs_between from t l ≡ runs_between from to l) plan (λ l o. runs_same from to t l h k o) a)

-- nothing happens strictly between
no_steps : (task : TaskParts) (plan : Plan) (from to t : ℚ) → from <ℚ t → t <ℚ to → AllByRecursion (λ s. Outside from to s.time) (steps task plan) → steps_at task plan t ≡ []
no_steps task plan from to t h k a = filter_none (λ s. s.time =? t) (steps task plan) (all_map (λ s. Outside from to s.time) (λ s. (s.time =? t) ≡ false) (steps task plan) (λ s o. apart s.time o (s.time =? t) refl) a)
  where
    apart : (x : ℚ) → Outside from to x → (b : Bool) → (x =? t) ≡ b → b ≡ false
    apart x o false e = refl
    apart x (inl o) true e = absurd (lt_le_absurd from x (subst (λ y. from <ℚ y) (sym (eq_out x t e)) h) o)
    apart x (inr o) true e = absurd (lt_le_absurd x to (subst (λ y. y <ℚ to) (sym (eq_out x t e)) k) o)

after-same : (task : TaskParts) (plan : Plan) (t : ℚ) → steps_at task plan t ≡ [] → after task plan t ≡ before task plan t
unfolding after happen
after-same task plan t e = ap (λ here. happen task here (before task plan t)) e

-- ---- conditions

abbrev pub Literals : Condition → State → Type 0
Literals c s = IsTrue (list_all (λ l. literal_holds l s.facts) c.literals)

abbrev pub Comparisons : Condition → (LinearForm → ℚ) → Type 0
Comparisons c at = AllByRecursion (λ form. zeroℚ ≤ℚ at form) c.comparisons

holds_out : (c : Condition) (s : State) → IsTrue (holds c s) → Literals c s × Comparisons c (λ form. value form s.fluents)
unfolding holds
holds_out c s h = (
  and_left (list_all (λ l. literal_holds l s.facts) c.literals) (list_all (λ form. comparison_holds form s.fluents) c.comparisons) h,
  all_map (λ form. comparison_holds form s.fluents ≡ true) (λ form. zeroℚ ≤ℚ value form s.fluents) c.comparisons (λ form e. le_out zeroℚ (value form s.fluents) e)
      (all_out (λ form. comparison_holds form s.fluents) c.comparisons (and_right (list_all (λ l. literal_holds l s.facts) c.literals) (list_all (λ form. comparison_holds form s.fluents) c.comparisons) h)),
)

holds_in : (c : Condition) (s : State) → Literals c s → Comparisons c (λ form. value form s.fluents) → IsTrue (holds c s)
unfolding holds
holds_in c s l k = and_in (list_all (λ l. literal_holds l s.facts) c.literals) (list_all (λ form. comparison_holds form s.fluents) c.comparisons) l
    (all_in (λ form. comparison_holds form s.fluents) c.comparisons (all_map (λ form. zeroℚ ≤ℚ value form s.fluents) (λ form. comparison_holds form s.fluents ≡ true) c.comparisons (λ form e. le_in zeroℚ (value form s.fluents) e) k))

-- a moved state: its facts are the same, and its forms have grown
moved_in : (task : TaskParts) (plan : Plan) (lines : List PlanLine) (from t : ℚ) (s : State) (c : Condition) → filter (runs_between from t) plan ≡ lines → Literals c s → Comparisons c (λ form. grown (value form s.fluents) (slope task lines form) from t) → IsTrue (holds c (moved task plan from t s))
unfolding moved
moved_in task plan lines from t s c e l k = holds_in c (moved task plan from t s) l
    (all_map (λ form. zeroℚ ≤ℚ grown (value form s.fluents) (slope task lines form) from t) (λ form. zeroℚ ≤ℚ value form (moved task plan from t s).fluents) c.comparisons
    (λ form h. subst (λ q. zeroℚ ≤ℚ q) (sym (value-moved task plan from t s form ∙ ap (λ ls. grown (value form s.fluents) (slope task ls form) from t) e)) h) k)

moved_out : (task : TaskParts) (plan : Plan) (lines : List PlanLine) (from t : ℚ) (s : State) (c : Condition) → filter (runs_between from t) plan ≡ lines → IsTrue (holds c (moved task plan from t s)) → Literals c s × Comparisons c (λ form. grown (value form s.fluents) (slope task lines form) from t)
unfolding moved
moved_out task plan lines from t s c e h = (
  (holds_out c (moved task plan from t s) h).0,
  all_map (λ form. zeroℚ ≤ℚ value form (moved task plan from t s).fluents) (λ form. zeroℚ ≤ℚ grown (value form s.fluents) (slope task lines form) from t) c.comparisons
      (λ form h. subst (λ q. zeroℚ ≤ℚ q) (value-moved task plan from t s form ∙ ap (λ ls. grown (value form s.fluents) (slope task ls form) from t) e) h) (holds_out c (moved task plan from t s) h).1,
)

-- ---- the segment

pub adjacent_ascend : (ts : List ℚ) (k : ℕ) → Ascends ts → suc k < length ts → slice_index_or ts k zeroℚ <ℚ slice_index_or ts (suc k) zeroℚ
adjacent_ascend [] k a h = absurd (omega arith)
adjacent_ascend (u ∷ us) zero a h = below_later u zero us a.0 (omega arith)
adjacent_ascend (u ∷ us) (suc k) a h = adjacent_ascend us k a.1 (omega arith)

held_between : (task : TaskParts) (plan : Plan) (from to t : ℚ) (s : State) (c : Condition) → filter (runs_between from t) plan ≡ filter (runs_between from to) plan → from ≤ℚ t → t ≤ℚ to
    → IsTrue (holds c s) → IsTrue (holds c (moved task plan from to s)) → IsTrue (holds c (moved task plan from t s))
held_between task plan from to t s c e h l p q = moved_in task plan lines from t s c e (holds_out c s p).0
    (all_both (λ form. zeroℚ ≤ℚ value form s.fluents) (λ form. zeroℚ ≤ℚ grown (value form s.fluents) (slope task lines form) from to) (λ form. zeroℚ ≤ℚ grown (value form s.fluents) (slope task lines form) from t) c.comparisons
    (λ form a b. between (value form s.fluents) (slope task lines form) from to t a b h l) (holds_out c s p).1 (moved_out task plan lines from to s c refl q).1)
  where
    lines : List PlanLine
    lines = filter (runs_between from to) plan

-- what holds of all states strictly between holds at both ends
held_ends : (task : TaskParts) (plan : Plan) (from to : ℚ) (s : State) (c : Condition) → from <ℚ to → ((t : ℚ) → from <ℚ t → t <ℚ to → filter (runs_between from t) plan ≡ filter (runs_between from to) plan)
    → ((t : ℚ) → from <ℚ t → t <ℚ to → IsTrue (holds c (moved task plan from t s))) → IsTrue (holds c s) × IsTrue (holds c (moved task plan from to s))
held_ends task plan from to s c u e f = (
  holds_in c s literals (all_map (λ form. HoldsInside (value form s.fluents) (slope task lines form) from to) (λ form. zeroℚ ≤ℚ value form s.fluents) c.comparisons (λ form g. at_from (value form s.fluents) (slope task lines form) from to u g) inside),
  moved_in task plan lines from to s c refl literals (all_map (λ form. HoldsInside (value form s.fluents) (slope task lines form) from to) (λ form. zeroℚ ≤ℚ grown (value form s.fluents) (slope task lines form) from to) c.comparisons (λ form g. at_to (value form s.fluents) (slope task lines form) from to u g) inside),
)
  where
    lines : List PlanLine
    lines = filter (runs_between from to) plan

    at : (t : ℚ) → from <ℚ t → t <ℚ to → Literals c s × Comparisons c (λ form. grown (value form s.fluents) (slope task (filter (runs_between from to) plan) form) from t)
    at t h l = moved_out task plan (filter (runs_between from to) plan) from t s c (e t h l) (f t h l)

    literals : Literals c s
    literals = (at (halfway from to) (below_halfway from to u) (halfway_below from to u)).0

    inside : AllByRecursion (λ form. HoldsInside (value form s.fluents) (slope task (filter (runs_between from to) plan) form) from to) c.comparisons
    inside = all_swap (λ t form. from <ℚ t → t <ℚ to → zeroℚ ≤ℚ grown (value form s.fluents) (slope task (filter (runs_between from to) plan) form) from t) c.comparisons
        (λ t. all_under (λ form. zeroℚ ≤ℚ grown (value form s.fluents) (slope task (filter (runs_between from to) plan) form) from t) (from <ℚ t) (t <ℚ to) c.comparisons (λ h l. (at t h l).1))

-- over a segment without happenings a condition holds at every instant exactly where it holds at both ends
pub segment : (task : TaskParts) (plan : Plan) (k : ℕ) (c : Condition) → suc k < count task plan → IsFormed task plan
    → HoldsWithin task plan c (time_of task plan k) (time_of task plan (suc k)) ↔ IsTrue (holds c (state_after task plan k)) × IsTrue (holds c (state_before task plan (suc k)))
unfolding reached
segment task plan k c n formed = (
  λ f. held_ends task plan from to s c ascend (λ t h l. same t h (lt_le t to l)) (λ t h l. subst (λ x. IsTrue (holds c x)) (at t h l) (f t h l).0),
  λ ends t h l. both t h l (subst (λ x. IsTrue (holds c x)) (sym (at t h l)) (held_between task plan from to t s c (same t h (lt_le t to l)) (lt_le from t h) (lt_le t to l) ends.0 ends.1)),
)
  where
    from : ℚ
    from = time_of task plan k

    to : ℚ
    to = time_of task plan (suc k)

    s : State
    s = state_after task plan k

    ascend : time_of task plan k <ℚ time_of task plan (suc k)
    ascend = adjacent_ascend (happenings task plan) k (happenings-Ascends task plan) n

    same : (t : ℚ) → time_of task plan k <ℚ t → t ≤ℚ time_of task plan (suc k) → filter (runs_between (time_of task plan k) t) plan ≡ filter (runs_between (time_of task plan k) (time_of task plan (suc k))) plan
    same t h l = running_same task plan (time_of task plan k) (time_of task plan (suc k)) t h l (ends_outside task plan (Outside (time_of task plan k) (time_of task plan (suc k))) formed (steps_outside task plan k n))

    at : (t : ℚ) → time_of task plan k <ℚ t → t <ℚ time_of task plan (suc k) → before task plan t ≡ moved task plan (time_of task plan k) t (state_after task plan k)
    at t h l = before-between task plan k t (omega arith) h (λ _. lt_le t (time_of task plan (suc k)) l)

    both : (t : ℚ) → time_of task plan k <ℚ t → t <ℚ time_of task plan (suc k) → IsTrue (holds c (before task plan t)) → IsTrue (holds c (before task plan t)) × IsTrue (holds c (after task plan t))
    both t h l p = (p, subst (λ x. IsTrue (holds c x)) (sym (after-same task plan t (no_steps task plan (time_of task plan k) (time_of task plan (suc k)) t h l (steps_outside task plan k n)))) p)

-- a line that runs between two times runs at every instant strictly between them
pub runs_between-at : (from to t : ℚ) (l : PlanLine) → runs_between from to l ≡ true → from <ℚ t → t <ℚ to → runs_at l t ≡ true
runs_between-at from to t l e h k = and_in (l.at <? t) (t <? end_of l)
    (lt_in l.at t (le_lt_trans l.at from t (le_out l.at from (and_left (l.at ≤? from) (to ≤? end_of l) e)) h))
    (lt_in t (end_of l) (lt_le_trans t to (end_of l) k (le_out to (end_of l) (and_right (l.at ≤? from) (to ≤? end_of l) e))))

-- and where no line ends strictly between them, one that runs at an instant strictly between runs between them, if it doesn't start there
pub runs_at-between : (from to t : ℚ) (l : PlanLine) → runs_at l t ≡ true → from <ℚ t → t <ℚ to → Outside from to l.at → Outside from to (end_of l) → runs_between from to l ≡ true
runs_at-between from to t l e h k (inr a) b = absurd (lt_le_absurd t to k (le_trans to l.at t a (lt_le l.at t (lt_out l.at t (and_left (l.at <? t) (t <? end_of l) e)))))
runs_at-between from to t l e h k (inl a) (inl b) = absurd (lt_le_absurd t from (lt_le_trans t (end_of l) from (lt_out t (end_of l) (and_right (l.at <? t) (t <? end_of l) e)) b) (lt_le from t h))
runs_at-between from to t l e h k (inl a) (inr b) = and_in (l.at ≤? from) (to ≤? end_of l) (le_in l.at from a) (le_in to (end_of l) b)
