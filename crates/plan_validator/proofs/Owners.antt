-- What is noted of all steps of a plan tells of its lines.
use Rattle.std.proofs.Common.{◌≡◌, refl, ap, ◌∙◌, ℕ, suc, ◌+◌, ◌<◌, Bool, true, List, [], ◌∷◌, length, map, inl, arith}
use Rattle.std.specs.Prelude.{◌↔◌, IsPermutation, slice_index_or}
use Rattle.std.specs.List.{AllByRecursion, flat_map, enumerate_from}
use Rattle.rational.specs.Rational.{ℚ}
use Rattle.basics.specs.Duties.{duty}
use Rattle.basics.proofs.Lists.{each_append, each_left, each_map}
use Rattle.task_types.specs.declared.parts.TaskParts.{TaskParts}
use Rattle.task_types.specs.declared.plans.PlanLine.{PlanLine}
use Rattle.task_types.specs.declared.plans.Reason.{Reason}
use Rattle.task_types.specs.Plan.{Plan, Step, line_steps}
use Rattle.timed_meaning.specs.declared.steps.OwnedStep.{OwnedStep}
use Rattle.timed_meaning.specs.Told.{timed_step}
use Rattle.timed_meaning.specs.Owned.{owned, owned_line, owned_moment, owned_steps}
use Rattle.plan_validator.specs.Firsts.{Place, Note}
use Rattle.plan_validator.proofs.Noting.{Precedes, Placed, AreAscending, duties_at}
use Rattle.plan_validator.proofs.Judgement.{Agree}
use Rattle.task_types.proofs.Everyone.{all_of_flat_map, all_of_map}
use Rattle.plan_validator.proofs.Choosing.{same-reordered, each-flat_in}

-- ---- the lines at their places

abbrev pub line_item : ℕ × PlanLine → Placed PlanLine
line_item e = record { place = (e.0, 0); item = e.1 }

abbrev pub line_items : ℕ → Plan → List (Placed PlanLine)
line_items n plan = map line_item (enumerate_from n plan)

later-items : (p n : ℕ) → p < n → (plan : Plan) → AllByRecursion (λ d. Precedes (p, 0) d.place) (line_items n plan)
later-items p n h [] = tt
later-items p n h (l ∷ ls) = (inl h, later-items p (n + 1) (omega (arith, h)) ls)

pub lines-ascend : (n : ℕ) (plan : Plan) → AreAscending (line_items n plan)
lines-ascend n [] = tt
lines-ascend n (l ∷ ls) = (later-items n (n + 1) (omega arith) ls, lines-ascend (n + 1) ls)

pub duties-lines : (reason : PlanLine → Reason) (test : PlanLine → Bool) (n : ℕ) (plan : Plan) → duties_at reason test (line_items n plan) ≡ map (λ l. duty (reason l) (test l)) plan
duties-lines reason test n [] = refl
duties-lines reason test n (l ∷ ls) = ap (λ ds. duty (reason l) (test l) ∷ ds) (duties-lines reason test (n + 1) ls)

-- the line at a place has the place's reason
pub lines-named : {F : Type 0} (reason : PlanLine → F) (d : PlanLine) (n : ℕ) (plan all : Plan) → ((i : ℕ) → i < length plan → slice_index_or plan i d ≡ slice_index_or all (n + i) d) → (m : Place)
    → AllByRecursion (λ e. e.place ≡ m → reason e.item ≡ reason (slice_index_or all m.0 d)) (line_items n plan)
lines-named reason d n [] all h m = tt
lines-named reason d n (l ∷ ls) all h m = (
  λ q. ap reason (h 0 (omega arith) ∙ ap (λ i. slice_index_or all i d) (let z : n + 0 ≡ n = omega arith in z ∙ ap (λ (p : Place). p.0) q)),
  lines-named reason d (n + 1) ls all (λ i k. h (suc i) (omega (arith, k)) ∙ ap (λ j. slice_index_or all j d) (let z : n + suc i ≡ n + 1 + i = omega arith in z)) m,
)

-- ---- notes of steps

module _ (task : TaskParts) (plan : Plan) (step_test : Step → Bool) (line_test : PlanLine → Bool) where
  abbrev pub note_of : OwnedStep → Note
  note_of o = ((o.owner, 0), step_test o.step)

  module _ (lines_known : PlanLine → Type 0) (known : AllByRecursion lines_known plan)
      (by_steps : (l : PlanLine) → lines_known l → (A : Type 0) → AllByRecursion (λ s. A → step_test s ≡ true) (line_steps task l) ↔ (A → line_test l ≡ true))
      (timed : AllByRecursion (λ t. step_test (timed_step t) ≡ true) task.timed) where
    module _ (Q : Place → Type 0) where
      abbrev Chosen : OwnedStep → Type 0
      Chosen o = Q (o.owner, 0) → step_test o.step ≡ true

      abbrev Passed : Placed PlanLine → Type 0
      Passed e = Q e.place → line_test e.item ≡ true

      lines_out : (n : ℕ) (ls : Plan) → AllByRecursion lines_known ls → AllByRecursion Chosen (flat_map (owned_line task) (enumerate_from n ls)) → AllByRecursion Passed (line_items n ls)
      lines_out n [] k h = tt
      lines_out n (l ∷ ls) k h = go (all_of_flat_map Chosen (owned_line task) (enumerate_from n (l ∷ ls)) h) (lines_out (n + 1) ls k.1)
        where
          go : AllByRecursion (λ e. AllByRecursion Chosen (owned_line task e)) (enumerate_from n (l ∷ ls)) → (AllByRecursion Chosen (flat_map (owned_line task) (enumerate_from (n + 1) ls)) → AllByRecursion Passed (line_items (n + 1) ls)) → AllByRecursion Passed (line_items n (l ∷ ls))
          go a f = ((by_steps l k.0 (Q (n, 0))).0 (all_of_map Chosen (owned n) (line_steps task l) a.0), f (each-flat_in Chosen (owned_line task) (enumerate_from (n + 1) ls) a.1))

      lines_in : (n : ℕ) (ls : Plan) → AllByRecursion lines_known ls → AllByRecursion Passed (line_items n ls) → AllByRecursion Chosen (flat_map (owned_line task) (enumerate_from n ls))
      lines_in n [] k h = tt
      lines_in n (l ∷ ls) k h = each_append Chosen (owned_line task (n, l)) (flat_map (owned_line task) (enumerate_from (n + 1) ls))
          (each_map Chosen (owned n) (line_steps task l) ((by_steps l k.0 (Q (n, 0))).1 h.0)) (lines_in (n + 1) ls k.1 h.1)

      timed_in : (m n : ℕ) (ts : List (ℚ × ℕ)) → AllByRecursion (λ t. step_test (timed_step t) ≡ true) ts → AllByRecursion Chosen (map (owned_moment m) (enumerate_from n ts))
      timed_in m n [] h = tt
      timed_in m n (t ∷ ts) h = ((λ q. h.0), timed_in m (n + 1) ts h.1)

      steps-lines : AllByRecursion Chosen (owned_steps task plan) ↔ AllByRecursion Passed (line_items 0 plan)
      steps-lines = (
        λ h. lines_out 0 plan known (each_left Chosen (flat_map (owned_line task) (enumerate_from 0 plan)) (map (owned_moment (length plan)) (enumerate_from 0 task.timed)) h),
        λ h. each_append Chosen (flat_map (owned_line task) (enumerate_from 0 plan)) (map (owned_moment (length plan)) (enumerate_from 0 task.timed)) (lines_in 0 plan known h) (timed_in (length plan) 0 task.timed timed),
      )

    pub steps-agree : (sorted : List OwnedStep) → IsPermutation (owned_steps task plan) sorted → Agree line_test (line_items 0 plan) (map note_of sorted)
    steps-agree sorted p = λ Q. (
      λ h. (steps-lines Q).0 ((same-reordered (Chosen Q) (owned_steps task plan) sorted p).1 (all_of_map (λ n. Q n.0 → n.1 ≡ true) note_of sorted h)),
      λ h. each_map (λ n. Q n.0 → n.1 ≡ true) note_of sorted ((same-reordered (Chosen Q) (owned_steps task plan) sorted p).0 ((steps-lines Q).1 h)),
    )
