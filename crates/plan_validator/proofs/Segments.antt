-- What is noted of the running lines at both ends of each segment tells of the over-all duties.
use Rattle.std.proofs.Common.{◌≡◌, refl, ap, ◌∙◌, ℕ, suc, ◌+◌, ◌-◌, ◌<◌, Bool, true, false, ◌&&◌, List, [], ◌∷◌, ◌++◌, length, map, inl, arith}
use Rattle.std.specs.Prelude.{◌↔◌, IsPermutation, slice_index_or}
use Rattle.std.specs.List.{AllByRecursion, enumerate_from}
use Rattle.std.proofs.lemmas.List.{map-append}
use Rattle.basics.specs.Duties.{duty}
use Rattle.basics.proofs.Bools.{and_left, and_right, and_in}
use Rattle.basics.proofs.Lists.{each_append, each_left, each_right, each_map}
use Rattle.task_types.specs.declared.parts.TaskParts.{TaskParts}
use Rattle.task_types.specs.declared.plans.PlanLine.{PlanLine}
use Rattle.task_types.specs.declared.plans.Reason.{Reason}
use Rattle.task_types.specs.Tests.{◌⇒◌}
use Rattle.task_types.specs.Sets.{numbers}
use Rattle.task_types.specs.State.{holds}
use Rattle.task_types.specs.Plan.{Plan}
use Rattle.task_types.specs.Course.{time_of, count, state_after, state_before, runs_between}
use Rattle.timed_meaning.specs.declared.placing.PlacedLine.{PlacedLine}
use Rattle.timed_meaning.specs.Owned.{placed, placed_lines}
use Rattle.plan_validator.specs.Firsts.{Place, Note}
use Rattle.plan_validator.specs.Ends.{segment_test, over_all_reason, over_all_tests, all_over_all_tests}
use Rattle.plan_validator.specs.Segments.{over_all_of, over_all_note, running_over, segment_notes, over_all_notes}
use Rattle.plan_validator.proofs.Noting.{Precedes, Placed, AreAscending, duties_at}
use Rattle.plan_validator.proofs.Judgement.{Agree}
use Rattle.plan_validator.proofs.Ascending.{ascending-append, numbered-above, numbered-ascend}
use Rattle.task_types.proofs.Everyone.{all_both, all_map, all_of_flat_map, all_of_map}
use Rattle.plan_validator.proofs.Choosing.{same-reordered, each-flat_in, each-crossed, each-filter_in, each-filter_out}

-- ---- the segments of the lines at their places

-- a line over a segment
pub record Span : Type 0 where
  pub line : PlanLine
  pub segment : ℕ

abbrev pub span_item : ℕ → PlanLine → ℕ → Placed Span
span_item n l k = record { place = (n, k); item = record { line = l; segment = k } }

abbrev pub span_items : ℕ → ℕ → Plan → List (Placed Span)
span_items s n [] = []
span_items s n (l ∷ ls) = map (span_item n l) (numbers s) ++ span_items s (n + 1) ls

later-spans : (s : ℕ) (p : Place) (n : ℕ) → p.0 < n → (plan : Plan) → AllByRecursion (λ d. Precedes p d.place) (span_items s n plan)
later-spans s p n h [] = tt
later-spans s p n h (l ∷ ls) = each_append (λ d. Precedes p d.place) (map (span_item n l) (numbers s)) (span_items s (n + 1) ls)
    (numbered-above (span_item n l) n (λ k. refl) p 0 s (λ k q. inl h)) (later-spans s p (n + 1) (omega (arith, h)) ls)

each-of : {X : Type 0} (P : Placed X → Type 0) (f : ℕ → Placed X) → ((k : ℕ) → P (f k)) → (ks : List ℕ) → AllByRecursion P (map f ks)
each-of P f h [] = tt
each-of P f h (k ∷ ks) = (h k, each-of P f h ks)

pub spans-ascend : (s n : ℕ) (plan : Plan) → AreAscending (span_items s n plan)
spans-ascend s n [] = tt
spans-ascend s n (l ∷ ls) = ascending-append (map (span_item n l) (numbers s)) (span_items s (n + 1) ls) (numbered-ascend (span_item n l) n (λ k. refl) 0 s) (spans-ascend s (n + 1) ls)
    (each-of (λ x. AllByRecursion (λ y. Precedes x.place y.place) (span_items s (n + 1) ls)) (span_item n l) (λ k. later-spans s (n, k) (n + 1) (omega arith) ls) (numbers s))

module _ (task : TaskParts) (plan : Plan) where
  abbrev pub span_reason : Span → Reason
  span_reason x = over_all_reason task plan x.line x.segment

  abbrev pub span_test : Span → Bool
  span_test x = segment_test task plan x.line x.segment

  duties-of : (n : ℕ) (l : PlanLine) (ks : List ℕ) → duties_at span_reason span_test (map (span_item n l) ks) ≡ map (λ k. duty (over_all_reason task plan l k) (segment_test task plan l k)) ks
  duties-of n l [] = refl
  duties-of n l (k ∷ ks) = ap (λ ds. duty (over_all_reason task plan l k) (segment_test task plan l k) ∷ ds) (duties-of n l ks)

  pub duties-spans : (n : ℕ) (ls : Plan) → duties_at span_reason span_test (span_items (count task plan - 1) n ls) ≡ all_over_all_tests task plan ls
  duties-spans n [] = refl
  duties-spans n (l ∷ ls) = map-append (λ e. duty (span_reason e.item) (span_test e.item)) (map (span_item n l) (numbers (count task plan - 1))) (span_items (count task plan - 1) (n + 1) ls)
      ∙ ap (λ ds. ds ++ duties_at span_reason span_test (span_items (count task plan - 1) (n + 1) ls)) (duties-of n l (numbers (count task plan - 1))) ∙ ap (λ ds. over_all_tests task plan l ++ ds) (duties-spans (n + 1) ls)

  pub spans-named : (d : PlanLine) (s n : ℕ) (ls all : Plan) → ((i : ℕ) → i < length ls → slice_index_or ls i d ≡ slice_index_or all (n + i) d) → (m : Place)
      → AllByRecursion (λ e. e.place ≡ m → span_reason e.item ≡ over_all_reason task plan (slice_index_or all m.0 d) m.1) (span_items s n ls)
  spans-named d s n [] all h m = tt
  spans-named d s n (l ∷ ls) all h m = each_append (λ e. e.place ≡ m → span_reason e.item ≡ over_all_reason task plan (slice_index_or all m.0 d) m.1) (map (span_item n l) (numbers s)) (span_items s (n + 1) ls)
      (each-of (λ e. e.place ≡ m → span_reason e.item ≡ over_all_reason task plan (slice_index_or all m.0 d) m.1) (span_item n l)
      (λ k q. ap (λ x. over_all_reason task plan x k) (h 0 (omega arith) ∙ ap (λ i. slice_index_or all i d) (let z : n + 0 ≡ n = omega arith in z ∙ ap (λ (p : Place). p.0) q)) ∙ ap (over_all_reason task plan (slice_index_or all m.0 d)) (ap (λ (p : Place). p.1) q)) (numbers s))
      (spans-named d s (n + 1) ls all (λ i k. h (suc i) (omega (arith, k)) ∙ ap (λ j. slice_index_or all j d) (let z : n + suc i ≡ n + 1 + i = omega arith in z)) m)

  -- ---- the notes agree

  module _ (lines : List PlacedLine) (listed : IsPermutation (placed_lines plan) lines) (Q : Place → Type 0) where
    abbrev Met : Note → Type 0
    Met n = Q n.0 → n.1 ≡ true

    abbrev Passed : PlacedLine → ℕ → Type 0
    Passed p k = Q (p.place, k) → segment_test task plan p.line k ≡ true

    abbrev runs : ℕ → PlacedLine → Bool
    runs k p = runs_between (time_of task plan k) (time_of task plan (suc k)) p.line

    implied : (r a b : Bool) → (r ≡ true → a ≡ true) → (r ≡ true → b ≡ true) → (r ⇒ (a && b)) ≡ true
    implied true a b f g = and_in a b (f refl) (g refl)
    implied false a b f g = refl

    given : (r a b : Bool) → (r ⇒ (a && b)) ≡ true → r ≡ true → (a && b) ≡ true
    given true a b h e = h
    given false a b h e = cc

    segment_out : (k : ℕ) → AllByRecursion Met (segment_notes task plan lines k) → AllByRecursion (λ p. Passed p k) lines
    segment_out k h = all_both (λ p. runs k p ≡ true → Q (p.place, k) → holds (over_all_of task p) (state_after task plan k) ≡ true) (λ p. runs k p ≡ true → Q (p.place, k) → holds (over_all_of task p) (state_before task plan (suc k)) ≡ true) (λ p. Passed p k) lines
        (λ p f g q. implied (runs k p) (holds (over_all_of task p) (state_after task plan k)) (holds (over_all_of task p) (state_before task plan (suc k))) (λ r. f r q) (λ r. g r q))
        (each-filter_out (λ p. Q (p.place, k) → holds (over_all_of task p) (state_after task plan k) ≡ true) (runs k) lines (all_of_map Met (over_all_note task k (state_after task plan k)) (running_over task plan lines k)
        (each_left Met (map (over_all_note task k (state_after task plan k)) (running_over task plan lines k)) (map (over_all_note task k (state_before task plan (suc k))) (running_over task plan lines k)) h)))
        (each-filter_out (λ p. Q (p.place, k) → holds (over_all_of task p) (state_before task plan (suc k)) ≡ true) (runs k) lines (all_of_map Met (over_all_note task k (state_before task plan (suc k))) (running_over task plan lines k)
        (each_right Met (map (over_all_note task k (state_after task plan k)) (running_over task plan lines k)) (map (over_all_note task k (state_before task plan (suc k))) (running_over task plan lines k)) h)))

    segment_in : (k : ℕ) → AllByRecursion (λ p. Passed p k) lines → AllByRecursion Met (segment_notes task plan lines k)
    segment_in k h = each_append Met (map (over_all_note task k (state_after task plan k)) (running_over task plan lines k)) (map (over_all_note task k (state_before task plan (suc k))) (running_over task plan lines k))
        (each_map Met (over_all_note task k (state_after task plan k)) (running_over task plan lines k) (each-filter_in (λ p. Q (p.place, k) → holds (over_all_of task p) (state_after task plan k) ≡ true) (runs k) lines
        (all_map (λ p. Passed p k) (λ p. runs k p ≡ true → Q (p.place, k) → holds (over_all_of task p) (state_after task plan k) ≡ true) lines
        (λ p f r q. and_left _ _ (given (runs k p) (holds (over_all_of task p) (state_after task plan k)) (holds (over_all_of task p) (state_before task plan (suc k))) (f q) r)) h)))
        (each_map Met (over_all_note task k (state_before task plan (suc k))) (running_over task plan lines k) (each-filter_in (λ p. Q (p.place, k) → holds (over_all_of task p) (state_before task plan (suc k)) ≡ true) (runs k) lines
        (all_map (λ p. Passed p k) (λ p. runs k p ≡ true → Q (p.place, k) → holds (over_all_of task p) (state_before task plan (suc k)) ≡ true) lines
        (λ p f r q. and_right _ _ (given (runs k p) (holds (over_all_of task p) (state_after task plan k)) (holds (over_all_of task p) (state_before task plan (suc k))) (f q) r)) h)))

    -- the lines at their places, in the order of the plan
    spans_out : (s n : ℕ) (ls : Plan) → AllByRecursion (λ p. AllByRecursion (Passed p) (numbers s)) (map placed (enumerate_from n ls)) → AllByRecursion (λ e. Q e.place → span_test e.item ≡ true) (span_items s n ls)
    spans_out s n [] h = tt
    spans_out s n (l ∷ ls) h = each_append (λ e. Q e.place → span_test e.item ≡ true) (map (span_item n l) (numbers s)) (span_items s (n + 1) ls) (each_map (λ e. Q e.place → span_test e.item ≡ true) (span_item n l) (numbers s) h.0) (spans_out s (n + 1) ls h.1)

    spans_in : (s n : ℕ) (ls : Plan) → AllByRecursion (λ e. Q e.place → span_test e.item ≡ true) (span_items s n ls) → AllByRecursion (λ p. AllByRecursion (Passed p) (numbers s)) (map placed (enumerate_from n ls))
    spans_in s n [] h = tt
    spans_in s n (l ∷ ls) h = (
      all_of_map (λ e. Q e.place → span_test e.item ≡ true) (span_item n l) (numbers s) (each_left (λ e. Q e.place → span_test e.item ≡ true) (map (span_item n l) (numbers s)) (span_items s (n + 1) ls) h),
      spans_in s (n + 1) ls (each_right (λ e. Q e.place → span_test e.item ≡ true) (map (span_item n l) (numbers s)) (span_items s (n + 1) ls) h),
    )

    pub notes-spans : (s : ℕ) → AllByRecursion Met (over_all_notes task plan lines s) ↔ AllByRecursion (λ e. Q e.place → span_test e.item ≡ true) (span_items s 0 plan)
    notes-spans s = (
      λ h. spans_out s 0 plan (each-crossed (λ k p. Passed p k) (numbers s) (placed_lines plan) (all_map (λ k. AllByRecursion Met (segment_notes task plan lines k)) (λ k. AllByRecursion (λ p. Passed p k) (placed_lines plan)) (numbers s)
          (λ k m. (same-reordered (λ p. Passed p k) (placed_lines plan) lines listed).1 (segment_out k m)) (all_of_flat_map Met (segment_notes task plan lines) (numbers s) h))),
      λ h. each-flat_in Met (segment_notes task plan lines) (numbers s) (all_map (λ k. AllByRecursion (λ p. Passed p k) (placed_lines plan)) (λ k. AllByRecursion Met (segment_notes task plan lines k)) (numbers s)
          (λ k m. segment_in k ((same-reordered (λ p. Passed p k) (placed_lines plan) lines listed).0 m)) (each-crossed Passed (placed_lines plan) (numbers s) (spans_in s 0 plan h))),
    )

  pub spans-agree : (lines : List PlacedLine) → IsPermutation (placed_lines plan) lines → (s : ℕ) → Agree span_test (span_items s 0 plan) (over_all_notes task plan lines s)
  spans-agree lines listed s = λ Q. notes-spans lines listed Q s
