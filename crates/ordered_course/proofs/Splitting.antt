-- A list in another order, those that pass a test last; and the plan steps and the timed steps of a list.
use Rattle.std.proofs.Common.{◌≡◌, refl, ap, ℕ, ◌+◌, Bool, true, false, cond, not, List, [], ◌∷◌, ◌++◌, Option, Some, None}
use Rattle.std.specs.Prelude.{IsPermutation}
use Rattle.std.specs.List.{filter}
use Rattle.std.proofs.lemmas.List.Sorted.{IsPermutation-refl, IsPermutation-trans, IsPermutation-cons, IsPermutation-append_comm, IsPermutation-append_left}
use Rattle.rational.specs.Rational.{ℚ, zeroℚ}
use Rattle.task_types.specs.declared.actions.SnapKind.{SnapKind}
use Rattle.task_types.specs.declared.actions.SnapKind.TheVariants.{Start, End, Instant, Timed}
use Rattle.task_types.specs.declared.parts.TaskParts.{TaskParts}
use Rattle.task_types.specs.declared.plans.PlanLine.{PlanLine}
use Rattle.task_types.specs.Plan.{Step, snap_of, end_step}
use Rattle.task_types.specs.Touch.{is_timed}
use Rattle.ordered_course.specs.Lines.{duration_listed, started_on, steps_listed}
use Rattle.ordered_course.proofs.Listed.{listed, plan_listed}
use Rattle.ordered_course.proofs.Closing.{HaveActions}
use Rattle.task_types.proofs.StepCounts.{unnumbered_steps}

-- those that fail a test, then those that pass it
pub split : (p : Step → Bool) (xs : List Step) → IsPermutation (filter (λ x. not (p x)) xs ++ filter p xs) xs
split p [] = IsPermutation-refl []
split p (x ∷ xs) = go (p x) (split p xs)
  where
    go : (b : Bool) → IsPermutation (filter (λ x. not (p x)) xs ++ filter p xs) xs → IsPermutation (cond (not b) (x ∷ filter (λ x. not (p x)) xs) (filter (λ x. not (p x)) xs) ++ cond b (x ∷ filter p xs) (filter p xs)) (x ∷ xs)
    go false r = IsPermutation-cons x (filter (λ x. not (p x)) xs ++ filter p xs) xs r
    go true r = IsPermutation-trans (filter (λ x. not (p x)) xs ++ x ∷ filter p xs) (x ∷ filter (λ x. not (p x)) xs ++ filter p xs) (x ∷ xs) (back x (filter (λ x. not (p x)) xs) (filter p xs)) (IsPermutation-cons x (filter (λ x. not (p x)) xs ++ filter p xs) xs r)
      where
        back : (x : Step) (xs ys : List Step) → IsPermutation (xs ++ x ∷ ys) (x ∷ xs ++ ys)
        back x [] ys = IsPermutation-refl (x ∷ ys)
        back x (y ∷ xs) ys = IsPermutation-trans (y ∷ xs ++ x ∷ ys) (y ∷ x ∷ xs ++ ys) (x ∷ y ∷ xs ++ ys) (IsPermutation-cons y (xs ++ x ∷ ys) (x ∷ xs ++ ys) (back x xs ys)) (IsPermutation-append_left (xs ++ ys) (y ∷ x ∷ []) (x ∷ y ∷ []) (IsPermutation-append_comm (y ∷ []) (x ∷ [])))

-- ---- numbers of lines

end_step-unnumbered : (l : PlanLine) (n : ℕ) (o : Option ℕ) → end_step (record l { line = n }) o ≡ end_step l o
end_step-unnumbered l n None = refl
end_step-unnumbered l n (Some s) = refl

-- ---- plan steps

abbrev pub of_moment : TaskParts → Step → Bool
of_moment task s = is_timed (snap_of task s.snap).kind

no_action : (k : SnapKind) (o : Option ℕ) → (o ≡ None → k ≡ Timed) → o ≡ None → is_timed k ≡ true
no_action k o f e = ap is_timed (f e)

-- The plan steps of a list are those that aren't timed.
pub plan_listed-is : (task : TaskParts) → HaveActions task → (ps : List (ℕ × ℚ)) (started : ℕ → ℚ) → plan_listed task started ps ≡ filter (λ s. not (of_moment task s)) (steps_listed task started ps)
plan_listed-is task have [] started = refl
plan_listed-is task have (p ∷ ps) started = go (snap_of task p.0).kind (snap_of task p.0).action (have p.0) (plan_listed-is task have ps (started_on (snap_of task p.0).kind (snap_of task p.0).action p.1 started))
  where
    rest : List Step
    rest = steps_listed task (started_on (snap_of task p.0).kind (snap_of task p.0).action p.1 started) ps

    go : (k : SnapKind) (o : Option ℕ) → (o ≡ None → k ≡ Timed) → plan_listed task (started_on (snap_of task p.0).kind (snap_of task p.0).action p.1 started) ps ≡ filter (λ s. not (of_moment task s)) rest
        → listed task k o started p.0 p.1 ps ++ plan_listed task (started_on (snap_of task p.0).kind (snap_of task p.0).action p.1 started) ps
        ≡ cond (not (is_timed k)) (record { time = p.1; snap = p.0; duration = duration_listed task k o started p.1 ps } ∷ filter (λ s. not (of_moment task s)) rest) (filter (λ s. not (of_moment task s)) rest)
    go Start (Some a) f e = ap (λ xs. record { time = p.1; snap = p.0; duration = duration_listed task Start (Some a) started p.1 ps } ∷ xs) e
    go End (Some a) f e = ap (λ xs. record { time = p.1; snap = p.0; duration = duration_listed task End (Some a) started p.1 ps } ∷ xs) e
    go Instant (Some a) f e = ap (λ xs. record { time = p.1; snap = p.0; duration = zeroℚ } ∷ xs) e
    go Timed (Some a) f e = e
    go Timed None f e = e
    go Start None f e = let c : false ≡ true = no_action Start None f refl in cc
    go End None f e = let c : false ≡ true = no_action End None f refl in cc
    go Instant None f e = let c : false ≡ true = no_action Instant None f refl in cc
