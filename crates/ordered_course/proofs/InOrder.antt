-- The steps of a list at times whose links hold are in order, by what ties them.
use Rattle.std.proofs.Common.{◌≡◌, refl, sym, subst, ◌∙◌, ℕ, Bool, true, false, List, [], ◌∷◌, ◌++◌, length, arith, append_assoc}
use Rattle.std.specs.List.{list_all, zip, AllByRecursion}
use Rattle.rational.specs.Rational.{ℚ, zeroℚ, ◌<ℚ◌}
use Rattle.basics.proofs.Bools.{and_left, and_right}
use Rattle.task_types.specs.declared.parts.Rules.{Rules}
use Rattle.task_types.specs.declared.parts.TaskParts.{TaskParts}
use Rattle.task_types.specs.Plan.{Step, snap_of}
use Rattle.task_types.specs.Touch.{is_timed}
use Rattle.task_types.specs.Order.{link}
use Rattle.task_types.specs.Agreement.{link_holds, are_linked, is_placed}
use Rattle.task_types.specs.WellMade.{are_timed, moments_ascend}
use Rattle.task_types.proofs.Everyone.{all_both}
use Rattle.ordering.specs.Along.{Follows, AreInOrder}
use Rattle.ordered_course.specs.Lines.{duration_listed, started_on, steps_listed}
use Rattle.ordered_course.proofs.Linked.{follows, timed_follows}
use Rattle.ordered_course.proofs.Splitting.{of_moment}
use Rattle.ordered_course.proofs.TimedSteps.{Follow, timed_later}

-- what holds of each pair of a list holds of its steps
pub all_listed : (task : TaskParts) (P : ℕ → ℚ → Bool) (ps : List (ℕ × ℚ)) (started : ℕ → ℚ) → list_all (λ p. P p.0 p.1) ps ≡ true → AllByRecursion (λ y. P y.snap y.time ≡ true) (steps_listed task started ps)
all_listed task P [] started h = tt
all_listed task P (p ∷ ps) started h = (and_left (P p.0 p.1) (list_all (λ p. P p.0 p.1) ps) h, all_listed task P ps (started_on (snap_of task p.0).kind (snap_of task p.0).action p.1 started) (and_right (P p.0 p.1) (list_all (λ p. P p.0 p.1) ps) h))

module _ (task : TaskParts) (rules : Rules) (positive : zeroℚ <ℚ rules.epsilon) (n : ℕ) (numbered : are_timed task n task.timed ≡ true) (ascend : moments_ascend zeroℚ task.timed ≡ true) where
  one_follows : (x y : Step) → link_holds rules (link task (snap_of task x.snap) (snap_of task y.snap)) x.time y.time ≡ true → (is_timed (snap_of task x.snap).kind ≡ true → is_timed (snap_of task y.snap).kind ≡ true → x.time <ℚ y.time) → Follows task x y
  one_follows x y h l = go (is_timed (snap_of task x.snap).kind) (is_timed (snap_of task y.snap).kind) refl refl
    where
      go : (b c : Bool) → is_timed (snap_of task x.snap).kind ≡ b → is_timed (snap_of task y.snap).kind ≡ c → Follows task x y
      go true true e f = timed_follows task x y (l e f)
      go true false e f = follows task rules x y positive (rw (e, f) refl) h
      go false c e f = follows task rules x y positive (rw e refl) h

  pub in_order : (pre suf : List ℕ) (ts : List ℚ) (started : ℕ → ℚ) → length ts ≡ length suf → Follow task (pre ++ suf) → list_all (λ p. is_placed task rules p.0 p.1) (zip suf ts) ≡ true → are_linked task rules (zip suf ts) ≡ true
      → AreInOrder task (steps_listed task started (zip suf ts))
  in_order pre [] ts started l f p k = tt
  in_order pre (s ∷ suf) [] started l f p k = absurd (omega (arith, l))
  in_order pre (s ∷ suf) (t ∷ ts) started l f p k = (
    all_both (λ y. link_holds rules (link task (snap_of task s) (snap_of task y.snap)) t y.time ≡ true) (λ y. is_timed (snap_of task s).kind ≡ true → of_moment task y ≡ true → t <ℚ y.time) (Follows task here) rest
        (λ y a b. one_follows here y a b)
        (all_listed task (λ n u. link_holds rules (link task (snap_of task s) (snap_of task n)) t u) (zip suf ts) now (and_left _ _ k))
        (under (is_timed (snap_of task s).kind) (λ e. timed_later task rules n numbered ascend pre suf s t ts now e (omega (arith, l)) f (and_left _ _ p) (and_right _ _ p))),
    in_order (pre ++ s ∷ []) suf ts now (omega (arith, l)) (subst (Follow task) (sym (append_assoc pre (s ∷ []) suf)) f) (and_right _ _ p) (and_right _ _ k),
  )
    where
      now : ℕ → ℚ
      now = started_on (snap_of task s).kind (snap_of task s).action t started

      here : Step
      here = record { time = t; snap = s; duration = duration_listed task (snap_of task s).kind (snap_of task s).action started t (zip suf ts) }

      rest : List Step
      rest = steps_listed task now (zip suf ts)

      none_of : (ys : List Step) (b : Bool) → b ≡ false → AllByRecursion (λ y. b ≡ true → of_moment task y ≡ true → t <ℚ y.time) ys
      none_of [] b e = tt
      none_of (y ∷ ys) b e = (λ c. absurd (clash (sym c ∙ e)), none_of ys b e)
        where
          clash : true ≡ false → ⊥
          clash c = cc

      put_under : (ys : List Step) (b : Bool) → AllByRecursion (λ y. of_moment task y ≡ true → t <ℚ y.time) ys → AllByRecursion (λ y. b ≡ true → of_moment task y ≡ true → t <ℚ y.time) ys
      put_under [] b a = tt
      put_under (y ∷ ys) b a = (λ c. a.0, put_under ys b a.1)

      under : (b : Bool) → (b ≡ true → AllByRecursion (λ y. of_moment task y ≡ true → t <ℚ y.time) rest) → AllByRecursion (λ y. b ≡ true → of_moment task y ≡ true → t <ℚ y.time) rest
      under true g = put_under rest true (g refl)
      under false g = none_of rest false refl
