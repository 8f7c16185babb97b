-- Links that hold set steps in order, and two timed steps are in order by their moments.
use Rattle.std.proofs.Common.{◌≡◌, refl, sym, ap, subst, ◌∙◌, Bool, true, false, ◌&&◌, [], ◌∷◌}
use Rattle.std.specs.Prelude.{if◌then◌else◌}
use Rattle.rational.specs.Rational.{ℚ, zeroℚ, ◌+ℚ◌, ◌<ℚ◌}
use Rattle.rational.proofs.Order.{ℚ_ordered, lt_le}
use Rattle.rational.proofs.Ring.{◌⊕◌, num, ◌≼◌, ◌≺◌}
use Rattle.rational.proofs.Solve.{linear, ◌⊢◌}
use Rattle.task_types.specs.declared.actions.Snap.{Snap}
use Rattle.task_types.specs.declared.orderings.Link.TheVariants.{Free, Weak, Apart}
use Rattle.task_types.specs.declared.parts.Rules.{Rules}
use Rattle.task_types.specs.declared.parts.TaskParts.{TaskParts}
use Rattle.task_types.specs.Plan.{Step, snap_of}
use Rattle.task_types.specs.Touch.{is_timed}
use Rattle.task_types.specs.Order.{link}
use Rattle.task_types.specs.Agreement.{link_holds}
use Rattle.task_types.proofs.Comparisons.{le_out}
use Rattle.ordering.specs.Along.{tied_apart, tied_in_order, Follows}

link_is : (task : TaskParts) (x y : Snap) → link task x y ≡ (if is_timed x.kind && is_timed y.kind then Free else (if tied_apart task x y then Apart else (if tied_in_order task x y then Weak else Free)))
unfolding link
link_is task x y = refl

later_by : (rules : Rules) (t u : ℚ) → zeroℚ <ℚ rules.epsilon → link_holds rules Apart t u ≡ true → t <ℚ u
later_by rules t u e h = linear ℚ_ordered (t ∷ u ∷ rules.epsilon ∷ []) (λ t u e. (num 0 ≺ e ∷ (t ⊕ e) ≼ u ∷ []) ⊢ t ≺ u) (e, (le_out (t +ℚ rules.epsilon) u h, tt)) refl

-- what ties two steps, of which not both are timed, holds of their times where their link does
pub follows : (task : TaskParts) (rules : Rules) (x y : Step) → zeroℚ <ℚ rules.epsilon → (is_timed (snap_of task x.snap).kind && is_timed (snap_of task y.snap).kind) ≡ false
    → link_holds rules (link task (snap_of task x.snap) (snap_of task y.snap)) x.time y.time ≡ true → Follows task x y
follows task rules x y e n h = both (tied_apart task (snap_of task x.snap) (snap_of task y.snap)) (tied_in_order task (snap_of task x.snap) (snap_of task y.snap)) refl refl known
  where
    known : link_holds rules (if tied_apart task (snap_of task x.snap) (snap_of task y.snap) then Apart else (if tied_in_order task (snap_of task x.snap) (snap_of task y.snap) then Weak else Free)) x.time y.time ≡ true
    known = subst (λ k. link_holds rules k x.time y.time ≡ true) (link_is task (snap_of task x.snap) (snap_of task y.snap) ∙ ap (λ b. if b then Free else (if tied_apart task (snap_of task x.snap) (snap_of task y.snap) then Apart else (if tied_in_order task (snap_of task x.snap) (snap_of task y.snap) then Weak else Free))) n) h

    both : (a b : Bool) → tied_apart task (snap_of task x.snap) (snap_of task y.snap) ≡ a → tied_in_order task (snap_of task x.snap) (snap_of task y.snap) ≡ b → link_holds rules (if a then Apart else (if b then Weak else Free)) x.time y.time ≡ true → Follows task x y
    both true b p q k = record { later = λ _. later_by rules x.time y.time e k; no_earlier = λ _. lt_le x.time y.time (later_by rules x.time y.time e k) }
    both false true p q k = record { later = λ c. let d : true ≡ false = sym c ∙ p in cc; no_earlier = λ _. le_out x.time y.time k }
    both false false p q k = record { later = λ c. let d : true ≡ false = sym c ∙ p in cc; no_earlier = λ c. absurd (clash (sym c ∙ q)) }
      where
        clash : true ≡ false → ⊥
        clash c = cc

-- two timed steps in the order of their moments
pub timed_follows : (task : TaskParts) (x y : Step) → x.time <ℚ y.time → Follows task x y
timed_follows task x y h = record { later = λ _. h; no_earlier = λ _. lt_le x.time y.time h }
