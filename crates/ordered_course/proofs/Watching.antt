-- Between two steps of a list no step between which changes a form's fluents, the form is at least 0 at every instant
-- where it is so after the one and before the other.
use Rattle.std.proofs.Common.{◌≡◌, refl, sym, ap, ap₂, subst, ◌∙◌, ℕ, Bool, true, false, List, [], ◌∷◌, ◌++◌, inl, inr}
use Rattle.std.specs.Prelude.{not}
use Rattle.std.specs.List.{filter, AllByRecursion}
use Rattle.rational.specs.Rational.{ℚ, zeroℚ, ◌+ℚ◌, ◌*ℚ◌, ◌<ℚ◌, ◌≤ℚ◌}
use Rattle.rational.specs.Segment.{along}
use Rattle.rational.proofs.Segments.{between as nonneg_between}
use Rattle.rational.proofs.Order.{lt_le}
use Rattle.rational.proofs.Inequalities.{le_trans, le_lt_trans}
use Rattle.rational.proofs.Ring.{law, ◌⊕◌, ◌⊗◌, ◌≐◌}
use Rattle.rational.proofs.Field.{ℚ_ring}
use Rattle.exact_lin.specs.Forms.{LinearForm, terms_at}
use Rattle.basics.proofs.Bools.{or_false_left, or_false_right, not_true}
use Rattle.task_types.specs.declared.parts.TaskParts.{TaskParts}
use Rattle.task_types.specs.Tests.{◌<?◌, ◌≤?◌}
use Rattle.task_types.specs.Sets.{is_in}
use Rattle.task_types.specs.State.{value}
use Rattle.task_types.specs.Plan.{Plan, Step, snap_of}
use Rattle.task_types.specs.Course.{before, after}
use Rattle.task_types.specs.Clash.{written_fluents}
use Rattle.task_types.specs.Touch.{bent_fluents}
use Rattle.task_types.proofs.Comparisons.{lt_out, le_out, not_lt_out, later_out, lt_le_absurd}
use Rattle.basics.proofs.Lists.{each_left, each_append}
use Rattle.task_types.proofs.Everyone.{all_map}
use Rattle.task_types.proofs.Segment.{terms-moved}
use Rattle.ordering.specs.Along.{Carried, at_time, at_first, carry, carry_all, carried, changes, Independent, Agrees, AllAgree}
use Rattle.ordering.specs.Laws.{Tells}
use Rattle.ordering.proofs.Crossing.{MayCross}
use Rattle.ordering.proofs.Swapping.{swapped, slope-left, level-left, terms-same}
use Rattle.ordering.proofs.ByTime.{before-by_time, after-by_time, may_cross}
use Rattle.ordered_course.specs.Quiet.{IsQuiet, Leaves, LeavesOr}
use Rattle.ordered_course.proofs.Cut.{cut-fluent, carry_append}

-- a form moves on a straight line
pub form-along : (form : LinearForm) (m : Carried) (t : ℚ) → value form (at_time m t).fluents ≡ along (value form m.level) (terms_at form.terms m.slope) t
unfolding value
form-along form m t = ap (λ q. form.constant +ℚ q) (terms-moved m.level m.slope t form.terms)
    ∙ law ℚ_ring (form.constant ∷ terms_at form.terms m.level ∷ terms_at form.terms m.slope ∷ t ∷ []) (λ c a b t. c ⊕ (a ⊕ b ⊗ t) ≐ (c ⊕ a) ⊕ b ⊗ t) refl

same_value : (form : LinearForm) (s u : ℕ → ℚ) → terms_at form.terms s ≡ terms_at form.terms u → value form s ≡ value form u
unfolding value
same_value form s u h = ap (λ q. form.constant +ℚ q) h

levels_left : (task : TaskParts) (m : Carried) (x : Step) (ts : List (ℕ × ℚ)) → AllByRecursion (λ u. changes task (snap_of task x.snap) u.0 ≡ false) ts → AllByRecursion (λ u. (carry task m x).level u.0 ≡ m.level u.0) ts
levels_left task m x [] h = tt
levels_left task m x (u ∷ us) h = (level-left task m x u.0 h.0, levels_left task m x us h.1)

slopes_left : (task : TaskParts) (m : Carried) (x : Step) (ts : List (ℕ × ℚ)) → AllByRecursion (λ u. changes task (snap_of task x.snap) u.0 ≡ false) ts → AllByRecursion (λ u. (carry task m x).slope u.0 ≡ m.slope u.0) ts
slopes_left task m x [] h = tt
slopes_left task m x (u ∷ us) h = (slope-left task m x u.0 h.0, slopes_left task m x us h.1)

-- steps that change none of its fluents leave a form on its line
pub line_left : (task : TaskParts) (form : LinearForm) (m : Carried) (xs : List Step) → AllByRecursion (Leaves task form) xs → (t : ℚ) → value form (at_time (carry_all task m xs) t).fluents ≡ value form (at_time m t).fluents
line_left task form m [] h t = refl
line_left task form m (x ∷ xs) h t = line_left task form (carry task m x) xs h.1 t
    ∙ form-along form (carry task m x) t
    ∙ ap₂ (λ (c s : ℚ). along c s t) (value_same (levels_left task m x form.terms h.0)) (terms-same (carry task m x).slope m.slope form.terms (slopes_left task m x form.terms h.0))
    ∙ sym (form-along form m t)
  where
    value_same : AllByRecursion (λ u. (carry task m x).level u.0 ≡ m.level u.0) form.terms → value form (carry task m x).level ≡ value form m.level
    value_same e = same_value form (carry task m x).level m.level (terms-same (carry task m x).level m.level form.terms e)

-- at least 0 at two times, and so between them
pub held_between : (task : TaskParts) (form : LinearForm) (m : Carried) (xs : List Step) (from to t : ℚ) → AllByRecursion (Leaves task form) xs
    → zeroℚ ≤ℚ value form (at_time m from).fluents → zeroℚ ≤ℚ value form (at_time (carry_all task m xs) to).fluents → from ≤ℚ t → t ≤ℚ to → zeroℚ ≤ℚ value form (at_time (carry_all task m xs) t).fluents
held_between task form m xs from to t h p q l r = subst (λ v. zeroℚ ≤ℚ v) (sym (line_left task form m xs h t ∙ form-along form m t))
    (nonneg_between (value form m.level) (terms_at form.terms m.slope) from to t (subst (λ v. zeroℚ ≤ℚ v) (form-along form m from) p) (subst (λ v. zeroℚ ≤ℚ v) (line_left task form m xs h to ∙ form-along form m to) q) l r)

-- ---- from the list to the instants

quiet_form : (task : TaskParts) (t : ℚ) (x : Step) (ts : List (ℕ × ℚ)) → AllByRecursion (λ u. changes task (snap_of task x.snap) u.0 ≡ false) ts → AllByRecursion (λ u. IsQuiet task t u.0 x) ts
quiet_form task t x [] h = tt
quiet_form task t x (u ∷ us) h = (record { writes = or_false_left (is_in u.0 (written_fluents (snap_of task x.snap))) (is_in u.0 (bent_fluents task (snap_of task x.snap))) h.0; turns = λ e. absurd (clash (is_in u.0 (bent_fluents task (snap_of task x.snap))) e (or_false_right (is_in u.0 (written_fluents (snap_of task x.snap))) (is_in u.0 (bent_fluents task (snap_of task x.snap))) h.0)) }, quiet_form task t x us h.1)
  where
    clash : (b : Bool) → b ≡ true → b ≡ false → ⊥
    clash b e f = let c : true ≡ false = sym e ∙ f in cc

-- each fluent of a form has its fact of all steps
all_forms : {X : Type 0} (P : (ℕ × ℚ) → X → Type 0) (ts : List (ℕ × ℚ)) (xs : List X) → AllByRecursion (λ x. AllByRecursion (λ u. P u x) ts) xs → AllByRecursion (λ u. AllByRecursion (λ x. P u x) xs) ts
all_forms P [] xs h = tt
all_forms P (u ∷ us) xs h = (all_map (λ x. P u x × AllByRecursion (λ u. P u x) us) (λ x. P u x) xs (λ x k. k.0) h, all_forms P us xs (all_map (λ x. P u x × AllByRecursion (λ u. P u x) us) (λ x. AllByRecursion (λ u. P u x) us) xs (λ x k. k.1) h))

both_terms : (P Q R : (ℕ × ℚ) → Type 0) (ts : List (ℕ × ℚ)) → ((u : ℕ × ℚ) → P u → Q u → R u) → AllByRecursion P ts → AllByRecursion Q ts → AllByRecursion R ts
both_terms P Q R [] f h k = tt
both_terms P Q R (u ∷ us) f h k = (f u h.0 k.0, both_terms P Q R us f h.1 k.1)

under_premise : (A : Type 0) (P : (ℕ × ℚ) → Type 0) (ts : List (ℕ × ℚ)) → (A → AllByRecursion P ts) → AllByRecursion (λ u. A → P u) ts
under_premise A P [] h = tt
under_premise A P (u ∷ us) h = (λ a. (h a).0, under_premise A P us (λ a. (h a).1))

-- a form in what a part of a list carries, and in what the picked steps carry
pub cut-form : (task : TaskParts) (p : Step → Bool) (xs ys : List Step) → MayCross task (λ x y. Independent task (snap_of task x.snap) (snap_of task y.snap)) (swapped task) p xs → (form : LinearForm) (t : ℚ)
    → AllByRecursion (λ x. not (p x) ≡ true → AllByRecursion (λ u. IsQuiet task t u.0 x) form.terms) xs → AllByRecursion (λ y. p y ≡ true → AllByRecursion (λ u. IsQuiet task t u.0 y) form.terms) ys
    → value form (at_time (carried task xs) t).fluents ≡ value form (at_time (carried task (filter p (xs ++ ys))) t).fluents
cut-form task p xs ys cross form t h k = same_value form (at_time (carried task xs) t).fluents (at_time (carried task (filter p (xs ++ ys))) t).fluents
    (terms-same (at_time (carried task xs) t).fluents (at_time (carried task (filter p (xs ++ ys))) t).fluents form.terms
    (both_terms (λ u. AllByRecursion (λ x. not (p x) ≡ true → IsQuiet task t u.0 x) xs) (λ u. AllByRecursion (λ y. p y ≡ true → IsQuiet task t u.0 y) ys)
    (λ u. (at_time (carried task xs) t).fluents u.0 ≡ (at_time (carried task (filter p (xs ++ ys))) t).fluents u.0) form.terms (λ u a b. cut-fluent task p xs ys cross t u.0 a b)
    (all_forms (λ u x. not (p x) ≡ true → IsQuiet task t u.0 x) form.terms xs (all_map (λ x. not (p x) ≡ true → AllByRecursion (λ u. IsQuiet task t u.0 x) form.terms) (λ x. AllByRecursion (λ u. not (p x) ≡ true → IsQuiet task t u.0 x) form.terms) xs (λ x g. under_premise (not (p x) ≡ true) (λ u. IsQuiet task t u.0 x) form.terms g) h))
    (all_forms (λ u y. p y ≡ true → IsQuiet task t u.0 y) form.terms ys (all_map (λ y. p y ≡ true → AllByRecursion (λ u. IsQuiet task t u.0 y) form.terms) (λ y. AllByRecursion (λ u. p y ≡ true → IsQuiet task t u.0 y) form.terms) ys (λ y g. under_premise (p y ≡ true) (λ u. IsQuiet task t u.0 y) form.terms g) k))))

pub agree_left : (task : TaskParts) (xs ys : List Step) → AllAgree task (xs ++ ys) → AllAgree task xs
agree_left task [] ys h = tt
agree_left task (x ∷ xs) ys h = (each_left (Agrees task x) xs ys h.0, agree_left task xs ys h.1)

pub may_cross_up_to : (task : TaskParts) (t : ℚ) (ss : List Step) → AllAgree task ss → MayCross task (λ x y. Independent task (snap_of task x.snap) (snap_of task y.snap)) (swapped task) (λ s. s.time ≤? t) ss
may_cross_up_to task t [] h = tt
may_cross_up_to task t (x ∷ xs) h = (λ e. all_map (Agrees task x) (λ y. (y.time ≤? t) ≡ true → Independent task (snap_of task x.snap) (snap_of task y.snap)) xs (λ y a l. a.crossed (le_lt_trans y.time t x.time (le_out y.time t l) (later_out x.time t e))) h.0, may_cross_up_to task t xs h.1)

-- A list is cut after a step that comes at `from`, and again before a step that comes at `to`. No step between
-- changes the form's fluents; steps of the first part that do come no later than `from`, and those of the last part
-- no earlier than `to`.
module _ (task : TaskParts) (plan : Plan) (form : LinearForm) (xs mid ys : List Step) (from to : ℚ)
    (tells : Tells task plan ((xs ++ mid) ++ ys))
    (left : AllByRecursion (Leaves task form) mid)
    (first : AllByRecursion (LeavesOr task form (λ u. u ≤ℚ from)) xs)
    (second : AllByRecursion (LeavesOr task form (λ u. to ≤ℚ u)) ys)
    (here : zeroℚ ≤ℚ value form (at_time (carried task xs) from).fluents)
    (there : zeroℚ ≤ℚ value form (at_time (carried task (xs ++ mid)) to).fluents) where
  inside : (t : ℚ) → from ≤ℚ t → t ≤ℚ to → zeroℚ ≤ℚ value form (at_time (carried task (xs ++ mid)) t).fluents
  inside t l r = subst (λ m. zeroℚ ≤ℚ value form (at_time m t).fluents) (sym (carry_append task (at_first task) xs mid))
      (held_between task form (carried task xs) mid from to t left here (subst (λ m. zeroℚ ≤ℚ value form (at_time m to).fluents) (carry_append task (at_first task) xs mid) there) l r)

  firsts : AllByRecursion (LeavesOr task form (λ u. u ≤ℚ from)) (xs ++ mid)
  firsts = each_append (LeavesOr task form (λ u. u ≤ℚ from)) xs mid first (all_map (Leaves task form) (LeavesOr task form (λ u. u ≤ℚ from)) mid (λ x h. inl h) left)

  -- a step that leaves the form, or can't be one of those asked, is quiet
  quiet_or : (t : ℚ) (x : Step) (P : ℚ → Type 0) → (P x.time → ⊥) → LeavesOr task form P x → AllByRecursion (λ u. IsQuiet task t u.0 x) form.terms
  quiet_or t x P f (inl h) = quiet_form task t x form.terms h
  quiet_or t x P f (inr h) = absurd (f h)

  pub held_before : (t : ℚ) → from <ℚ t → t ≤ℚ to → zeroℚ ≤ℚ value form (before task plan t).fluents
  held_before t l r = subst (λ s. zeroℚ ≤ℚ value form s.fluents) (sym (before-by_time task plan ((xs ++ mid) ++ ys) tells t))
      (subst (λ q. zeroℚ ≤ℚ q) (cut-form task (λ s. s.time <? t) (xs ++ mid) ys (may_cross task t (xs ++ mid) (agree_left task (xs ++ mid) ys tells.agree)) form t
      (all_map (LeavesOr task form (λ u. u ≤ℚ from)) (λ x. not (x.time <? t) ≡ true → AllByRecursion (λ u. IsQuiet task t u.0 x) form.terms) (xs ++ mid) (λ x h e. quiet_or t x (λ u. u ≤ℚ from) (λ m. lt_le_absurd from t l (le_trans t x.time from (not_lt_out x.time t (not_true (x.time <? t) e)) m)) h) firsts)
      (all_map (LeavesOr task form (λ u. to ≤ℚ u)) (λ y. (y.time <? t) ≡ true → AllByRecursion (λ u. IsQuiet task t u.0 y) form.terms) ys (λ y h e. quiet_or t y (λ u. to ≤ℚ u) (λ m. lt_le_absurd y.time t (lt_out y.time t e) (le_trans t to y.time r m)) h) second))
      (inside t (lt_le from t l) r))

  pub held_after : (t : ℚ) → from ≤ℚ t → t <ℚ to → zeroℚ ≤ℚ value form (after task plan t).fluents
  held_after t l r = subst (λ s. zeroℚ ≤ℚ value form s.fluents) (sym (after-by_time task plan ((xs ++ mid) ++ ys) tells t))
      (subst (λ q. zeroℚ ≤ℚ q) (cut-form task (λ s. s.time ≤? t) (xs ++ mid) ys (may_cross_up_to task t (xs ++ mid) (agree_left task (xs ++ mid) ys tells.agree)) form t
      (all_map (LeavesOr task form (λ u. u ≤ℚ from)) (λ x. not (x.time ≤? t) ≡ true → AllByRecursion (λ u. IsQuiet task t u.0 x) form.terms) (xs ++ mid) (λ x h e. quiet_or t x (λ u. u ≤ℚ from) (λ m. lt_le_absurd t x.time (later_out x.time t (not_true (x.time ≤? t) e)) (le_trans x.time from t m l)) h) firsts)
      (all_map (LeavesOr task form (λ u. to ≤ℚ u)) (λ y. (y.time ≤? t) ≡ true → AllByRecursion (λ u. IsQuiet task t u.0 y) form.terms) ys (λ y h e. quiet_or t y (λ u. to ≤ℚ u) (λ m. lt_le_absurd t to r (le_trans to y.time t m (le_out y.time t e))) h) second))
      (inside t l (lt_le t to r)))
