-- Two independent steps may change places.
use Rattle.std.proofs.Common.{◌≡◌, refl, sym, ap, ap₂, ◌∙◌, ℕ, Bool, true, false, cond, ◌&&◌, ◌||◌, List, [], ◌∷◌, ◌++◌, map}
use Rattle.std.specs.Prelude.{not, ◌==◌}
use Rattle.std.specs.List.{filter, flat_map, AllByRecursion}
use Rattle.std.proofs.Math.Path.{fun_ext}
use Rattle.rational.specs.Rational.{ℚ, zeroℚ, ◌+ℚ◌, ◌*ℚ◌, ◌-ℚ◌}
use Rattle.rational.proofs.Ring.{law, num, ◌⊕◌, ◌⊗◌, ◌⊖◌, ◌≐◌}
use Rattle.rational.proofs.Field.{ℚ_ring}
use Rattle.exact_lin.specs.Forms.{terms_at}
use Rattle.task_types.specs.declared.actions.Snap.{Snap}
use Rattle.task_types.specs.declared.conditions.Amount.{Amount}
use Rattle.task_types.specs.declared.parts.TaskParts.{TaskParts}
use Rattle.task_types.specs.Sets.{is_in}
use Rattle.task_types.specs.Tests.{total, last_or_else}
use Rattle.task_types.specs.State.{State, value}
use Rattle.task_types.specs.Plan.{Step, snap_of, action_of}
use Rattle.task_types.specs.Course.{entries_of, effect_of, amount, assigned, increased, happen}
use Rattle.task_types.specs.Clash.{assigned_fluents, increased_fluents, written_fluents}
use Rattle.task_types.specs.Touch.{started_or_ended, bent_fluents}
use Rattle.task_types.proofs.Alike.{fold-total}
use Rattle.ordering.specs.Along.{Carried, at_time, sign, turn, carry, changes, changes_fact, Spares, Independent}
use Rattle.basics.proofs.Bools.{or_false_left, or_false_right}

-- ---- tests of lists

pub is_in-append-out : (f : ℕ) (xs ys : List ℕ) → is_in f (xs ++ ys) ≡ false → (is_in f xs ≡ false) × (is_in f ys ≡ false)
is_in-append-out f [] ys h = (refl, h)
is_in-append-out f (x ∷ xs) ys h = go (x == f) (is_in-append-out f xs ys) h
  where
    go : (b : Bool) → (is_in f (xs ++ ys) ≡ false → (is_in f xs ≡ false) × (is_in f ys ≡ false)) → (b || is_in f (xs ++ ys)) ≡ false → ((b || is_in f xs) ≡ false) × (is_in f ys ≡ false)
    go true r h = let c : true ≡ false = h in (c, cc)
    go false r h = r h

module _ {A : Type 0} where
  pub no_entries : (f : ℕ) (xs : List (ℕ × A)) → is_in f (map (λ e. e.0) xs) ≡ false → entries_of f xs ≡ []
  no_entries f [] h = refl
  no_entries f (x ∷ xs) h = rw (or_false_left (x.0 == f) (is_in f (map (λ e. e.0) xs)) h) (no_entries f xs (or_false_right (x.0 == f) (is_in f (map (λ e. e.0) xs)) h))

  entries_of-append : (f : ℕ) (xs ys : List (ℕ × A)) → entries_of f (xs ++ ys) ≡ entries_of f xs ++ entries_of f ys
  entries_of-append f [] ys = refl
  entries_of-append f (x ∷ xs) ys = go (x.0 == f) (entries_of-append f xs ys)
    where
      go : (b : Bool) → entries_of f (xs ++ ys) ≡ entries_of f xs ++ entries_of f ys
          → map (λ (e : ℕ × A). e.1) (cond b (x ∷ filter (λ e. e.0 == f) (xs ++ ys)) (filter (λ e. e.0 == f) (xs ++ ys))) ≡ map (λ (e : ℕ × A). e.1) (cond b (x ∷ filter (λ e. e.0 == f) xs) (filter (λ e. e.0 == f) xs)) ++ entries_of f ys
      go true r = ap (λ l. x.1 ∷ l) r
      go false r = r

-- ---- a step leaves what it doesn't change

no_rates : (task : TaskParts) (f : ℕ) (ks : List ℕ) → is_in f (flat_map (λ a. map (λ r. r.0) (snap_of task (action_of task a).start).rates) ks) ≡ false → entries_of f (flat_map (λ a. (snap_of task (action_of task a).start).rates) ks) ≡ []
no_rates task f [] h = refl
no_rates task f (a ∷ ks) h =
    let o = is_in-append-out f (map (λ r. r.0) (snap_of task (action_of task a).start).rates) (flat_map (λ a. map (λ r. r.0) (snap_of task (action_of task a).start).rates) ks) h in
    entries_of-append f (snap_of task (action_of task a).start).rates (flat_map (λ a. (snap_of task (action_of task a).start).rates) ks)
    ∙ ap₂ (λ (xs ys : List ℚ). xs ++ ys) (no_entries f (snap_of task (action_of task a).start).rates o.0) (no_rates task f ks o.1)

pub no_turn : (task : TaskParts) (s : Snap) (f : ℕ) → is_in f (bent_fluents task s) ≡ false → turn task s f ≡ zeroℚ
no_turn task s f h = ap (λ l. sign s.kind *ℚ total l) (no_rates task f (started_or_ended s) h) ∙ law ℚ_ring (sign s.kind ∷ []) (λ a. a ⊗ num 0 ≐ num 0) refl

-- the new value of a fluent, from what is assigned and by what it is increased
pub new_value : (task : TaskParts) (s : State) (x : Step) (f : ℕ) → (happen task (x ∷ []) s).fluents f ≡ last_or_else (s.fluents f) (assigned task (x ∷ []) s f) +ℚ total (increased task (x ∷ []) s f)
unfolding happen
new_value task s x f = fold-total (last_or_else (s.fluents f) (assigned task (x ∷ []) s f)) (increased task (x ∷ []) s f)

pub new_level : (task : TaskParts) (m : Carried) (x : Step) (f : ℕ) → (carry task m x).level f
    ≡ (last_or_else (m.level f +ℚ m.slope f *ℚ x.time) (assigned task (x ∷ []) (at_time m x.time) f) +ℚ total (increased task (x ∷ []) (at_time m x.time) f)) -ℚ (m.slope f +ℚ turn task (snap_of task x.snap) f) *ℚ x.time
unfolding carry
new_level task m x f = ap (λ q. q -ℚ (m.slope f +ℚ turn task (snap_of task x.snap) f) *ℚ x.time) (new_value task (at_time m x.time) x f)

pub new_slope : (task : TaskParts) (m : Carried) (x : Step) (f : ℕ) → (carry task m x).slope f ≡ m.slope f +ℚ turn task (snap_of task x.snap) f
unfolding carry
new_slope task m x f = refl

pub none_assigned : (task : TaskParts) (x : Step) (s : State) (f : ℕ) → is_in f (assigned_fluents (snap_of task x.snap)) ≡ false → assigned task (x ∷ []) s f ≡ []
none_assigned task x s f h = ap (λ l. map (amount x s) l ++ []) (no_entries f (effect_of task x).assigns h)

pub none_increased : (task : TaskParts) (x : Step) (s : State) (f : ℕ) → is_in f (increased_fluents (snap_of task x.snap)) ≡ false → increased task (x ∷ []) s f ≡ []
none_increased task x s f h = ap (λ l. map (amount x s) l ++ []) (no_entries f (effect_of task x).increases h)

pub slope-left : (task : TaskParts) (m : Carried) (x : Step) (f : ℕ) → changes task (snap_of task x.snap) f ≡ false → (carry task m x).slope f ≡ m.slope f
slope-left task m x f h = new_slope task m x f ∙ ap (λ q. m.slope f +ℚ q) (no_turn task (snap_of task x.snap) f (or_false_right (is_in f (written_fluents (snap_of task x.snap))) (is_in f (bent_fluents task (snap_of task x.snap))) h)) ∙ law ℚ_ring (m.slope f ∷ []) (λ a. a ⊕ num 0 ≐ a) refl

pub level-left : (task : TaskParts) (m : Carried) (x : Step) (f : ℕ) → changes task (snap_of task x.snap) f ≡ false → (carry task m x).level f ≡ m.level f
level-left task m x f h =
    let w = is_in-append-out f (assigned_fluents (snap_of task x.snap)) (increased_fluents (snap_of task x.snap)) (or_false_left (is_in f (written_fluents (snap_of task x.snap))) (is_in f (bent_fluents task (snap_of task x.snap))) h) in
    new_level task m x f
    ∙ ap (λ l. (last_or_else (m.level f +ℚ m.slope f *ℚ x.time) l +ℚ total (increased task (x ∷ []) (at_time m x.time) f)) -ℚ (m.slope f +ℚ turn task (snap_of task x.snap) f) *ℚ x.time) (none_assigned task x (at_time m x.time) f w.0)
    ∙ ap (λ l. ((m.level f +ℚ m.slope f *ℚ x.time) +ℚ total l) -ℚ (m.slope f +ℚ turn task (snap_of task x.snap) f) *ℚ x.time) (none_increased task x (at_time m x.time) f w.1)
    ∙ ap (λ q. ((m.level f +ℚ m.slope f *ℚ x.time) +ℚ zeroℚ) -ℚ (m.slope f +ℚ q) *ℚ x.time) (no_turn task (snap_of task x.snap) f (or_false_right (is_in f (written_fluents (snap_of task x.snap))) (is_in f (bent_fluents task (snap_of task x.snap))) h))
    ∙ law ℚ_ring (m.level f ∷ m.slope f ∷ x.time ∷ []) (λ a b t. ((a ⊕ b ⊗ t) ⊕ num 0) ⊖ (b ⊕ num 0) ⊗ t ≐ a) refl

-- ---- amounts read fluents alone that are spared

pub terms-same : (s u : ℕ → ℚ) (ts : List (ℕ × ℚ)) → AllByRecursion (λ t. s t.0 ≡ u t.0) ts → terms_at ts s ≡ terms_at ts u
terms-same s u [] h = refl
terms-same s u (t ∷ ts) h = rw (h.0, terms-same s u ts h.1) refl

spared : (task : TaskParts) (m : Carried) (y : Step) (t : ℚ) (ts : List (ℕ × ℚ)) → AllByRecursion (λ (u : ℕ × ℚ). changes task (snap_of task y.snap) u.0 ≡ false) ts → AllByRecursion (λ u. (at_time (carry task m y) t).fluents u.0 ≡ (at_time m t).fluents u.0) ts
spared task m y t [] h = tt
spared task m y t (u ∷ us) h = (rw (level-left task m y u.0 h.0, slope-left task m y u.0 h.0) refl, spared task m y t us h.1)

amount-same : (task : TaskParts) (m : Carried) (x y : Step) (t : ℚ) (a : Amount) → AllByRecursion (λ (u : ℕ × ℚ). changes task (snap_of task y.snap) u.0 ≡ false) a.form.terms → amount x (at_time (carry task m y) t) a ≡ amount x (at_time m t) a
unfolding value
amount-same task m x y t a h = ap (λ q. (a.form.constant +ℚ q) +ℚ a.duration *ℚ x.duration) (terms-same (at_time (carry task m y) t).fluents (at_time m t).fluents a.form.terms (spared task m y t a.form.terms h))

amounts-same : (task : TaskParts) (m : Carried) (x y : Step) (t : ℚ) (f : ℕ) (es : List (ℕ × Amount)) → Spares task (snap_of task y.snap) es → map (amount x (at_time (carry task m y) t)) (entries_of f es) ≡ map (amount x (at_time m t)) (entries_of f es)
amounts-same task m x y t f [] h = refl
amounts-same task m x y t f (e ∷ es) h = go (e.0 == f) (amounts-same task m x y t f es h.1)
  where
    go : (b : Bool) → map (amount x (at_time (carry task m y) t)) (entries_of f es) ≡ map (amount x (at_time m t)) (entries_of f es)
        → map (amount x (at_time (carry task m y) t)) (map (λ (e : ℕ × Amount). e.1) (cond b (e ∷ filter (λ e. e.0 == f) es) (filter (λ e. e.0 == f) es))) ≡ map (amount x (at_time m t)) (map (λ (e : ℕ × Amount). e.1) (cond b (e ∷ filter (λ e. e.0 == f) es) (filter (λ e. e.0 == f) es)))
    go true r = ap₂ (λ (q : ℚ) (l : List ℚ). q ∷ l) (amount-same task m x y t e.1 h.0) r
    go false r = r

-- ---- the swap

-- the level after a step, from what the fluent had, what is assigned and by what it is increased
abbrev level_from : ℚ → ℚ → List ℚ → List ℚ → ℚ → ℚ → ℚ
level_from level slope assigned increased turned t = (last_or_else (level +ℚ slope *ℚ t) assigned +ℚ total increased) -ℚ (slope +ℚ turned) *ℚ t

module _ (task : TaskParts) (m : Carried) (x y : Step) where
  abbrev assigned_by : Step → ℕ → List ℚ
  assigned_by z f = assigned task (z ∷ []) (at_time m z.time) f

  abbrev increased_by : Step → ℕ → List ℚ
  increased_by z f = increased task (z ∷ []) (at_time m z.time) f

  -- the level after y, then x, where x spares what it reads: x assigns and increases as if y hadn't been
  second_level : Spares task (snap_of task y.snap) (effect_of task x).assigns × Spares task (snap_of task y.snap) (effect_of task x).increases → (f : ℕ)
      → (carry task (carry task m y) x).level f ≡ level_from ((carry task m y).level f) ((carry task m y).slope f) (assigned_by x f) (increased_by x f) (turn task (snap_of task x.snap) f) x.time
  second_level h f = new_level task (carry task m y) x f
      ∙ ap₂ (λ (a i : List ℚ). level_from ((carry task m y).level f) ((carry task m y).slope f) (a ++ []) (i ++ []) (turn task (snap_of task x.snap) f) x.time)
      (amounts-same task m x y x.time f (effect_of task x).assigns h.0) (amounts-same task m x y x.time f (effect_of task x).increases h.1)

  -- where y leaves the fluent, the level after both is that after x alone
  second_left : Spares task (snap_of task y.snap) (effect_of task x).assigns × Spares task (snap_of task y.snap) (effect_of task x).increases → (f : ℕ) → changes task (snap_of task y.snap) f ≡ false
      → (carry task (carry task m y) x).level f ≡ (carry task m x).level f
  second_left h f e = second_level h f
      ∙ ap₂ (λ (l s : ℚ). level_from l s (assigned_by x f) (increased_by x f) (turn task (snap_of task x.snap) f) x.time) (level-left task m y f e) (slope-left task m y f e)
      ∙ sym (new_level task m x f)

  -- where neither assigns the fluent, it goes up by both
  both_levels : Spares task (snap_of task y.snap) (effect_of task x).assigns × Spares task (snap_of task y.snap) (effect_of task x).increases → (f : ℕ)
      → is_in f (assigned_fluents (snap_of task x.snap)) ≡ false → is_in f (assigned_fluents (snap_of task y.snap)) ≡ false
      → (carry task (carry task m y) x).level f ≡ ((m.level f +ℚ total (increased_by x f)) +ℚ total (increased_by y f)) -ℚ (turn task (snap_of task x.snap) f *ℚ x.time +ℚ turn task (snap_of task y.snap) f *ℚ y.time)
  both_levels h f ex ey = second_level h f
      ∙ ap (λ (a : List ℚ). level_from ((carry task m y).level f) ((carry task m y).slope f) a (increased_by x f) (turn task (snap_of task x.snap) f) x.time) (none_assigned task x (at_time m x.time) f ex)
      ∙ ap₂ (λ (l s : ℚ). level_from l s [] (increased_by x f) (turn task (snap_of task x.snap) f) x.time)
      (new_level task m y f ∙ ap (λ (a : List ℚ). level_from (m.level f) (m.slope f) a (increased_by y f) (turn task (snap_of task y.snap) f) y.time) (none_assigned task y (at_time m y.time) f ey)) (new_slope task m y f)
      ∙ law ℚ_ring (m.level f ∷ m.slope f ∷ total (increased_by x f) ∷ total (increased_by y f) ∷ turn task (snap_of task x.snap) f ∷ turn task (snap_of task y.snap) f ∷ x.time ∷ y.time ∷ [])
      (λ l s i j p q t u. (((((((l ⊕ s ⊗ u) ⊕ j) ⊖ (s ⊕ q) ⊗ u) ⊕ (s ⊕ q) ⊗ t)) ⊕ i) ⊖ ((s ⊕ q) ⊕ p) ⊗ t) ≐ ((l ⊕ i) ⊕ j) ⊖ (p ⊗ t ⊕ q ⊗ u)) refl

facts_swapped : (ax dx ay dy b : Bool) → ((ax || dx) ≡ true → (ay || dy) ≡ false) → ((ay || false) || (not (dy || false) && ((ax || false) || (not (dx || false) && b)))) ≡ ((ax || false) || (not (dx || false) && ((ay || false) || (not (dy || false) && b))))
facts_swapped true dx true dy b h = refl
facts_swapped true dx false true b h = let c : true ≡ false = h refl in cc
facts_swapped true dx false false b h = refl
facts_swapped false true true dy b h = let c : true ≡ false = h refl in cc
facts_swapped false true false dy b h = and_false (not (dy || false))
  where
    and_false : (c : Bool) → (c && false) ≡ false
    and_false true = refl
    and_false false = refl
facts_swapped false false ay dy b h = refl

facts_after_both : (task : TaskParts) (m : Carried) (x y : Step) → ((f : ℕ) → changes_fact (snap_of task x.snap) f ≡ true → changes_fact (snap_of task y.snap) f ≡ false) → (f : ℕ) → (carry task (carry task m x) y).facts f ≡ (carry task (carry task m y) x).facts f
unfolding carry happen
facts_after_both task m x y i f = facts_swapped (is_in f (effect_of task x).adds) (is_in f (effect_of task x).deletes) (is_in f (effect_of task y).adds) (is_in f (effect_of task y).deletes) (m.facts f) (i f)

pub swapped : (task : TaskParts) (m : Carried) (x y : Step) → Independent task (snap_of task x.snap) (snap_of task y.snap) → carry task (carry task m x) y ≡ carry task (carry task m y) x
swapped task m x y i = same (fun_ext (facts_after_both task m x y i.facts)) (fun_ext levels) (fun_ext slopes)
  where
    slopes : (f : ℕ) → (carry task (carry task m x) y).slope f ≡ (carry task (carry task m y) x).slope f
    slopes f = new_slope task (carry task m x) y f ∙ ap (λ q. q +ℚ turn task (snap_of task y.snap) f) (new_slope task m x f)
        ∙ law ℚ_ring (m.slope f ∷ turn task (snap_of task x.snap) f ∷ turn task (snap_of task y.snap) f ∷ []) (λ s p q. (s ⊕ p) ⊕ q ≐ (s ⊕ q) ⊕ p) refl
        ∙ sym (new_slope task (carry task m y) x f ∙ ap (λ q. q +ℚ turn task (snap_of task x.snap) f) (new_slope task m y f))

    level : (f : ℕ) (a b : Bool) → is_in f (assigned_fluents (snap_of task x.snap)) ≡ a → is_in f (assigned_fluents (snap_of task y.snap)) ≡ b → (carry task (carry task m x) y).level f ≡ (carry task (carry task m y) x).level f
    level f true b e g = level-left task (carry task m x) y f (i.first_assigns f e) ∙ sym (second_left task m x y i.first_reads f (i.first_assigns f e))
    level f false true e g = second_left task m y x i.second_reads f (i.second_assigns f g) ∙ sym (level-left task (carry task m y) x f (i.second_assigns f g))
    level f false false e g = both_levels task m y x i.second_reads f g e
        ∙ law ℚ_ring (m.level f ∷ total (increased_by task m x y x f) ∷ total (increased_by task m x y y f) ∷ turn task (snap_of task x.snap) f ∷ turn task (snap_of task y.snap) f ∷ x.time ∷ y.time ∷ [])
        (λ l i j p q t u. ((l ⊕ j) ⊕ i) ⊖ (q ⊗ u ⊕ p ⊗ t) ≐ ((l ⊕ i) ⊕ j) ⊖ (p ⊗ t ⊕ q ⊗ u)) refl
        ∙ sym (both_levels task m x y i.first_reads f e g)

    levels : (f : ℕ) → (carry task (carry task m x) y).level f ≡ (carry task (carry task m y) x).level f
    levels f = level f (is_in f (assigned_fluents (snap_of task x.snap))) (is_in f (assigned_fluents (snap_of task y.snap))) refl refl

    same : (carry task (carry task m x) y).facts ≡ (carry task (carry task m y) x).facts → (carry task (carry task m x) y).level ≡ (carry task (carry task m y) x).level → (carry task (carry task m x) y).slope ≡ (carry task (carry task m y) x).slope → carry task (carry task m x) y ≡ carry task (carry task m y) x
    same p q r = rw (p, q, r) refl
