-- Steps of one moment, one after another in the order of a list, do what they do together.
use Rattle.std.proofs.Common.{◌≡◌, refl, sym, ap, ap₂, subst, ◌∙◌, ℕ, Bool, true, false, cond, ◌&&◌, ◌||◌, List, [], ◌∷◌, ◌++◌, map}
use Rattle.std.specs.Prelude.{not, ◌==◌}
use Rattle.std.specs.List.{list_any, filter, AllByRecursion}
use Rattle.std.proofs.Math.Path.{fun_ext}
use Rattle.std.proofs.lemmas.List.{append-nil}
use Rattle.rational.specs.Rational.{ℚ, ◌+ℚ◌, ◌*ℚ◌, ◌-ℚ◌}
use Rattle.rational.proofs.Ring.{law, num, ◌⊕◌, ◌⊗◌, ◌⊖◌, ◌≐◌}
use Rattle.rational.proofs.Field.{ℚ_ring}
use Rattle.task_types.specs.declared.conditions.Amount.{Amount}
use Rattle.task_types.specs.declared.parts.TaskParts.{TaskParts}
use Rattle.task_types.specs.Sets.{is_in}
use Rattle.task_types.specs.Tests.{total, last_or_else}
use Rattle.task_types.specs.State.{State, value}
use Rattle.task_types.specs.Plan.{Step, snap_of}
use Rattle.task_types.specs.Course.{entries_of, effect_of, amount, assigned, increased, added, deleted, happen}
use Rattle.task_types.specs.Clash.{assigned_fluents, increased_fluents, written_fluents}
use Rattle.task_types.proofs.Alike.{fold-total}
use Rattle.ordering.specs.Along.{Carried, at_time, turn, carry, carry_all, LeavesUnwritten, Together}
use Rattle.basics.proofs.Bools.{or_false_left, or_false_right}
use Rattle.ordering.proofs.Swapping.{is_in-append-out, no_entries, terms-same, new_value, none_assigned, none_increased}
use Rattle.task_types.proofs.Values.{total-append}

-- a fluent that a step doesn't write keeps its value when it happens
pub unwritten : (task : TaskParts) (s : State) (x : Step) (f : ℕ) → is_in f (written_fluents (snap_of task x.snap)) ≡ false → (happen task (x ∷ []) s).fluents f ≡ s.fluents f
unwritten task s x f h =
    let w = is_in-append-out f (assigned_fluents (snap_of task x.snap)) (increased_fluents (snap_of task x.snap)) h in
    new_value task s x f
    ∙ ap₂ (λ (a i : List ℚ). last_or_else (s.fluents f) a +ℚ total i) (none_assigned task x s f w.0) (none_increased task x s f w.1)
    ∙ law ℚ_ring (s.fluents f ∷ []) (λ a. a ⊕ num 0 ≐ a) refl

-- the state at a step's own time, after it
pub at_own_time : (task : TaskParts) (m : Carried) (x : Step) → at_time (carry task m x) x.time ≡ happen task (x ∷ []) (at_time m x.time)
unfolding carry
at_own_time task m x = ap (λ (g : ℕ → ℚ). record { facts = (happen task (x ∷ []) (at_time m x.time)).facts; fluents = g }) (fun_ext each)
  where
    each : (f : ℕ) → ((happen task (x ∷ []) (at_time m x.time)).fluents f -ℚ (m.slope f +ℚ turn task (snap_of task x.snap) f) *ℚ x.time) +ℚ (m.slope f +ℚ turn task (snap_of task x.snap) f) *ℚ x.time ≡ (happen task (x ∷ []) (at_time m x.time)).fluents f
    each f = law ℚ_ring ((happen task (x ∷ []) (at_time m x.time)).fluents f ∷ (m.slope f +ℚ turn task (snap_of task x.snap) f) ∷ x.time ∷ []) (λ v s t. (v ⊖ s ⊗ t) ⊕ s ⊗ t ≐ v) refl

-- ---- one step, then others at once

module _ (task : TaskParts) (s : State) (x : Step) where
  then : State
  then = happen task (x ∷ []) s

  read_same : (ts : List (ℕ × ℚ)) → AllByRecursion (λ (u : ℕ × ℚ). is_in u.0 (written_fluents (snap_of task x.snap)) ≡ false) ts → AllByRecursion (λ u. (happen task (x ∷ []) s).fluents u.0 ≡ s.fluents u.0) ts
  read_same [] h = tt
  read_same (u ∷ us) h = (unwritten task s x u.0 h.0, read_same us h.1)

  amount_same : (y : Step) (a : Amount) → AllByRecursion (λ (u : ℕ × ℚ). is_in u.0 (written_fluents (snap_of task x.snap)) ≡ false) a.form.terms → amount y (happen task (x ∷ []) s) a ≡ amount y s a
  unfolding value
  amount_same y a h = ap (λ q. (a.form.constant +ℚ q) +ℚ a.duration *ℚ y.duration) (terms-same (happen task (x ∷ []) s).fluents s.fluents a.form.terms (read_same a.form.terms h))

  amounts_same : (y : Step) (f : ℕ) (es : List (ℕ × Amount)) → LeavesUnwritten (snap_of task x.snap) es → map (amount y (happen task (x ∷ []) s)) (entries_of f es) ≡ map (amount y s) (entries_of f es)
  amounts_same y f [] h = refl
  amounts_same y f (e ∷ es) h = go (e.0 == f) (amounts_same y f es h.1)
    where
      go : (b : Bool) → map (amount y (happen task (x ∷ []) s)) (entries_of f es) ≡ map (amount y s) (entries_of f es)
          → map (amount y (happen task (x ∷ []) s)) (map (λ (e : ℕ × Amount). e.1) (cond b (e ∷ filter (λ e. e.0 == f) es) (filter (λ e. e.0 == f) es))) ≡ map (amount y s) (map (λ (e : ℕ × Amount). e.1) (cond b (e ∷ filter (λ e. e.0 == f) es) (filter (λ e. e.0 == f) es)))
      go true r = ap₂ (λ (q : ℚ) (l : List ℚ). q ∷ l) (amount_same y e.1 h.0) r
      go false r = r

  assigned_same : (f : ℕ) (ys : List Step) → AllByRecursion (λ y. Together (snap_of task x.snap) (snap_of task y.snap)) ys → assigned task ys (happen task (x ∷ []) s) f ≡ assigned task ys s f
  assigned_same f [] h = refl
  assigned_same f (y ∷ ys) h = ap₂ (λ (a b : List ℚ). a ++ b) (amounts_same y f (effect_of task y).assigns h.0.reads.0) (assigned_same f ys h.1)

  increased_same : (f : ℕ) (ys : List Step) → AllByRecursion (λ y. Together (snap_of task x.snap) (snap_of task y.snap)) ys → increased task ys (happen task (x ∷ []) s) f ≡ increased task ys s f
  increased_same f [] h = refl
  increased_same f (y ∷ ys) h = ap₂ (λ (a b : List ℚ). a ++ b) (amounts_same y f (effect_of task y).increases h.0.reads.1) (increased_same f ys h.1)

  pub none_assigns : (f : ℕ) (ys : List Step) → list_any (λ y. is_in f (assigned_fluents (snap_of task y.snap))) ys ≡ false → assigned task ys s f ≡ []
  none_assigns f [] h = refl
  none_assigns f (y ∷ ys) h = ap₂ (λ (a b : List ℚ). a ++ b)
      (ap (λ l. map (amount y s) l) (no_entries f (effect_of task y).assigns (or_false_left (is_in f (assigned_fluents (snap_of task y.snap))) (list_any (λ y. is_in f (assigned_fluents (snap_of task y.snap))) ys) h)))
      (none_assigns f ys (or_false_right (is_in f (assigned_fluents (snap_of task y.snap))) (list_any (λ y. is_in f (assigned_fluents (snap_of task y.snap))) ys) h))

  -- what one of the others assigns the first doesn't write
  pub some_assigns : (f : ℕ) (ys : List Step) → AllByRecursion (λ y. Together (snap_of task x.snap) (snap_of task y.snap)) ys → list_any (λ y. is_in f (assigned_fluents (snap_of task y.snap))) ys ≡ true → is_in f (written_fluents (snap_of task x.snap)) ≡ false
  some_assigns f [] h e = let c : false ≡ true = e in cc
  some_assigns f (y ∷ ys) h e = go (is_in f (assigned_fluents (snap_of task y.snap))) refl (λ k. some_assigns f ys h.1 k) e
    where
      go : (b : Bool) → is_in f (assigned_fluents (snap_of task y.snap)) ≡ b → (list_any (λ y. is_in f (assigned_fluents (snap_of task y.snap))) ys ≡ true → is_in f (written_fluents (snap_of task x.snap)) ≡ false)
          → (b || list_any (λ y. is_in f (assigned_fluents (snap_of task y.snap))) ys) ≡ true → is_in f (written_fluents (snap_of task x.snap)) ≡ false
      go true g r k = h.0.assigns f g
      go false g r k = r k

  none_deletes : (f : ℕ) (ys : List Step) → AllByRecursion (λ y. Together (snap_of task x.snap) (snap_of task y.snap)) ys → is_in f (effect_of task x).adds ≡ true → deleted task ys f ≡ false
  none_deletes f [] h e = refl
  none_deletes f (y ∷ ys) h e = rw (h.0.facts f e, none_deletes f ys h.1 e) refl

facts_of_all : (ax dx ag dg b : Bool) → (ax ≡ true → dg ≡ false) → ((ax || ag) || (not (dx || dg) && b)) ≡ (ag || (not dg && ((ax || false) || (not (dx || false) && b))))
facts_of_all true dx true dg b h = refl
facts_of_all true dx false true b h = let c : true ≡ false = h refl in cc
facts_of_all true dx false false b h = refl
facts_of_all false dx true dg b h = refl
facts_of_all false true false true b h = refl
facts_of_all false true false false b h = refl
facts_of_all false false false true b h = refl
facts_of_all false false false false b h = refl

pub new_values : (task : TaskParts) (s : State) (ys : List Step) (f : ℕ) → (happen task ys s).fluents f ≡ last_or_else (s.fluents f) (assigned task ys s f) +ℚ total (increased task ys s f)
unfolding happen
new_values task s ys f = fold-total (last_or_else (s.fluents f) (assigned task ys s f)) (increased task ys s f)

module _ (task : TaskParts) (s : State) (x : Step) (ys : List Step) (h : AllByRecursion (λ y. Together (snap_of task x.snap) (snap_of task y.snap)) ys) where
  after_first : (f : ℕ) → (happen task ys (happen task (x ∷ []) s)).fluents f ≡ last_or_else ((happen task (x ∷ []) s).fluents f) (assigned task ys s f) +ℚ total (increased task ys s f)
  after_first f = new_values task (happen task (x ∷ []) s) ys f ∙ ap₂ (λ (a i : List ℚ). last_or_else ((happen task (x ∷ []) s).fluents f) a +ℚ total i) (assigned_same task s x f ys h) (increased_same task s x f ys h)

  abbrev own_assigned : ℕ → List ℚ
  own_assigned f = map (amount x s) (entries_of f (effect_of task x).assigns)

  abbrev own_increased : ℕ → List ℚ
  own_increased f = map (amount x s) (entries_of f (effect_of task x).increases)

  fluent_first : (f : ℕ) (b : Bool) → list_any (λ y. is_in f (assigned_fluents (snap_of task y.snap))) ys ≡ b → (happen task (x ∷ ys) s).fluents f ≡ (happen task ys (happen task (x ∷ []) s)).fluents f
  fluent_first f false e = new_values task s (x ∷ ys) f
      ∙ ap₂ (λ (a : List ℚ) (q : ℚ). last_or_else (s.fluents f) (own_assigned f ++ a) +ℚ q) (none_assigns task s x f ys e) (total-append (own_increased f) (increased task ys s f))
      ∙ law ℚ_ring (last_or_else (s.fluents f) (own_assigned f ++ []) ∷ total (own_increased f) ∷ total (increased task ys s f) ∷ []) (λ v i j. v ⊕ (i ⊕ j) ≐ (v ⊕ i) ⊕ j) refl
      ∙ ap (λ q. (last_or_else (s.fluents f) (own_assigned f ++ []) +ℚ q) +ℚ total (increased task ys s f)) (ap total (sym (append-nil (own_increased f))))
      ∙ ap (λ q. q +ℚ total (increased task ys s f)) (sym (new_value task s x f))
      ∙ sym (after_first f ∙ ap (λ (a : List ℚ). last_or_else ((happen task (x ∷ []) s).fluents f) a +ℚ total (increased task ys s f)) (none_assigns task s x f ys e))
  fluent_first f true e =
      let w = some_assigns task s x f ys h e in
      let n = is_in-append-out f (assigned_fluents (snap_of task x.snap)) (increased_fluents (snap_of task x.snap)) w in
      new_values task s (x ∷ ys) f
      ∙ ap₂ (λ (a i : List ℚ). last_or_else (s.fluents f) (a ++ assigned task ys s f) +ℚ total (i ++ increased task ys s f))
      (ap (λ l. map (amount x s) l) (no_entries f (effect_of task x).assigns n.0)) (ap (λ l. map (amount x s) l) (no_entries f (effect_of task x).increases n.1))
      ∙ ap (λ q. last_or_else q (assigned task ys s f) +ℚ total (increased task ys s f)) (sym (unwritten task s x f w))
      ∙ sym (after_first f)

facts_first : (task : TaskParts) (s : State) (x : Step) (ys : List Step) → AllByRecursion (λ y. Together (snap_of task x.snap) (snap_of task y.snap)) ys → (f : ℕ) → (happen task (x ∷ ys) s).facts f ≡ (happen task ys (happen task (x ∷ []) s)).facts f
unfolding happen
facts_first task s x ys h f = facts_of_all (is_in f (effect_of task x).adds) (is_in f (effect_of task x).deletes) (added task ys f) (deleted task ys f) (s.facts f) (none_deletes task s x f ys h)

-- One step and then others at once are all of them at once.
pub happen_first : (task : TaskParts) (s : State) (x : Step) (ys : List Step) → AllByRecursion (λ y. Together (snap_of task x.snap) (snap_of task y.snap)) ys → happen task (x ∷ ys) s ≡ happen task ys (happen task (x ∷ []) s)
happen_first task s x ys h = same (fun_ext (facts_first task s x ys h)) (fun_ext (λ f. fluent_first task s x ys h f (list_any (λ y. is_in f (assigned_fluents (snap_of task y.snap))) ys) refl))
  where
    same : (happen task (x ∷ ys) s).facts ≡ (happen task ys (happen task (x ∷ []) s)).facts → (happen task (x ∷ ys) s).fluents ≡ (happen task ys (happen task (x ∷ []) s)).fluents → happen task (x ∷ ys) s ≡ happen task ys (happen task (x ∷ []) s)
    same p q = rw (p, q) refl

-- each step may happen together with each later one
abbrev pub AllTogether : TaskParts → List Step → Type 0
AllTogether task [] = Unit {0}
AllTogether task (x ∷ xs) = AllByRecursion (λ y. Together (snap_of task x.snap) (snap_of task y.snap)) xs × AllTogether task xs

nothing_happens : (task : TaskParts) (s : State) → s ≡ happen task [] s
unfolding happen
nothing_happens task s = refl

pub at_once : (task : TaskParts) (t : ℚ) (m : Carried) (xs : List Step) → AllByRecursion (λ x. x.time ≡ t) xs → AllTogether task xs → at_time (carry_all task m xs) t ≡ happen task xs (at_time m t)
at_once task t m [] e h = nothing_happens task (at_time m t)
at_once task t m (x ∷ xs) e h = at_once task t (carry task m x) xs e.1 h.1
    ∙ ap (happen task xs) (subst (λ u. at_time (carry task m x) u ≡ happen task (x ∷ []) (at_time m u)) e.0 (at_own_time task m x))
    ∙ sym (happen_first task (at_time m t) x xs h.0)
