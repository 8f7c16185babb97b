-- Value forms, read at the times of the steps, are the values that the list carries.
use Rattle.std.proofs.Common.{◌≡◌, refl, sym, ap, ap₂, ◌∙◌, ℕ, zero, suc, ◌<◌, ◌≤◌, Bool, true, false, List, [], ◌∷◌, map, fold, length, arith, Option, Some, None}
use Rattle.std.specs.Prelude.{if◌then◌else◌}
use Rattle.rational.specs.Rational.{ℚ, zeroℚ, oneℚ, neg_ℚ, ◌+ℚ◌, ◌*ℚ◌, ◌-ℚ◌}
use Rattle.rational.proofs.Ring.{law, num, minus, ◌⊕◌, ◌⊗◌, ◌⊖◌, ◌≐◌}
use Rattle.rational.proofs.Field.{ℚ_ring}
use Rattle.exact_lin.specs.Forms.{LinearForm, terms_at}
use Rattle.exact_lin.proofs.FormLaws.{form_at-plus_term, form_at-plus_scaled}
use Rattle.task_types.specs.declared.conditions.Amount.{Amount}
use Rattle.task_types.specs.declared.parts.TaskParts.{TaskParts}
use Rattle.task_types.specs.Tests.{total, last_or_else}
use Rattle.task_types.specs.Sets.{is_in}
use Rattle.task_types.specs.State.{State, value}
use Rattle.task_types.specs.Course.{initial, entries_of, amount, assigned, increased}
use Rattle.task_types.specs.Touch.{bent_fluents}
use Rattle.ordering.specs.Along.{Carried, at_time, changes}
use Rattle.std.proofs.Math.Path.{fun_ext}
use Rattle.std.proofs.lemmas.List.{append-nil}
use Rattle.ordering.proofs.Swapping.{new_level, new_slope, slope-left, level-left, no_turn}
use Rattle.rate_ledger.specs.Carrying.{duration_at, timed_step, carried_by}
use Rattle.rate_ledger.specs.Sums.{FormSum, Number, PlusTerm, PlusScaled, form_of, put, sum_at}
use Rattle.rate_ledger.specs.Entries.{snap_at, end_variable, own_start, Entry, moved_from, moved_sum, with_duration, amount_sum, last_sum, added_up, running_rates, changed_form, changed_entry, entries, value_before, value_after}

-- ---- sums

number_at : (q : ℚ) (x : ℕ → ℚ) → sum_at (Number q) x ≡ q
number_at q x = law ℚ_ring (q ∷ []) (λ q. q ⊕ num 0 ≐ q) refl

put_on : (values : ℕ → FormSum) (x : ℕ → ℚ) (sum : FormSum) (ts : List (ℕ × ℚ)) → sum_at (fold (λ sum t. PlusScaled sum t.1 (values t.0)) sum ts) x ≡ sum_at sum x +ℚ terms_at ts (λ f. sum_at (values f) x)
put_on values x sum [] = law ℚ_ring (sum_at sum x ∷ []) (λ q. q ≐ q ⊕ num 0) refl
put_on values x sum (t ∷ ts) = put_on values x (PlusScaled sum t.1 (values t.0)) ts
    ∙ ap (λ q. q +ℚ terms_at ts (λ f. sum_at (values f) x)) (form_at-plus_scaled (form_of sum) t.1 (form_of (values t.0)) x)
    ∙ law ℚ_ring (sum_at sum x ∷ t.1 ∷ sum_at (values t.0) x ∷ terms_at ts (λ f. sum_at (values f) x) ∷ []) (λ a c v b. (a ⊕ c ⊗ v) ⊕ b ≐ a ⊕ (c ⊗ v ⊕ b)) refl

-- A form put into sums is, at any point, its value at what the sums come to there.
pub put_at : (values : ℕ → FormSum) (x : ℕ → ℚ) (form : LinearForm) → sum_at (put values form) x ≡ value form (λ f. sum_at (values f) x)
unfolding value
put_at values x form = put_on values x (Number form.constant) form.terms ∙ ap (λ q. q +ℚ terms_at form.terms (λ f. sum_at (values f) x)) (number_at form.constant x)

-- the time since which an entry moves
abbrev pub since_time : (ℕ → ℚ) → Option ℕ → ℚ
since_time x None = zeroℚ
since_time x (Some s) = x s

-- An entry shows a carried fluent at a point: it has its slope, and its line passes through the entry's form.
pub record Shows (x : ℕ → ℚ) (e : Entry) (level slope : ℚ) : Type 0 where
  pub rate : slope ≡ e.rate
  pub line : level ≡ sum_at e.form x -ℚ e.rate *ℚ since_time x e.since
  pub still : e.since ≡ None → e.rate ≡ zeroℚ

moved_on : (x : ℕ → ℚ) (form : FormSum) (rate : ℚ) (since : Option ℕ) (v : ℕ) → (since ≡ None → rate ≡ zeroℚ) → sum_at (moved_from form rate since v) x ≡ (sum_at form x -ℚ rate *ℚ since_time x since) +ℚ rate *ℚ x v
moved_on x form rate None v h = law ℚ_ring (sum_at form x ∷ x v ∷ []) (λ a t. a ≐ (a ⊖ num 0 ⊗ num 0) ⊕ num 0 ⊗ t) refl ∙ ap (λ r. (sum_at form x -ℚ r *ℚ zeroℚ) +ℚ r *ℚ x v) (sym (h refl))
moved_on x form rate (Some s) v h = form_at-plus_term (form_of (PlusTerm form v rate)) s (neg_ℚ rate) x
    ∙ ap (λ q. q +ℚ neg_ℚ rate *ℚ x s) (form_at-plus_term (form_of form) v rate x)
    ∙ law ℚ_ring (sum_at form x ∷ rate ∷ x v ∷ x s ∷ []) (λ a r t u. (a ⊕ r ⊗ t) ⊕ minus r ⊗ u ≐ (a ⊖ r ⊗ u) ⊕ r ⊗ t) refl

pub moved_at : (x : ℕ → ℚ) (e : Entry) (level slope : ℚ) (v : ℕ) → Shows x e level slope → sum_at (moved_sum e v) x ≡ level +ℚ slope *ℚ x v
moved_at x e level slope v h = moved_on x e.form e.rate e.since v h.still ∙ sym (ap₂ (λ (l s : ℚ). l +ℚ s *ℚ x v) h.line h.rate)

last_at : (x : ℕ → ℚ) (other : FormSum) (sums : List FormSum) → sum_at (last_sum other sums) x ≡ last_or_else (sum_at other x) (map (λ s. sum_at s x) sums)
last_at x other [] = refl
last_at x other (s ∷ ss) = last_at x s ss

added_at : (x : ℕ → ℚ) (sum : FormSum) (sums : List FormSum) → sum_at (added_up sum sums) x ≡ sum_at sum x +ℚ total (map (λ s. sum_at s x) sums)
added_at x sum [] = law ℚ_ring (sum_at sum x ∷ []) (λ a. a ≐ a ⊕ num 0) refl
added_at x sum (s ∷ ss) = added_at x (PlusScaled sum oneℚ s) ss
    ∙ ap (λ q. q +ℚ total (map (λ s. sum_at s x) ss)) (form_at-plus_scaled (form_of sum) oneℚ (form_of s) x)
    ∙ law ℚ_ring (sum_at sum x ∷ sum_at s x ∷ total (map (λ s. sum_at s x) ss) ∷ []) (λ a b c. (a ⊕ num 1 ⊗ b) ⊕ c ≐ a ⊕ (b ⊕ c)) refl

some_none : (k : ℕ) → Some k ≡ None → ⊥
some_none k e = let c : Some k ≡ None = e in cc

-- ---- a list of steps, at times x

module _ (task : TaskParts) (steps : List ℕ) (x : ℕ → ℚ) where
  duration_on : (own : List (ℕ × ℕ)) (d : ℚ) (sum : FormSum) → sum_at (with_duration task steps d own sum) x ≡ sum_at sum x +ℚ d *ℚ duration_at task steps x own
  duration_on [] d sum = law ℚ_ring (sum_at sum x ∷ d ∷ []) (λ a d. a ≐ a ⊕ d ⊗ num 0) refl
  duration_on (own ∷ rest) d sum = form_at-plus_term (form_of (PlusTerm sum (end_variable task steps own.0 own.1) d)) own.0 (neg_ℚ d) x
      ∙ ap (λ q. q +ℚ neg_ℚ d *ℚ x own.0) (form_at-plus_term (form_of sum) (end_variable task steps own.0 own.1) d x)
      ∙ law ℚ_ring (sum_at sum x ∷ d ∷ x (end_variable task steps own.0 own.1) ∷ x own.0 ∷ []) (λ a d e s. (a ⊕ d ⊗ e) ⊕ minus d ⊗ s ≐ a ⊕ d ⊗ (e ⊖ s)) refl

  amount_at : (k : ℕ) (values : ℕ → FormSum) (s : State) → (λ f. sum_at (values f) x) ≡ s.fluents → (a : Amount) → sum_at (amount_sum task steps k values a) x ≡ amount (timed_step task steps x k) s a
  amount_at k values s h a = duration_on (own_start task steps k) a.duration (put values a.form)
      ∙ ap (λ q. q +ℚ a.duration *ℚ duration_at task steps x (own_start task steps k)) (put_at values x a.form ∙ ap (value a.form) h)

  amounts_at : (k : ℕ) (values : ℕ → FormSum) (s : State) → (λ f. sum_at (values f) x) ≡ s.fluents → (all : List Amount) → map (λ s. sum_at s x) (map (amount_sum task steps k values) all) ≡ map (amount (timed_step task steps x k) s) all
  amounts_at k values s h [] = refl
  amounts_at k values s h (a ∷ rest) = ap₂ (λ (q : ℚ) (l : List ℚ). q ∷ l) (amount_at k values s h a) (amounts_at k values s h rest)

  -- what a step makes of a fluent, from the values before it
  changed_at : (k : ℕ) (values : ℕ → FormSum) (m : Carried) → (λ f. sum_at (values f) x) ≡ (at_time m (x k)).fluents → (f : ℕ)
      → sum_at (changed_form task steps k values f) x ≡ last_or_else (m.level f +ℚ m.slope f *ℚ x k) (assigned task (timed_step task steps x k ∷ []) (at_time m (x k)) f) +ℚ total (increased task (timed_step task steps x k ∷ []) (at_time m (x k)) f)
  changed_at k values m h f =
      let s = snap_at task steps k in
      added_at x (last_sum (values f) (map (amount_sum task steps k values) (entries_of f s.effect.assigns))) (map (amount_sum task steps k values) (entries_of f s.effect.increases))
      ∙ ap (λ q. q +ℚ total (map (λ s. sum_at s x) (map (amount_sum task steps k values) (entries_of f s.effect.increases)))) (last_at x (values f) (map (amount_sum task steps k values) (entries_of f s.effect.assigns)))
      ∙ ap₂ (λ (a i : List ℚ). last_or_else (sum_at (values f) x) a +ℚ total i)
      (amounts_at k values (at_time m (x k)) h (entries_of f s.effect.assigns) ∙ sym (append-nil (map (amount (timed_step task steps x k) (at_time m (x k))) (entries_of f s.effect.assigns))))
      (amounts_at k values (at_time m (x k)) h (entries_of f s.effect.increases) ∙ sym (append-nil (map (amount (timed_step task steps x k) (at_time m (x k))) (entries_of f s.effect.increases))))
      ∙ ap (λ q. last_or_else q (assigned task (timed_step task steps x k ∷ []) (at_time m (x k)) f) +ℚ total (increased task (timed_step task steps x k ∷ []) (at_time m (x k)) f)) (ap (λ (g : ℕ → ℚ). g f) h)

  -- the rates of the actions that run are the slopes that are carried
  abbrev pub RatesRun : Type 0
  RatesRun = (n f : ℕ) → n ≤ length steps → (carried_by task steps x n).slope f ≡ total (running_rates task steps n f)

  module _ (rates : RatesRun) where
    new_rate : (k f : ℕ) (l : suc k ≤ length steps) (e : Entry) (b : Bool) → is_in f (bent_fluents task (snap_at task steps k)) ≡ b → Shows x e ((carried_by task steps x k).level f) ((carried_by task steps x k).slope f)
        → (carried_by task steps x (suc k)).slope f ≡ (if b then total (running_rates task steps (suc k) f) else e.rate)
    new_rate k f l e true h s = rates (suc k) f l
    new_rate k f l e false h s = new_slope task (carried_by task steps x k) (timed_step task steps x k) f
        ∙ ap (λ q. (carried_by task steps x k).slope f +ℚ q) (no_turn task (snap_at task steps k) f h)
        ∙ law ℚ_ring ((carried_by task steps x k).slope f ∷ []) (λ a. a ⊕ num 0 ≐ a) refl ∙ s.rate

    changed_shows : (k : ℕ) (l : suc k ≤ length steps) → ((g : ℕ) → Shows x (entries task steps k g) ((carried_by task steps x k).level g) ((carried_by task steps x k).slope g)) → (f : ℕ)
        → Shows x (changed_entry task steps k (entries task steps k) f) ((carried_by task steps x (suc k)).level f) ((carried_by task steps x (suc k)).slope f)
    changed_shows k l h f = record {
      rate = new_rate k f l (entries task steps k f) (is_in f (bent_fluents task (snap_at task steps k))) refl (h f);
      line = new_level task (carried_by task steps x k) (timed_step task steps x k) f
          ∙ ap₂ (λ (v s : ℚ). v -ℚ s *ℚ x k) (sym (changed_at k (λ g. moved_sum (entries task steps k g) k) (carried_by task steps x k) (fun_ext (λ g. moved_at x (entries task steps k g) ((carried_by task steps x k).level g) ((carried_by task steps x k).slope g) k (h g))) f))
          (sym (new_slope task (carried_by task steps x k) (timed_step task steps x k) f) ∙ new_rate k f l (entries task steps k f) (is_in f (bent_fluents task (snap_at task steps k))) refl (h f));
      still = λ e. absurd (some_none k e);
    }

    pub entries_show : (n f : ℕ) → n ≤ length steps → Shows x (entries task steps n f) ((carried_by task steps x n).level f) ((carried_by task steps x n).slope f)
    entries_show zero f l = record {
      rate = refl;
      line = law ℚ_ring ((initial task).fluents f ∷ []) (λ v. v ≐ (v ⊕ num 0) ⊖ num 0 ⊗ num 0) refl;
      still = λ e. refl;
    }
    entries_show (suc k) f l = go (changes task (snap_at task steps k) f) refl (λ g. entries_show k g (omega (arith, l)))
      where
        left : changes task (snap_at task steps k) f ≡ false → Shows x (entries task steps k f) ((carried_by task steps x k).level f) ((carried_by task steps x k).slope f) → Shows x (entries task steps k f) ((carried_by task steps x (suc k)).level f) ((carried_by task steps x (suc k)).slope f)
        left e h = record {
          rate = slope-left task (carried_by task steps x k) (timed_step task steps x k) f e ∙ h.rate;
          line = level-left task (carried_by task steps x k) (timed_step task steps x k) f e ∙ h.line;
          still = h.still;
        }

        go : (b : Bool) → changes task (snap_at task steps k) f ≡ b → ((g : ℕ) → Shows x (entries task steps k g) ((carried_by task steps x k).level g) ((carried_by task steps x k).slope g))
            → Shows x (if b then changed_entry task steps k (entries task steps k) f else entries task steps k f) ((carried_by task steps x (suc k)).level f) ((carried_by task steps x (suc k)).slope f)
        go true e h = changed_shows k l h f
        go false e h = left e (h f)

    -- The form before step k is what the steps before it carry to its time.
    pub value_before-is : (k f : ℕ) → k ≤ length steps → sum_at (value_before task steps k f) x ≡ (at_time (carried_by task steps x k) (x k)).fluents f
    unfolding value_before
    value_before-is k f l = moved_at x (entries task steps k f) ((carried_by task steps x k).level f) ((carried_by task steps x k).slope f) k (entries_show k f l)

    -- a line is at its value at the time at which it is drawn through it
    on_line : (v s t : ℚ) → (v -ℚ s *ℚ t) +ℚ s *ℚ t ≡ v
    on_line v s t = law ℚ_ring (v ∷ s ∷ t ∷ []) (λ v s t. (v ⊖ s ⊗ t) ⊕ s ⊗ t ≐ v) refl

    -- The form after step k is what the steps up to it carry at its time.
    pub value_after-is : (k f : ℕ) → k < length steps → sum_at (value_after task steps k f) x ≡ (at_time (carried_by task steps x (suc k)) (x k)).fluents f
    unfolding value_after
    value_after-is k f l = go (changes task (snap_at task steps k) f) refl (entries_show (suc k) f (omega (arith, l))) (entries_show k f (omega (arith, l)))
      where
        go : (b : Bool) → changes task (snap_at task steps k) f ≡ b → Shows x (entries task steps (suc k) f) ((carried_by task steps x (suc k)).level f) ((carried_by task steps x (suc k)).slope f)
            → Shows x (entries task steps k f) ((carried_by task steps x k).level f) ((carried_by task steps x k).slope f)
            → sum_at (if b then (entries task steps (suc k) f).form else moved_sum (entries task steps k f) k) x ≡ (carried_by task steps x (suc k)).level f +ℚ (carried_by task steps x (suc k)).slope f *ℚ x k
        go false e h old = moved_at x (entries task steps k f) ((carried_by task steps x k).level f) ((carried_by task steps x k).slope f) k old
            ∙ sym (ap₂ (λ (l s : ℚ). l +ℚ s *ℚ x k) (level-left task (carried_by task steps x k) (timed_step task steps x k) f e) (slope-left task (carried_by task steps x k) (timed_step task steps x k) f e))
        go true e h old = sym (ap₂ (λ (l s : ℚ). l +ℚ s *ℚ x k) (h.line ∙ ap (λ n. sum_at (entries task steps (suc k) f).form x -ℚ (entries task steps (suc k) f).rate *ℚ since_time x n) (since_now e)) h.rate
            ∙ on_line (sum_at (entries task steps (suc k) f).form x) (entries task steps (suc k) f).rate (x k))
          where
            since_now : changes task (snap_at task steps k) f ≡ true → (entries task steps (suc k) f).since ≡ Some k
            since_now e = ap (λ b. (if b then changed_entry task steps k (entries task steps k) f else entries task steps k f).since) e
