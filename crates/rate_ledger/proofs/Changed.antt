-- What the next step makes of a fluent that it changes, from what is known of the step.
use Rattle.std.proofs.Common.{◌≡◌, refl, sym, ap, ap₂, subst, ◌∙◌, ℕ, suc, ◌+◌, true, false, List, [], ◌∷◌, map, arith, Result, Ok, Err}
use Rattle.std.specs.Prelude.{◌↔◌, if◌then◌else◌, take}
use Rattle.std.specs.List.{flat_map}
use Rattle.rational.specs.Rational.{ℚ, zeroℚ}
use Rattle.exact_lin.specs.Reckoning.{wide_limit}
use Rattle.exact_lin.specs.Reckonings.{Reckoning, sums, AreDefined as AreNumbersDefined}
use Rattle.exact_lin.specs.Forms.{LinearForm}
use Rattle.exact_lin.specs.declared.faults.FormFault.{FormFault}
use Rattle.exact_lin.specs.declared.faults.FormFault.TheVariants.{Wide, Memory}
use Rattle.task_types.specs.declared.parts.TaskParts.{TaskParts}
use Rattle.task_types.specs.Tests.{total}
use Rattle.task_types.specs.Sets.{is_in}
use Rattle.task_types.specs.Plan.{action_of, snap_of}
use Rattle.task_types.specs.Course.{entries_of}
use Rattle.task_types.specs.Touch.{bent_fluents}
use Rattle.task_types.specs.Order.{running}
use Rattle.ordering.specs.Along.{changes}
use Rattle.rate_ledger.specs.declared.changes.Change.{Change}
use Rattle.rate_ledger.specs.declared.list_ledgers.ListLedger.{ListLedger}
use Rattle.rate_ledger.specs.declared.nexts.Next.{Next}
use Rattle.rate_ledger.specs.Answers.{Gives}
use Rattle.rate_ledger.specs.Sums.{form_of, CanMake}
use Rattle.rate_ledger.specs.Entries.{snap_at, amount_sum, last_sum, running_rates, changed_form, changed_entry, entries, value_before, value_after}
use Rattle.rate_ledger.specs.Ledgers.{change_at}
use Rattle.rate_ledger.specs.Picking.{last_picked, added_picked, CanAddPicked, IsNext}
use Rattle.rate_ledger.specs.Reckoned.{OfNumbers, AreDefined, rate_made}
use Rattle.rate_ledger.proofs.Picked.{last_is, last_made, added_is, added_made}
use Rattle.rate_ledger.proofs.Told.{after_changed}

-- ---- rates

numbers_made : (rs : List Reckoning) → AreDefined (map OfNumbers rs) ↔ AreNumbersDefined wide_limit rs
numbers_made [] = (λ d. d, λ d. d)
numbers_made (r ∷ rs) = let k = numbers_made rs in (λ d. (d.0, k.0 d.1), λ d. (d.0, k.1 d.1))

module _ (task : TaskParts) (steps : List ℕ) (k f : ℕ) where
  -- the rate of a fluent that the step bends
  pub rate_bent : (r : Result ℚ FormFault) (runs : List ℕ) → is_in f (bent_fluents task (snap_at task steps k)) ≡ true → runs ≡ running task (take (k + 1) steps)
      → Gives r (AreNumbersDefined wide_limit (sums zeroℚ (flat_map (λ a. entries_of f (snap_of task (action_of task a).start).rates) runs))) (λ q. q ≡ total (flat_map (λ a. entries_of f (snap_of task (action_of task a).start).rates) runs))
      → Gives r (AreDefined (rate_made task steps k f)) (λ q. q ≡ (change_at task steps k f).rate)
  rate_bent r runs b e g = told r (subst (λ qs. Gives r (AreNumbersDefined wide_limit (sums zeroℚ qs)) (λ q. q ≡ total qs)) same g)
    where
      one_more : k + 1 ≡ suc k
      one_more = omega arith

      same : flat_map (λ a. entries_of f (snap_of task (action_of task a).start).rates) runs ≡ running_rates task steps (suc k) f
      same = ap (flat_map (λ a. entries_of f (snap_of task (action_of task a).start).rates)) (e ∙ ap (λ n. running task (take n steps)) one_more)

      defined : AreNumbersDefined wide_limit (sums zeroℚ (running_rates task steps (suc k) f)) → AreDefined (rate_made task steps k f)
      defined d = subst (λ c. AreDefined (if c then map OfNumbers (sums zeroℚ (running_rates task steps (suc k) f)) else [])) (sym b) ((numbers_made (sums zeroℚ (running_rates task steps (suc k) f))).1 d)

      undefined : AreDefined (rate_made task steps k f) → AreNumbersDefined wide_limit (sums zeroℚ (running_rates task steps (suc k) f))
      undefined d = (numbers_made (sums zeroℚ (running_rates task steps (suc k) f))).0 (subst (λ c. AreDefined (if c then map OfNumbers (sums zeroℚ (running_rates task steps (suc k) f)) else [])) b d)

      told : (r : Result ℚ FormFault) → Gives r (AreNumbersDefined wide_limit (sums zeroℚ (running_rates task steps (suc k) f))) (λ q. q ≡ total (running_rates task steps (suc k) f)) → Gives r (AreDefined (rate_made task steps k f)) (λ q. q ≡ (change_at task steps k f).rate)
      told (Ok q) g = (defined g.0, g.1 ∙ sym (ap (λ c. if c then total (running_rates task steps (suc k) f) else (entries task steps k f).rate) b))
      told (Err Wide) g = λ d. g (undefined d)
      told (Err Memory) g = tt

  -- and of one that it doesn't bend
  pub rate_kept : (q : ℚ) → is_in f (bent_fluents task (snap_at task steps k)) ≡ false → q ≡ (entries task steps k f).rate → AreDefined (rate_made task steps k f) × (q ≡ (change_at task steps k f).rate)
  rate_kept q b e = (
    subst (λ c. AreDefined (if c then map OfNumbers (sums zeroℚ (running_rates task steps (suc k) f)) else [])) (sym b) tt,
    e ∙ sym (ap (λ c. if c then total (running_rates task steps (suc k) f) else (entries task steps k f).rate) b),
  )

-- ---- forms

abbrev pub change : ℕ → ℕ → LinearForm → ℚ → Change
change f k form rate = record { fluent = f; step = k; form = form; rate = rate }

module _ (task : TaskParts) (l : ListLedger) (n : Next) (next : IsNext task l n) (f : ℕ) where
  pub form_is : form_of (changed_form task l.steps n.step (value_before task l.steps n.step) f) ≡ added_picked f (last_picked f (form_of (value_before task l.steps n.step f)) n.assigns) n.increases
  form_is = added_is f (amount_sum task l.steps n.step (value_before task l.steps n.step)) (last_sum (value_before task l.steps n.step f) (map (amount_sum task l.steps n.step (value_before task l.steps n.step)) (entries_of f (snap_at task l.steps n.step).effect.assigns))) (snap_at task l.steps n.step).effect.increases
      ∙ ap₂ (λ (x : LinearForm) (es : List (ℕ × LinearForm)). added_picked f x es)
      (last_is f (amount_sum task l.steps n.step (value_before task l.steps n.step)) (value_before task l.steps n.step f) (snap_at task l.steps n.step).effect.assigns ∙ ap (λ (es : List (ℕ × LinearForm)). last_picked f (form_of (value_before task l.steps n.step f)) es) (sym next.assigns))
      (sym next.increases)

  last_form : form_of (last_sum (value_before task l.steps n.step f) (map (amount_sum task l.steps n.step (value_before task l.steps n.step)) (entries_of f (snap_at task l.steps n.step).effect.assigns))) ≡ last_picked f (form_of (value_before task l.steps n.step f)) n.assigns
  last_form = last_is f (amount_sum task l.steps n.step (value_before task l.steps n.step)) (value_before task l.steps n.step f) (snap_at task l.steps n.step).effect.assigns ∙ ap (λ (es : List (ℕ × LinearForm)). last_picked f (form_of (value_before task l.steps n.step f)) es) (sym next.assigns)

  pub form_made : CanMake (value_before task l.steps n.step f) → CanAddPicked f (last_picked f (form_of (value_before task l.steps n.step f)) n.assigns) n.increases → CanMake (changed_form task l.steps n.step (value_before task l.steps n.step) f)
  form_made m c = (added_made f (amount_sum task l.steps n.step (value_before task l.steps n.step)) (last_sum (value_before task l.steps n.step f) (map (amount_sum task l.steps n.step (value_before task l.steps n.step)) (entries_of f (snap_at task l.steps n.step).effect.assigns))) (snap_at task l.steps n.step).effect.increases next.can_increase).1 (
    last_made f (amount_sum task l.steps n.step (value_before task l.steps n.step)) (value_before task l.steps n.step f) (snap_at task l.steps n.step).effect.assigns next.can_assign m,
    subst (λ (es : List (ℕ × LinearForm)). CanAddPicked f (form_of (last_sum (value_before task l.steps n.step f) (map (amount_sum task l.steps n.step (value_before task l.steps n.step)) (entries_of f (snap_at task l.steps n.step).effect.assigns)))) es) next.increases
        (subst (λ x. CanAddPicked f x n.increases) (sym last_form) c),
  )

  pub form_unmade : CanMake (changed_form task l.steps n.step (value_before task l.steps n.step) f) → CanAddPicked f (last_picked f (form_of (value_before task l.steps n.step f)) n.assigns) n.increases
  form_unmade m = subst (λ x. CanAddPicked f x n.increases) last_form
      (subst (λ (es : List (ℕ × LinearForm)). CanAddPicked f (form_of (last_sum (value_before task l.steps n.step f) (map (amount_sum task l.steps n.step (value_before task l.steps n.step)) (entries_of f (snap_at task l.steps n.step).effect.assigns)))) es) (sym next.increases)
      ((added_made f (amount_sum task l.steps n.step (value_before task l.steps n.step)) (last_sum (value_before task l.steps n.step f) (map (amount_sum task l.steps n.step (value_before task l.steps n.step)) (entries_of f (snap_at task l.steps n.step).effect.assigns))) (snap_at task l.steps n.step).effect.increases next.can_increase).0 m).1)

  -- ---- the whole change, where the form before is known

  sum_is : (changed_entry task l.steps n.step (entries task l.steps n.step) f).form ≡ changed_form task l.steps n.step (value_before task l.steps n.step) f
  unfolding value_before
  sum_is = refl

  module _ (changed : changes task (snap_at task l.steps n.step) f ≡ true) (value : LinearForm) (can : CanMake (value_before task l.steps n.step f)) (is : value ≡ form_of (value_before task l.steps n.step f)) where
    after_is : value_after task l.steps n.step f ≡ changed_form task l.steps n.step (value_before task l.steps n.step) f
    after_is = after_changed task l.steps n.step f changed ∙ sum_is

    pub after_made : CanAddPicked f (last_picked f value n.assigns) n.increases → CanMake (value_after task l.steps n.step f)
    after_made a = subst CanMake (sym after_is) (form_made can (subst (λ (v : LinearForm). CanAddPicked f (last_picked f v n.assigns) n.increases) is a))

    pub after_unmade : CanMake (value_after task l.steps n.step f) → CanAddPicked f (last_picked f value n.assigns) n.increases
    after_unmade m = subst (λ (v : LinearForm). CanAddPicked f (last_picked f v n.assigns) n.increases) (sym is) (form_unmade (subst CanMake after_is m))

    pub change_is : (form : LinearForm) (rate : ℚ) → form ≡ added_picked f (last_picked f value n.assigns) n.increases → rate ≡ (change_at task l.steps n.step f).rate → change f n.step form rate ≡ change_at task l.steps n.step f
    change_is form rate e r = ap₂ (λ form rate. change f n.step form rate) (e ∙ ap (λ (v : LinearForm). added_picked f (last_picked f v n.assigns) n.increases) is ∙ sym form_is ∙ ap form_of (sym sum_is)) r
