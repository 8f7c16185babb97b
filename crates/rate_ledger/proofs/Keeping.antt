-- A ledger that takes its next step keeps what it is to keep.
use Rattle.std.proofs.Common.{◌≡◌, sym, ap, subst, ◌∙◌, ℕ, suc, ◌+◌, ◌<◌, ◌≤◌, Option, Some, None, List, [], ◌∷◌, ◌++◌, map, length, take, length-append, arith, inl, inr}
use Rattle.std.specs.Prelude.{◌⊎◌, not, fold, option_to_list, slice_index}
use Rattle.std.proofs.lemmas.List.{take_more}
use Rattle.basics.proofs.Lists.{each_append, each_left, each_right, each_map, filter-shorter}
use Rattle.task_types.specs.declared.actions.SnapKind.{SnapKind}
use Rattle.task_types.specs.declared.actions.SnapKind.TheVariants.{Start, End, Instant, Timed}
use Rattle.task_types.specs.declared.parts.TaskParts.{TaskParts}
use Rattle.task_types.specs.Sets.{is_in, numbers}
use Rattle.task_types.specs.Plan.{snap_of}
use Rattle.task_types.specs.Order.{run_on, running}
use Rattle.task_types.proofs.Everyone.{all_of_map}
use Rattle.task_types.proofs.Places.{map-numbers-more}
use Rattle.task_types.proofs.StepCounts.{running-more}
use Rattle.rate_ledger.specs.declared.changes.Change.{Change}
use Rattle.rate_ledger.specs.declared.list_ledgers.ListLedger.{ListLedger}
use Rattle.rate_ledger.specs.declared.nexts.Next.{Next}
use Rattle.rate_ledger.specs.Entries.{snap_at, amount_sum, value_before}
use Rattle.rate_ledger.specs.Ledgers.{Keeps, changes_at}
use Rattle.rate_ledger.specs.Picking.{CanMakeAmounts, IsNext}
use Rattle.rate_ledger.specs.Reckoned.{Made, OfForm, IsDefined, AreDefined, step_made}
use Rattle.rate_ledger.proofs.Changing.{due}

-- ---- the actions that run

module _ (task : TaskParts) where
  on_few : (kind : SnapKind) (own : Option ℕ) (runs : List ℕ) → length (run_on kind (option_to_list own) runs) ≤ length runs + 1
  on_few Start None runs = omega (arith, length-append runs [])
  on_few Start (Some a) runs = omega (arith, length-append runs (a ∷ []))
  on_few End own runs = omega (arith, filter-shorter (λ a. not (is_in a (option_to_list own))) runs)
  on_few Instant own runs = omega arith
  on_few Timed own runs = omega arith

  after_few : (runs steps : List ℕ) → length (fold (λ actions s. run_on (snap_of task s).kind (option_to_list (snap_of task s).action) actions) runs steps) ≤ length runs + length steps
  after_few runs [] = omega arith
  after_few runs (s ∷ ss) = omega (arith, after_few (run_on (snap_of task s).kind (option_to_list (snap_of task s).action) runs) ss, on_few (snap_of task s).kind (snap_of task s).action runs)

  -- no more actions run after some steps than there are steps
  pub running_few : (steps : List ℕ) → length (running task steps) ≤ length steps
  running_few steps = omega (arith, after_few [] steps)

  pub running_next : (steps : List ℕ) (k : ℕ) → k < length steps → running task (take (k + 1) steps) ≡ run_on (snap_at task steps k).kind (option_to_list (snap_at task steps k).action) (running task (take k steps))
  running_next steps k l = ap (running task) (take_more steps k 0 l) ∙ running-more task (take k steps) (slice_index steps k)

-- ---- what a step makes

module _ (task : TaskParts) (steps : List ℕ) (k : ℕ) where
  abbrev pub of_step : List Made
  of_step = due task steps k (numbers (length task.fluents))

  abbrev amounts_made : List Made
  amounts_made = map (λ e. OfForm (amount_sum task steps k (value_before task steps k) e.1)) ((snap_at task steps k).effect.assigns ++ (snap_at task steps k).effect.increases)

  pub amounts_needed : AreDefined (step_made task steps k) → CanMakeAmounts task steps k ((snap_at task steps k).effect.assigns ++ (snap_at task steps k).effect.increases)
  amounts_needed d = all_of_map IsDefined (λ e. OfForm (amount_sum task steps k (value_before task steps k) e.1)) ((snap_at task steps k).effect.assigns ++ (snap_at task steps k).effect.increases) (each_left IsDefined amounts_made of_step d)

  pub changes_needed : (n : ℕ) → n ≡ k → AreDefined (step_made task steps k) → AreDefined (due task steps n (numbers (length task.fluents)))
  changes_needed n e d = subst (λ m. AreDefined (due task steps m (numbers (length task.fluents)))) (sym e) (each_right IsDefined amounts_made of_step d)

  pub step_defined : CanMakeAmounts task steps k ((snap_at task steps k).effect.assigns ++ (snap_at task steps k).effect.increases) → AreDefined of_step → AreDefined (step_made task steps k)
  step_defined a c = each_append IsDefined amounts_made of_step (each_map IsDefined (λ e. OfForm (amount_sum task steps k (value_before task steps k) e.1)) ((snap_at task steps k).effect.assigns ++ (snap_at task steps k).effect.increases) a) c

-- ---- the ledger with the step

abbrev pub with_step : ListLedger → Next → List Change → ListLedger
with_step l n made = record l { running = n.running; changes = l.changes ++ made ∷ [] }

pub one_longer : (l : ListLedger) (made : List Change) → length (l.changes ++ made ∷ []) ≡ suc (length l.changes)
one_longer l made = let e : length (l.changes ++ made ∷ []) ≡ length l.changes + 1 = length-append l.changes (made ∷ []) in omega (arith, e)

module _ (task : TaskParts) (l : ListLedger) (keeps : Keeps task l) (n : Next) (next : IsNext task l n) (more : length l.changes < length l.steps) (made : List Change) where
  -- with the changes of the step, where all of it is defined
  pub step_made_whole : CanMakeAmounts task l.steps (length l.changes) ((snap_at task l.steps (length l.changes)).effect.assigns ++ (snap_at task l.steps (length l.changes)).effect.increases)
      → AreDefined (due task l.steps n.step (numbers (length task.fluents))) → AreDefined (step_made task l.steps (length l.changes))
  step_made_whole a c = step_defined task l.steps (length l.changes) a (subst (λ m. AreDefined (due task l.steps m (numbers (length task.fluents)))) next.step c)

  pub Keeps-next : made ≡ changes_at task l.steps n.step → AreDefined (step_made task l.steps (length l.changes)) → Keeps task (with_step l n made)
  Keeps-next e d = record {
    in_range = keeps.in_range;
    pending = keeps.pending;
    running = next.running ∙ ap (λ k. running task (take k l.steps)) (ap (λ k. k + 1) next.step ∙ sym longer);
    changes = ap (λ c. l.changes ++ c ∷ []) (e ∙ ap (changes_at task l.steps) next.step) ∙ ap (λ cs. cs ++ changes_at task l.steps (length l.changes) ∷ []) keeps.changes
        ∙ sym (map-numbers-more (changes_at task l.steps) (length l.changes)) ∙ ap (λ k. map (changes_at task l.steps) (numbers k)) (sym longer);
    within = omega (arith, longer, more);
    defined = λ k h. all k (below k (length l.changes) (omega (arith, h, longer)));
  }
    where
      longer : length (l.changes ++ made ∷ []) ≡ length l.changes + 1
      longer = length-append l.changes (made ∷ [])

      below : (k m : ℕ) → k < m + 1 → (k < m) ⊎ (k ≡ m)
      below k m h = grind arith

      all : (k : ℕ) → (k < length l.changes) ⊎ (k ≡ length l.changes) → AreDefined (step_made task l.steps k)
      all k (inl h) = keeps.defined k h
      all k (inr h) = subst (λ m. AreDefined (step_made task l.steps m)) (sym h) d
