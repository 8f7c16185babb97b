-- Ledgers of whole lists.
use Rattle.std.proofs.Common.{◌≡◌, sym, ap, subst, ℕ, ◌<◌, List, map, length, arith}
use Rattle.std.specs.Prelude.{slice_index_or}
use Rattle.rational.specs.Rational.{zeroℚ}
use Rattle.task_types.specs.declared.parts.TaskParts.{TaskParts}
use Rattle.task_types.specs.Course.{initial}
use Rattle.rate_ledger.specs.declared.ledgers.Ledger.{Ledger}
use Rattle.rate_ledger.specs.declared.list_ledgers.ListLedger.{ListLedger}
use Rattle.rate_ledger.specs.Ledgers.{Keeps, AllDefined}
use Rattle.rate_ledger.specs.Reckoned.{AreDefined, step_made}

pub first_is : (task : TaskParts) (l : Ledger) → l.first ≡ map (λ f. f.value) task.fluents → (f : ℕ) → slice_index_or l.first f zeroℚ ≡ (initial task).fluents f
unfolding initial
first_is task l e f = ap (λ qs. slice_index_or qs f zeroℚ) e

-- where each step is taken, each makes only what is defined
pub all_defined : (task : TaskParts) (l : ListLedger) (steps : List ℕ) → Keeps task l → l.steps ≡ steps → length l.changes ≡ length steps → AllDefined task steps
all_defined task l steps k e h = λ i s. subst (λ xs. AreDefined (step_made task xs i)) e (k.defined i (omega (arith, s, h)))

-- the step that isn't taken yet is one of them
pub step_needed : (task : TaskParts) (l : ListLedger) (steps : List ℕ) → l.steps ≡ steps → length l.changes < length steps → AllDefined task steps → AreDefined (step_made task l.steps (length l.changes))
step_needed task l steps e h all = subst (λ xs. AreDefined (step_made task xs (length l.changes))) (sym e) (all (length l.changes) h)
