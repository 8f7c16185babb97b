use Rattle.std.proofs.Common.{◌≡◌, drop}
use Rattle.rate_ledger.specs.Picking.{last_picked}
use Rattle.rate_ledger.proofs.amounts.last_picked.Given as goal

abbrev pub invariant-loop-written : goal.invariant-loop-written
invariant-loop-written l = last_picked l.fluent l.fn.value l.assigns ≡ last_picked l.fluent l.last (drop l.written-index l.assigns)
