use Rattle.std.proofs.Common.{◌≡◌, drop}
use Rattle.std.specs.Prelude.{◌↔◌}
use Rattle.rate_ledger.specs.Picking.{added_picked, CanAddPicked}
use Rattle.rate_ledger.proofs.amounts.added_picked.Given as goal

abbrev pub invariant-loop-written : goal.invariant-loop-written
invariant-loop-written l = (added_picked l.fluent l.fn.form l.increases ≡ added_picked l.fluent l.sum (drop l.written-index l.increases))
    × (CanAddPicked l.fluent l.fn.form l.increases ↔ CanAddPicked l.fluent l.sum (drop l.written-index l.increases))
