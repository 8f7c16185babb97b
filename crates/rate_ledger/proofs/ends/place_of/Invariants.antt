use Rattle.std.proofs.Common.{◌≡◌, ◌+◌, drop}
use Rattle.rate_ledger.specs.Entries.{place_of}
use Rattle.rate_ledger.proofs.ends.place_of.Given as goal

abbrev pub invariant-loop-place : goal.invariant-loop-place
invariant-loop-place l = place_of l.action l.actions ≡ l.place + place_of l.action (drop l.place l.actions)
