use Rattle.std.proofs.Common.{sym, subst}
use Rattle.task_types.specs.WellMade.{IsWellMade}
use Rattle.rate_ledger.proofs.Filling.{well_made}
use Rattle.rate_ledger.proofs.tests.task.Goals as goal

pub of_parts-requires : goal.of_parts-requires
of_parts-requires c = subst IsWellMade (sym c.in_ok-parts.ensures) well_made
