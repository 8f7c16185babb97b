-- Believed: where a chain stands when it stops for want of memory.
use Rattle.std.specs.Prelude.{ℕ, ◌<◌}
use Rattle.lp_tableau.specs.Dictionaries.{Dictionary}
use Rattle.lp_tableau.specs.Chains.{HasEnded, Leads}

-- some pivots below the budget lead from `first` to `last`, the rules ask for another one, and it isn't made
abbrev pub IsStopped : ℕ → Dictionary → ℕ → Dictionary → Type 0
IsStopped limit first budget last = (n : ℕ) × (n < budget) × Leads limit first n last × ¬ HasEnded last
