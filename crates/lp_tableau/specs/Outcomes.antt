-- Believed: what `solve` answers.
use Rattle.std.specs.Prelude.{◌≡◌, ℕ, ◌<◌, ◌≤◌}
use Rattle.lp_tableau.specs.declared.outcome.Outcome.{Outcome}
use Rattle.lp_tableau.specs.declared.outcome.Outcome.TheVariants.{Optimal, Infeasible, Spent, Wide}
use Rattle.lp_tableau.specs.Dictionaries.{Dictionary}
use Rattle.lp_tableau.specs.Chains.{EndsOptimal, EndsInfeasible, HasEnded, IsUndefined, Leads}

-- the chain from `first` leads to `last`, where it ends, or where the budget of pivots is spent, or where the next pivot is not defined
abbrev pub IsOutcome : ℕ → Dictionary → ℕ → Dictionary → Outcome → Type 0
IsOutcome limit first budget last Optimal = ((n : ℕ) × (n ≤ budget) × Leads limit first n last) × EndsOptimal last
IsOutcome limit first budget last Infeasible = ((n : ℕ) × (n ≤ budget) × Leads limit first n last) × ((i : ℕ) × EndsInfeasible last i)
IsOutcome limit first budget last (Spent n) = (n ≡ budget) × Leads limit first n last × ¬ HasEnded last
IsOutcome limit first budget last (Wide n) = (n < budget) × Leads limit first n last × IsUndefined limit last
