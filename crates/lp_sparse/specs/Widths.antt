-- Private: a dictionary in either width, and how far the chain comes in parts of 64 bits.
use Rattle.std.specs.Prelude.{◌≡◌, ℕ, ◌+◌, ◌≤◌}
use Rattle.exact_lin.specs.Reckoning.{wide_limit}
use Rattle.lp_tableau.specs.declared.outcome.Outcome.{Outcome}
use Rattle.lp_tableau.specs.declared.outcome.Outcome.TheVariants.{Optimal, Infeasible, Spent, Wide}
use Rattle.lp_tableau.specs.Dictionaries.{Dictionary}
use Rattle.lp_tableau.specs.Chains.{Leads}
use Rattle.lp_tableau.specs.Outcomes.{IsOutcome}
use Rattle.lp_sparse.specs.declared.mixed.Part.{Part}
use Rattle.lp_sparse.specs.declared.mixed.Part.TheVariants.{Over, Made}
use Rattle.lp_sparse.specs.declared.width.Width.{Width}
use Rattle.lp_sparse.specs.declared.width.Width.TheVariants.{In64, In128}

-- the dictionary, whatever its width
abbrev pub shown_by : {R V : Type 0} → Width R V → Dictionary
shown_by (In64 d) = d
shown_by (In128 d) = d

-- it is in parts of 128 bits
abbrev pub IsWidened : {R V : Type 0} → Width R V → Type 0
IsWidened (In64 d) = ⊥
IsWidened (In128 d) = Unit {0}

-- the chain is over with this outcome, or goes on after so many pivots
abbrev pub IsFirstPart : Dictionary → ℕ → Dictionary → Part → Type 0
IsFirstPart first budget last (Over o) = IsOutcome wide_limit first budget last o
IsFirstPart first budget last (Made n) = (n ≤ budget) × Leads wide_limit first n last

abbrev pub GoesOn : Part → Type 0
GoesOn (Over o) = ⊥
GoesOn (Made n) = Unit {0}

-- the outcome with so many pivots more
abbrev pub counted_from : ℕ → Outcome → Outcome
counted_from made Optimal = Optimal
counted_from made Infeasible = Infeasible
counted_from made (Spent n) = Spent (made + n)
counted_from made (Wide n) = Wide (made + n)

-- it counts at most so many
abbrev pub CountsAtMost : ℕ → Outcome → Type 0
CountsAtMost most Optimal = Unit {0}
CountsAtMost most Infeasible = Unit {0}
CountsAtMost most (Spent n) = n ≤ most
CountsAtMost most (Wide n) = n ≤ most
