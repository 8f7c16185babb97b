-- Private: what the code answers about the next turn.
use Rattle.std.specs.Prelude.{ℕ}
use Rattle.lp_tableau.specs.declared.turn.Turn.{Turn}
use Rattle.lp_tableau.specs.declared.turn.Turn.TheVariants.{Optimal, Infeasible, Pivot, Wide}
use Rattle.lp_tableau.specs.Dictionaries.{Dictionary}
use Rattle.lp_tableau.specs.Chains.{EndsOptimal, EndsInfeasible, EntersSecond, Chooses, CanCompare}

-- the chain ends, or the pivot is chosen, or a ratio that choosing takes is not defined
abbrev pub IsTurn : ℕ → Dictionary → Turn → Type 0
IsTurn limit d Optimal = EndsOptimal d
IsTurn limit d Infeasible = (i : ℕ) × EndsInfeasible d i
IsTurn limit d (Pivot i j) = Chooses limit d i j
IsTurn limit d Wide = (j : ℕ) × EntersSecond d j × ¬ CanCompare limit d j
