-- What holds after `solve`, whatever it answers.
use Rattle.std.proofs.Common.{◌≡◌, ℕ, length, Result, Ok, Err}
use Rattle.std.specs.Prelude.{IfOk, OnErr}
use Rattle.cert_core.specs.Programs.{Program}
use Rattle.lp_tableau.specs.declared.outcome.Outcome.{Outcome}
use Rattle.lp_tableau.specs.declared.outcome.Outcome.TheVariants.{Optimal, Infeasible, Spent, Wide}
use Rattle.lp_tableau.specs.Dictionaries.{Dictionary}
use Rattle.lp_tableau.specs.Meanings.{IsDictionary, StandsFor}
use Rattle.lp_tableau.specs.Outcomes.{IsOutcome}
use Rattle.lp_tableau.proofs.Choices.{StandsFor-outcome, size-outcome, StandsFor-chain, variables-chain, rows-chain, IsDictionary-chain}
use Rattle.lp_sparse.specs.Stops.{IsStopped}

-- what an outcome leaves is a dictionary
dictionary-at : (limit : ℕ) (first : Dictionary) (budget : ℕ) (last : Dictionary) (o : Outcome) → IsDictionary first → IsOutcome limit first budget last o → IsDictionary last
dictionary-at limit first budget last Optimal is w = IsDictionary-chain limit first w.0.0 last w.0.2 is
dictionary-at limit first budget last Infeasible is w = IsDictionary-chain limit first w.0.0 last w.0.2 is
dictionary-at limit first budget last (Spent n) is w = IsDictionary-chain limit first n last w.1 is
dictionary-at limit first budget last (Wide n) is w = IsDictionary-chain limit first n last w.1 is

module _ {E : Type 0} (limit : ℕ) (first : Dictionary) (budget : ℕ) (last : Dictionary) where
  -- the dictionary stands for the program as it did
  pub stands-after : (r : Result Outcome E) → IsDictionary first → IfOk r (IsOutcome limit first budget last) → OnErr r (IsStopped limit first budget last) → (p : Program) → StandsFor p first → StandsFor p last
  stands-after (Ok o) is w s p h = StandsFor-outcome limit p first budget last o is w h
  stands-after (Err e) is w s p h = StandsFor-chain limit p first s.0 last s.2 is h

  -- and has as many variables and rows
  pub size-after : (r : Result Outcome E) → IfOk r (IsOutcome limit first budget last) → OnErr r (IsStopped limit first budget last) → (length last.nonbasic ≡ length first.nonbasic) × (length last.rows ≡ length first.rows)
  size-after (Ok o) w s = size-outcome limit first budget last o w
  size-after (Err e) w s = (variables-chain limit first s.0 last s.2, rows-chain limit first s.0 last s.2)

  -- it is a dictionary still
  pub dictionary-after : (r : Result Outcome E) → IsDictionary first → IfOk r (IsOutcome limit first budget last) → OnErr r (IsStopped limit first budget last) → IsDictionary last
  dictionary-after (Ok o) is w s = dictionary-at limit first budget last o is w
  dictionary-after (Err e) is w s = IsDictionary-chain limit first s.0 last s.2 is
