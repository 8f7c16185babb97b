use Rattle.lp_tableau.proofs.Uniqueness.{narrow_pivots-wide, narrow_chains-wide}
use Rattle.lp_tableau.proofs.laws.narrow_chains_are_wide.Goals as goal

pub returns-clause-pivots : goal.returns-clause-pivots
returns-clause-pivots c = narrow_pivots-wide

pub returns-clause-chains : goal.returns-clause-chains
returns-clause-chains c = narrow_chains-wide
