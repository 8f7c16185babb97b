-- Turn after turn: where a pivot is not made.
use Rattle.std.proofs.Common.{◌≡◌, ℕ, ◌<◌, inr, List, sym, subst}
use Rattle.rational.specs.Rational.{ℚ}
use Rattle.cert_core.specs.Programs.{Program, ProvesEmpty}
use Rattle.lp_tableau.specs.Multipliers.{farkas_of, numbered}
use Rattle.lp_tableau.proofs.Certificates.{farkas-proves}
use Rattle.lp_tableau.specs.Dictionaries.{Dictionary}
use Rattle.lp_tableau.specs.Pivots.{CanPivot}
use Rattle.lp_tableau.specs.Chains.{Chooses, Leads, IsUndefined, EndsInfeasible, LeavesFirst}
use Rattle.lp_tableau.specs.Meanings.{IsDictionary, StandsFor}
use Rattle.lp_tableau.proofs.Turning.{Chooses-not_ended, LeavesFirst-one}
use Rattle.lp_sparse.specs.Stops.{IsStopped}

module _ (limit : ℕ) (first d e : Dictionary) (budget made i j : ℕ) (h : made < budget) (l : Leads limit first made d) (c : Chooses limit d i j) (same : e ≡ d) where
  -- because it is not defined
  pub not_made : ¬ CanPivot limit d i j → (made < budget) × Leads limit first made e × IsUndefined limit e
  not_made n = subst (λ (f : Dictionary). (made < budget) × Leads limit first made f × IsUndefined limit f) (sym same) (h, l, inr (i, j, c, n))

  -- for want of memory
  pub stopped : IsDictionary d → IsStopped limit first budget e
  stopped is = subst (IsStopped limit first budget) (sym same) (made, h, l, Chooses-not_ended limit d i j is c)

-- the row at which the chain ended infeasible is found again
pub found-proves : (d now : Dictionary) → d ≡ now → IsDictionary d → (i : ℕ) × EndsInfeasible now i → (k : ℕ) → LeavesFirst d k → (p : Program) → StandsFor p now → (ys : List ℚ) → ys ≡ farkas_of d k → ProvesEmpty p (numbered 0 ys)
found-proves d now v is inf k first p h ys o =
    let ends : EndsInfeasible d inf.0 = subst (λ (e : Dictionary). EndsInfeasible e inf.0) (sym v) inf.1 in
    subst (λ (u : List ℚ). ProvesEmpty p (numbered 0 u)) (sym o)
    (farkas-proves p d k is (subst (EndsInfeasible d) (LeavesFirst-one d inf.0 k is ends.leaves first) ends) (subst (StandsFor p) (sym v) h))
