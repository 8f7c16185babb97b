-- Believed: what is claimed of all chains.
use Rattle.std.specs.Prelude.{◌≡◌, ℕ}
use Rattle.exact_lin.specs.Reckoning.{narrow_limit, wide_limit}
use Rattle.lp_tableau.specs.declared.outcome.Outcome.{Outcome}
use Rattle.lp_tableau.specs.Dictionaries.{Dictionary}
use Rattle.lp_tableau.specs.Pivots.{CanPivot}
use Rattle.lp_tableau.specs.Chains.{Chooses, Leads}
use Rattle.lp_tableau.specs.Meanings.{IsDictionary}
use Rattle.lp_tableau.specs.Outcomes.{IsOutcome}

-- a pivot that is defined in narrow numbers is defined in wide ones; what it gives, `pivoted`, has no width
abbrev pub NarrowPivotsAreWide : Type 0
NarrowPivotsAreWide = (d : Dictionary) (i j : ℕ) → CanPivot narrow_limit d i j → CanPivot wide_limit d i j

-- the chain in narrow numbers is, as far as it is defined, the chain in wide ones
abbrev pub NarrowChainsAreWide : Type 0
NarrowChainsAreWide = (d : Dictionary) (n : ℕ) (e : Dictionary) → Leads narrow_limit d n e → Leads wide_limit d n e

-- the rules name one pivot
abbrev pub ChoicesAreOne : Type 0
ChoicesAreOne = (limit : ℕ) (d : Dictionary) (i j k l : ℕ) → IsDictionary d → Chooses limit d i j → Chooses limit d k l → (i ≡ k) × (j ≡ l)

-- a dictionary and a budget have one outcome, so each answer comes exactly where its case holds
abbrev pub OutcomesAreOne : Type 0
OutcomesAreOne = (limit : ℕ) (d : Dictionary) (budget : ℕ) (e f : Dictionary) (r s : Outcome) → IsDictionary d → IsOutcome limit d budget e r → IsOutcome limit d budget f s → (e ≡ f) × (r ≡ s)
