-- Believed: what follows from the definitions of the first phase that finds anything, and of reading a domain.
use Rattle.std.specs.Prelude.{◌≡◌, ℕ, List, [], ◌∷◌, ◌++◌, All, Some, None, ◌↔◌}
use Rattle.pddl_terms.specs.declared.faults.PddlFault.{PddlFault}
use Rattle.pddl_terms.specs.declared.files.Domain.{Domain}
use Rattle.pddl_names.specs.declared.offences.Offence.{Offence}
use Rattle.pddl_names.specs.Laws.{IsFirst}
use Rattle.pddl_domain.specs.Phases.{first_of_phases}
use Rattle.pddl_domain.specs.Readings.{IsDomain, IsDomainFault}

-- an offence of a phase, before which no phase has any, and of whose offences it is the first
pub record IsOfFirstPhase (phases : List (List Offence)) (o : Offence) : Type 0 where
  pub before : List (List Offence)
  pub phase : List Offence
  pub later : List (List Offence)
  pub whole : phases ≡ before ++ (phase ∷ later)
  pub right : All (λ p. p ≡ []) before
  pub first : IsFirst phase o

-- What is found is an offence of the first phase that has any, and nothing is found exactly where no phase has one.
pub record FirstPhaseCounts (phases : List (List Offence)) (o : Offence) : Type 0 where
  pub some : first_of_phases phases ≡ Some o → IsOfFirstPhase phases o
  pub none : (first_of_phases phases ≡ None) ↔ All (λ p. p ≡ []) phases

-- A text is one domain at most, and has one refusal at most, and not both.

abbrev pub TextsAreOneDomain : Type 0
TextsAreOneDomain = (text : List ℕ) (d e : Domain) → IsDomain text d → IsDomain text e → d ≡ e

abbrev pub TextsHaveOneFault : Type 0
TextsHaveOneFault = (text : List ℕ) (f g : PddlFault) → IsDomainFault text f → IsDomainFault text g → f ≡ g

abbrev pub DomainsHaveNoFault : Type 0
DomainsHaveNoFault = (text : List ℕ) (d : Domain) (f : PddlFault) → IsDomain text d → IsDomainFault text f → ⊥
