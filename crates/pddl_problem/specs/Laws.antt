-- Believed: what follows from the definition of reading a problem of a domain.
use Rattle.std.specs.Prelude.{◌≡◌, ℕ, List}
use Rattle.pddl_terms.specs.declared.faults.PddlFault.{PddlFault}
use Rattle.pddl_terms.specs.declared.files.Domain.{Domain}
use Rattle.pddl_terms.specs.declared.files.Problem.{Problem}
use Rattle.pddl_problem.specs.Readings.{IsProblem, IsProblemFault}

-- A text is one problem of a domain at most, and has one refusal at most, and not both.

abbrev pub TextsAreOneProblem : Type 0
TextsAreOneProblem =
    (d : Domain) (text : List ℕ) (p q : Problem) → IsProblem d text p → IsProblem d text q → p ≡ q

abbrev pub TextsHaveOneFault : Type 0
TextsHaveOneFault =
    (d : Domain) (text : List ℕ) (f g : PddlFault) → IsProblemFault d text f → IsProblemFault d text g
    → f ≡ g

abbrev pub ProblemsHaveNoFault : Type 0
ProblemsHaveNoFault =
    (d : Domain) (text : List ℕ) (p : Problem) (f : PddlFault) → IsProblem d text p
    → IsProblemFault d text f → ⊥
