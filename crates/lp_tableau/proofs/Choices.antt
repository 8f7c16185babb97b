-- The pivot that the rules name is a pivot: its places are in range, and its entry is not 0.
use Rattle.std.proofs.Common.{◌≡◌, ℕ, zero, suc, ◌<◌, ⊎_elim, length, refl, sym, ap, subst, ◌∙◌, [], ◌∷◌}
use Rattle.std.proofs.lemmas.List.{length-set}
use Rattle.lp_tableau.specs.Pivots.{solved}
use Rattle.rational.specs.Rational.{ℚ, zeroℚ, ◌<ℚ◌}
use Rattle.rational.proofs.Ring.{num, ◌≺◌, ◌≐◌}
use Rattle.rational.proofs.Order.{ℚ_ordered}
use Rattle.rational.proofs.Solve.{contradiction}
use Rattle.rational.proofs.Inequalities.{positive_not_zero}
use Rattle.cert_core.specs.Programs.{Program}
use Rattle.lp_tableau.specs.Dictionaries.{Dictionary, entry_of, row_of, basic_of}
use Rattle.lp_tableau.specs.Chains.{Chooses, Steps, Leads}
use Rattle.lp_tableau.specs.Meanings.{IsDictionary, StandsFor}
use Rattle.lp_tableau.specs.Outcomes.{IsOutcome}
use Rattle.lp_tableau.specs.declared.outcome.Outcome.{Outcome}
use Rattle.lp_tableau.specs.declared.outcome.Outcome.TheVariants.{Optimal, Infeasible, Spent, Wide}
use Rattle.lp_tableau.proofs.Keeping.{IsDictionary-pivoted, StandsFor-pivoted, length-replaced_rows}

neg-not_zero : (a : ℚ) → a <ℚ zeroℚ → ¬ (a ≡ zeroℚ)
neg-not_zero a h e = contradiction ℚ_ordered (a ∷ []) (λ a. a ≺ num 0 ∷ a ≐ num 0 ∷ []) (h, (e, tt)) refl

module _ (limit : ℕ) (d : Dictionary) (i j : ℕ) where
  pub Chooses-row : Chooses limit d i j → i < length d.rows
  Chooses-row c = ⊎_elim (λ a. a.leaves.below) (λ a. a.0.leaves.below) c

  pub Chooses-column : Chooses limit d i j → j < length d.nonbasic
  Chooses-column c = ⊎_elim (λ a. a.enters.below) (λ a. a.0.enters.enters.below) c

  pub Chooses-not_zero : Chooses limit d i j → ¬ (entry_of d i j ≡ zeroℚ)
  Chooses-not_zero c = ⊎_elim (λ a. positive_not_zero (entry_of d i j) a.enters.passes) (λ a. neg-not_zero (entry_of d i j) a.0.leaves.passes) c

-- a step keeps what is true of each dictionary
pub IsDictionary-step : (limit : ℕ) (d e : Dictionary) → Steps limit d e → IsDictionary d → IsDictionary e
IsDictionary-step limit d e s is = subst IsDictionary (sym s.gives) (IsDictionary-pivoted d s.leaving s.entering is (Chooses-row limit d s.leaving s.entering s.chosen) (Chooses-column limit d s.leaving s.entering s.chosen) (Chooses-not_zero limit d s.leaving s.entering s.chosen))

pub StandsFor-step : (limit : ℕ) (p : Program) (d e : Dictionary) → Steps limit d e → IsDictionary d → StandsFor p d → StandsFor p e
StandsFor-step limit p d e s is f = subst (StandsFor p) (sym s.gives) (StandsFor-pivoted d s.leaving s.entering is (Chooses-row limit d s.leaving s.entering s.chosen) (Chooses-column limit d s.leaving s.entering s.chosen) (Chooses-not_zero limit d s.leaving s.entering s.chosen) p f)

pub IsDictionary-chain : (limit : ℕ) (d : Dictionary) (n : ℕ) (e : Dictionary) → Leads limit d n e → IsDictionary d → IsDictionary e
IsDictionary-chain limit d zero e l is = subst IsDictionary (sym l) is
IsDictionary-chain limit d (suc n) e l is = IsDictionary-step limit l.0 e l.2 (IsDictionary-chain limit d n l.0 l.1 is)

pub StandsFor-chain : (limit : ℕ) (p : Program) (d : Dictionary) (n : ℕ) (e : Dictionary) → Leads limit d n e → IsDictionary d → StandsFor p d → StandsFor p e
StandsFor-chain limit p d zero e l is f = subst (StandsFor p) (sym l) f
StandsFor-chain limit p d (suc n) e l is f = StandsFor-step limit p l.0 e l.2 (IsDictionary-chain limit d n l.0 l.1 is) (StandsFor-chain limit p d n l.0 l.1 is f)

-- whatever `solve` answers, the dictionary stands for the same program
pub StandsFor-outcome : (limit : ℕ) (p : Program) (d : Dictionary) (budget : ℕ) (e : Dictionary) (result : Outcome) → IsDictionary d → IsOutcome limit d budget e result → StandsFor p d → StandsFor p e
StandsFor-outcome limit p d budget e Optimal is o f = StandsFor-chain limit p d o.0.0 e o.0.2 is f
StandsFor-outcome limit p d budget e Infeasible is o f = StandsFor-chain limit p d o.0.0 e o.0.2 is f
StandsFor-outcome limit p d budget e (Spent n) is o f = StandsFor-chain limit p d n e o.1 is f
StandsFor-outcome limit p d budget e (Wide n) is o f = StandsFor-chain limit p d n e o.1 is f

-- and it has as many variables and rows
pub variables-chain : (limit : ℕ) (d : Dictionary) (n : ℕ) (e : Dictionary) → Leads limit d n e → length e.nonbasic ≡ length d.nonbasic
variables-chain limit d zero e l = ap (λ (f : Dictionary). length f.nonbasic) l
variables-chain limit d (suc n) e l = ap (λ (f : Dictionary). length f.nonbasic) l.2.gives ∙ length-set l.0.nonbasic l.2.entering (basic_of l.0 l.2.leaving) ∙ variables-chain limit d n l.0 l.1

pub rows-chain : (limit : ℕ) (d : Dictionary) (n : ℕ) (e : Dictionary) → Leads limit d n e → length e.rows ≡ length d.rows
rows-chain limit d zero e l = ap (λ (f : Dictionary). length f.rows) l
rows-chain limit d (suc n) e l = ap (λ (f : Dictionary). length f.rows) l.2.gives ∙ length-replaced_rows (solved (row_of l.0 l.2.leaving) l.2.entering) l.2.leaving l.2.entering l.0.rows ∙ rows-chain limit d n l.0 l.1

pub size-outcome : (limit : ℕ) (d : Dictionary) (budget : ℕ) (e : Dictionary) (result : Outcome) → IsOutcome limit d budget e result → (length e.nonbasic ≡ length d.nonbasic) × (length e.rows ≡ length d.rows)
size-outcome limit d budget e Optimal o = (variables-chain limit d o.0.0 e o.0.2, rows-chain limit d o.0.0 e o.0.2)
size-outcome limit d budget e Infeasible o = (variables-chain limit d o.0.0 e o.0.2, rows-chain limit d o.0.0 e o.0.2)
size-outcome limit d budget e (Spent n) o = (variables-chain limit d n e o.1, rows-chain limit d n e o.1)
size-outcome limit d budget e (Wide n) o = (variables-chain limit d n e o.1, rows-chain limit d n e o.1)
