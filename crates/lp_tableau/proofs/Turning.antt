-- Turn after turn: how far the chain has come.
use Rattle.std.proofs.Common.{◌≡◌, ℕ, suc, ◌+◌, ◌<◌, ◌⊎◌, inr, ⊎_elim, sym, subst, arith}
use Rattle.rational.specs.Rational.{ℚ}
use Rattle.lp_tableau.specs.declared.tableau.Tableau.{Tableau}
use Rattle.lp_tableau.specs.Tableaus.{dictionary_of}
use Rattle.lp_tableau.specs.Turns.{IsTurn}
use Rattle.lp_tableau.specs.declared.turn.Turn.{Turn}
use Rattle.lp_tableau.specs.declared.turn.Turn.TheVariants.{Pivot, Wide}
use Rattle.lp_tableau.specs.Dictionaries.{Dictionary}
use Rattle.lp_tableau.specs.Pivots.{pivoted, CanPivot}
use Rattle.lp_tableau.specs.Chains.{Chooses, Leads, HasEnded, IsUndefined, EntersSecond, LeavesFirst, IsRaising}
use Rattle.lp_tableau.specs.Meanings.{IsDictionary}

pub Leads-next : (limit : ℕ) (d : Dictionary) (n : ℕ) (e f : Dictionary) (i j : ℕ) → Leads limit d n e → Chooses limit e i j → CanPivot limit e i j → f ≡ pivoted e i j → Leads limit d (n + 1) f
Leads-next limit d n e f i j l c p g = subst (λ (m : ℕ). Leads limit d m f) more (e, l, record { leaving = i; entering = j; chosen = c; defined = p; gives = g })
  where
    more : suc n ≡ n + 1
    more = omega arith

-- ---- a chain that goes on has not ended
pub LeavesFirst-one : (d : Dictionary) (i k : ℕ) → IsDictionary d → LeavesFirst d i → LeavesFirst d k → i ≡ k
LeavesFirst-one d i k is a b = is.numbered.basic i k a.below b.below (omega (arith, a.first k b.below b.passes, b.first i a.below a.passes))

pub EntersSecond-not_ended : (d : Dictionary) (j : ℕ) → EntersSecond d j → ¬ HasEnded d
EntersSecond-not_ended d j a e = ⊎_elim (λ o. o.cheapest j a.enters.below a.enters.passes) (λ f. a.feasible f.0 f.1.leaves.below f.1.leaves.passes) e

pub Chooses-not_ended : (limit : ℕ) (d : Dictionary) (i j : ℕ) → IsDictionary d → Chooses limit d i j → ¬ HasEnded d
Chooses-not_ended limit d i j is c e = ⊎_elim
    (λ a. ⊎_elim (λ o. o.feasible i a.leaves.below a.leaves.passes) (λ f. f.1.stuck j a.enters.below (subst (λ (k : ℕ). IsRaising d k j) (LeavesFirst-one d i f.0 is a.leaves f.1.leaves) a.enters.passes)) e)
    (λ a. EntersSecond-not_ended d j a.0.enters e)
    c

-- a pivot that is not made leaves the dictionary as it was, and the chain ends there undefined
module _ {S : Type 0} (value : S → ℚ) (limit : ℕ) where
  pub failed : (first : Dictionary) (budget made : ℕ) (t after : Tableau S) (i j : ℕ) → made < budget → Leads limit first made (dictionary_of value t) → Chooses limit (dictionary_of value t) i j
      → (¬ CanPivot limit (dictionary_of value t) i j) × (after ≡ t)
      → (made < budget) × Leads limit first made (dictionary_of value after) × IsUndefined limit (dictionary_of value after)
  failed first budget made t after i j h l c p = subst (λ (u : Tableau S). (made < budget) × Leads limit first made (dictionary_of value u) × IsUndefined limit (dictionary_of value u)) (sym p.1) (h, l, inr (i, j, c, p.0))

-- the chain goes on where the next turn is a pivot, also one that is not defined
pub goes_on : (limit : ℕ) (d : Dictionary) (turn : Turn) → IsDictionary d → IsTurn limit d turn → ((i : ℕ) × (j : ℕ) × (turn ≡ Pivot i j)) ⊎ (turn ≡ Wide) → ¬ HasEnded d
goes_on limit d turn is h e = ⊎_elim
    (λ p. Chooses-not_ended limit d p.0 p.1 is (subst (IsTurn limit d) p.2 h))
    (λ w. let a = subst (IsTurn limit d) w h in EntersSecond-not_ended d a.0 a.1)
    e
