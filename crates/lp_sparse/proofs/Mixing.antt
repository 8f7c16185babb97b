-- A chain that is walked in two widths.
use Rattle.std.proofs.Common.{◌≡◌, ℕ, zero, suc, ◌+◌, ◌-◌, ◌<◌, ◌≤◌, sym, subst, ◌∙◌, ⊎_elim, arith}
use Rattle.exact_lin.specs.Reckoning.{narrow_limit, wide_limit}
use Rattle.exact_lin.specs.Limits.{narrow-below_wide}
use Rattle.lp_tableau.specs.declared.outcome.Outcome.{Outcome}
use Rattle.lp_tableau.specs.declared.outcome.Outcome.TheVariants.{Optimal, Infeasible, Spent, Wide}
use Rattle.lp_tableau.specs.Dictionaries.{Dictionary}
use Rattle.lp_tableau.specs.Chains.{Leads, HasEnded, IsUndefined}
use Rattle.lp_tableau.specs.Meanings.{IsDictionary}
use Rattle.lp_tableau.specs.Outcomes.{IsOutcome}
use Rattle.lp_tableau.proofs.Choices.{IsDictionary-chain}
use Rattle.lp_tableau.proofs.Turning.{EntersSecond-not_ended, Chooses-not_ended}
use Rattle.lp_tableau.proofs.Uniqueness.{Leads-larger}
use Rattle.lp_sparse.specs.Stops.{IsStopped}
use Rattle.lp_sparse.specs.Widths.{counted_from, CountsAtMost}

-- one chain behind another
Leads-append : (limit : ℕ) (d e : Dictionary) (n : ℕ) → Leads limit d n e → (m : ℕ) (f : Dictionary) → Leads limit e m f → Leads limit d (n + m) f
Leads-append limit d e n l zero f h = subst (λ (k : ℕ). Leads limit d k f) (let z : n ≡ n + 0 = omega arith in z) (subst (Leads limit d n) (sym h) l)
Leads-append limit d e n l (suc m) f h = subst (λ (k : ℕ). Leads limit d k f) (let z : suc (n + m) ≡ n + suc m = omega arith in z) (h.0, Leads-append limit d e n l m h.0 h.1, h.2)

-- what is defined in parts of 64 bits is in parts of 128
pub widened-leads : (d : Dictionary) (n : ℕ) (e : Dictionary) → Leads narrow_limit d n e → Leads wide_limit d n e
widened-leads d n e l = Leads-larger narrow_limit wide_limit narrow-below_wide d n e l

pub widened-stopped : (first : Dictionary) (budget : ℕ) (last : Dictionary) → IsStopped narrow_limit first budget last → IsStopped wide_limit first budget last
widened-stopped first budget last s = (s.0, s.1, widened-leads first s.0 last s.2, s.3)

-- where the next pivot isn't defined in parts of 64 bits, and there is no memory to go on
pub undefined-stopped : (first : Dictionary) (budget n : ℕ) (last : Dictionary) → IsDictionary first → IsOutcome narrow_limit first budget last (Wide n) → IsStopped wide_limit first budget last
undefined-stopped first budget n last is o =
    let there = IsDictionary-chain narrow_limit first n last o.1 is in
    (n, o.0, widened-leads first n last o.1, λ e. ⊎_elim (λ a. EntersSecond-not_ended last a.0 a.1 e) (λ b. Chooses-not_ended narrow_limit last b.0 b.1 there b.2 e) o.2)

module _ (limit : ℕ) (first middle : Dictionary) (made budget : ℕ) (h : made ≤ budget) (l : Leads limit first made middle) (last : Dictionary) where
  -- an outcome of the rest is one of the whole, with the pivots before it counted
  pub counted-outcome : (o : Outcome) → IsOutcome limit middle (budget - made) last o → IsOutcome limit first budget last (counted_from made o)
  counted-outcome Optimal w = ((made + w.0.0, omega (arith, w.0.1, h), Leads-append limit first middle made l w.0.0 last w.0.2), w.1)
  counted-outcome Infeasible w = ((made + w.0.0, omega (arith, w.0.1, h), Leads-append limit first middle made l w.0.0 last w.0.2), w.1)
  counted-outcome (Spent n) w = (omega (arith, w.0, h), Leads-append limit first middle made l n last w.1, w.2)
  counted-outcome (Wide n) w = (omega (arith, w.0, h), Leads-append limit first middle made l n last w.1, w.2)

  pub counted-stopped : IsStopped limit middle (budget - made) last → IsStopped limit first budget last
  counted-stopped s = (made + s.0, omega (arith, s.1, h), Leads-append limit first middle made l s.0 last s.2, s.3)

pub outcome-counts : (limit : ℕ) (first : Dictionary) (budget : ℕ) (last : Dictionary) (o : Outcome) → IsOutcome limit first budget last o → CountsAtMost budget o
outcome-counts limit first budget last Optimal w = tt
outcome-counts limit first budget last Infeasible w = tt
outcome-counts limit first budget last (Spent n) w = omega (arith, w.0)
outcome-counts limit first budget last (Wide n) w = omega (arith, w.0)

-- an outcome in parts of 64 bits, other than that the next pivot isn't defined in them, is one in parts of 128
module _ (first : Dictionary) (budget : ℕ) (last : Dictionary) where
  pub widened-optimal : IsOutcome narrow_limit first budget last Optimal → IsOutcome wide_limit first budget last Optimal
  widened-optimal w = ((w.0.0, w.0.1, widened-leads first w.0.0 last w.0.2), w.1)

  pub widened-infeasible : IsOutcome narrow_limit first budget last Infeasible → IsOutcome wide_limit first budget last Infeasible
  widened-infeasible w = ((w.0.0, w.0.1, widened-leads first w.0.0 last w.0.2), w.1)

  pub widened-spent : (n : ℕ) → IsOutcome narrow_limit first budget last (Spent n) → IsOutcome wide_limit first budget last (Spent n)
  widened-spent n w = (w.0, widened-leads first n last w.1, w.2)
