use Rattle.std.proofs.Common.{ap, ℤ, ℕ}
use Rattle.exact_lin.specs.Reckoning.{narrow_limit, SumFits}
use Rattle.exact_lin.proofs.Parts.{narrow, sum-made, at_parts}
use Rattle.exact_lin.proofs.fractions.NarrowScalar.add.Goals as goal

pub invariant_of-result : goal.invariant_of-result
invariant_of-result c = (sum-made narrow _ _ _ _ c.args.self c.args.other c.self.invariant c.self.view_is c.other.invariant c.other.view_is c.in-Some.num c.in-Some.den c.in-Some.ensures.0 (ap (λ (p : ℤ × ℕ). p.0) c.in-Some.ensures.1) (ap (λ (p : ℤ × ℕ). p.1) c.in-Some.ensures.1)).inside

pub returns-in-Some : goal.returns-in-Some
returns-in-Some c = let m = sum-made narrow _ _ _ _ c.args.self c.args.other c.self.invariant c.self.view_is c.other.invariant c.other.view_is c.in-Some.num c.in-Some.den c.in-Some.ensures.0 (ap (λ (p : ℤ × ℕ). p.0) c.in-Some.ensures.1) (ap (λ (p : ℤ × ℕ). p.1) c.in-Some.ensures.1) in (m.fit, m.is)

pub returns-in-None : goal.returns-in-None
returns-in-None c = λ h. c.in-None.ensures (at_parts narrow _ _ _ _ c.args.self c.args.other c.self.invariant c.self.view_is c.other.invariant c.other.view_is (SumFits narrow_limit) h)
