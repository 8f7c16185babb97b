use Rattle.exact_lin.proofs.Parts.{eq-made}
use Rattle.exact_lin.proofs.fractions.FractionPartialEq.eq.Goals as goal

pub returns : goal.returns
returns c = eq-made _ _ _ _ c.args.self.now c.args.other.now c.t1-1.invariant c.t1-1.view_is c.t2-1.invariant c.t2-1.view_is _ _ c.eq.ensures c.and_eq.ensures
