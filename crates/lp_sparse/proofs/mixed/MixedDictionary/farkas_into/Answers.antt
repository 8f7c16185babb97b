use Rattle.std.proofs.Common.{subst, sym, ap, ◌∙◌}
use Rattle.cert_core.specs.Programs.{ProvesEmpty}
use Rattle.lp_tableau.specs.Dictionaries.{Dictionary}
use Rattle.lp_tableau.specs.Chains.{EndsInfeasible}
use Rattle.lp_tableau.specs.Meanings.{IsDictionary}
use Rattle.lp_tableau.specs.Multipliers.{farkas_of, numbered}
use Rattle.lp_tableau.proofs.Certificates.{farkas-proves}
use Rattle.lp_sparse.proofs.mixed.MixedDictionary.farkas_into.Goals as goal

pub returns-clause-proves : goal.returns-clause-proves
returns-clause-proves g c = λ p h.
    let i = c.requires.infeasible.0 in
    let ends = c.requires.infeasible.1 in
    subst (λ ys. ProvesEmpty p (numbered 0 ys)) (sym (c.write_farkas_of.ensures i (subst (λ (d : Dictionary). EndsInfeasible d i) (sym c.self.view_is) ends) ∙ ap (λ (d : Dictionary). farkas_of d i) c.self.view_is))
    (farkas-proves p c.args.self.now i (subst IsDictionary c.self.view_is c.self.invariant) ends h)
