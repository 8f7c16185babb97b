use Rattle.std.proofs.Common.{subst, sym, ap, ◌∙◌}
use Rattle.cert_core.specs.Programs.{ProvesCost}
use Rattle.lp_tableau.specs.Dictionaries.{value_of}
use Rattle.lp_tableau.specs.Meanings.{IsDictionary}
use Rattle.lp_tableau.specs.Multipliers.{dual_of, numbered}
use Rattle.lp_tableau.proofs.Certificates.{dual-proves}
use Rattle.lp_sparse.proofs.mixed.MixedDictionary.dual_into.Goals as goal

pub returns-clause-proves : goal.returns-clause-proves
returns-clause-proves g c = λ p h. subst (λ ys. ProvesCost p (numbered 0 ys) (value_of c.args.self.now)) (sym (c.write_dual_of.ensures ∙ ap dual_of c.self.view_is))
    (dual-proves p c.args.self.now (subst IsDictionary c.self.view_is c.self.invariant) c.requires.optimal h)
