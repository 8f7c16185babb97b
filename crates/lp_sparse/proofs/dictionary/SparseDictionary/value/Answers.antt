use Rattle.std.proofs.Common.{subst, sym, ap, ◌∙◌}
use Rattle.cert_core.specs.Programs.{CostsAtLeast}
use Rattle.cert_core.proofs.Meaning.{ProvesCost-costs}
use Rattle.lp_tableau.specs.Dictionaries.{value_of}
use Rattle.lp_tableau.specs.Meanings.{IsDictionary}
use Rattle.lp_tableau.specs.Multipliers.{dual_of, numbered}
use Rattle.lp_tableau.proofs.Certificates.{dual-proves}
use Rattle.lp_sparse.proofs.dictionary.SparseDictionary.value.Goals as goal

pub returns-clause-least : goal.returns-clause-least
returns-clause-least g c = λ p h. subst (CostsAtLeast p) (sym (c.value.ensures ∙ ap value_of c.self.view_is))
    (ProvesCost-costs p (numbered 0 (dual_of c.args.self.now)) (value_of c.args.self.now) (dual-proves p c.args.self.now (subst IsDictionary c.self.view_is c.self.invariant.dictionary) c.requires h))
