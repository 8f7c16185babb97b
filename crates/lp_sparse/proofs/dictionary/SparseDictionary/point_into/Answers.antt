use Rattle.std.proofs.Common.{subst, sym, ap, ◌∙◌, length}
use Rattle.cert_core.specs.Programs.{Solves, cost_at}
use Rattle.lp_tableau.specs.Dictionaries.{Dictionary}
use Rattle.lp_tableau.specs.Meanings.{IsDictionary}
use Rattle.lp_tableau.specs.Assignments.{point_of}
use Rattle.lp_tableau.proofs.Points.{point-solves}
use Rattle.lp_sparse.proofs.dictionary.SparseDictionary.point_into.Goals as goal

pub returns-clause-solves : goal.returns-clause-solves
returns-clause-solves g c = λ p h. subst (Solves p) (sym (c.write_point.ensures ∙ ap (λ (d : Dictionary). point_of d (length d.nonbasic)) c.self.view_is))
    (point-solves c.args.self.now (subst IsDictionary c.self.view_is c.self.invariant.dictionary) p c.requires.optimal h).0

pub returns-clause-cost : goal.returns-clause-cost
returns-clause-cost g c = λ p h. ap (cost_at p) (c.write_point.ensures ∙ ap (λ (d : Dictionary). point_of d (length d.nonbasic)) c.self.view_is)
    ∙ (point-solves c.args.self.now (subst IsDictionary c.self.view_is c.self.invariant.dictionary) p c.requires.optimal h).1
