use Rattle.cert_core.specs.Checks.{claim_of}
use Rattle.cert_core.specs.Faults.{fault_of, multipliers_of}
use Rattle.cert_core.specs.Trees.{Shows}
use Rattle.cert_core.proofs.TreeParts.{met-judged, unmet-judged}
use Rattle.cert_core.proofs.tree_check.check_next.Goals as goal

pub returns-in-Ok : goal.returns-in-Ok
returns-in-Ok g c = met-judged g.S.Scalar.limit (g.P.SoftRows.soft c.args.soft.now) c.args.asked.from c.args.asked.to c.args.done (record { made = c.args.made.now; here = Shows (claim_of g.S.Scalar.value c.args.claim) (multipliers_of g.R.Id.number_of g.S.Scalar.value c.args.pairs.now) }) c.if-done-asked.false c.requires.inside (c.in-Ok.ensures {u = tt})

pub returns-in-Err : goal.returns-in-Err
returns-in-Err g c = unmet-judged g.S.Scalar.limit (g.P.SoftRows.soft c.args.soft.now) c.args.asked.from c.args.asked.to c.args.done (record { made = c.args.made.now; here = Shows (claim_of g.S.Scalar.value c.args.claim) (multipliers_of g.R.Id.number_of g.S.Scalar.value c.args.pairs.now) }) (fault_of g.R.Id.number_of g.V.Id.number_of c.in-Err.fault) c.if-done-asked.false c.requires.inside (c.in-Err.ensures {u = tt})
