use Rattle.std.proofs.Common.{sym}
use Rattle.cert_core.specs.declared.claim.Claim.TheVariants.{AtLeast}
use Rattle.cert_core.specs.Faults.{multipliers_of, fault_of}
use Rattle.cert_core.proofs.Exactness.{Judges-exact, Judges-proves, OnOk-map}
use Rattle.cert_core.proofs.Meaning.{ProvesCost-costs}
use Rattle.cert_core.proofs.check.check_dual_in.Goals as goal

pub returns-clause-ok : goal.returns-clause-ok
returns-clause-ok g c = rw (sym c.pairs.ensures) (Judges-exact g.S.Scalar.limit (g.P.Rows.program c.args.program.now) (AtLeast (g.S.Scalar.value c.args.cost)) _ c.check.result (fault_of g.R.Id.number_of g.V.Id.number_of) (g.met.P.Rows.even c.args.program.now) c.check.ensures)

pub returns-clause-bound : goal.returns-clause-bound
returns-clause-bound g c = OnOk-map c.check.result (ProvesCost-costs (g.P.Rows.program c.args.program.now) (multipliers_of g.R.Id.number_of g.S.Scalar.value c.pairs.result.now) (g.S.Scalar.value c.args.cost)) (Judges-proves g.S.Scalar.limit (g.P.Rows.program c.args.program.now) (AtLeast (g.S.Scalar.value c.args.cost)) _ c.check.result (fault_of g.R.Id.number_of g.V.Id.number_of) (g.met.P.Rows.even c.args.program.now) c.check.ensures)
