use Rattle.std.proofs.Common.{sym}
use Rattle.cert_core.specs.declared.claim.Claim.TheVariants.{Empty}
use Rattle.cert_core.specs.Faults.{multipliers_of, fault_of}
use Rattle.cert_core.proofs.Exactness.{Judges-exact, Judges-proves, OnOk-map}
use Rattle.cert_core.proofs.Meaning.{ProvesEmpty-no_solution}
use Rattle.cert_core.proofs.check.check_farkas_in.Goals as goal

pub returns-clause-ok : goal.returns-clause-ok
returns-clause-ok g c = rw (sym c.pairs.ensures) (Judges-exact g.S.Scalar.limit (g.P.Rows.program c.args.program.now) Empty _ c.check.result (fault_of g.R.Id.number_of g.V.Id.number_of) (g.met.P.Rows.even c.args.program.now) c.check.ensures)

pub returns-clause-no_solution : goal.returns-clause-no_solution
returns-clause-no_solution g c = OnOk-map c.check.result (ProvesEmpty-no_solution (g.P.Rows.program c.args.program.now) (multipliers_of g.R.Id.number_of g.S.Scalar.value c.pairs.result.now)) (Judges-proves g.S.Scalar.limit (g.P.Rows.program c.args.program.now) Empty _ c.check.result (fault_of g.R.Id.number_of g.V.Id.number_of) (g.met.P.Rows.even c.args.program.now) c.check.ensures)
