use Rattle.std.proofs.Common.{map}
use Rattle.lp_tableau.proofs.FittingRows.{without-CanReplace}
use Rattle.lp_tableau.proofs.rows.reckon_row.Goals as goal

pub returns-else-holds-clause-cases : goal.returns-else-holds-clause-cases
returns-else-holds-clause-cases g c = λ n. (without-CanReplace g.S.Scalar.limit (map g.S.Scalar.value c.args.solution.now) c.args.j (map g.S.Scalar.value c.args.row.now) c.requires.fits (c.if-holds.ensures {u = tt}), λ h. absurd (h (c.if-holds.ensures {u = tt})))
