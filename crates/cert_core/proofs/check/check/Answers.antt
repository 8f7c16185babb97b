use Rattle.cert_core.specs.Faults.{fault_of}
use Rattle.cert_core.proofs.Parts.{unmet_range-first, unmet_sign-first, unmet_columns-first, ranges-within, whole}
use Rattle.cert_core.proofs.check.check.Goals as goal

pub returns-in-Err : goal.returns-in-Err
returns-in-Err g c = unmet_range-first _ _ _ _ _ (c.in-Err.ensures {u = tt})

pub returns-in-Err-check_signs : goal.returns-in-Err-check_signs
returns-in-Err-check_signs g c = unmet_sign-first _ (g.P.Rows.program c.args.program.now) _ _ _ (c.in-Ok.ensures {u = tt}) (c.in-Err-check_signs.ensures {u = tt})

pub check_columns-requires : goal.check_columns-requires
check_columns-requires g c = ranges-within g.R.Id.number_of g.S.Scalar.value _ 0 _ (c.in-Ok.ensures {u = tt})

pub check_constant-requires : goal.check_constant-requires
check_constant-requires g c = ranges-within g.R.Id.number_of g.S.Scalar.value _ 0 _ (c.in-Ok.ensures {u = tt})

pub returns-in-Ok-check_columns : goal.returns-in-Ok-check_columns
returns-in-Ok-check_columns g c = whole _ (g.P.Rows.program c.args.program.now) _ _ c.check_constant.result (fault_of g.R.Id.number_of g.V.Id.number_of) (c.in-Ok.ensures {u = tt}) (c.in-Ok-check_signs.ensures {u = tt}) (c.in-Ok-check_columns.ensures {u = tt}) c.check_constant.ensures

pub returns-in-Err-check_columns : goal.returns-in-Err-check_columns
returns-in-Err-check_columns g c = unmet_columns-first _ (g.P.Rows.program c.args.program.now) _ _ _ (c.in-Ok.ensures {u = tt}) (c.in-Ok-check_signs.ensures {u = tt}) (c.in-Err-check_columns.ensures {u = tt})
