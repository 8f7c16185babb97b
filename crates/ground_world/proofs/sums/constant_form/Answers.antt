use Rattle.std.proofs.Common.{sym, ap, subst, ◌∙◌}
use Rattle.rational.proofs.Field.{zero_add}
use Rattle.exact_lin.specs.Reckoning.{CanAdd, wide_limit}
use Rattle.exact_lin.specs.Forms.{LinearForm, constant_form, plus_constant}
use Rattle.exact_lin.proofs.Results.{CanAdd-zero}
use Rattle.exact_lin.proofs.Zeros.{zero-is_zero}
use Rattle.ground_world.proofs.sums.constant_form.Goals as goal

pub returns-then-is_zero : goal.returns-then-is_zero
returns-then-is_zero c = c.zero-form.ensures ∙ ap constant_form (sym (zero-is_zero c.args.number (sym c.is_zero.ensures.value ∙ c.if-is_zero.true)))

pub returns-in-Ok : goal.returns-in-Ok
returns-in-Ok c =
    c.in-Ok.ensures.form ∙ ap (λ (f : LinearForm). plus_constant f c.args.number) c.zero-form.ensures
    ∙ ap constant_form (zero_add c.args.number)

pub returns-in-Err : goal.returns-in-Err
returns-in-Err c = absurd (c.in-Err.ensures.wide
    (subst (λ (f : LinearForm). CanAdd wide_limit f.constant c.args.number) (sym c.zero-form.ensures) (CanAdd-zero wide_limit c.args.number c.is_zero.ensures.fits)))
