use Rattle.std.proofs.Common.{◌∙◌, ap, sym, Some, Err}
use Rattle.exact_lin.specs.Forms.{LinearForm}
use Rattle.ground_world.specs.Expressions.{added}
use Rattle.ground_world.proofs.Definedness.{added-defined, added-wide}
use Rattle.ground_world.proofs.sums.added.Goals as goal

pub returns-in-Ok : goal.returns-in-Ok
returns-in-Ok c =
    ap Some c.in-Ok.ensures.form ∙ sym (added-defined c.in_ok-sum.sum c.args.by c.args.other.now c.in-Ok.ensures.defined)
    ∙ ap (λ (f : LinearForm). added f c.args.by c.args.other.now) c.in_ok-sum.ensures

pub returns-in-Err-Wide : goal.returns-in-Err-Wide
returns-in-Err-Wide c =
    sym (added-wide c.in_ok-sum.sum c.args.by c.args.other.now (c.in-Err-Wide.ensures.wide (ap Err c.in-Err-Wide.field-0-is)))
    ∙ ap (λ (f : LinearForm). added f c.args.by c.args.other.now) c.in_ok-sum.ensures
