use Rattle.std.proofs.Common.{◌∙◌, sym}
use Rattle.task_types.proofs.Several.{no_other, an_other}
use Rattle.task_types.proofs.touches.tokens.has_several.Goals as goal

pub returns-then-number : goal.returns-then-number
returns-then-number g c = an_other g.I.Id.number_of c.in-Some.first.now c.in-Some.rest.now c.args.ids.now (c.in-Some.ensures {u = tt}).cases.0 c.loop-id.id-index c.id-item.result c.loop-id-test.true c.id-item.is
    (λ e. c.if-number.true (c.number.ensures ∙ e ∙ sym c.number-in-loop-id.ensures))

pub returns : goal.returns
returns g c = no_other g.I.Id.number_of c.in-Some.first.now c.in-Some.rest.now c.args.ids.now (c.in-Some.ensures {u = tt}).cases.0 c.loop-id.id-index c.loop-id-test.false c.loop-id.invariant
