use Rattle.std.proofs.Common.{◌≡◌, Some, sym, subst, ◌∙◌}
use Rattle.plan_text.specs.Numbers.{Spells}
use Rattle.command_words.proofs.Asked.{outside}
use Rattle.command_words.proofs.values.number_in.Goals.{in_default-via-in-Some+else-is_within, in_default-via-in_default}
use Rattle.command_words.proofs.values.number_in.Goals as goal

pub returns-in_default : goal.returns-in_default
returns-in_default c = λ q within.
    let read : c.read_number.result ≡ Some q = c.read_number.ensures.read q (subst (λ text. Spells text q) (sym c.as_bytes.ensures.value) within.spelled) within.fits in
    elim c.in_default.branch [ in_default-via-in-Some+else-is_within w ↦ outside w.in-Some.number q c.args.top w.is_within.result (sym w.in-Some.is ∙ read) w.is_within.ensures w.if-is_within.false within.above_zero within.at_most | in_default-via-in_default w ↦ w.in_default.not-Some q read ]
