use Rattle.std.proofs.Common.{ap, sym, ◌∙◌}
use Rattle.basics.specs.Texts.{number_after}
use Rattle.basics.proofs.Texts.{number_after-append}
use Rattle.plan_text.proofs.ReadingLemmas.{some_value}
use Rattle.plan_text.proofs.read.small.Goals as goal

pub returns-clause-value : goal.returns-clause-value
returns-clause-value c =
    some_value _ _ _ _ c.small_after-2.ensures (sym (number_after-append 0 c.args.digits.now.front.now c.args.digits.now.back.now ∙ ap (λ n. number_after n c.args.digits.now.back.now) (sym c.in_ok-small_after.ensures.1)))
