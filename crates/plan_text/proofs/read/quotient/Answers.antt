use Rattle.std.proofs.Common.{◌∙◌}
use Rattle.plan_text.proofs.ReadingLemmas.{same_ratios, same_fits}
use Rattle.plan_text.proofs.read.quotient.Goals as goal

pub returns-in-Some : goal.returns-in-Some
returns-in-Some c =
    let parts = c.in-Some.ensures in (
      same_fits _ _ _ _ _ parts.den c.requires.some parts.same c.fraction.ensures.fits,
      c.fraction.ensures.value ∙ same_ratios _ _ _ _ parts.den c.requires.some parts.same,
    )
