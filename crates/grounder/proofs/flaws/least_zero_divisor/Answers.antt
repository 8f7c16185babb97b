use Rattle.std.proofs.Common.{refl, ◌∙◌}
use Rattle.ground_world.specs.declared.operations.Flaw.TheVariants.{TooWide, ZeroDivisor}
use Rattle.grounder.proofs.Leasts.{zero-more, zero-same, flaw_read}
use Rattle.grounder.proofs.flaws.least_zero_divisor.Goals as goal
use Rattle.grounder.proofs.flaws.least_zero_divisor.Goals.{in-TooWide, in-ZeroDivisor}

pub loop-flaw-preserved : goal.loop-flaw-preserved
loop-flaw-preserved c = elim c.match-flaw.branch [
  | in-TooWide w ↦ w.found-is ∙ zero-same c.args.flaws.now c.loop-flaw.flaw-index (TooWide w.in-TooWide.field-0) c.loop-flaw-test.true
      (flaw_read c.args.flaws.now c.loop-flaw.flaw-index (TooWide 0) (TooWide w.in-TooWide.field-0) c.loop-flaw-test.true w.in-TooWide.is)
      c.loop-flaw.found w.in-TooWide.field-0 c.loop-flaw.invariant refl
  | in-ZeroDivisor w ↦ w.found-is ∙ w.lesser-found.ensures ∙ zero-more c.args.flaws.now c.loop-flaw.flaw-index (ZeroDivisor w.in-ZeroDivisor.place) c.loop-flaw-test.true
      (flaw_read c.args.flaws.now c.loop-flaw.flaw-index (TooWide 0) (ZeroDivisor w.in-ZeroDivisor.place) c.loop-flaw-test.true w.in-ZeroDivisor.is)
      c.loop-flaw.found w.in-ZeroDivisor.place c.loop-flaw.invariant refl
]
