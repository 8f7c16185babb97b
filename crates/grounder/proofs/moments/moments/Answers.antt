use Rattle.std.proofs.Common.{◌≡◌, ◌+◌, ◌-◌, ◌<◌, sym, ap, subst, ◌∙◌, length, drop, ℕ, arith}
use Rattle.grounder.specs.Task.{with_moment, moments}
use Rattle.grounder.specs.declared.timings.Timing.{Timing}
use Rattle.grounder.specs.ShownTimings.{timings_of}
use Rattle.grounder.proofs.MomentSteps.{earlier}
use Rattle.grounder.proofs.moments.moments.Goals as goal

pub loop-left-preserved : goal.loop-left-preserved
loop-left-preserved c =
    let e : c.loop-left.left - 1 + 1 ≡ c.loop-left.left = omega arith in
    let lt : c.loop-left.left - 1 < length c.args.timings.now = omega arith in (
      earlier c.args.timings.now (c.loop-left.left - 1) c.index-timings-left.result c.loop-left.out.items c.add_moment.new.moments.items lt c.index-timings-left.is
          (subst (λ (n : ℕ). c.loop-left.out.items ≡ moments (timings_of (drop n c.args.timings.now))) (sym e) c.loop-left.invariant.0) (c.in_ok-add_moment.ensures ∙ ap (λ (t : Timing). with_moment t.moment c.loop-left.out.items) (sym c.index-timings-left.is)),
      omega arith,
    )
