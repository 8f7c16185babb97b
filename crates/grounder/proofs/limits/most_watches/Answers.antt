use Rattle.std.proofs.Common.{ap₂, sym, ◌∙◌, max, length}
use Rattle.grounder.proofs.Counting.{greatest-more}
use Rattle.grounder.proofs.limits.most_watches.Goals as goal

pub loop-action-preserved : goal.loop-action-preserved
loop-action-preserved c =
    c.max-most.ensures ∙ ap₂ max c.len.ensures c.loop-action.invariant
    ∙ sym (greatest-more c.args.actions.now c.loop-action.action-index c.action-item.result c.loop-action-test.true c.action-item.is (λ a. length a.over_all.comparisons))
