use Rattle.std.proofs.Common.{[], ◌∷◌, ◌++◌, subst, arith}
use Rattle.trajectory.specs.Facts.{moment_of}
use Rattle.metric_cost.specs.declared.watch.Watch.{Watch}
use Rattle.metric_cost.specs.Watching.{Watches}
use Rattle.metric_cost.proofs.Watching.{seen-begin, seen-at, seen-more, seen-all}
use Rattle.metric_cost.proofs.watch_lists.step_all.Goals as goal

pub step-requires-clause-watched : goal.step-requires-clause-watched
step-requires-clause-watched c = (
  c.requires.watched.0,
  subst (λ (w : Watch). Watches c.index-softs-i.result w c.requires.watched.0) c.index-watches-i.is
      (seen-at c.args.softs.now c.loop-i.watches c.loop-i.i c.index-softs-i.result c.index-watches-i.result c.requires.watched.0 (c.requires.watched.0 ++ moment_of c.args.facts.now c.args.time ∷ []) c.loop-i-test.true c.index-softs-i.is c.index-watches-i.is (c.loop-i.invariant c.requires.watched.0 c.requires.watched.1)),
  c.requires.watched.2,
)

pub loop-i-init : goal.loop-i-init
loop-i-init c states h = seen-begin c.args.softs.now c.args.watches.now states (states ++ moment_of c.args.facts.now c.args.time ∷ []) h

pub loop-i-preserved : goal.loop-i-preserved
loop-i-preserved c states h =
    let now = c.loop-i.invariant states h in
    seen-more c.args.softs.now c.loop-i.watches c.loop-i.i c.index-softs-i.result c.step.new.self states (states ++ moment_of c.args.facts.now c.args.time ∷ []) c.loop-i-test.true c.index-softs-i.is
    (c.step.ensures states (subst (λ (w : Watch). Watches c.index-softs-i.result w states) c.index-watches-i.is
    (seen-at c.args.softs.now c.loop-i.watches c.loop-i.i c.index-softs-i.result c.index-watches-i.result states (states ++ moment_of c.args.facts.now c.args.time ∷ []) c.loop-i-test.true c.index-softs-i.is c.index-watches-i.is now))) now

pub returns : goal.returns
returns c states h = seen-all c.args.softs.now c.loop-i.watches c.loop-i.i states (states ++ moment_of c.args.facts.now c.args.time ∷ []) (omega arith) (c.loop-i.invariant states h)
