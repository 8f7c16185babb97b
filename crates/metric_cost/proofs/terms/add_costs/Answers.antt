use Rattle.std.proofs.Common.{List, subst, sym, arith}
use Rattle.std.proofs.lemmas.List.{drop_all}
use Rattle.task_types.specs.declared.costs.Soft.{Soft}
use Rattle.timed_meaning.specs.Answers.{told}
use Rattle.metric_cost.proofs.Watching.{each-at}
use Rattle.metric_cost.proofs.Adding.{GoesOn, goes_on-begin, goes_on-more, goes_on-stop, goes_on-end}
use Rattle.metric_cost.proofs.terms.add_costs.Goals as goal

pub loop-i-init : goal.loop-i-init
loop-i-init c states h = goes_on-begin states (told c.args.facts.now c.args.fluents.now) c.args.start c.args.softs.now

pub loop-i-preserved : goal.loop-i-preserved
loop-i-preserved c states h =
    let t = c.in-Ok.ensures states (each-at c.args.softs.now c.args.watches.now c.loop-i.i c.index-softs-i.result c.index-watches-i.result states c.loop-i-test.true c.index-softs-i.is c.index-watches-i.is h) in
    goes_on-more states (told c.args.facts.now c.args.fluents.now) c.args.start c.loop-i.sum c.in-Ok.more c.args.softs.now c.loop-i.i c.index-softs-i.result c.loop-i-test.true c.index-softs-i.is t.0 t.1 (c.loop-i.invariant states h)

pub returns-in-Err : goal.returns-in-Err
returns-in-Err c states h =
    let n = c.in-Err.ensures states (each-at c.args.softs.now c.args.watches.now c.loop-i.i c.index-softs-i.result c.index-watches-i.result states c.loop-i-test.true c.index-softs-i.is c.index-watches-i.is h) in
    goes_on-stop states (told c.args.facts.now c.args.fluents.now) c.args.start c.loop-i.sum c.args.softs.now c.loop-i.i c.index-softs-i.result c.loop-i-test.true c.index-softs-i.is n (c.loop-i.invariant states h)

pub returns : goal.returns
returns c states h = goes_on-end states (told c.args.facts.now c.args.fluents.now) c.args.start c.loop-i.sum c.args.softs.now
    (subst (λ (rest : List Soft). GoesOn states (told c.args.facts.now c.args.fluents.now) c.args.start c.args.softs.now c.loop-i.sum rest) (drop_all c.loop-i.i c.args.softs.now c.loop-i-test.false) (c.loop-i.invariant states h))
