use Rattle.task_types.specs.Cost.{soft_cost}
use Rattle.task_types.specs.Reckoned.{soft_reckoned}
use Rattle.timed_meaning.specs.Answers.{told}
use Rattle.metric_cost.proofs.Adding.{term-told, term-stopped}
use Rattle.metric_cost.proofs.terms.add_cost.Goals as goal

pub returns-in-Ok : goal.returns-in-Ok
returns-in-Ok c states h =
    let t = c.in-Ok.ensures states h in
    term-told c.args.sum c.in-Ok.cost (soft_cost c.args.soft.now states (told c.args.facts.now c.args.fluents.now)) (soft_reckoned c.args.soft.now states (told c.args.facts.now c.args.fluents.now)) c.add.result t.0 t.1 c.add.ensures

pub returns-in-Err : goal.returns-in-Err
returns-in-Err c states h = term-stopped c.args.sum (soft_cost c.args.soft.now states (told c.args.facts.now c.args.fluents.now)) (soft_reckoned c.args.soft.now states (told c.args.facts.now c.args.fluents.now)) (c.in-Err.ensures states h)
