use Rattle.std.proofs.Common.{◌∙◌, sym}
use Rattle.trajectory.specs.Facts.{moment_of}
use Rattle.metric_cost.proofs.Meeting.{first-found, first-now, first-still}
use Rattle.metric_cost.proofs.watch.first_of.Goals as goal

pub returns-in-Some : goal.returns-in-Some
returns-in-Some c states e = first-found c.args.formula.now states (moment_of c.args.facts.now c.args.time) c.in-Some.moment (sym c.in-Some.is ∙ e)

pub returns-then-tree_holds : goal.returns-then-tree_holds
returns-then-tree_holds c states e = first-now c.args.formula.now states (moment_of c.args.facts.now c.args.time) c.tree_holds.result (sym c.in-None.is ∙ e) c.tree_holds.ensures c.if-tree_holds.true

pub returns-else-tree_holds : goal.returns-else-tree_holds
returns-else-tree_holds c states e = first-still c.args.formula.now states (moment_of c.args.facts.now c.args.time) c.tree_holds.result (sym c.in-None.is ∙ e) c.tree_holds.ensures c.if-tree_holds.false
