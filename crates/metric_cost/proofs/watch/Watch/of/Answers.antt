use Rattle.std.proofs.Common.{[], None, subst, sym}
use Rattle.task_types.specs.declared.costs.Soft.{Soft}
use Rattle.metric_cost.specs.declared.watch.Watch.TheVariants.{First}
use Rattle.metric_cost.specs.Watching.{Watches}
use Rattle.metric_cost.proofs.Meeting.{first-none}
use Rattle.metric_cost.proofs.watch.Watch.of.Goals as goal

pub returns-in-Late : goal.returns-in-Late
returns-in-Late c = subst (λ (s : Soft). Watches s (First None) []) (sym c.in-Late.is) (first-none c.in-Late.field-0)

pub returns-in-Pieces : goal.returns-in-Pieces
returns-in-Pieces c = subst (λ (s : Soft). Watches s (First None) []) (sym c.in-Pieces.is) (first-none c.in-Pieces.field-0)
