use Rattle.std.proofs.Common.{sym, subst, map}
use Rattle.task_types.specs.Related.{related, Tells, LeadsBack}
use Rattle.task_types.proofs.RelatedBelow.{table-tells}
use Rattle.task_types.proofs.touches.index.table_of.Goals as goal

pub returns : goal.returns
returns c = subst (Tells c.args.parts.now c.args.relation) (sym c.from_vec.ensures) (table-tells c.args.parts.now c.args.relation c.in_ok-rows.rows.items c.requires
    (subst (λ n. LeadsBack c.in_ok-rows.rows.items n (map (related c.args.parts.now c.args.relation) c.args.parts.now.snaps)) c.count_of.ensures c.in_ok-rows.ensures))
