use Rattle.std.specs.List.{flat_map}
use Rattle.task_types.specs.declared.tokens.Token.TheVariants as token
use Rattle.task_types.specs.declared.tokens.Touch.TheVariants.{Look, Mark, Bend}
use Rattle.task_types.specs.Related.{ArePut, row_of}
use Rattle.task_types.proofs.LastEntries.{put_in_all}
use Rattle.task_types.proofs.touches.touch_rows.put_comparison.Goals as goal

pub returns : goal.returns
returns c =
    let looked : ArePut c.args.rows.now.items c.put_from.new.rows.items c.args.token Look (row_of c.args.index.now.own_actions c.args.action) = rw (c.as_slice.ensures, c.number.ensures) at (c.in_ok-put_from.ensures {u = tt}) in
    let marked : ArePut c.put_from.new.rows.items c.put_from_each.new.rows.items c.args.token Mark (flat_map (row_of c.args.index.now.written_fluents) c.args.fluents.now) = rw (c.as_slice-2.ensures, c.as_slice-changed.ensures) at (c.in_ok-put_from_each.ensures {u = tt}) in
    let bent : ArePut c.put_from_each.new.rows.items c.put_from_each-2.new.rows.items c.args.token Bend (flat_map (row_of c.args.index.now.bent_fluents) c.args.fluents.now) = rw (c.as_slice-3.ensures, c.as_slice-changed.ensures) at (c.in_ok-put_from_each-2.ensures {u = tt}) in
    put_in_all c.args.rows.now.items c.put_from.new.rows.items c.put_from_each.new.rows.items c.put_from_each-2.new.rows.items c.args.index.now c.args.token (token.Comparison c.args.action c.args.fluents.now) looked marked bent
