use Rattle.std.proofs.Common.{◌∙◌, sym, subst, length, ◌<◌}
use Rattle.task_types.specs.Related.{HaveTouches}
use Rattle.task_types.proofs.FewTokens.{few_tokens}
use Rattle.task_types.proofs.TouchRows.{whole_table}
use Rattle.task_types.proofs.touches.touch_table.Goals as goal

pub filled_rows-requires-clause-few : goal.filled_rows-requires-clause-few
filled_rows-requires-clause-few c = subst (λ l. length l < 4294967296) (sym (c.as_slice.ensures ∙ c.in_ok-list.ensures)) (few_tokens c.args.parts.now c.requires)

pub returns : goal.returns
returns c = c.from_vec.ensures ∙ whole_table c.args.parts.now c.in_ok-rows.rows.items (subst (λ ts. HaveTouches c.args.parts.now c.in_ok-rows.rows.items ts) (c.as_slice.ensures ∙ c.in_ok-list.ensures) c.in_ok-rows.ensures)
