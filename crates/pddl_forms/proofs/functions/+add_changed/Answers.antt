use Rattle.std.proofs.Common.{◌∙◌, ap}
use Rattle.pddl_forms.specs.Functions.{changed_by}
use Rattle.pddl_forms.proofs.Changes.{changed_by-and, new-next, new-end}
use Rattle.pddl_forms.proofs.functions.+add_changed.Goals as goal

pub loop-part-preserved : goal.loop-part-preserved
loop-part-preserved t c = new-next changed_by c.args.names.now c.loop-part.names c.add_changed.new.names c.as_slice-part-items.result.now c.loop-part.part-index c.part-item.result c.loop-part-test.true c.part-item.is c.loop-part.invariant c.in_ok-add_changed-in-And.ensures

pub returns-after-loop-part : goal.returns-after-loop-part
returns-after-loop-part t c = new-end changed_by c.args.names.now c.loop-part.names c.as_slice-part-items.result.now c.in-And.parts c.loop-part.part-index _ c.loop-part-test.false c.as_slice-part-items.ensures c.loop-part.invariant (ap changed_by c.in-And.is ∙ changed_by-and c.in-And.field-0 c.in-And.parts)
