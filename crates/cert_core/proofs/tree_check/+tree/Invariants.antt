use Rattle.std.proofs.Common.{◌+◌, ◌*◌}
use Rattle.cert_core.proofs.Heights.{height, highest}
use Rattle.cert_core.proofs.TreeParts.{AtChild}
use Rattle.cert_core.proofs.tree_check.+tree.Given as goal

abbrev pub invariant-check_children-loop-child : goal.invariant-check_children-loop-child
invariant-check_children-loop-child g l = AtChild g.T.Id.number_of g.R.Id.number_of g.S.Scalar.value (g.P.SoftRows.soft l.soft) (g.S.Scalar.value l.asked.cost)
    g.S.Scalar.limit l.asked.from l.asked.to l.fn.done l.fn.made l.made (g.T.Id.number_of l.t) l.children l.child-index l.way l.done

abbrev pub decreases-check_part : goal.decreases-check_part
decreases-check_part g l = 3 * height l.tree.now

abbrev pub decreases-check_children : goal.decreases-check_children
decreases-check_children g l = 3 * highest l.children.now + 2

abbrev pub decreases-check_child : goal.decreases-check_child
decreases-check_child g l = 3 * height l.child.now + 1
