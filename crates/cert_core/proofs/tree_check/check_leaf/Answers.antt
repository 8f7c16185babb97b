use Rattle.std.proofs.Common.{◌≡◌, length, arith}
use Rattle.cert_core.specs.Faults.{tree_fault_of}
use Rattle.cert_core.specs.Trees.{leaf_count, leaves_of, top}
use Rattle.cert_core.proofs.TreeParts.{length-leaves_of}
use Rattle.cert_core.proofs.NumberedLeaves.{numbered-met, numbered-unmet}
use Rattle.cert_core.proofs.tree_check.check_leaf.Goals as goal

pub returns-in-Ok-clause-judged : goal.returns-in-Ok-clause-judged
returns-in-Ok-clause-judged g c =
    let p = g.P.SoftRows.soft c.args.soft.now in
    let leaves = leaves_of g.T.Id.number_of g.R.Id.number_of g.S.Scalar.value p (g.S.Scalar.value c.args.cost) c.args.tree.now (top c.args.made.now) in
    let long : length leaves ≡ leaf_count c.args.tree.now = length-leaves_of g.T.Id.number_of g.R.Id.number_of g.S.Scalar.value p (g.S.Scalar.value c.args.cost) c.args.tree.now (top c.args.made.now) in
    numbered-met g.S.Scalar.limit p c.args.leaf leaves c.requires.from_one (omega (arith, long, c.requires.in_range)) (c.in-Ok.ensures {u = tt}).judged

pub returns-in-Err-clause-judged : goal.returns-in-Err-clause-judged
returns-in-Err-clause-judged g c =
    let p = g.P.SoftRows.soft c.args.soft.now in
    let leaves = leaves_of g.T.Id.number_of g.R.Id.number_of g.S.Scalar.value p (g.S.Scalar.value c.args.cost) c.args.tree.now (top c.args.made.now) in
    let long : length leaves ≡ leaf_count c.args.tree.now = length-leaves_of g.T.Id.number_of g.R.Id.number_of g.S.Scalar.value p (g.S.Scalar.value c.args.cost) c.args.tree.now (top c.args.made.now) in
    numbered-unmet g.S.Scalar.limit p c.args.leaf leaves (tree_fault_of g.R.Id.number_of g.V.Id.number_of c.in-Err.fault) c.requires.from_one (omega (arith, long, c.requires.in_range)) (c.in-Err.ensures {u = tt}).judged
