use Rattle.std.proofs.Common.{arith}
use Rattle.cert_core.specs.Faults.{tree_fault_of}
use Rattle.cert_core.specs.Trees.{top}
use Rattle.cert_core.proofs.TreeParts.{length-leaves_of}
use Rattle.cert_core.proofs.Grounded.{leaves-grounded, undecided-AreDecisions}
use Rattle.cert_core.proofs.Proving.{ProvesTree-always_costs}
use Rattle.cert_core.proofs.NumberedLeaves.{all-exact, all-unmet, all-proves}
use Rattle.cert_core.proofs.tree_check.check_tree.Goals as goal

pub returns-clause-ok : goal.returns-clause-ok
returns-clause-ok g c =
    let p = g.P.SoftRows.soft c.args.soft.now in
    let grounded = leaves-grounded g.T.Id.number_of g.R.Id.number_of g.S.Scalar.value p (g.S.Scalar.value c.args.cost) c.args.tree.now (top c.args.made.now) (λ e. undecided-AreDecisions p c.args.made.now c.requires.undecided) in
    let long = length-leaves_of g.T.Id.number_of g.R.Id.number_of g.S.Scalar.value p (g.S.Scalar.value c.args.cost) c.args.tree.now (top c.args.made.now) in
    all-exact g.S.Scalar.limit p 4294967295 _ c.check_leaves.result (tree_fault_of g.R.Id.number_of g.V.Id.number_of) (g.met.P.SoftRows.lawful c.args.soft.now) grounded (omega (arith, long, c.requires.countable)) c.check_leaves.ensures.judged

pub returns-clause-first_fault : goal.returns-clause-first_fault
returns-clause-first_fault g c =
    let long = length-leaves_of g.T.Id.number_of g.R.Id.number_of g.S.Scalar.value (g.P.SoftRows.soft c.args.soft.now) (g.S.Scalar.value c.args.cost) c.args.tree.now (top c.args.made.now) in
    all-unmet g.S.Scalar.limit (g.P.SoftRows.soft c.args.soft.now) 4294967295 _ c.check_leaves.result (tree_fault_of g.R.Id.number_of g.V.Id.number_of) (omega (arith, long, c.requires.countable)) c.check_leaves.ensures.judged

pub returns-clause-always_costs : goal.returns-clause-always_costs
returns-clause-always_costs g c =
    let p = g.P.SoftRows.soft c.args.soft.now in
    let sound = undecided-AreDecisions p c.args.made.now c.requires.undecided in
    let grounded = leaves-grounded g.T.Id.number_of g.R.Id.number_of g.S.Scalar.value p (g.S.Scalar.value c.args.cost) c.args.tree.now (top c.args.made.now) (λ e. sound) in
    let long = length-leaves_of g.T.Id.number_of g.R.Id.number_of g.S.Scalar.value p (g.S.Scalar.value c.args.cost) c.args.tree.now (top c.args.made.now) in
    all-proves g.S.Scalar.limit p 4294967295 _ c.check_leaves.result (tree_fault_of g.R.Id.number_of g.V.Id.number_of) (g.met.P.SoftRows.lawful c.args.soft.now) grounded (omega (arith, long, c.requires.countable)) c.check_leaves.ensures.judged
    (ProvesTree-always_costs g.T.Id.number_of g.R.Id.number_of g.S.Scalar.value p (g.S.Scalar.value c.args.cost) (g.met.P.SoftRows.lawful c.args.soft.now) c.args.tree.now c.args.made.now sound c.requires.undecided.none)
