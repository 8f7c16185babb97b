use Rattle.std.proofs.Common.{rules, arith, ◌≡◌, ◌<◌, ◌+◌, ℕ, sym, ◌∙◌, ap, subst, length, true}
use Rattle.std.specs.List.{sum_by}
use Rattle.cert_core.specs.Trees.{leaf_count, is_fit}
use Rattle.cert_core.specs.Faults.{tree_fault_of}
use Rattle.cert_core.specs.Soft.{AreDecisions}
use Rattle.cert_core.proofs.Counting.{length-leaf_counts}
use Rattle.cert_core.proofs.Heights.{height-split, height-child}
use Rattle.cert_core.proofs.Deciding.{undecide}
use Rattle.cert_core.proofs.TreeParts.{AtChild-next, AtChild-stop, AtChild-enough, AtChild-way, none-judged, at_least-judged, split-judged, refused-judged, split-countable}
use Rattle.cert_core.proofs.tree_check.+tree.Goals as goal

pub check_child-returns-clause-made : goal.check_child-returns-clause-made
check_child-returns-clause-made g t c = undecide c.args.made.now c.check_part-answer.new.made (g.T.Id.number_of c.args.t) c.number-number.result c.args.way c.number-number.ensures c.requires.undecided c.check_part-answer.ensures.made

pub check_children-returns-in-Err-clause-judged : goal.check_children-returns-in-Err-clause-judged
check_children-returns-in-Err-clause-judged g t c = AtChild-stop g.T.Id.number_of g.R.Id.number_of g.S.Scalar.value (g.P.SoftRows.soft c.args.soft.now) (g.S.Scalar.value c.args.asked.cost) g.S.Scalar.limit c.args.asked.from c.args.asked.to c.args.done c.args.made.now c.loop-child.made (g.T.Id.number_of c.args.t) c.args.children.now c.loop-child.child-index c.loop-child.way c.loop-child.done c.child-item.result _ c.loop-child.invariant c.loop-child-test.true c.child-item.is (c.in-Err.ensures {u = tt}).judged

pub check_children-returns-then-done-asked-clause-judged : goal.check_children-returns-then-done-asked-clause-judged
check_children-returns-then-done-asked-clause-judged g t c = AtChild-enough g.T.Id.number_of g.R.Id.number_of g.S.Scalar.value (g.P.SoftRows.soft c.args.soft.now) (g.S.Scalar.value c.args.asked.cost) g.S.Scalar.limit c.args.asked.from c.args.asked.to c.args.done c.args.made.now c.loop-child.made (g.T.Id.number_of c.args.t) c.args.children.now c.loop-child.child-index c.loop-child.way c.loop-child.done c.child-item.result c.in-Ok.end c.loop-child.invariant c.loop-child-test.true c.child-item.is c.if-done-asked.true (c.in-Ok.ensures {u = tt}).judged

pub check_children-overflow_add-way : goal.check_children-overflow_add-way
check_children-overflow_add-way g t c = record { fits = omega (arith, c.loop-child.invariant.way_is, c.loop-child-test.true, length-leaf_counts g.row.T.Denot g.row.R.Denot g.row.S.Denot c.args.children.now, c.requires.countable) }

pub check_children-loop-child-preserved : goal.check_children-loop-child-preserved
check_children-loop-child-preserved g t c = AtChild-next g.T.Id.number_of g.R.Id.number_of g.S.Scalar.value (g.P.SoftRows.soft c.args.soft.now) (g.S.Scalar.value c.args.asked.cost) g.S.Scalar.limit c.args.asked.from c.args.asked.to c.args.done c.args.made.now c.loop-child.made c.check_child.new.made (g.T.Id.number_of c.args.t) c.args.children.now c.loop-child.child-index c.loop-child.way c.loop-child.done c.child-item.result c.in-Ok.end c.loop-child.invariant c.loop-child-test.true c.child-item.is (c.in-Ok.ensures {u = tt}).made c.if-done-asked.false (c.in-Ok.ensures {u = tt}).judged

pub check_children-check_child-requires : goal.check_children-check_child-requires
check_children-check_child-requires g t c κs within = (
  (let lower = height-child c.args.children.now c.loop-child.child-index c.child-item.result c.loop-child-test.true c.child-item.is in omega (arith, lower, c.decreases)),
  let way = AtChild-way g.T.Id.number_of g.R.Id.number_of g.S.Scalar.value (g.P.SoftRows.soft c.args.soft.now) (g.S.Scalar.value c.args.asked.cost) g.S.Scalar.limit c.args.asked.from c.args.asked.to c.args.done c.args.made.now c.loop-child.made (g.T.Id.number_of c.args.t) c.args.children.now c.loop-child.child-index c.loop-child.way c.loop-child.done c.child-item.result c.loop-child.invariant c.loop-child-test.true c.child-item.is c.requires.fits c.requires.countable in
      let decisions : AreDecisions (g.P.SoftRows.soft c.args.soft.now) c.loop-child.made = subst (λ m. AreDecisions (g.P.SoftRows.soft c.args.soft.now) m) (sym c.loop-child.invariant.kept) c.requires.decisions in
      let term : g.T.Id.number_of c.args.t < length c.loop-child.made = omega (arith, way.0, decisions.one_each) in
      search rules,
)

pub check_part-check_children-requires : goal.check_part-check_children-requires
check_part-check_children-requires g t c κs within = (
  (let lower = height-split c.args.tree.now c.in-Split.t c.in-Split.children c.as_slice.result.now c.in-Split.is c.as_slice.ensures in omega (arith, lower, c.decreases)),
  let fit : is_fit (g.P.SoftRows.soft c.args.soft.now) c.args.made.now (g.T.Id.number_of c.in-Split.t) (length c.in-Split.children) ≡ true = ap (λ (n : ℕ). is_fit (g.P.SoftRows.soft c.args.soft.now) c.args.made.now (g.T.Id.number_of c.in-Split.t) n) (sym c.len.ensures) ∙ sym c.fits.ensures ∙ c.if-fits.true in
      let same = split-countable g.T.Id.number_of g.R.Id.number_of g.S.Scalar.value (g.P.SoftRows.soft c.args.soft.now) (g.S.Scalar.value c.args.asked.cost) c.args.made.now c.args.tree.now c.in-Split.t c.in-Split.children c.as_slice.result.now (g.met.P.SoftRows.lawful c.args.soft.now) c.in-Split.is c.as_slice.ensures fit in
      let countable : c.args.done + sum_by leaf_count c.as_slice.result.now < 4294967296 = omega (arith, same, c.requires.countable) in
      let fits : is_fit (g.P.SoftRows.soft c.args.soft.now) c.args.made.now (g.T.Id.number_of c.in-Split.t) (length c.as_slice.result.now) ≡ true = ap (λ cs. is_fit (g.P.SoftRows.soft c.args.soft.now) c.args.made.now (g.T.Id.number_of c.in-Split.t) (length cs)) c.as_slice.ensures ∙ fit in
      search rules,
)

pub check_part-returns-in-None-clause-judged : goal.check_part-returns-in-None-clause-judged
check_part-returns-in-None-clause-judged g t c = none-judged g.T.Id.number_of g.R.Id.number_of g.S.Scalar.value (g.P.SoftRows.soft c.args.soft.now) (g.S.Scalar.value c.args.asked.cost) g.S.Scalar.limit c.args.asked.from c.args.asked.to c.check_next.result (tree_fault_of g.R.Id.number_of g.V.Id.number_of) c.args.done c.args.tree.now c.args.made.now c.in-None.row _ c.in-None.is c.pairs.ensures c.check_next.ensures

pub check_part-returns-in-AtLeast-clause-judged : goal.check_part-returns-in-AtLeast-clause-judged
check_part-returns-in-AtLeast-clause-judged g t c = at_least-judged g.T.Id.number_of g.R.Id.number_of g.S.Scalar.value (g.P.SoftRows.soft c.args.soft.now) (g.S.Scalar.value c.args.asked.cost) g.S.Scalar.limit c.args.asked.from c.args.asked.to c.check_next-in-AtLeast.result (tree_fault_of g.R.Id.number_of g.V.Id.number_of) c.args.done c.args.tree.now c.args.made.now c.in-AtLeast.row _ c.in-AtLeast.is c.pairs-in-AtLeast.ensures c.check_next-in-AtLeast.ensures

pub check_part-returns-then-fits-clause-judged : goal.check_part-returns-then-fits-clause-judged
check_part-returns-then-fits-clause-judged g t c = let fit : is_fit (g.P.SoftRows.soft c.args.soft.now) c.args.made.now (g.T.Id.number_of c.in-Split.t) (length c.in-Split.children) ≡ true = ap (λ (n : ℕ). is_fit (g.P.SoftRows.soft c.args.soft.now) c.args.made.now (g.T.Id.number_of c.in-Split.t) n) (sym c.len.ensures) ∙ sym c.fits.ensures ∙ c.if-fits.true in
    split-judged g.T.Id.number_of g.R.Id.number_of g.S.Scalar.value (g.P.SoftRows.soft c.args.soft.now) (g.S.Scalar.value c.args.asked.cost) g.S.Scalar.limit c.args.asked.from c.args.asked.to c.check_children.result (tree_fault_of g.R.Id.number_of g.V.Id.number_of) c.args.done c.args.tree.now c.args.made.now c.in-Split.t c.in-Split.children c.as_slice.result.now (g.met.P.SoftRows.lawful c.args.soft.now) c.in-Split.is c.as_slice.ensures fit c.check_children.ensures.judged

pub check_part-returns-else-fits-clause-judged : goal.check_part-returns-else-fits-clause-judged
check_part-returns-else-fits-clause-judged g t c = refused-judged g.T.Id.number_of g.R.Id.number_of g.S.Scalar.value (g.P.SoftRows.soft c.args.soft.now) (g.S.Scalar.value c.args.asked.cost) g.S.Scalar.limit c.args.asked.from c.args.asked.to g.V.Id.number_of c.refuse.result c.args.done c.args.tree.now c.args.made.now c.in-Split.t c.in-Split.children c.len.result c.in-Split.is c.len.ensures (sym c.fits.ensures ∙ c.if-fits.false) c.requires.ordered c.requires.inside c.refuse.ensures.passed c.refuse.ensures.refused
