use Rattle.std.proofs.Common.{◌∙◌, sym, arith}
use Rattle.trajectory.specs.Facts.{facts_told}
use Rattle.trajectory.proofs.Heights.{lower_not, lower_and, lower_or}
use Rattle.trajectory.proofs.Truths.{covered_is, covered_not, covered_and, covered_or, and_fails, and_holds, or_holds, or_fails}
use Rattle.trajectory.proofs.formulas.+tree_holds.Goals as goal

pub literal_holds-requires : goal.literal_holds-requires
literal_holds-requires t c = covered_is c.args.tree.now c.args.facts.now c.requires c.in-Is.literal c.in-Is.is

pub tree_holds-requires : goal.tree_holds-requires
tree_holds-requires t c = (
  (let lower = lower_not c.args.tree.now c.in-Not.part c.get.result.now c.in-Not.is c.get.ensures in omega (arith, lower, c.decreases)),
  covered_not c.args.tree.now c.args.facts.now c.requires c.in-Not.part c.get.result.now c.in-Not.is c.get.ensures,
)

pub tree_holds-requires-in-loop-part : goal.tree_holds-requires-in-loop-part
tree_holds-requires-in-loop-part t c = (
  (let lower = lower_and c.args.tree.now c.in-And.parts c.as_slice-part-items.result.now c.loop-part.part-index c.part-item.result c.as_slice-part-items.ensures c.loop-part-test.true c.part-item.is c.in-And.is in omega (arith, lower, c.decreases)),
  covered_and c.args.tree.now c.args.facts.now c.requires c.in-And.parts c.as_slice-part-items.result.now c.loop-part.part-index c.part-item.result c.as_slice-part-items.ensures c.loop-part-test.true c.part-item.is c.in-And.is,
)

pub tree_holds-requires-in-loop-choice : goal.tree_holds-requires-in-loop-choice
tree_holds-requires-in-loop-choice t c = (
  (let lower = lower_or c.args.tree.now c.in-Or.parts c.as_slice-choice-items.result.now c.loop-choice.choice-index c.choice-item.result c.as_slice-choice-items.ensures c.loop-choice-test.true c.choice-item.is c.in-Or.is in omega (arith, lower, c.decreases)),
  covered_or c.args.tree.now c.args.facts.now c.requires c.in-Or.parts c.as_slice-choice-items.result.now c.loop-choice.choice-index c.choice-item.result c.as_slice-choice-items.ensures c.loop-choice-test.true c.choice-item.is c.in-Or.is,
)

pub returns-then-not-tree_holds : goal.returns-then-not-tree_holds
returns-then-not-tree_holds t c = sym (and_fails c.args.tree.now (facts_told c.args.facts.now) c.in-And.parts c.as_slice-part-items.result.now c.as_slice-part-items.ensures c.loop-part.part-index c.part-item.result c.in-And.is c.loop-part-test.true c.part-item.is
    (sym c.tree_holds-in-loop-part.ensures ∙ c.if-not-tree_holds.true))

pub returns-after-loop-part : goal.returns-after-loop-part
returns-after-loop-part t c = sym (and_holds c.args.tree.now (facts_told c.args.facts.now) c.in-And.parts c.as_slice-part-items.result.now c.as_slice-part-items.ensures c.loop-part.part-index c.in-And.is c.loop-part-test.false c.loop-part.invariant)

pub returns-then-tree_holds : goal.returns-then-tree_holds
returns-then-tree_holds t c = sym (or_holds c.args.tree.now (facts_told c.args.facts.now) c.in-Or.parts c.as_slice-choice-items.result.now c.as_slice-choice-items.ensures c.loop-choice.choice-index c.choice-item.result c.in-Or.is c.loop-choice-test.true c.choice-item.is
    (sym c.tree_holds-in-loop-choice.ensures ∙ c.if-tree_holds.true))

pub returns-after-loop-choice : goal.returns-after-loop-choice
returns-after-loop-choice t c = sym (or_fails c.args.tree.now (facts_told c.args.facts.now) c.in-Or.parts c.as_slice-choice-items.result.now c.as_slice-choice-items.ensures c.loop-choice.choice-index c.in-Or.is c.loop-choice-test.false c.loop-choice.invariant)
