use Rattle.std.proofs.Common.{sym, ap, ◌∙◌}
use Rattle.std.specs.List.{list_any}
use Rattle.std.proofs.lemmas.List.{take_all}
use Rattle.ground_world.specs.World.{World}
use Rattle.grounder.proofs.Asking.{asks, asks-Condition, asks-And, asks-Forall, asks-Preference, asked_found, asked_none, none_more}
use Rattle.grounder.proofs.goals.+asking.Goals as goal

pub is_asking-returns-in-Condition : goal.is_asking-returns-in-Condition
is_asking-returns-in-Condition t c = λ (w : World). asks-Condition w c.in-Condition.is

pub is_asking-returns-in-And : goal.is_asking-returns-in-And
is_asking-returns-in-And t c = λ (w : World). c.are_asking.ensures w ∙ asks-And w c.in-And.is c.as_slice.ensures

pub is_asking-returns-in-Forall : goal.is_asking-returns-in-Forall
is_asking-returns-in-Forall t c = λ (w : World). c.is_asking.ensures w ∙ asks-Forall w c.in-Forall.is c.get.ensures

pub is_asking-returns-in-Preference : goal.is_asking-returns-in-Preference
is_asking-returns-in-Preference t c = λ (w : World). asks-Preference w c.in-Preference.is

pub are_asking-loop-tree-preserved : goal.are_asking-loop-tree-preserved
are_asking-loop-tree-preserved t c = λ (w : World).
    none_more w c.args.trees.now c.loop-tree.tree-index c.tree-item.result c.loop-tree-test.true c.tree-item.is (c.loop-tree.invariant w) (sym (c.is_asking.ensures w) ∙ c.if-is_asking.false)

pub are_asking-returns-then-is_asking : goal.are_asking-returns-then-is_asking
are_asking-returns-then-is_asking t c = λ (w : World).
    sym (asked_found w c.args.trees.now c.loop-tree.tree-index c.tree-item.result c.loop-tree-test.true c.tree-item.is (sym (c.is_asking.ensures w) ∙ c.if-is_asking.true))

pub are_asking-returns : goal.are_asking-returns
are_asking-returns t c = λ (w : World).
    asked_none w c.args.trees.now (ap (list_any (asks w)) (sym (take_all c.loop-tree.tree-index c.args.trees.now c.loop-tree-test.false)) ∙ c.loop-tree.invariant w)
