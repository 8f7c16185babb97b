use Rattle.std.proofs.Common.{◌≡◌, sym, ap, subst, ◌∙◌, min, List, map, IfOk}
use Rattle.pddl_terms.specs.declared.trees.SoftTree.{SoftTree}
use Rattle.pddl_names.specs.Equalities.{is_equality}
use Rattle.ground_world.specs.Counts.{soft_count, sum_or_one}
use Rattle.ground_world.specs.Shown.{world_of}
use Rattle.ground_world.proofs.Walks as walk
use Rattle.ground_world.proofs.Capped.{sum-more, small_if}
use Rattle.ground_world.proofs.goal_counts.+softs.Goals as goal

pub soft_count-returns-in-Formula : goal.soft_count-returns-in-Formula
soft_count-returns-in-Formula t c =
    let w = world_of c.args.tables.now in
    subst (λ n. IfOk c.formula_count.result (λ count. count ≡ min 65537 n))
    (sym (ap (soft_count w) c.in-Formula.is ∙ walk.soft_count-Formula w c.in-Formula.formula)) c.formula_count.ensures

pub soft_count-returns-in-Equal : goal.soft_count-returns-in-Equal
soft_count-returns-in-Equal t c =
    let w = world_of c.args.tables.now in
    c.equal_count.ensures ∙ small_if (is_equality w.functions c.in-Equal.left c.in-Equal.right)
    ∙ ap (min 65537) (sym (ap (soft_count w) c.in-Equal.is ∙ walk.soft_count-Equal w c.in-Equal.field-0 c.in-Equal.left c.in-Equal.right))

pub soft_count-returns-in-Comparison : goal.soft_count-returns-in-Comparison
soft_count-returns-in-Comparison t c =
    let w = world_of c.args.tables.now in
    subst (λ n. IfOk c.condition_count.result (λ count. count ≡ min 65537 n))
    (sym (ap (soft_count w) c.in-Comparison.is ∙ walk.soft_count-Comparison w c.in-Comparison.condition)) c.condition_count.ensures

pub soft_count-returns-in-And : goal.soft_count-returns-in-And
soft_count-returns-in-And t c =
    let w = world_of c.args.tables.now in
    subst (λ n. IfOk c.soft_counts.result (λ count. count ≡ min 65537 n))
    (ap (λ (cs : List SoftTree). sum_or_one (map (soft_count w) cs)) c.as_slice.ensures ∙ sym (ap (soft_count w) c.in-And.is ∙ walk.soft_count-And w c.in-And.field-0 c.in-And.parts)) c.soft_counts.ensures

pub soft_counts-loop-body-preserved : goal.soft_counts-loop-body-preserved
soft_counts-loop-body-preserved t c =
    let f = soft_count (world_of c.args.tables.now) in
    c.min-sum.ensures ∙ sum-more f c.args.bodies.now c.loop-body.body-index c.body-item.result c.loop-body.sum c.in_ok-count.count
    c.loop-body-test.true c.body-item.is c.loop-body.invariant c.in_ok-count.ensures
