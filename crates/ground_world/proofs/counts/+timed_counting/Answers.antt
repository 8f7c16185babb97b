use Rattle.std.proofs.Common.{◌≡◌, sym, ap, subst, ◌∙◌, min, arith, List, map, IfOk}
use Rattle.pddl_terms.specs.declared.trees.TimedCond.{TimedCond}
use Rattle.ground_world.specs.Counts.{timed_count, sum_or_one}
use Rattle.ground_world.specs.Shown.{world_of}
use Rattle.ground_world.proofs.Walks as walk
use Rattle.ground_world.proofs.Capped.{sum-more}
use Rattle.ground_world.proofs.counts.+timed_counting.Goals as goal

pub timed_count-returns-in-Empty : goal.timed_count-returns-in-Empty
timed_count-returns-in-Empty t c =
    let w = world_of c.args.tables.now in
    let e : timed_count w c.args.condition.now ≡ 1 = ap (timed_count w) c.in-Empty.is ∙ walk.timed_count-Empty w c.in-Empty.field-0 in omega arith

pub timed_count-returns-in-LeftOut : goal.timed_count-returns-in-LeftOut
timed_count-returns-in-LeftOut t c =
    let w = world_of c.args.tables.now in
    let e : timed_count w c.args.condition.now ≡ 1 = ap (timed_count w) c.in-LeftOut.is ∙ walk.timed_count-LeftOut w c.in-LeftOut.field-0 in omega arith

pub timed_count-returns-in-And : goal.timed_count-returns-in-And
timed_count-returns-in-And t c =
    let w = world_of c.args.tables.now in
    subst (λ n. IfOk c.timed_counts.result (λ count. count ≡ min 65537 n))
    (ap (λ (cs : List TimedCond). sum_or_one (map (timed_count w) cs)) c.as_slice.ensures ∙ sym (ap (timed_count w) c.in-And.is ∙ walk.timed_count-And w c.in-And.field-0 c.in-And.parts)) c.timed_counts.ensures

pub timed_count-returns-in-AtStart : goal.timed_count-returns-in-AtStart
timed_count-returns-in-AtStart t c =
    let w = world_of c.args.tables.now in
    subst (λ n. IfOk c.condition_count.result (λ count. count ≡ min 65537 n))
    (sym (ap (timed_count w) c.in-AtStart.is ∙ walk.timed_count-AtStart w c.in-AtStart.field-0 c.in-AtStart.part)) c.condition_count.ensures

pub timed_count-returns-in-OverAll : goal.timed_count-returns-in-OverAll
timed_count-returns-in-OverAll t c =
    let w = world_of c.args.tables.now in
    subst (λ n. IfOk c.condition_count-in-OverAll.result (λ count. count ≡ min 65537 n))
    (sym (ap (timed_count w) c.in-OverAll.is ∙ walk.timed_count-OverAll w c.in-OverAll.field-0 c.in-OverAll.part)) c.condition_count-in-OverAll.ensures

pub timed_count-returns-in-AtEnd : goal.timed_count-returns-in-AtEnd
timed_count-returns-in-AtEnd t c =
    let w = world_of c.args.tables.now in
    subst (λ n. IfOk c.condition_count-in-AtEnd.result (λ count. count ≡ min 65537 n))
    (sym (ap (timed_count w) c.in-AtEnd.is ∙ walk.timed_count-AtEnd w c.in-AtEnd.field-0 c.in-AtEnd.part)) c.condition_count-in-AtEnd.ensures

pub timed_counts-loop-condition-preserved : goal.timed_counts-loop-condition-preserved
timed_counts-loop-condition-preserved t c =
    let f = timed_count (world_of c.args.tables.now) in
    c.min-sum.ensures ∙ sum-more f c.args.conditions.now c.loop-condition.condition-index c.condition-item.result c.loop-condition.sum c.in_ok-count.count
    c.loop-condition-test.true c.condition-item.is c.loop-condition.invariant c.in_ok-count.ensures
