use Rattle.std.proofs.Common.{◌≡◌, sym, ap, ◌∙◌, subst, ◌≤◌, ◌<◌, ◌++◌, map, List, [], arith, OnOk}
use Rattle.std.specs.List.{flat_map}
use Rattle.std.proofs.lemmas.List.{append-nil, take_all}
use Rattle.pddl_terms.specs.declared.trees.TimedCond.{TimedCond}
use Rattle.pddl_terms.specs.declared.trees.TimedCond.TheVariants as tree
use Rattle.ground_world.specs.declared.changes.Stage.{Stage}
use Rattle.ground_world.specs.Changes.{Staged}
use Rattle.ground_world.specs.Conditions.{Part, timed_condition_parts}
use Rattle.ground_world.specs.Counts.{timed_count, part_limit}
use Rattle.ground_world.specs.Shown.{env_of, world_of, parts_of}
use Rattle.ground_world.proofs.Walks as walk
use Rattle.ground_world.proofs.TimedParts.{timed_weight, lighter, child_within, parts-and, mapped_more}
use Rattle.ground_world.proofs.action_parts.+push_timed.Goals as goal

abbrev part_in : Staged Part → Part
part_in p = p.part

abbrev stage_in : Staged Part → Stage
stage_in p = p.stage

pub loop-part-init : goal.loop-part-init
loop-part-init t c = (sym (append-nil _), sym (append-nil _))

pub push_timed-requires : goal.push_timed-requires
push_timed-requires t c =
    let w = world_of c.args.tables.now in
    let a = subst (λ (x : TimedCond). timed_count w x ≤ part_limit) c.in-And.is c.requires in
    let b = subst (λ (cs : List TimedCond). timed_count w (tree.And c.in-And.field-0 cs) ≤ part_limit) (sym c.as_slice-part-items.ensures) a in
    ((let lower = subst (λ (cs : List TimedCond). timed_weight c.part-item.result < timed_weight (tree.And c.in-And.field-0 cs)) c.as_slice-part-items.ensures (lighter c.in-And.field-0 c.as_slice-part-items.result.now c.loop-part.part-index c.part-item.result c.loop-part-test.true c.part-item.is) in let same = ap timed_weight c.in-And.is in omega (arith, lower, same, c.decreases)), child_within w c.in-And.field-0 c.as_slice-part-items.result.now c.loop-part.part-index c.part-item.result c.loop-part-test.true c.part-item.is b)

pub loop-part-preserved : goal.loop-part-preserved
loop-part-preserved t c =
    let f = timed_condition_parts (world_of c.args.tables.now) (env_of c.args.env.now) in
    let xs = c.as_slice-part-items.result.now in (
      mapped_more f part_in (parts_of c.args.parts.now) (parts_of c.loop-part.parts) (parts_of c.push_timed.new.parts) xs c.loop-part.part-index c.part-item.result c.loop-part-test.true c.part-item.is c.loop-part.invariant.0 c.in_ok-push_timed-in-And.ensures.parts,
      mapped_more f stage_in c.args.stages.now c.loop-part.stages c.push_timed.new.stages xs c.loop-part.part-index c.part-item.result c.loop-part-test.true c.part-item.is c.loop-part.invariant.1 c.in_ok-push_timed-in-And.ensures.stages,
    )

pub push_staged-requires : goal.push_staged-requires
push_staged-requires t c =
    let w = world_of c.args.tables.now in
    subst (λ n. n ≤ part_limit) (ap (timed_count w) c.in-AtStart.is ∙ walk.timed_count-AtStart w c.in-AtStart.field-0 c.in-AtStart.inner) c.requires

pub push_staged-requires-in-OverAll : goal.push_staged-requires-in-OverAll
push_staged-requires-in-OverAll t c =
    let w = world_of c.args.tables.now in
    subst (λ n. n ≤ part_limit) (ap (timed_count w) c.in-OverAll.is ∙ walk.timed_count-OverAll w c.in-OverAll.field-0 c.in-OverAll.inner) c.requires

pub push_staged-requires-in-AtEnd : goal.push_staged-requires-in-AtEnd
push_staged-requires-in-AtEnd t c =
    let w = world_of c.args.tables.now in
    subst (λ n. n ≤ part_limit) (ap (timed_count w) c.in-AtEnd.is ∙ walk.timed_count-AtEnd w c.in-AtEnd.field-0 c.in-AtEnd.inner) c.requires

pub returns-in-Empty-clause-parts : goal.returns-in-Empty-clause-parts
returns-in-Empty-clause-parts t c =
    let w = world_of c.args.tables.now in
    let e = env_of c.args.env.now in
    let none : timed_condition_parts w e c.args.condition.now ≡ [] = ap (timed_condition_parts w e) c.in-Empty.is ∙ walk.timed_condition_parts-Empty w e c.in-Empty.field-0 in
    sym (append-nil (parts_of c.args.parts.now)) ∙ ap (λ (ps : List (Staged Part)). parts_of c.args.parts.now ++ map part_in ps) (sym none)

pub returns-in-Empty-clause-stages : goal.returns-in-Empty-clause-stages
returns-in-Empty-clause-stages t c =
    let w = world_of c.args.tables.now in
    let e = env_of c.args.env.now in
    let none : timed_condition_parts w e c.args.condition.now ≡ [] = ap (timed_condition_parts w e) c.in-Empty.is ∙ walk.timed_condition_parts-Empty w e c.in-Empty.field-0 in
    sym (append-nil (c.args.stages.now)) ∙ ap (λ (ps : List (Staged Part)). c.args.stages.now ++ map stage_in ps) (sym none)

pub returns-in-LeftOut-clause-parts : goal.returns-in-LeftOut-clause-parts
returns-in-LeftOut-clause-parts t c =
    let w = world_of c.args.tables.now in
    let e = env_of c.args.env.now in
    let none : timed_condition_parts w e c.args.condition.now ≡ [] = ap (timed_condition_parts w e) c.in-LeftOut.is ∙ walk.timed_condition_parts-LeftOut w e c.in-LeftOut.field-0 in
    sym (append-nil (parts_of c.args.parts.now)) ∙ ap (λ (ps : List (Staged Part)). parts_of c.args.parts.now ++ map part_in ps) (sym none)

pub returns-in-LeftOut-clause-stages : goal.returns-in-LeftOut-clause-stages
returns-in-LeftOut-clause-stages t c =
    let w = world_of c.args.tables.now in
    let e = env_of c.args.env.now in
    let none : timed_condition_parts w e c.args.condition.now ≡ [] = ap (timed_condition_parts w e) c.in-LeftOut.is ∙ walk.timed_condition_parts-LeftOut w e c.in-LeftOut.field-0 in
    sym (append-nil (c.args.stages.now)) ∙ ap (λ (ps : List (Staged Part)). c.args.stages.now ++ map stage_in ps) (sym none)

pub returns-after-loop-part-clause-parts : goal.returns-after-loop-part-clause-parts
returns-after-loop-part-clause-parts t c =
    let w = world_of c.args.tables.now in
    let e = env_of c.args.env.now in
    let whole = ap (flat_map (timed_condition_parts w e)) (take_all c.loop-part.part-index c.as_slice-part-items.result.now c.loop-part-test.false ∙ c.as_slice-part-items.ensures)
    ∙ sym (parts-and w e c.in-And.field-0 c.in-And.inner) ∙ ap (timed_condition_parts w e) (sym c.in-And.is) in
    c.loop-part.invariant.0 ∙ ap (λ (ps : List (Staged Part)). parts_of c.args.parts.now ++ map part_in ps) whole

pub returns-after-loop-part-clause-stages : goal.returns-after-loop-part-clause-stages
returns-after-loop-part-clause-stages t c =
    let w = world_of c.args.tables.now in
    let e = env_of c.args.env.now in
    let whole = ap (flat_map (timed_condition_parts w e)) (take_all c.loop-part.part-index c.as_slice-part-items.result.now c.loop-part-test.false ∙ c.as_slice-part-items.ensures)
    ∙ sym (parts-and w e c.in-And.field-0 c.in-And.inner) ∙ ap (timed_condition_parts w e) (sym c.in-And.is) in
    c.loop-part.invariant.1 ∙ ap (λ (ps : List (Staged Part)). c.args.stages.now ++ map stage_in ps) whole

pub returns-in-AtStart-clause-parts : goal.returns-in-AtStart-clause-parts
returns-in-AtStart-clause-parts t c =
    let w = world_of c.args.tables.now in
    let e = env_of c.args.env.now in
    let here = ap (timed_condition_parts w e) c.in-AtStart.is ∙ walk.timed_condition_parts-AtStart w e c.in-AtStart.field-0 c.in-AtStart.inner in
    subst (λ (ps : List Part). OnOk c.push_staged.result (parts_of c.push_staged.new.parts ≡ parts_of c.args.parts.now ++ ps))
    (sym (ap (map part_in) here)) c.push_staged.ensures.parts

pub returns-in-AtStart-clause-stages : goal.returns-in-AtStart-clause-stages
returns-in-AtStart-clause-stages t c =
    let w = world_of c.args.tables.now in
    let e = env_of c.args.env.now in
    let here = ap (timed_condition_parts w e) c.in-AtStart.is ∙ walk.timed_condition_parts-AtStart w e c.in-AtStart.field-0 c.in-AtStart.inner in
    subst (λ (ss : List Stage). OnOk c.push_staged.result (c.push_staged.new.stages ≡ c.args.stages.now ++ ss))
    (sym (ap (map stage_in) here)) c.push_staged.ensures.stages

pub returns-in-OverAll-clause-parts : goal.returns-in-OverAll-clause-parts
returns-in-OverAll-clause-parts t c =
    let w = world_of c.args.tables.now in
    let e = env_of c.args.env.now in
    let here = ap (timed_condition_parts w e) c.in-OverAll.is ∙ walk.timed_condition_parts-OverAll w e c.in-OverAll.field-0 c.in-OverAll.inner in
    subst (λ (ps : List Part). OnOk c.push_staged-in-OverAll.result (parts_of c.push_staged-in-OverAll.new.parts ≡ parts_of c.args.parts.now ++ ps))
    (sym (ap (map part_in) here)) c.push_staged-in-OverAll.ensures.parts

pub returns-in-OverAll-clause-stages : goal.returns-in-OverAll-clause-stages
returns-in-OverAll-clause-stages t c =
    let w = world_of c.args.tables.now in
    let e = env_of c.args.env.now in
    let here = ap (timed_condition_parts w e) c.in-OverAll.is ∙ walk.timed_condition_parts-OverAll w e c.in-OverAll.field-0 c.in-OverAll.inner in
    subst (λ (ss : List Stage). OnOk c.push_staged-in-OverAll.result (c.push_staged-in-OverAll.new.stages ≡ c.args.stages.now ++ ss))
    (sym (ap (map stage_in) here)) c.push_staged-in-OverAll.ensures.stages

pub returns-in-AtEnd-clause-parts : goal.returns-in-AtEnd-clause-parts
returns-in-AtEnd-clause-parts t c =
    let w = world_of c.args.tables.now in
    let e = env_of c.args.env.now in
    let here = ap (timed_condition_parts w e) c.in-AtEnd.is ∙ walk.timed_condition_parts-AtEnd w e c.in-AtEnd.field-0 c.in-AtEnd.inner in
    subst (λ (ps : List Part). OnOk c.push_staged-in-AtEnd.result (parts_of c.push_staged-in-AtEnd.new.parts ≡ parts_of c.args.parts.now ++ ps))
    (sym (ap (map part_in) here)) c.push_staged-in-AtEnd.ensures.parts

pub returns-in-AtEnd-clause-stages : goal.returns-in-AtEnd-clause-stages
returns-in-AtEnd-clause-stages t c =
    let w = world_of c.args.tables.now in
    let e = env_of c.args.env.now in
    let here = ap (timed_condition_parts w e) c.in-AtEnd.is ∙ walk.timed_condition_parts-AtEnd w e c.in-AtEnd.field-0 c.in-AtEnd.inner in
    subst (λ (ss : List Stage). OnOk c.push_staged-in-AtEnd.result (c.push_staged-in-AtEnd.new.stages ≡ c.args.stages.now ++ ss))
    (sym (ap (map stage_in) here)) c.push_staged-in-AtEnd.ensures.stages
