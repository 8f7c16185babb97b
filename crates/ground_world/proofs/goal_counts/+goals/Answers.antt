use Rattle.std.proofs.Common.{◌≡◌, sym, ap, subst, ◌∙◌, ℕ, List, map, take, IfOk, Option, Some}
use Rattle.std.specs.Option.{option_map}
use Rattle.std.proofs.lemmas.Result.{IfOk-weaker}
use Rattle.pddl_terms.specs.declared.trees.Group.{Group}
use Rattle.pddl_terms.specs.declared.trees.GoalTree.{GoalTree}
use Rattle.ground_world.specs.Counts.{hard_count, somes, written_out}
use Rattle.ground_world.specs.Counting.{capped, somes_or_one}
use Rattle.ground_world.specs.Shown.{world_of}
use Rattle.ground_world.proofs.Walks as walk
use Rattle.ground_world.proofs.Somes.{layer-and, layer-forall, somes-next}
use Rattle.ground_world.proofs.goal_counts.+goals.Goals as goal

pub hard_count-returns-in_ok-count-in-Condition : goal.hard_count-returns-in_ok-count-in-Condition
hard_count-returns-in_ok-count-in-Condition t c =
    let w = world_of c.args.tables.now in
    ap Some c.in_ok-count-in-Condition.ensures ∙ ap capped (sym (ap (hard_count w) c.in-Condition.is ∙ walk.hard_count-Condition w c.in-Condition.condition))

pub hard_count-returns-in-And : goal.hard_count-returns-in-And
hard_count-returns-in-And t c =
    let w = world_of c.args.tables.now in
    subst (λ n. IfOk c.hard_counts.result (λ count. count ≡ capped n))
    (ap (λ (gs : List GoalTree). somes_or_one (map (hard_count w) gs)) c.as_slice.ensures
    ∙ sym (ap (hard_count w) c.in-And.is ∙ walk.hard_count-And w c.in-And.field-0 c.in-And.parts ∙ layer-and w c.in-And.field-0 (map (hard_count w) c.in-And.parts)))
    c.hard_counts.ensures

pub hard_count-returns-in_ok-parts-in-Forall : goal.hard_count-returns-in_ok-parts-in-Forall
hard_count-returns-in_ok-parts-in-Forall t c =
    let w = world_of c.args.tables.now in
    let n = hard_count w c.in-Forall.body in
    IfOk-weaker c.some_written_out.result
    (λ count. (k : Option ℕ) → c.in_ok-parts-in-Forall.parts ≡ capped k → count ≡ capped (option_map (written_out w c.as_slice-in-Forall.result.now) k))
    (λ count. count ≡ capped (hard_count w c.args.goal.now))
    (λ count h. h n (c.in_ok-parts-in-Forall.ensures ∙ ap (λ (b : GoalTree). capped (hard_count w b)) c.get.ensures)
    ∙ ap (λ (gs : List Group). capped (option_map (written_out w gs) n)) c.as_slice-in-Forall.ensures
    ∙ ap capped (sym (ap (hard_count w) c.in-Forall.is ∙ walk.hard_count-Forall w c.in-Forall.field-0 c.in-Forall.groups c.in-Forall.body
    ∙ layer-forall w c.in-Forall.field-0 c.in-Forall.groups n)))
    c.some_written_out.ensures

pub hard_count-returns-in-Preference : goal.hard_count-returns-in-Preference
hard_count-returns-in-Preference t c =
    let w = world_of c.args.tables.now in
    ap capped (sym (ap (hard_count w) c.in-Preference.is ∙ walk.hard_count-Preference w c.in-Preference.field-0 c.in-Preference.field-1 c.in-Preference.field-2))

pub hard_counts-loop-goal-preserved : goal.hard_counts-loop-goal-preserved
hard_counts-loop-goal-preserved t c =
    let f = hard_count (world_of c.args.tables.now) in
    c.both-sum.ensures (somes (map f (take c.loop-goal.goal-index c.args.goals.now))) (f c.goal-item.result) c.loop-goal.invariant c.in_ok-count.ensures
    ∙ ap capped (sym (somes-next f c.args.goals.now c.loop-goal.goal-index c.goal-item.result c.loop-goal-test.true c.goal-item.is))
