use Rattle.std.proofs.Common.{◌≡◌, refl, sym, ap, subst, ◌∙◌, ℕ, min, arith, List, map, IfOk}
use Rattle.std.proofs.lemmas.Result.{IfOk-weaker}
use Rattle.pddl_terms.specs.declared.trees.Group.{Group}
use Rattle.pddl_terms.specs.declared.trees.CondTree.{CondTree}
use Rattle.pddl_terms.specs.declared.trees.Comparison.{Comparison}
use Rattle.pddl_terms.specs.declared.trees.Comparison.TheVariants.{Equal, AtMost, AtLeast, Below, Above}
use Rattle.pddl_names.specs.Equalities.{is_equality}
use Rattle.ground_world.specs.Counts.{compare_count, condition_count, sum_or_one, written_out}
use Rattle.ground_world.specs.Shown.{world_of}
use Rattle.ground_world.proofs.Walks as walk
use Rattle.ground_world.proofs.Capped.{sum-more, small_if}
use Rattle.ground_world.proofs.counts.+counting.Goals as goal

pub condition_count-returns-in-Empty : goal.condition_count-returns-in-Empty
condition_count-returns-in-Empty t c =
    let w = world_of c.args.tables.now in
    let e : condition_count w c.args.condition.now ≡ 1 = ap (condition_count w) c.in-Empty.is ∙ walk.condition_count-Empty w c.in-Empty.field-0 in omega arith

pub condition_count-returns-in-Atom : goal.condition_count-returns-in-Atom
condition_count-returns-in-Atom t c =
    let w = world_of c.args.tables.now in
    let e : condition_count w c.args.condition.now ≡ 1 = ap (condition_count w) c.in-Atom.is ∙ walk.condition_count-Atom w c.in-Atom.field-0 in omega arith

pub condition_count-returns-in-LeftOut : goal.condition_count-returns-in-LeftOut
condition_count-returns-in-LeftOut t c =
    let w = world_of c.args.tables.now in
    let e : condition_count w c.args.condition.now ≡ 1 = ap (condition_count w) c.in-LeftOut.is ∙ walk.condition_count-LeftOut w c.in-LeftOut.field-0 in omega arith

small_order : (o : Comparison) → compare_count o ≡ min 65537 (compare_count o)
small_order Equal = refl
small_order AtMost = refl
small_order AtLeast = refl
small_order Below = refl
small_order Above = refl

pub condition_count-returns-in-And : goal.condition_count-returns-in-And
condition_count-returns-in-And t c =
    let w = world_of c.args.tables.now in
    subst (λ n. IfOk c.conditions_count.result (λ count. count ≡ min 65537 n))
    (ap (λ (cs : List CondTree). sum_or_one (map (condition_count w) cs)) c.as_slice.ensures
    ∙ sym (ap (condition_count w) c.in-And.is ∙ walk.condition_count-And w c.in-And.field-0 c.in-And.parts)) c.conditions_count.ensures

pub condition_count-returns-in-Not : goal.condition_count-returns-in-Not
condition_count-returns-in-Not t c =
    let w = world_of c.args.tables.now in
    subst (λ n. IfOk c.condition_count-in-Not.result (λ count. count ≡ min 65537 n))
    (ap (condition_count w) c.get-in-Not.ensures
    ∙ sym (ap (condition_count w) c.in-Not.is ∙ walk.condition_count-Not w c.in-Not.field-0 c.in-Not.inner)) c.condition_count-in-Not.ensures

pub condition_count-returns-in-Equal : goal.condition_count-returns-in-Equal
condition_count-returns-in-Equal t c =
    let w = world_of c.args.tables.now in
    c.equal_count.ensures ∙ small_if (is_equality w.functions c.in-Equal.left c.in-Equal.right)
    ∙ ap (min 65537) (sym (ap (condition_count w) c.in-Equal.is ∙ walk.condition_count-Equal w c.in-Equal.field-0 c.in-Equal.left c.in-Equal.right))

pub condition_count-returns-in-Compare : goal.condition_count-returns-in-Compare
condition_count-returns-in-Compare t c =
    let w = world_of c.args.tables.now in
    c.compare_count.ensures ∙ small_order c.in-Compare.order
    ∙ ap (min 65537) (sym (ap (condition_count w) c.in-Compare.is ∙ walk.condition_count-Compare w c.in-Compare.field-0 c.in-Compare.order c.in-Compare.field-2 c.in-Compare.field-3))

pub condition_count-returns-in_ok-parts-in-Forall : goal.condition_count-returns-in_ok-parts-in-Forall
condition_count-returns-in_ok-parts-in-Forall t c =
    let w = world_of c.args.tables.now in
    let n = condition_count w c.in-Forall.body in
    IfOk-weaker c.written_out.result
    (λ count. (k : ℕ) → c.in_ok-parts-in-Forall.parts ≡ min 65537 k → count ≡ min 65537 (written_out w c.as_slice-in-Forall.result.now k))
    (λ count. count ≡ min 65537 (condition_count w c.args.condition.now))
    (λ count h. h n (c.in_ok-parts-in-Forall.ensures ∙ ap (λ (b : CondTree). min 65537 (condition_count w b)) c.get.ensures)
    ∙ ap (λ (gs : List Group). min 65537 (written_out w gs n)) c.as_slice-in-Forall.ensures
    ∙ ap (min 65537) (sym (ap (condition_count w) c.in-Forall.is ∙ walk.condition_count-Forall w c.in-Forall.field-0 c.in-Forall.groups c.in-Forall.body)))
    c.written_out.ensures

pub conditions_count-loop-condition-preserved : goal.conditions_count-loop-condition-preserved
conditions_count-loop-condition-preserved t c =
    let f = condition_count (world_of c.args.tables.now) in
    c.min-sum.ensures ∙ sum-more f c.args.conditions.now c.loop-condition.condition-index c.condition-item.result c.loop-condition.sum c.in_ok-count.count
    c.loop-condition-test.true c.condition-item.is c.loop-condition.invariant c.in_ok-count.ensures
