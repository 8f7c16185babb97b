use Rattle.std.proofs.Common.{sym, ap, ap₂, ◌∙◌, ℕ, ◌*◌, Bool, List}
use Rattle.std.specs.List.{list_all}
use Rattle.std.proofs.lemmas.List.Folds.{flat_map-map}
use Rattle.pddl_terms.specs.declared.trees.Group.{Group}
use Rattle.pddl_terms.specs.declared.trees.GoalTree.{GoalTree}
use Rattle.pddl_terms.specs.declared.trees.SoftTree.{SoftTree}
use Rattle.ground_world.specs.World.{World, columns}
use Rattle.ground_world.specs.Bindings.{choice_count}
use Rattle.ground_world.specs.Leaves.{Named, name_or_anonymous, goal_preferences}
use Rattle.ground_world.specs.Counts.{fit_limits, soft_count}
use Rattle.ground_world.specs.Counting.{preference_fits}
use Rattle.ground_world.specs.Shown.{world_of}
use Rattle.ground_world.proofs.Walks as walk
use Rattle.ground_world.proofs.LeafLimits.{list_all-flat_map, one-more, one-fails, all-looked, fits-bare, fits-within, found-same, found-inside}
use Rattle.ground_world.proofs.leaf_limits.+preferences.Goals as goal

-- all leaves of a list of trees
abbrev each : World → ℕ → List GoalTree → Bool
each w n ts = list_all (λ t. list_all (preference_fits w n) (goal_preferences t)) ts

pub preferences_fit-returns-in-Condition : goal.preferences_fit-returns-in-Condition
preferences_fit-returns-in-Condition t c = λ n h.
    ap (list_all (preference_fits (world_of c.args.tables.now) n)) (sym (ap goal_preferences c.in-Condition.is ∙ walk.goal_preferences-Condition c.in-Condition.field-0))

pub preferences_fit-returns-in-And : goal.preferences_fit-returns-in-And
preferences_fit-returns-in-And t c =
    let w = world_of c.args.tables.now in
    found-same c.all_preferences_fit.result (λ n. each w n c.as_slice.result.now) (λ n. list_all (preference_fits w n) (goal_preferences c.args.goal.now)) c.args.outer
    (λ n. ap (each w n) c.as_slice.ensures ∙ sym (list_all-flat_map (preference_fits w n) goal_preferences c.in-And.parts)
    ∙ ap (list_all (preference_fits w n))
    (sym (flat_map-map (λ p. p) goal_preferences c.in-And.parts) ∙ sym (ap goal_preferences c.in-And.is ∙ walk.goal_preferences-And c.in-And.field-0 c.in-And.parts)))
    c.all_preferences_fit.ensures

pub preferences_fit-returns-in_ok-inner-in-Forall : goal.preferences_fit-returns-in_ok-inner-in-Forall
preferences_fit-returns-in_ok-inner-in-Forall t c =
    let w = world_of c.args.tables.now in
    found-inside c.preferences_fit.result (λ n. list_all (preference_fits w n) (goal_preferences c.get.result.now)) (λ n. list_all (preference_fits w n) (goal_preferences c.args.goal.now))
    c.args.outer c.in_ok-inner-in-Forall.inner (λ n. n * choice_count (columns w c.as_slice-in-Forall.result.now)) c.in_ok-inner-in-Forall.ensures
    (λ n. ap₂ (λ (gs : List Group) (b : GoalTree). list_all (preference_fits w (n * choice_count (columns w gs))) (goal_preferences b)) c.as_slice-in-Forall.ensures c.get.ensures
    ∙ sym (fits-within w (λ (p : Named SoftTree). soft_count w p.body) n c.in-Forall.groups (goal_preferences c.in-Forall.body))
    ∙ ap (list_all (preference_fits w n)) (sym (ap goal_preferences c.in-Forall.is ∙ walk.goal_preferences-Forall c.in-Forall.field-0 c.in-Forall.groups c.in-Forall.body)))
    c.preferences_fit.ensures

pub preferences_fit-returns-in-Preference : goal.preferences_fit-returns-in-Preference
preferences_fit-returns-in-Preference t c =
    let w = world_of c.args.tables.now in
    let leaf : Named SoftTree = record { name = name_or_anonymous c.in-Preference.field-1; body = c.in-Preference.body } in
    found-same c.soft_fits.result (λ n. fit_limits n (soft_count w c.in-Preference.body)) (λ n. list_all (preference_fits w n) (goal_preferences c.args.goal.now)) c.args.outer
    (λ n. sym (fits-bare w (λ (p : Named SoftTree). soft_count w p.body) n leaf) ∙ ap (list_all (preference_fits w n)) (sym (ap goal_preferences c.in-Preference.is ∙ walk.goal_preferences-Preference c.in-Preference.field-0 c.in-Preference.field-1 c.in-Preference.body)))
    c.soft_fits.ensures

pub all_preferences_fit-loop-goal-preserved : goal.all_preferences_fit-loop-goal-preserved
all_preferences_fit-loop-goal-preserved t c = λ n h.
    let w = world_of c.args.tables.now in
    one-more (λ (x : GoalTree). list_all (preference_fits w n) (goal_preferences x)) c.args.goals.now c.loop-goal.goal-index c.goal-item.result c.loop-goal-test.true c.goal-item.is
    (c.loop-goal.invariant n h) (sym (c.in_ok-preferences_fit.ensures n h) ∙ c.if-not-branch.false)

pub all_preferences_fit-returns-then-not-branch : goal.all_preferences_fit-returns-then-not-branch
all_preferences_fit-returns-then-not-branch t c = λ n h.
    let w = world_of c.args.tables.now in
    one-fails (λ (x : GoalTree). list_all (preference_fits w n) (goal_preferences x)) c.args.goals.now c.loop-goal.goal-index c.goal-item.result c.loop-goal-test.true c.goal-item.is
    (sym (c.in_ok-preferences_fit.ensures n h) ∙ c.if-not-branch.true)

pub all_preferences_fit-returns : goal.all_preferences_fit-returns
all_preferences_fit-returns t c = λ n h.
    let w = world_of c.args.tables.now in
    all-looked (λ (x : GoalTree). list_all (preference_fits w n) (goal_preferences x)) c.args.goals.now c.loop-goal.goal-index c.loop-goal-test.false (c.loop-goal.invariant n h)
