use Rattle.std.proofs.Common.{◌≡◌, ap, subst, ◌∙◌, List, [], ◌∷◌, ◌++◌, OnOk}
use Rattle.std.proofs.lemmas.List.{map-append}
use Rattle.ground_world.specs.Shown.{world_of}
use Rattle.grounder.specs.ShownPreferences.{preference_of, preferences_of}
use Rattle.grounder.specs.Terms.{PreferencePart, preference_parts}
use Rattle.grounder.proofs.OneByOne.{joined_more}
use Rattle.grounder.proofs.PreferenceSteps.{parts-Formula, parts-Equal, parts-Comparison, parts-And}
use Rattle.grounder.proofs.preferences.+preferences.Goals as goal

pub push_preference-returns-in_ok-push-in-Formula : goal.push_preference-returns-in_ok-push-in-Formula
push_preference-returns-in_ok-push-in-Formula t c =
    ap preferences_of c.in_ok-push-in-Formula.ensures.ok ∙ map-append preference_of c.args.out.now _
    ∙ ap (λ (l : List PreferencePart). preferences_of c.args.out.now ++ l) (parts-Formula (world_of c.args.tables.now) c.in-Formula.is)

pub push_preference-returns-in_ok-push-in-Equal : goal.push_preference-returns-in_ok-push-in-Equal
push_preference-returns-in_ok-push-in-Equal t c =
    ap preferences_of c.in_ok-push-in-Equal.ensures.ok ∙ map-append preference_of c.args.out.now _
    ∙ ap (λ (l : List PreferencePart). preferences_of c.args.out.now ++ l)
    (ap (λ (x : PreferencePart). x ∷ []) c.equal_preference.ensures ∙ parts-Equal (world_of c.args.tables.now) c.in-Equal.is)

pub push_preference-returns-in_ok-push-in-Comparison : goal.push_preference-returns-in_ok-push-in-Comparison
push_preference-returns-in_ok-push-in-Comparison t c =
    ap preferences_of c.in_ok-push-in-Comparison.ensures.ok ∙ map-append preference_of c.args.out.now _
    ∙ ap (λ (l : List PreferencePart). preferences_of c.args.out.now ++ l) (parts-Comparison (world_of c.args.tables.now) c.in-Comparison.is)

pub push_preference-returns-in-And : goal.push_preference-returns-in-And
push_preference-returns-in-And t c =
    subst (λ (l : List PreferencePart). OnOk c.push_preferences.result (preferences_of c.push_preferences.new.out ≡ preferences_of c.args.out.now ++ l))
    (parts-And (world_of c.args.tables.now) c.in-And.is c.as_slice.ensures) c.push_preferences.ensures

pub push_preferences-loop-tree-preserved : goal.push_preferences-loop-tree-preserved
push_preferences-loop-tree-preserved t c =
    joined_more c.args.trees.now c.loop-tree.tree-index c.tree-item.result c.loop-tree-test.true c.tree-item.is
    (preference_parts (world_of c.args.tables.now)) (preferences_of c.args.out.now) (preferences_of c.loop-tree.out) (preferences_of c.push_preference.new.out) c.loop-tree.invariant c.in_ok-push_preference.ensures
