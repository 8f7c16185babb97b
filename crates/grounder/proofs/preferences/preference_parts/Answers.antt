use Rattle.std.proofs.Common.{ap, ◌∙◌, List, ◌++◌}
use Rattle.ground_world.specs.Shown.{world_of}
use Rattle.grounder.specs.declared.preferences.PreferencePart.{PreferencePart}
use Rattle.grounder.specs.ShownPreferences.{preferences_of}
use Rattle.grounder.specs.Terms.{preference_parts}
use Rattle.grounder.proofs.preferences.preference_parts.Goals as goal

pub returns : goal.returns
returns c =
    c.in_ok-push_preference.ensures ∙ ap (λ (l : List PreferencePart). preferences_of l ++ preference_parts (world_of c.args.tables.now) c.args.tree.now) c.new-out.ensures
