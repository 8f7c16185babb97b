use Rattle.std.proofs.Common.{ap, ◌∙◌, List, [], ◌++◌, map}
use Rattle.ground_world.specs.Leaves.{goal_preferences}
use Rattle.ground_world.specs.Insides.{inside}
use Rattle.ground_world.specs.ShownLeaves.{preferences_of}
use Rattle.ground_world.specs.declared.leaves.GoalPreference.{GoalPreference}
use Rattle.ground_world.proofs.Insides.{inside-none}
use Rattle.ground_world.proofs.leaves.goal_preferences.Goals as goal

pub returns : goal.returns
returns c =
    c.in_ok-push_preferences.ensures
    ∙ ap (λ (o : List GoalPreference). preferences_of o ++ map (inside []) (goal_preferences c.args.goal.now)) c.new-out.ensures
    ∙ inside-none (goal_preferences c.args.goal.now)
