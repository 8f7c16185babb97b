use Rattle.std.proofs.Common.{ap, ◌∙◌, ℕ, Option}
use Rattle.std.specs.Option.{unwrap_or}
use Rattle.ground_world.specs.Counts.{hard_count}
use Rattle.ground_world.specs.Shown.{world_of}
use Rattle.ground_world.proofs.Somes.{amount-capped}
use Rattle.ground_world.proofs.goal_counts.goal_count.Goals as goal

pub returns : goal.returns
returns c =
    c.unwrap_or.ensures ∙ ap (λ (o : Option ℕ). unwrap_or o 0) c.in_ok-count.ensures
    ∙ amount-capped (hard_count (world_of c.args.tables.now) c.args.goal.now)
