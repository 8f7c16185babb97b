use Rattle.std.proofs.Common.{Some, rules}
use Rattle.command_words.specs.Grammar.{texts}
use Rattle.planner_core.specs.Works.{AskFor}
use Rattle.planner_core.specs.Words.{asked}
use Rattle.planner_core.proofs.Asking.{came_by_words}
use Rattle.planner_core.proofs.session.perform.Goals as goal

pub returns-in-Ok-Some : goal.returns-in-Ok-Some
returns-in-Ok-Some g c =
    let for : AskFor (texts c.args.words.now) (asked c.in-Ok-Some.command) = search rules in
    came_by_words (texts c.args.words.now) (Some (asked c.in-Ok-Some.command)) _ _ _ for c.carry_out.ensures
