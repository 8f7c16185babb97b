use Rattle.std.proofs.Common.{rules}
use Rattle.command_words.specs.Grammar.{texts}
use Rattle.command_words.specs.Requests.{Asked, Asks, Schedule, files_seen}
use Rattle.planner_core.proofs.Asking.{not_asked, only_schedule}
use Rattle.planner_core.proofs.words.read_command.Goals as goal

pub returns-in-Ok-None : goal.returns-in-Ok-None
returns-in-Ok-None c =
    let none : (asked : Asked) → ¬ (Asks (texts c.args.words.now) asked) = search rules in
    not_asked (texts c.args.words.now) none

pub returns-in-Ok-Some-Schedule : goal.returns-in-Ok-Some-Schedule
returns-in-Ok-Some-Schedule c =
    let w = c.in-Ok-Some-Schedule in
    let asked : Asks (texts c.args.words.now) (Schedule (files_seen w.field-0-0-0) w.field-0-0-1 w.field-0-0-2 w.field-0-0-3) = search rules in
    only_schedule (texts c.args.words.now) _ _ _ _ asked
