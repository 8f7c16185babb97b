-- Private: the requests that commands stand for.
use Rattle.planner_core.specs.declared.words.Command.{Command}
use Rattle.planner_core.specs.declared.words.Command.TheVariants as command
use Rattle.command_words.specs.Requests.{files_seen}
use Rattle.planner_core.specs.Works.{Request, Validate}

abbrev pub asked : Command → Request
asked (command.Validate files limits) = Validate (files_seen files) limits
