-- Believed: what is claimed of all answers.
use Rattle.std.specs.Prelude.{◌≡◌, ◌⊎◌, ℕ, List, Some}
use Rattle.outside.specs.Fetching.{Files, DeskView}
use Rattle.outside.specs.Putting.{SinkView, sink_with}
use Rattle.planner_core.specs.declared.status.Status.{Status}
use Rattle.planner_core.specs.declared.status.Status.TheVariants.{ReadFault, WriteFault}
use Rattle.command_words.specs.declared.requests.Limits.{Limits}
use Rattle.task_types.specs.declared.parts.Rules.{Rules}
use Rattle.planner_core.specs.Answers.{Answer, IsAnswer, Validates, rules_of}
use Rattle.planner_core.specs.Replies.{Said}
use Rattle.planner_core.specs.Sessions.{Ran}
use Rattle.planner_core.specs.Headline.{AreFetched}

-- three texts have one right answer at most, whatever the rules are
abbrev pub AnswersAreOne : Type 0
AnswersAreOne = (rules : Rules) (domain problem plan : List ℕ) (a b : Answer)
    → IsAnswer rules domain problem plan a → IsAnswer rules domain problem plan b → a ≡ b

-- A run ended with a fault of the desk or the sink, or with this reply.
abbrev pub Told : Said → SinkView → SinkView → Status → Type 0
Told said sink sink_now status =
    (status ≡ ReadFault) ⊎ ((status ≡ WriteFault)
    ⊎ ((status ≡ said.status) × (sink_now ≡ sink_with sink said.text)))

-- Where the desk tells its files, the one right reply to them is told, but for faults.
abbrev pub AnswersAreTold : Type 0
AnswersAreTold =
    (words : List (List ℕ)) (files : Files) (desk desk_now : DeskView) (sink sink_now : SinkView)
    (status : Status) (limits : Limits) (domain problem plan : List ℕ) (said : Said)
    → desk.files ≡ Some files → AreFetched words (Some files) limits domain problem plan
    → Validates (rules_of limits) domain problem plan said → Ran words desk desk_now sink sink_now status
    → Told said sink sink_now status
