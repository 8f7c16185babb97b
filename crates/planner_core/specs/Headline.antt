-- Believed: what a printed verdict tells: the plan in the files is valid and has this cost, or is not, for this reason.
use Rattle.std.specs.Prelude.{◌≡◌, ℕ, List, ◌++◌, codes, Option, Ok}
use Rattle.command_words.specs.Requests.{FileNames}
use Rattle.command_words.specs.declared.requests.Limits.{Limits}
use Rattle.outside.specs.Fetching.{Files, MayAnswer}
use Rattle.outside.specs.Putting.{SinkView, sink_with}
use Rattle.plan_text.specs.Numbers.{number_text}
use Rattle.task_types.specs.declared.parts.Rules.{Rules}
use Rattle.task_types.specs.declared.parts.TaskParts.{TaskParts}
use Rattle.task_types.specs.declared.plans.Reason.{Reason}
use Rattle.task_types.specs.Plan.{Plan}
use Rattle.task_types.specs.Valid.{Valid, IsFirstReason}
use Rattle.task_types.specs.Cost.{cost}
use Rattle.reply_text.specs.Verdicts.{reason_text}
use Rattle.planner_core.specs.Works.{Validate, AskFor}
use Rattle.planner_core.specs.Answers.{AreRead, rules_of}

-- The words ask for a validation within these limits, and these are the bytes of the three files that they name.
pub record AreFetched (words : List (List ℕ)) (files : Option Files) (limits : Limits) (domain problem plan : List ℕ)
    : Type 0 where
  pub names : FileNames
  pub asked : AskFor words (Validate names limits)
  pub domain_fetched : MayAnswer files names.domain (Ok domain)
  pub problem_fetched : MayAnswer files names.problem (Ok problem)
  pub plan_fetched : MayAnswer files names.third (Ok plan)

-- The texts are those of a task and a plan that is valid, and the reply tells its cost.
pub record TellsValid (rules : Rules) (domain problem plan text : List ℕ) : Type 0 where
  pub task : TaskParts
  pub lines : Plan
  pub read : AreRead domain problem plan task lines
  pub valid : Valid task rules lines
  pub told : text ≡ codes "valid cost " ++ number_text (cost task lines) ++ codes "\n"

-- The texts are those of a task and a plan that is not valid, and the reply tells the first reason.
pub record TellsInvalid (rules : Rules) (domain problem plan text : List ℕ) : Type 0 where
  pub task : TaskParts
  pub lines : Plan
  pub reason : Reason
  pub read : AreRead domain problem plan task lines
  pub first : IsFirstReason task rules lines reason
  pub told : text ≡ reason_text reason

-- A reply that tells so of the files, under the rules that the words set, was printed whole.
pub record Printed (Tells : Rules → List ℕ → List ℕ → List ℕ → List ℕ → Type 0) (words : List (List ℕ))
    (files : Option Files) (sink sink_now : SinkView) : Type 0 where
  pub limits : Limits
  pub domain : List ℕ
  pub problem : List ℕ
  pub plan : List ℕ
  pub text : List ℕ
  pub fetched : AreFetched words files limits domain problem plan
  pub tells : Tells (rules_of limits) domain problem plan text
  pub printed : sink_now ≡ sink_with sink text
