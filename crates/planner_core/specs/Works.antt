-- Believed: what the words ask for, as work: files to be fetched one after another, and then a reply.
use Rattle.std.specs.Prelude.{◌≡◌, ℕ, List, [], ◌∷◌, Option, Some, None, Contains}
use Rattle.command_words.specs.Grammar.{Text}
use Rattle.command_words.specs.Requests.{FileNames, Asks as WordsAsk, Validate as validate_asked}
use Rattle.command_words.specs.declared.requests.Limits.{Limits}
use Rattle.planner_core.specs.declared.reply.Role.{Role}
use Rattle.planner_core.specs.declared.reply.Role.TheVariants.{Domain, Problem, Plan}
use Rattle.planner_core.specs.Replies.{Said, usage}
use Rattle.planner_core.specs.Answers.{rules_of, Validates}

-- a request of a command that is built
pub data Request : Type 0 where
  Validate : (files : FileNames) (limits : Limits) → Request

-- the words ask for it
abbrev pub AskFor : List Text → Request → Type 0
AskFor words (Validate files limits) = WordsAsk words (validate_asked files limits)

-- what the words ask for, if they ask for a command that is built
abbrev pub AreFor : List Text → Option Request → Type 0
AreFor words None = (request : Request) → ¬ (AskFor words request)
AreFor words (Some request) = AskFor words request

-- the names of the files that a request asks for
abbrev pub files_of_request : Request → List Text
files_of_request (Validate files limits) = files.domain ∷ files.problem ∷ files.third ∷ []

-- It is the name of a file that the words ask for.
pub record IsFileAsked (words : List Text) (name : Text) : Type 0 where
  pub request : Request
  pub asked : AskFor words request
  pub among : Contains (files_of_request request) name

-- The work ends with a reply that has this property, or a file is asked for and its bytes say how to go on.
pub data Work : Type 1 where
  Ends : (Said → Type 0) → Work
  Asks : Role → List ℕ → (List ℕ → Work) → Work

-- `validate` asks for the domain, the problem and the plan, and ends with a reply to their texts
abbrev pub validate_work : FileNames → Limits → Work
validate_work files limits =
    Asks Domain files.domain (λ domain_text. Asks Problem files.problem (λ problem_text. Asks Plan files.third (λ plan_text.
    Ends (Validates (rules_of limits) domain_text problem_text plan_text))))

-- the work of each command
abbrev pub work_of_request : Request → Work
work_of_request (Validate files limits) = validate_work files limits

-- words that ask for nothing are answered by the usage line at once
abbrev pub work_of : Option Request → Work
work_of None = Ends (λ said. said ≡ usage)
work_of (Some request) = work_of_request request
