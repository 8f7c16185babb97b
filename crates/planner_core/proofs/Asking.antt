-- What words ask for.
use Rattle.std.proofs.Common.{◌≡◌, ℕ, List, Option, Some, None, ap}
use Rattle.outside.specs.Fetching.{DeskView}
use Rattle.command_words.specs.Grammar.{Text}
use Rattle.command_words.specs.Requests.{Asked, Asks as WordsAsk, Validate as validate_asked, Schedule as schedule_asked, FileNames}
use Rattle.command_words.specs.declared.requests.Limits.{Limits}
use Rattle.command_words.proofs.One.{one_request}
use Rattle.planner_core.specs.Replies.{Said}
use Rattle.planner_core.specs.Works.{Request, Validate, AskFor, AreFor, work_of}
use Rattle.planner_core.specs.Sessions.{Came, CameByWords}

-- ---- one request

-- the request of a command that is built, where it is one
abbrev built : Asked → Request → Request
built (validate_asked files limits) other = Validate files limits
built (schedule_asked files limits pivots leaves) other = other

-- words ask for one request of a command that is built at most
pub one_asked : (words : List Text) (r s : Request) → AskFor words r → AskFor words s → r ≡ s
one_asked words (Validate files limits) (Validate other_files other_limits) a b =
    ap (λ (asked : Asked). built asked (Validate files limits))
    (one_request words (validate_asked files limits) (validate_asked other_files other_limits) a b)

-- words that ask for nothing ask for no command that is built
pub not_asked : (words : List Text) → ((asked : Asked) → ¬ (WordsAsk words asked)) → AreFor words None
not_asked words none (Validate files limits) asked = none (validate_asked files limits) asked

one_form : (files other : FileNames) (limits other_limits : Limits) (pivots leaves : ℕ) → validate_asked files limits ≡ schedule_asked other other_limits pivots leaves → ⊥
one_form files other limits other_limits pivots leaves e = cc

-- words that ask for a schedule ask for no command that is built
pub only_schedule : (words : List Text) (files : FileNames) (limits : Limits) (pivots leaves : ℕ) → WordsAsk words (schedule_asked files limits pivots leaves) → AreFor words None
only_schedule words files limits pivots leaves asked (Validate other other_limits) also =
    one_form other files other_limits limits pivots leaves (one_request words (validate_asked other other_limits) (schedule_asked files limits pivots leaves) also asked)

-- ---- work

-- what the words ask for comes to this, so the words lead to it
pub came_by_words : (words : List Text) (request : Option Request) (old new : DeskView) (said : Option Said) → AreFor words request → Came (work_of request) old new said → CameByWords words old new said
came_by_words words request old new None asked came = came
came_by_words words request old new (Some said) asked came = record { request = request; asked = asked; led = came }
