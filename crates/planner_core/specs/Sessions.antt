-- Believed: what a run did, in terms of the answers that its fetches had.
use Rattle.std.specs.Prelude.{◌≡◌, ◌⊎◌, ℕ, List, [], ◌∷◌, Option, Some, None, Ok, Err}
use Rattle.outside.specs.Fetching.{Files, Answer, MayAnswer, DeskView, desk_after}
use Rattle.outside.specs.Putting.{SinkView, sink_with, sink_failed}
use Rattle.outside.specs.declared.desk.Fetch.{Fetch}
use Rattle.outside.specs.declared.desk.Fetch.TheVariants.{Failed, Long, Memory}
use Rattle.planner_core.specs.declared.status.Status.{Status}
use Rattle.planner_core.specs.declared.status.Status.TheVariants.{WriteFault}
use Rattle.planner_core.specs.declared.reply.Role.{Role}
use Rattle.planner_core.specs.Replies.{Said, read_fault, too_long}
use Rattle.planner_core.specs.Works.{Request, Work, Ends, Asks, AreFor, work_of}

-- There is one answer for each fetch of the work, up to the first that hands over no bytes; each is one that the desk
-- may give.
abbrev pub AreAnswers : Option Files → Work → List Answer → Type 0
AreAnswers files (Ends P) [] = Unit {0}
AreAnswers files (Ends P) (answer ∷ answers) = ⊥
AreAnswers files (Asks role name next) [] = ⊥
AreAnswers files (Asks role name next) (Ok bytes ∷ answers) =
    MayAnswer files name (Ok bytes) × AreAnswers files (next bytes) answers
AreAnswers files (Asks role name next) (Err why ∷ []) = MayAnswer files name (Err why)
AreAnswers files (Asks role name next) (Err why ∷ answer ∷ answers) = ⊥

-- the reply where a fetch hands over no bytes; none where memory was refused
abbrev pub stopped : Role → List ℕ → Fetch → Option Said
stopped role name Failed = Some (read_fault name)
stopped role name (Long count) = Some (too_long role count)
stopped role name Memory = None

-- a reply to these answers: at the end one with the property asked for, and at a fetch without bytes the one that
-- says so
abbrev pub IsReply : Work → List Answer → Said → Type 0
IsReply (Ends P) answers said = P said
IsReply (Asks role name next) [] said = ⊥
IsReply (Asks role name next) (Ok bytes ∷ answers) said = IsReply (next bytes) answers said
IsReply (Asks role name next) (Err why ∷ answers) said = stopped role name why ≡ Some said

-- the desk after these answers
abbrev pub desk_end : Work → List Answer → DeskView → DeskView
desk_end (Ends P) answers desk = desk
desk_end (Asks role name next) [] desk = desk
desk_end (Asks role name next) (Ok bytes ∷ answers) desk =
    desk_end (next bytes) answers (desk_after desk name (Ok bytes))
desk_end (Asks role name next) (Err why ∷ answers) desk = desk_after desk name (Err why)

-- Some answers of the fetches lead to this reply, and leave the desk so.
pub record LedTo (work : Work) (old new : DeskView) (said : Said) : Type 0 where
  pub answers : List Answer
  pub asked : AreAnswers old.files work answers
  pub replied : IsReply work answers said
  pub left : new ≡ desk_end work answers old

-- They lead to this reply, or memory was refused and the desk is as it was.
abbrev pub Came : Work → DeskView → DeskView → Option Said → Type 0
Came work old new None = new ≡ old
Came work old new (Some said) = LedTo work old new said

-- The words ask for this, and some answers of its fetches lead to this reply.
pub record LedByWords (words : List (List ℕ)) (old new : DeskView) (said : Said) : Type 0 where
  pub request : Option Request
  pub asked : AreFor words request
  pub led : LedTo (work_of request) old new said

-- The words lead to this reply, or memory was refused and the desk is as it was.
abbrev pub CameByWords : List (List ℕ) → DeskView → DeskView → Option Said → Type 0
CameByWords words old new None = new ≡ old
CameByWords words old new (Some said) = LedByWords words old new said

-- The reply was written whole in one piece and has given its status, or the sink failed at that piece and took a
-- prefix of it.
abbrev pub Delivered : Said → Status → SinkView → SinkView → Type 0
Delivered said status old new =
    ((status ≡ said.status) × (new ≡ sink_with old said.text))
    ⊎ ((status ≡ WriteFault) × ((count : ℕ) × (new ≡ sink_failed old said.text count)))

-- A run to which memory was not refused: the words, the desk and the sink before and after, and the status.
pub record Ran (words : List (List ℕ)) (desk desk_now : DeskView) (sink sink_now : SinkView)
    (status : Status) : Type 0 where
  pub said : Said
  -- what the words ask for and some answers of the fetches lead to this reply
  pub led : LedByWords words desk desk_now said
  -- and it was written, or a prefix of it
  pub delivered : Delivered said status sink sink_now
