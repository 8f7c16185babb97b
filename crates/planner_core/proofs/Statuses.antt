-- Which status comes with which fault of the desk.
use Rattle.std.proofs.Common.{◌≡◌, ◌⊎◌, ◌+◌, ◌<◌, ℕ, List, [], ◌∷◌, Contains, Option, Some, None, Ok, Err, refl, arith, lit<, sym, subst, inl, inr, ap}
use Rattle.outside.specs.Fetching.{Answer, DeskView}
use Rattle.outside.specs.Putting.{SinkView, sink_with}
use Rattle.outside.specs.declared.desk.Fetch.TheVariants.{Failed, Long, Memory}
use Rattle.planner_core.specs.declared.status.Status.{Status}
use Rattle.planner_core.specs.declared.status.Status.TheVariants.{Usage, ReadFault, WriteFault, NoMemory}
use Rattle.planner_core.specs.Replies.{Said, IsAnswerStatus, read_fault, too_long}
use Rattle.planner_core.specs.Works.{Work, Ends, Asks, Request, Validate, AskFor, AreFor, IsFileAsked, work_of, work_of_request, files_of_request}
use Rattle.planner_core.specs.Answers.{rules_of}
use Rattle.planner_core.specs.Sessions.{IsReply, desk_end, LedByWords}
use Rattle.planner_core.proofs.Answered.{validates_status}

-- each fetch asks for one of these names, and each reply has the status of an answer
abbrev pub IsFine : List (List ℕ) → Work → Type 0
IsFine names (Ends P) = (said : Said) → P said → IsAnswerStatus said.status
IsFine names (Asks role name next) = Contains names name × ((bytes : List ℕ) → IsFine names (next bytes))

-- An answer leaves the desk as it was, or one fetch failed and the reply says so.
abbrev pub FitsDesk : List (List ℕ) → DeskView → DeskView → Status → Type 0
FitsDesk names old new status =
    (IsAnswerStatus status × (new ≡ old))
    ⊎ ((status ≡ ReadFault) × Contains names new.fault_name × (new.faults ≡ old.faults + 1))

fits : (names : List (List ℕ)) (work : Work) (answers : List Answer) (desk : DeskView) (said : Said) → IsFine names work → IsReply work answers said → FitsDesk names desk (desk_end work answers desk) said.status
fits names (Ends P) answers desk said fine e = inl (fine said e, refl)
fits names (Asks role name next) [] desk said fine e = absurd e
fits names (Asks role name next) (Ok bytes ∷ answers) desk said fine e = fits names (next bytes) answers desk said (fine.1 bytes) e
fits names (Asks role name next) (Err Failed ∷ answers) desk said fine e =
    let same : read_fault name ≡ said = cc in
    inr (sym (ap (λ (s : Said). s.status) same), fine.0, refl)
fits names (Asks role name next) (Err (Long count) ∷ answers) desk said fine e =
    let P : Said → Type 0 = λ s. IsAnswerStatus s.status in
    let same : too_long role count ≡ said = cc in
    inl (subst P same tt, refl)
fits names (Asks role name next) (Err Memory ∷ answers) desk said fine e = cc

fine_request : (request : Request) → IsFine (files_of_request request) (work_of_request request)
fine_request (Validate files limits) =
    ((0, lit< tt, refl), λ domain_text. ((1, lit< tt, refl), λ problem_text. ((2, lit< tt, refl), λ plan_text. λ said is. validates_status (rules_of limits) domain_text problem_text plan_text said is)))

-- what follows for the clauses of a run
pub record Facts (words : List (List ℕ)) (status : Status) (old new : DeskView) : Type 0 where
  pub usage : status ≡ Usage → AreFor words None
  pub not_accepted : AreFor words None → status ≡ Usage
  pub read_fault : status ≡ ReadFault → old.faults < new.faults
  pub risen : old.faults < new.faults → status ≡ ReadFault
  pub fault_name : old.faults < new.faults → IsFileAsked words new.fault_name
  pub not_write_fault : status ≡ WriteFault → ⊥
  pub not_no_memory : status ≡ NoMemory → ⊥

facts_fit : (words : List (List ℕ)) (request : Request) (status : Status) (old new : DeskView) → AskFor words request → FitsDesk (files_of_request request) old new status → Facts words status old new
facts_fit words request status old new asked (inl p) =
    let still : new.faults ≡ old.faults = ap (λ (d : DeskView). d.faults) p.1 in
    record {
      usage = λ e. absurd (subst IsAnswerStatus e p.0);
      not_accepted = λ none. absurd (none request asked);
      read_fault = λ e. absurd (subst IsAnswerStatus e p.0);
      risen = λ l. absurd (omega arith);
      fault_name = λ l. absurd (omega arith);
      not_write_fault = λ e. subst IsAnswerStatus e p.0;
      not_no_memory = λ e. subst IsAnswerStatus e p.0;
    }
facts_fit words request status old new asked (inr p) = record {
  usage = λ e. cc;
  not_accepted = λ none. absurd (none request asked);
  read_fault = λ e. omega (arith, p.2);
  risen = λ l. p.0;
  fault_name = λ l. record { request = request; asked = asked; among = p.1 };
  not_write_fault = λ e. cc;
  not_no_memory = λ e. cc;
}

facts : (words : List (List ℕ)) (request : Option Request) (answers : List Answer) (old new : DeskView) (said : Said) → AreFor words request → IsReply (work_of request) answers said
    → new ≡ desk_end (work_of request) answers old → Facts words said.status old new
facts words None answers old new said none e left =
    let status : said.status ≡ Usage = ap (λ (s : Said). s.status) e in
    let still : new.faults ≡ old.faults = ap (λ (d : DeskView). d.faults) left in
    record {
      usage = λ _. none;
      not_accepted = λ _. status;
      read_fault = λ e. cc;
      risen = λ l. absurd (omega arith);
      fault_name = λ l. absurd (omega arith);
      not_write_fault = λ e. cc;
      not_no_memory = λ e. cc;
    }
facts words (Some request) answers old new said asked e left =
    let P : DeskView → Type 0 = λ d. FitsDesk (files_of_request request) old d said.status in
    facts_fit words request said.status old new asked (subst P (sym left) (fits (files_of_request request) (work_of_request request) answers old said (fine_request request) e))

-- of a run that led to a reply
pub facts_of : (words : List (List ℕ)) (old new : DeskView) (said : Said) → LedByWords words old new said → Facts words said.status old new
facts_of words old new said by = facts words by.request by.led.answers old new said by.asked by.led.replied by.led.left

-- a piece that was taken leaves the count of faults
pub same_faults : (old new : SinkView) (piece : List ℕ) → new ≡ sink_with old piece → new.faults ≡ old.faults
same_faults old new piece e = ap (λ (k : SinkView). k.faults) e
