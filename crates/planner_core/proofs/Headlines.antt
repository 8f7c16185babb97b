-- A verdict is printed only where the files hold such a plan.
use Rattle.std.proofs.Common.{◌≡◌, ℕ, List, [], ◌∷◌, Option, Some, None, Ok, Err, sym, ◌∙◌, subst, ap}
use Rattle.std.proofs.lemmas.Option.{same_Some}
use Rattle.outside.specs.Fetching.{Files, Answer, MayAnswer, DeskView}
use Rattle.outside.specs.Putting.{SinkView, sink_with}
use Rattle.outside.specs.declared.desk.Fetch.TheVariants.{Failed, Long, Memory}
use Rattle.command_words.specs.declared.requests.Limits.{Limits}
use Rattle.task_types.specs.declared.parts.Rules.{Rules}
use Rattle.plan_files.specs.declared.faults.LineKind.{LineKind}
use Rattle.plan_files.specs.declared.faults.LineKind.TheVariants as line
use Rattle.plan_validator.specs.declared.verdicts.Verdict.TheVariants.{Valid, Invalid}
use Rattle.reply_text.specs.Verdicts.{valid_text}
use Rattle.planner_core.specs.declared.status.Status.{Status}
use Rattle.planner_core.specs.declared.status.Status.TheVariants.{Done, Negative, Usage, Refused, Budget, ReadFault, WriteFault, NoMemory}
use Rattle.planner_core.specs.Replies.{Said, usage, read_fault, too_long}
use Rattle.planner_core.specs.Validations.{line_status, wide_said, verdict_said}
use Rattle.planner_core.specs.Answers.{Answer as TextsAnswer, DomainRefused, ProblemRefused, GroundRefused, PlanRefused, WideAt, Decided, IsAnswer, rules_of, said_of, Validates}
use Rattle.planner_core.proofs.Answered.{said_with-status, told-status}
use Rattle.planner_core.specs.Works.{Work, Ends, Asks, Request, Validate, AreFor, work_of}
use Rattle.planner_core.specs.Sessions.{AreAnswers, IsReply, LedByWords}
use Rattle.planner_core.specs.Headline.{AreFetched, TellsValid, TellsInvalid, Printed}

-- the status of a verdict
abbrev IsVerdict : Status → Type 0
IsVerdict Done = Unit {0}
IsVerdict Negative = Unit {0}
IsVerdict Usage = ⊥
IsVerdict Refused = ⊥
IsVerdict Budget = ⊥
IsVerdict ReadFault = ⊥
IsVerdict WriteFault = ⊥
IsVerdict NoMemory = ⊥

-- Each file was handed over, and the reply is one to their bytes.
abbrev Reached : Option Files → Work → Said → Type 0
Reached files (Ends P) said = P said
Reached files (Asks role name next) said = (bytes : List ℕ) × (MayAnswer files name (Ok bytes) × Reached files (next bytes) said)

no_verdict : (other said : Said) → other ≡ said → ¬ (IsVerdict other.status) → ¬ (IsVerdict said.status)
no_verdict other said e none =
    let P : Said → Type 0 = λ s. ¬ (IsVerdict s.status) in
    subst P e none

reached : (files : Option Files) (work : Work) (answers : List Answer) (said : Said) → AreAnswers files work answers → IsReply work answers said → IsVerdict said.status → Reached files work said
reached files (Ends P) [] said asked e verdict = e
reached files (Ends P) (answer ∷ answers) said asked e verdict = absurd asked
reached files (Asks role name next) [] said asked e verdict = absurd e
reached files (Asks role name next) (Ok bytes ∷ answers) said asked e verdict = (bytes, (asked.0, reached files (next bytes) answers said asked.1 e verdict))
reached files (Asks role name next) (Err Failed ∷ answers) said asked e verdict =
    let same : read_fault name ≡ said = cc in
    absurd (no_verdict (read_fault name) said same (λ v. v) verdict)
reached files (Asks role name next) (Err (Long count) ∷ answers) said asked e verdict =
    let same : too_long role count ≡ said = cc in
    absurd (no_verdict (too_long role count) said same (λ v. v) verdict)
reached files (Asks role name next) (Err Memory ∷ answers) said asked e verdict = cc

-- the reply tells so of the files, under rules
abbrev Claim : Type 1
Claim = Rules → List ℕ → List ℕ → List ℕ → List ℕ → Type 0

record Told (Tells : Claim) (words : List (List ℕ)) (files : Option Files) (text : List ℕ) : Type 0 where
  limits : Limits
  domain : List ℕ
  problem : List ℕ
  plan : List ℕ
  fetched : AreFetched words files limits domain problem plan
  tells : Tells (rules_of limits) domain problem plan text

told : (Tells : Claim) (words : List (List ℕ)) (files : Option Files) (said : Said) (request : Option Request) → AreFor words request
    → Reached files (work_of request) said → IsVerdict said.status
    → ((rules : Rules) (domain problem plan : List ℕ) → Validates rules domain problem plan said → Tells rules domain problem plan said.text) → Told Tells words files said.text
told Tells words files said None asked e verdict tell = absurd (no_verdict usage said (sym e) (λ v. v) verdict)
told Tells words files said (Some (Validate names limits)) asked (domain, (d, (problem, (p, (plan, (q, is)))))) verdict tell = record {
  limits = limits;
  domain = domain;
  problem = problem;
  plan = plan;
  fetched = record {
    names = names;
    asked = asked;
    domain_fetched = d;
    problem_fetched = p;
    plan_fetched = q;
  };
  tells = tell (rules_of limits) domain problem plan is;
}

-- Told apart by a family, and not by `cc`, which would compute the replies' texts.
abbrev NotDone : Status → Type 0
NotDone Done = ⊥
NotDone Negative = Unit {0}
NotDone Usage = Unit {0}
NotDone Refused = Unit {0}
NotDone Budget = Unit {0}
NotDone ReadFault = Unit {0}
NotDone WriteFault = Unit {0}
NotDone NoMemory = Unit {0}

abbrev NotNegative : Status → Type 0
NotNegative Done = Unit {0}
NotNegative Negative = ⊥
NotNegative Usage = Unit {0}
NotNegative Refused = Unit {0}
NotNegative Budget = Unit {0}
NotNegative ReadFault = Unit {0}
NotNegative WriteFault = Unit {0}
NotNegative NoMemory = Unit {0}

done_apart : (status : Status) (said : Said) → said.status ≡ status → NotDone status → said.status ≡ Done → ⊥
done_apart status said e not done = subst NotDone (sym e ∙ done) not

negative_apart : (status : Status) (said : Said) → said.status ≡ status → NotNegative status → said.status ≡ Negative → ⊥
negative_apart status said e not negative = subst NotNegative (sym e ∙ negative) not

line_not-done : (kind : LineKind) → NotDone (line_status kind)
line_not-done line.Shape = tt
line_not-done line.Number = tt
line_not-done line.Name = tt
line_not-done line.Unground = tt
line_not-done (line.Order f) = tt
line_not-done line.Limit = tt
line_not-done line.Wide = tt

line_not-negative : (kind : LineKind) → NotNegative (line_status kind)
line_not-negative line.Shape = tt
line_not-negative line.Number = tt
line_not-negative line.Name = tt
line_not-negative line.Unground = tt
line_not-negative (line.Order f) = tt
line_not-negative line.Limit = tt
line_not-negative line.Wide = tt

valid_answer : (rules : Rules) (domain problem plan : List ℕ) (answer : TextsAnswer) (said : Said) → IsAnswer rules domain problem plan answer → said_of answer ≡ Some said → said.status ≡ Done → TellsValid rules domain problem plan said.text
valid_answer rules domain problem plan (DomainRefused f) said is t e = absurd (done_apart _ said (said_with-status _ _ said t) tt e)
valid_answer rules domain problem plan (ProblemRefused f) said is t e = absurd (done_apart _ said (said_with-status _ _ said t) tt e)
valid_answer rules domain problem plan (GroundRefused f) said is t e = absurd (done_apart _ said (said_with-status _ _ said t) tt e)
valid_answer rules domain problem plan (PlanRefused n kind) said is t e = absurd (done_apart _ said (said_with-status _ _ said t) (line_not-done kind) e)
valid_answer rules domain problem plan (WideAt k) said is t e = absurd (done_apart _ said (told-status (wide_said k) said t) tt e)
valid_answer rules domain problem plan (Decided (Valid c)) said (task, (lines, (read, h))) t e = record {
  task = task;
  lines = lines;
  read = read;
  valid = h.1;
  told = sym (ap (λ (s : Said). s.text) (same_Some (verdict_said (Valid c)) said t)) ∙ ap valid_text h.3;
}
valid_answer rules domain problem plan (Decided (Invalid reason)) said is t e = absurd (done_apart _ said (told-status (verdict_said (Invalid reason)) said t) tt e)

invalid_answer : (rules : Rules) (domain problem plan : List ℕ) (answer : TextsAnswer) (said : Said) → IsAnswer rules domain problem plan answer → said_of answer ≡ Some said → said.status ≡ Negative → TellsInvalid rules domain problem plan said.text
invalid_answer rules domain problem plan (DomainRefused f) said is t e = absurd (negative_apart _ said (said_with-status _ _ said t) tt e)
invalid_answer rules domain problem plan (ProblemRefused f) said is t e = absurd (negative_apart _ said (said_with-status _ _ said t) tt e)
invalid_answer rules domain problem plan (GroundRefused f) said is t e = absurd (negative_apart _ said (said_with-status _ _ said t) tt e)
invalid_answer rules domain problem plan (PlanRefused n kind) said is t e = absurd (negative_apart _ said (said_with-status _ _ said t) (line_not-negative kind) e)
invalid_answer rules domain problem plan (WideAt k) said is t e = absurd (negative_apart _ said (told-status (wide_said k) said t) tt e)
invalid_answer rules domain problem plan (Decided (Valid c)) said is t e = absurd (negative_apart _ said (told-status (verdict_said (Valid c)) said t) tt e)
invalid_answer rules domain problem plan (Decided (Invalid reason)) said (task, (lines, (read, h))) t e = record {
  task = task;
  lines = lines;
  reason = reason;
  read = read;
  first = h.1;
  told = sym (ap (λ (s : Said). s.text) (same_Some (verdict_said (Invalid reason)) said t));
}

tells_valid : (rules : Rules) (domain problem plan : List ℕ) (said : Said) → said.status ≡ Done → Validates rules domain problem plan said → TellsValid rules domain problem plan said.text
tells_valid rules domain problem plan said e is = valid_answer rules domain problem plan is.answer said is.right is.told e

tells_invalid : (rules : Rules) (domain problem plan : List ℕ) (said : Said) → said.status ≡ Negative → Validates rules domain problem plan said → TellsInvalid rules domain problem plan said.text
tells_invalid rules domain problem plan said e is = invalid_answer rules domain problem plan is.answer said is.right is.told e

printed : (Tells : Claim) (words : List (List ℕ)) (files : Option Files) (sink sink_now : SinkView) (text : List ℕ) → Told Tells words files text → sink_now ≡ sink_with sink text → Printed Tells words files sink sink_now
printed Tells words files sink sink_now text told e = record {
  limits = told.limits;
  domain = told.domain;
  problem = told.problem;
  plan = told.plan;
  text = text;
  fetched = told.fetched;
  tells = told.tells;
  printed = e;
}

told_of : (Tells : Claim) (words : List (List ℕ)) (desk desk_now : DeskView) (sink sink_now : SinkView) (said : Said) → IsVerdict said.status
    → ((rules : Rules) (domain problem plan : List ℕ) → Validates rules domain problem plan said → Tells rules domain problem plan said.text)
    → LedByWords words desk desk_now said → sink_now ≡ sink_with sink said.text → Printed Tells words desk.files sink sink_now
told_of Tells words desk desk_now sink sink_now said verdict tell by written =
    let came : Reached desk.files (work_of by.request) said = reached desk.files (work_of by.request) by.led.answers said by.led.asked by.led.replied verdict in
    printed Tells words desk.files sink sink_now said.text (told Tells words desk.files said by.request by.asked came verdict tell) written

-- a reply with the status `Done` that was written whole tells that a plan is valid
pub prints_valid : (words : List (List ℕ)) (desk desk_now : DeskView) (sink sink_now : SinkView) (said : Said) (piece : List ℕ) → LedByWords words desk desk_now said → sink_now ≡ sink_with sink piece → piece ≡ said.text → said.status ≡ Done → Printed TellsValid words desk.files sink sink_now
prints_valid words desk desk_now sink sink_now said piece by written same e =
    let P : List ℕ → Type 0 = λ bytes. sink_now ≡ sink_with sink bytes in
    told_of TellsValid words desk desk_now sink sink_now said (subst IsVerdict (sym e) tt) (λ rules domain problem plan. tells_valid rules domain problem plan said e) by (subst P same written)

-- a reply with the status `Negative` that was written whole tells that a plan is not valid
pub prints_invalid : (words : List (List ℕ)) (desk desk_now : DeskView) (sink sink_now : SinkView) (said : Said) (piece : List ℕ) → LedByWords words desk desk_now said → sink_now ≡ sink_with sink piece → piece ≡ said.text → said.status ≡ Negative → Printed TellsInvalid words desk.files sink sink_now
prints_invalid words desk desk_now sink sink_now said piece by written same e =
    let P : List ℕ → Type 0 = λ bytes. sink_now ≡ sink_with sink bytes in
    told_of TellsInvalid words desk desk_now sink sink_now said (subst IsVerdict (sym e) tt) (λ rules domain problem plan. tells_invalid rules domain problem plan said e) by (subst P same written)
