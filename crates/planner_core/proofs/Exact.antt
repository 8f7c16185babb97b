-- Where the desk tells its files, the one right answer to them is told, but for faults.
use Rattle.std.proofs.Common.{◌≡◌, ◌≤◌, ◌<◌, ◌⊎◌, inl, inr, ℕ, List, [], ◌∷◌, length, Option, Some, None, Ok, Err, sym, ◌∙◌, ap, subst, arith}
use Rattle.std.proofs.lemmas.Option.{same_Some}
use Rattle.std.specs.Option.{IsSomeAnd}
use Rattle.outside.specs.Fetching.{Files, Answer, MayAnswer, DeskView}
use Rattle.outside.specs.Putting.{SinkView, sink_with}
use Rattle.outside.specs.declared.desk.Fetch.TheVariants.{Failed, Long, Memory}
use Rattle.outside.specs.declared.desk.TheConstants.{LONGEST_FILE}
use Rattle.command_words.specs.declared.requests.Limits.{Limits}
use Rattle.task_types.specs.declared.parts.Rules.{Rules}
use Rattle.planner_core.specs.declared.status.Status.{Status}
use Rattle.planner_core.specs.declared.status.Status.TheVariants.{ReadFault}
use Rattle.planner_core.specs.declared.reply.Role.{Role}
use Rattle.planner_core.specs.declared.reply.Role.TheVariants.{Domain, Problem, Plan}
use Rattle.planner_core.specs.Replies.{Said, read_fault}
use Rattle.planner_core.specs.Answers.{rules_of, said_of, Validates}
use Rattle.planner_core.specs.Works.{Work, Ends, Asks, Request, Validate, AreFor, work_of}
use Rattle.planner_core.specs.Sessions.{AreAnswers, IsReply, LedTo, Delivered}
use Rattle.planner_core.specs.Headline.{AreFetched}
use Rattle.planner_core.specs.Laws.{Told, AnswersAreTold}
use Rattle.planner_core.proofs.Asking.{one_asked}
use Rattle.planner_core.proofs.OneAnswer.{answer_one}

-- the work goes on with these bytes
record GoesOn (files : Files) (next : List ℕ → Work) (bytes : List ℕ) (said : Said) : Type 0 where
  answers : List Answer
  asked : AreAnswers (Some files) (next bytes) answers
  replied : IsReply (next bytes) answers said

goes_on : (files : Files) (name : List ℕ) (next : List ℕ → Work) (bytes other : List ℕ) (answers : List Answer) (said : Said) → files name ≡ Some bytes → files name ≡ Some other
    → AreAnswers (Some files) (next other) answers → IsReply (next other) answers said → GoesOn files next bytes said
goes_on files name next bytes other answers said has told asked replied =
    let same : other ≡ bytes = same_Some other bytes (sym told ∙ has) in
    record {
      answers = answers;
      asked = subst (λ (b : List ℕ). AreAnswers (Some files) (next b) answers) same asked;
      replied = subst (λ (b : List ℕ). IsReply (next b) answers said) same replied;
    }

not_long : (files : Files) (name bytes : List ℕ) (count : ℕ) → files name ≡ Some bytes → length bytes ≤ LONGEST_FILE → LONGEST_FILE < count → IsSomeAnd (files name) (λ b. count ≤ length b) → ⊥
not_long files name bytes count has short long some =
    let within : count ≤ length bytes = subst (λ (o : Option (List ℕ)). IsSomeAnd o (λ b. count ≤ length b)) has some in
    omega (arith, within, short, long)

-- a file that is told is handed over, or its fetch failed
step : (files : Files) (role : Role) (name : List ℕ) (next : List ℕ → Work) (bytes : List ℕ) (answers : List Answer) (said : Said) → MayAnswer (Some files) name (Ok bytes)
    → AreAnswers (Some files) (Asks role name next) answers → IsReply (Asks role name next) answers said → (said ≡ read_fault name) ⊎ GoesOn files next bytes said
step files role name next bytes [] said has asked e = absurd asked
step files role name next bytes (Ok other ∷ rest) said has asked e = inr (goes_on files name next bytes other rest said has.1 asked.0.1 asked.1 e)
step files role name next bytes (Err Failed ∷ []) said has asked e = inl (sym (same_Some (read_fault name) said e))
step files role name next bytes (Err (Long count) ∷ []) said has asked e = absurd (not_long files name bytes count has.1 has.0 asked.0 asked.1)
step files role name next bytes (Err Memory ∷ []) said has asked e = cc
step files role name next bytes (Err Failed ∷ a ∷ rest) said has asked e = absurd asked
step files role name next bytes (Err (Long count) ∷ a ∷ rest) said has asked e = absurd asked
step files role name next bytes (Err Memory ∷ a ∷ rest) said has asked e = absurd asked

-- a fault, or a reply to these texts
abbrev Faulted : Said → Type 0
Faulted said = said.status ≡ ReadFault

faulted : (name : List ℕ) (said : Said) → said ≡ read_fault name → Faulted said
faulted name said e = ap (λ (s : Said). s.status) e

plan_end : (rules : Rules) (files : Files) (name domain problem plan : List ℕ) (said : Said) → (said ≡ read_fault name) ⊎ GoesOn files (λ l. Ends (Validates rules domain problem l)) plan said
    → Faulted said ⊎ Validates rules domain problem plan said
plan_end rules files name domain problem plan said (inl e) = inl (faulted name said e)
plan_end rules files name domain problem plan said (inr last) = inr last.replied

problem_end : (rules : Rules) (files : Files) (problem_name plan_name domain problem plan : List ℕ) (said : Said) → MayAnswer (Some files) plan_name (Ok plan)
    → (said ≡ read_fault problem_name) ⊎ GoesOn files (λ p. Asks Plan plan_name (λ l. Ends (Validates rules domain p l))) problem said → Faulted said ⊎ Validates rules domain problem plan said
problem_end rules files problem_name plan_name domain problem plan said has (inl e) = inl (faulted problem_name said e)
problem_end rules files problem_name plan_name domain problem plan said has (inr on) =
    plan_end rules files plan_name domain problem plan said (step files Plan plan_name (λ l. Ends (Validates rules domain problem l)) plan on.answers said has on.asked on.replied)

domain_end : (rules : Rules) (files : Files) (domain_name problem_name plan_name domain problem plan : List ℕ) (said : Said) → MayAnswer (Some files) problem_name (Ok problem) → MayAnswer (Some files) plan_name (Ok plan)
    → (said ≡ read_fault domain_name) ⊎ GoesOn files (λ d. Asks Problem problem_name (λ p. Asks Plan plan_name (λ l. Ends (Validates rules d p l)))) domain said
    → Faulted said ⊎ Validates rules domain problem plan said
domain_end rules files domain_name problem_name plan_name domain problem plan said has_problem has_plan (inl e) = inl (faulted domain_name said e)
domain_end rules files domain_name problem_name plan_name domain problem plan said has_problem has_plan (inr on) =
    problem_end rules files problem_name plan_name domain problem plan said has_plan
    (step files Problem problem_name (λ p. Asks Plan plan_name (λ l. Ends (Validates rules domain p l))) problem on.answers said has_problem on.asked on.replied)

-- the reply to files that are told, where the words ask for this
told_by : (request : Request) (words : List (List ℕ)) (files : Files) (desk desk_now : DeskView) (said : Said) (limits : Limits) (domain problem plan : List ℕ) → desk.files ≡ Some files
    → (are : AreFetched words (Some files) limits domain problem plan) → Validate are.names limits ≡ request → LedTo (work_of (Some request)) desk desk_now said
    → Faulted said ⊎ Validates (rules_of limits) domain problem plan said
told_by request words files desk desk_now said limits domain problem plan told are same led =
    let rules : Rules = rules_of limits in
    let work : Work = work_of (Some (Validate are.names limits)) in
    let asked : AreAnswers desk.files work led.answers = subst (λ (r : Request). AreAnswers desk.files (work_of (Some r)) led.answers) (sym same) led.asked in
    let asked_told : AreAnswers (Some files) work led.answers = subst (λ (o : Option Files). AreAnswers o work led.answers) told asked in
    let replied : IsReply work led.answers said = subst (λ (r : Request). IsReply (work_of (Some r)) led.answers said) (sym same) led.replied in
    domain_end rules files are.names.domain are.names.problem are.names.third domain problem plan said are.problem_fetched are.plan_fetched
    (step files Domain are.names.domain (λ d. Asks Problem are.names.problem (λ p. Asks Plan are.names.third (λ l. Ends (Validates rules d p l)))) domain led.answers said are.domain_fetched asked_told replied)

reply_told : (words : List (List ℕ)) (files : Files) (desk desk_now : DeskView) (said : Said) (limits : Limits) (domain problem plan : List ℕ) (request : Option Request) → desk.files ≡ Some files
    → AreFetched words (Some files) limits domain problem plan → AreFor words request → LedTo (work_of request) desk desk_now said → Faulted said ⊎ Validates (rules_of limits) domain problem plan said
reply_told words files desk desk_now said limits domain problem plan None told are none led = absurd (none (Validate are.names limits) are.asked)
reply_told words files desk desk_now said limits domain problem plan (Some request) told are asked led =
    told_by request words files desk desk_now said limits domain problem plan told are (one_asked words (Validate are.names limits) request are.asked asked) led

said_same : (rules : Rules) (domain problem plan : List ℕ) (said other : Said) → Validates rules domain problem plan said → Validates rules domain problem plan other → said ≡ other
said_same rules domain problem plan said other is also =
    same_Some said other (sym is.told ∙ (ap said_of (answer_one rules domain problem plan is.answer also.answer is.right also.right) ∙ also.told))

ended : (rules : Rules) (domain problem plan : List ℕ) (said right : Said) (sink sink_now : SinkView) (status : Status) → Validates rules domain problem plan right
    → Faulted said ⊎ Validates rules domain problem plan said → Delivered said status sink sink_now → Told right sink sink_now status
ended rules domain problem plan said right sink sink_now status is (inl e) (inl d) = inl (d.0 ∙ e)
ended rules domain problem plan said right sink sink_now status is (inr also) (inl d) =
    let same : said ≡ right = said_same rules domain problem plan said right also is in
    inr (inr (d.0 ∙ ap (λ (s : Said). s.status) same, d.1 ∙ ap (λ (s : Said). sink_with sink s.text) same))
ended rules domain problem plan said right sink sink_now status is reply (inr d) = inr (inl d.0)

pub answers_told : AnswersAreTold
answers_told words files desk desk_now sink sink_now status limits domain problem plan said told are right ran =
    ended (rules_of limits) domain problem plan ran.said said sink sink_now status right
    (reply_told words files desk desk_now ran.said limits domain problem plan ran.led.request told are ran.led.asked ran.led.led) ran.delivered
