-- What a right answer says.
use Rattle.std.proofs.Common.{◌≡◌, ℕ, List, Option, Some, None, subst, sym, ap}
use Rattle.std.proofs.lemmas.Option.{none-some, same_Some}
use Rattle.task_types.specs.declared.parts.Rules.{Rules}
use Rattle.plan_files.specs.declared.faults.LineKind.{LineKind}
use Rattle.plan_files.specs.declared.faults.LineKind.TheVariants as line
use Rattle.plan_validator.specs.declared.verdicts.Verdict.TheVariants.{Valid, Invalid}
use Rattle.planner_core.specs.Answers.{Answer, DomainRefused, ProblemRefused, GroundRefused, PlanRefused, WideAt, Decided, said_of, Validates}
use Rattle.planner_core.specs.Replies.{Said, IsAnswerStatus}
use Rattle.planner_core.specs.Validations.{said_with, line_status, wide_said, verdict_said}
use Rattle.planner_core.specs.declared.status.Status.{Status}

-- a reply has the status that it was given
pub said_with-status : (status : Status) (text : Option (List ℕ)) (said : Said) → said_with status text ≡ Some said → said.status ≡ status
said_with-status status None said e = absurd (none-some said e)
said_with-status status (Some text) said e = sym (ap (λ (s : Said). s.status) (same_Some (record { status = status; text = text }) said e))

-- the same of a reply that is told for certain
pub told-status : (told said : Said) → Some told ≡ Some said → said.status ≡ told.status
told-status told said e = sym (ap (λ (s : Said). s.status) (same_Some told said e))

line_status-answer : (kind : LineKind) → IsAnswerStatus (line_status kind)
line_status-answer line.Shape = tt
line_status-answer line.Number = tt
line_status-answer line.Name = tt
line_status-answer line.Unground = tt
line_status-answer (line.Order f) = tt
line_status-answer line.Limit = tt
line_status-answer line.Wide = tt

-- a status that is that of an answer
of_status : (status : Status) (said : Said) → said.status ≡ status → IsAnswerStatus status → IsAnswerStatus said.status
of_status status said e is = subst IsAnswerStatus (sym e) is

answer_status : (answer : Answer) (said : Said) → said_of answer ≡ Some said → IsAnswerStatus said.status
answer_status (DomainRefused f) said e = of_status _ said (said_with-status _ _ said e) tt
answer_status (ProblemRefused f) said e = of_status _ said (said_with-status _ _ said e) tt
answer_status (GroundRefused f) said e = of_status _ said (said_with-status _ _ said e) tt
answer_status (PlanRefused n kind) said e = of_status _ said (said_with-status _ _ said e) (line_status-answer kind)
answer_status (WideAt k) said e = of_status _ said (told-status (wide_said k) said e) tt
answer_status (Decided (Valid cost)) said e = of_status _ said (told-status (verdict_said (Valid cost)) said e) tt
answer_status (Decided (Invalid reason)) said e = of_status _ said (told-status (verdict_said (Invalid reason)) said e) tt

-- a right answer has the status of an answer
pub validates_status : (rules : Rules) (domain problem plan : List ℕ) (said : Said) → Validates rules domain problem plan said → IsAnswerStatus said.status
validates_status rules domain problem plan said is = answer_status is.answer said is.told
