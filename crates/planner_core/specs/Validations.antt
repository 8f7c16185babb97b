-- Believed: the replies to a validation.
use Rattle.std.specs.Prelude.{ℕ, List, Option, Some, None}
use Rattle.pddl_terms.specs.declared.faults.PddlFault.{PddlFault}
use Rattle.grounder.specs.declared.faults.GroundFault.{GroundFault}
use Rattle.plan_files.specs.declared.faults.LineFault.TheVariants.{At}
use Rattle.plan_files.specs.declared.faults.LineKind.{LineKind}
use Rattle.plan_files.specs.declared.faults.LineKind.TheVariants as line
use Rattle.plan_validator.specs.declared.verdicts.Verdict.{Verdict}
use Rattle.plan_validator.specs.declared.verdicts.Verdict.TheVariants.{Valid, Invalid}
use Rattle.reply_text.specs.Faults.{pddl_text, ground_text, line_text}
use Rattle.reply_text.specs.Verdicts.{valid_text, reason_text, wide_happening}
use Rattle.planner_core.specs.declared.status.Status.{Status}
use Rattle.planner_core.specs.declared.status.Status.TheVariants.{Done, Negative, Refused, Budget}
use Rattle.planner_core.specs.declared.reply.Role.TheVariants.{Plan}
use Rattle.planner_core.specs.Replies.{Said, role_word}

-- a reply with this text, where there is one
abbrev pub said_with : Status → Option (List ℕ) → Option Said
said_with status None = None
said_with status (Some text) = Some (record { status = status; text = text })

-- a domain or a problem is refused; the word says which
abbrev pub pddl_said : List ℕ → PddlFault → Option Said
pddl_said file fault = said_with Refused (pddl_text file fault)

abbrev pub ground_said : GroundFault → Option Said
ground_said fault = said_with Refused (ground_text fault)

-- A line whose end passes 128 bits is no refusal of its file.
abbrev pub line_status : LineKind → Status
line_status line.Wide = Budget
line_status kind = Refused

abbrev pub line_said : ℕ → LineKind → Option Said
line_said number kind = said_with (line_status kind) (line_text (role_word Plan) (At number kind))

abbrev pub wide_said : ℕ → Said
wide_said happening = record { status = Budget; text = wide_happening happening }

-- the plan is valid and has this cost, or isn't, for this reason first
abbrev pub verdict_said : Verdict → Said
verdict_said (Valid cost) = record { status = Done; text = valid_text cost }
verdict_said (Invalid reason) = record { status = Negative; text = reason_text reason }
