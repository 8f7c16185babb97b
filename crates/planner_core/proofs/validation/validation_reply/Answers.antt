use Rattle.pddl_domain.specs.Domains.{wrong_domain, domain_told}
use Rattle.pddl_domain.specs.Readings.{domain_refusal}
use Rattle.planner_core.specs.declared.reply.Role.TheVariants.{Domain}
use Rattle.planner_core.specs.Replies.{role_word}
use Rattle.planner_core.specs.Answers.{DomainRefused}
use Rattle.planner_core.specs.Steps.{ReadDomain, OfDomain}
use Rattle.planner_core.proofs.Steps.{validates, made, stopped, refused_file}
use Rattle.planner_core.proofs.validation.validation_reply.Goals as goal

pub returns-in-Ok : goal.returns-in-Ok
returns-in-Ok c =
    validates c.args.rules.now c.args.domain.now c.args.problem.now c.args.plan.now _
    (made (ReadDomain c.args.domain.now) DomainRefused (OfDomain c.args.rules.now c.args.problem.now c.args.plan.now) c.in-Ok.domain _ c.in-Ok.ensures.read c.domain_reply.ensures)

pub returns-in-Err : goal.returns-in-Err
returns-in-Err c =
    validates c.args.rules.now c.args.domain.now c.args.problem.now c.args.plan.now _
    (stopped (ReadDomain c.args.domain.now) DomainRefused (OfDomain c.args.rules.now c.args.problem.now c.args.plan.now) c.in-Err.fault _
    (refused_file wrong_domain domain_told domain_refusal c.args.domain.now (role_word Domain) c.in-Err.fault c.in-Err.ensures.fault) c.file_refused.ensures)
