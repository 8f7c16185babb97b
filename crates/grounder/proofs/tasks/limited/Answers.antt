use Rattle.std.proofs.Common.{sym, ap, ◌∙◌, length, Some, None, Ok}
use Rattle.std.proofs.lemmas.List.{length-map}
use Rattle.task_types.specs.declared.parts.TaskParts.{TaskParts}
use Rattle.grounder.specs.ShownInstances.{instance_of}
use Rattle.grounder.specs.FaultSteps.{limit_fault}
use Rattle.grounder.proofs.FaultOrder.{count-answer, limit-answer}
use Rattle.grounder.proofs.tasks.limited.Goals as goal

pub returns-in-Some : goal.returns-in-Some
returns-in-Some c = sym (count-answer c.args.domain.now c.args.problem.now c.requires.fit c.requires.values
    c.len-facts.result c.len-fluents.result (length c.args.instances.now)
    (c.len-facts.ensures ∙ ap (λ g. length g.facts) c.requires.ground)
    (c.len-fluents.ensures ∙ ap (λ g. length g.world.fluents) c.requires.ground)
    (sym (length-map c.args.instances.now instance_of) ∙ ap length c.requires.instances)
    c.in-Some.fault (sym c.in-Some.ensures))

pub returns-in-Some-limit_fault : goal.returns-in-Some-limit_fault
returns-in-Some-limit_fault c = sym (limit-answer c.args.domain.now c.args.problem.now c.requires.fit c.requires.values
    (Some c.in-Some-limit_fault.fault) (ap (λ (task : TaskParts). limit_fault task) (sym c.in_ok-parts.ensures) ∙ sym c.in-Some-limit_fault.ensures))

pub returns-in-None-limit_fault : goal.returns-in-None-limit_fault
returns-in-None-limit_fault c = ap (λ (task : TaskParts). Ok task) c.in_ok-parts.ensures
    ∙ sym (limit-answer c.args.domain.now c.args.problem.now c.requires.fit c.requires.values
    None (ap (λ (task : TaskParts). limit_fault task) (sym c.in_ok-parts.ensures) ∙ sym c.in-None-limit_fault.ensures))
