use Rattle.std.proofs.Common.{sym, ap, ◌∙◌}
use Rattle.ground_world.specs.FirstState.{names_of, signatures_of}
use Rattle.grounder.specs.ShownGrounding.{ground_of}
use Rattle.grounder.proofs.Fields.{objects-is}
use Rattle.grounder.proofs.TaskFields.{made-facts, made-fluents, made-schemas, world-functions, world-predicates}
use Rattle.grounder.proofs.task_parts.plain_fields.Goals as goal

pub task_facts-requires : goal.task_facts-requires
task_facts-requires c = ap (λ g. g.world.predicates) c.requires ∙ world-predicates c.args.domain.now c.args.problem.now
    ∙ ap (λ ds. names_of (signatures_of ds)) (sym c.as_slice-2.ensures)

pub task_fluents-requires : goal.task_fluents-requires
task_fluents-requires c = ap (λ g. g.world.functions) c.requires ∙ world-functions c.args.domain.now c.args.problem.now
    ∙ ap (λ ds. names_of (signatures_of ds)) (sym c.as_slice-3.ensures)

pub returns-clause-objects : goal.returns-clause-objects
returns-clause-objects c = c.in_ok-objects.ensures ∙ sym (objects-is c.args.domain.now c.args.problem.now)

pub returns-clause-schemas : goal.returns-clause-schemas
returns-clause-schemas c = c.in_ok-schemas.ensures
    ∙ made-schemas c.args.domain.now c.args.problem.now (ground_of c.args.grounding.now) c.requires c.as_slice.result.now c.as_slice.ensures

pub returns-clause-facts : goal.returns-clause-facts
returns-clause-facts c = c.in_ok-facts.ensures ∙ made-facts c.args.domain.now c.args.problem.now (ground_of c.args.grounding.now) c.requires

pub returns-clause-fluents : goal.returns-clause-fluents
returns-clause-fluents c = c.in_ok-fluents.ensures ∙ made-fluents c.args.domain.now c.args.problem.now (ground_of c.args.grounding.now) c.requires
