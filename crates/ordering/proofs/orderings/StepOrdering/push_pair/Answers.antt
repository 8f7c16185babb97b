use Rattle.std.proofs.Common.{ap, sym, ◌∙◌, arith, length}
use Rattle.ordering.specs.declared.orderings.StepOrdering.{StepOrdering}
use Rattle.ordering.proofs.MoreSteps.{is_named, over_pair}
use Rattle.ordering.proofs.orderings.StepOrdering.push_pair.Goals as goal

pub returns-clause-over : goal.returns-clause-over
returns-clause-over c task b = let e = (c.in_ok-put_pair.ensures {u = tt}).pushed in
    let first = is_named (length c.args.self.now.steps) c.args.first (sym c.has_step.ensures ∙ c.if-not-has_step.false) in
    let second = is_named (length c.args.self.now.steps) c.args.second (sym c.has_step-else-not-has_step.ensures ∙ c.if-not-has_step-2.false) in over_pair task c.args.self.now c.put_pair.new.self c.of.result c.of-2.result b (omega arith) (omega arith) (ap (λ (o : StepOrdering). o.steps) e) (ap (λ (o : StepOrdering). o.extra) e) (ap (λ (o : StepOrdering). o.running) e) (ap (λ (o : StepOrdering). o.plan_steps) e) (ap (λ (o : StepOrdering). o.timed_steps) e)
