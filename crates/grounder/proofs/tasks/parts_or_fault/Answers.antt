use Rattle.std.proofs.Common.{◌≡◌, sym, subst, ◌∙◌, false}
use Rattle.ground_world.specs.World.{World}
use Rattle.ground_world.specs.Counts.{bindings_fit}
use Rattle.grounder.proofs.FaultOrder.{bindings-answer}
use Rattle.grounder.proofs.tasks.parts_or_fault.Goals as goal

pub returns-then-not-fit : goal.returns-then-not-fit
returns-then-not-fit c = sym (bindings-answer c.args.domain.now c.args.problem.now
    (subst (λ (w : World). bindings_fit w c.args.domain.now c.args.problem.now ≡ false) c.in_ok-tables.ensures (sym c.in_ok-fit.ensures ∙ c.if-not-fit.true)))

pub within_bindings-requires-clause-world : goal.within_bindings-requires-clause-world
within_bindings-requires-clause-world c = c.in_ok-tables.ensures

pub within_bindings-requires-clause-fit : goal.within_bindings-requires-clause-fit
within_bindings-requires-clause-fit c = sym c.in_ok-fit.ensures ∙ c.if-not-fit.false
