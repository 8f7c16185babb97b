use Rattle.std.proofs.Common.{◌≡◌, sym, subst, OnOk, ◌++◌}
use Rattle.ground_world.specs.Shown.{env_of}
use Rattle.ground_world.specs.ShownChanges.{change_of}
use Rattle.ground_world.specs.declared.changes.Change.{Change}
use Rattle.grounder.specs.ShownGrounding.{ground_of}
use Rattle.grounder.specs.Task.{fluent_rates}
use Rattle.grounder.proofs.rates.push_rate.Goals as goal

pub returns-in-Flows : goal.returns-in-Flows
returns-in-Flows c =
    subst (λ (x : Change). OnOk c.push_flow.result (c.push_flow.new.out ≡ c.args.out.now ++ fluent_rates (ground_of c.args.grounding.now) (env_of c.args.env.now) (change_of x)))
    (sym c.in-Flows.is) c.push_flow.ensures
