use Rattle.std.proofs.Common.{sym, ap, ◌∙◌}
use Rattle.ground_world.specs.Shown.{env_of}
use Rattle.ground_world.specs.ShownChanges.{change_of}
use Rattle.ground_world.specs.declared.changes.Change.{Change}
use Rattle.grounder.specs.ShownGrounding.{ground_of}
use Rattle.grounder.specs.Building.{with_change}
use Rattle.grounder.proofs.BuildingSteps.{adds-change, deletes-change, flows-change}
use Rattle.grounder.proofs.action_effects.push_change.Goals as goal

pub returns-in_ok-push_fact-in-Adds : goal.returns-in_ok-push_fact-in-Adds
returns-in_ok-push_fact-in-Adds c =
    let g = ground_of c.args.grounding.now in
    let d = c.args.durative in
    let e = env_of c.args.env.now in
    let old = c.args.effect.now in
    adds-change g d e old c.in-Adds.atom.now c.push_fact.new.out c.in_ok-push_fact-in-Adds.ensures
    ∙ sym (ap (λ (x : Change). with_change g d e old (change_of x)) c.in-Adds.is)

pub returns-in_ok-push_fact-in-Deletes : goal.returns-in_ok-push_fact-in-Deletes
returns-in_ok-push_fact-in-Deletes c =
    let g = ground_of c.args.grounding.now in
    let d = c.args.durative in
    let e = env_of c.args.env.now in
    let old = c.args.effect.now in
    deletes-change g d e old c.in-Deletes.atom.now c.push_fact-in-Deletes.new.out c.in_ok-push_fact-in-Deletes.ensures
    ∙ sym (ap (λ (x : Change). with_change g d e old (change_of x)) c.in-Deletes.is)

pub returns-in-Flows : goal.returns-in-Flows
returns-in-Flows c =
    let g = ground_of c.args.grounding.now in
    let d = c.args.durative in
    let e = env_of c.args.env.now in
    let old = c.args.effect.now in
    flows-change g d e old c.in-Flows.field-0 c.in-Flows.field-1.now c.in-Flows.field-2.now
    ∙ sym (ap (λ (x : Change). with_change g d e old (change_of x)) c.in-Flows.is)
