use Rattle.std.proofs.Common.{◌≡◌, sym, ap, subst, ◌∙◌, OnOk, List, ◌++◌}
use Rattle.std.proofs.lemmas.List.{append-nil}
use Rattle.ground_world.specs.Expressions.{reckoned}
use Rattle.ground_world.specs.Shown.{env_of, world_of}
use Rattle.ground_world.specs.ShownChanges.{change_of}
use Rattle.ground_world.specs.declared.changes.Change.{Change}
use Rattle.ground_world.specs.declared.operations.Flaw.{Flaw}
use Rattle.grounder.specs.Instances.{no_unknowns, flaws_of, change_reckons}
use Rattle.grounder.proofs.binding_flaws.push_of_change.Goals as goal

pub returns-in-Moves : goal.returns-in-Moves
returns-in-Moves c =
    let w = world_of c.args.tables.now in
    let e = env_of c.args.env.now in
    subst (λ (l : List Flaw). OnOk c.push_of_tree.result (c.push_of_tree.new.flaws ≡ c.args.flaws.now ++ l))
    (sym (append-nil (reckoned w no_unknowns e c.in-Moves.amount.now).flaws) ∙ sym (ap (λ (x : Change). flaws_of (change_reckons w e (change_of x))) c.in-Moves.is))
    c.push_of_tree.ensures

pub returns-in-Flows : goal.returns-in-Flows
returns-in-Flows c =
    let w = world_of c.args.tables.now in
    let e = env_of c.args.env.now in
    subst (λ (x : Change). OnOk c.push_of_rate.result (c.push_of_rate.new.flaws ≡ c.args.flaws.now ++ flaws_of (change_reckons w e (change_of x))))
    (sym c.in-Flows.is) (c.push_of_rate.ensures c.in-Flows.field-0 c.in-Flows.field-1.now)
