use Rattle.std.proofs.Common.{◌≡◌, sym, ap, subst, ◌∙◌, OnOk, List, ◌++◌}
use Rattle.std.proofs.lemmas.List.{append-nil}
use Rattle.pddl_terms.specs.declared.trees.RateTree.{RateTree}
use Rattle.ground_world.specs.Changes.{Flows}
use Rattle.ground_world.specs.Expressions.{reckoned}
use Rattle.ground_world.specs.Shown.{env_of, world_of}
use Rattle.ground_world.specs.declared.operations.Flaw.{Flaw}
use Rattle.grounder.specs.Instances.{no_unknowns, flaws_of, change_reckons}
use Rattle.grounder.proofs.binding_flaws.push_of_rate.Goals as goal

pub returns-in-Times : goal.returns-in-Times
returns-in-Times c = λ trend f.
    let w = world_of c.args.tables.now in
    let e = env_of c.args.env.now in
    subst (λ (l : List Flaw). OnOk c.push_of_tree.result (c.push_of_tree.new.flaws ≡ c.args.flaws.now ++ l))
    (sym (append-nil (reckoned w no_unknowns e c.in-Times.amount).flaws) ∙ sym (ap (λ (r : RateTree). flaws_of (change_reckons w e (Flows trend f r))) c.in-Times.is))
    c.push_of_tree.ensures
