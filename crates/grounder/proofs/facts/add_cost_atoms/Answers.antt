use Rattle.std.proofs.Common.{◌≡◌, sym, ap, subst, ◌∙◌, true, List, [], OnOk}
use Rattle.std.specs.List.{list_all}
use Rattle.std.proofs.lemmas.List.{append-nil}
use Rattle.pddl_terms.specs.declared.files.TimeCost.{TimeCost}
use Rattle.pddl_names.specs.Declarations.{with_new}
use Rattle.ground_world.specs.World.{GroundAtom}
use Rattle.ground_world.specs.Leaves.{cost_of}
use Rattle.ground_world.specs.Shown.{world_of}
use Rattle.grounder.specs.Reach.{cost_fits}
use Rattle.grounder.specs.Terms.{formula_atoms}
use Rattle.grounder.proofs.FactSteps.{formula-few, cost_atoms}
use Rattle.grounder.proofs.facts.add_cost_atoms.Goals as goal

pub add_formula_atoms-requires : goal.add_formula_atoms-requires
add_formula_atoms-requires c =
    formula-few (world_of c.args.tables.now) c.in-Named.formula true (subst (λ (x : TimeCost). list_all (cost_fits (world_of c.args.tables.now)) (cost_of x) ≡ true) c.in-Named.is c.requires)

pub returns-in-Named : goal.returns-in-Named
returns-in-Named c =
    subst (λ (l : List GroundAtom). OnOk c.add_formula_atoms.result (c.add_formula_atoms.new.atoms ≡ with_new c.args.atoms.now l))
    (sym (append-nil (formula_atoms (world_of c.args.tables.now) [] c.in-Named.formula)) ∙ ap (λ (x : TimeCost). cost_atoms (world_of c.args.tables.now) (cost_of x)) (sym c.in-Named.is)) c.add_formula_atoms.ensures

pub returns-in-LeftOut : goal.returns-in-LeftOut
returns-in-LeftOut c = ap (λ (x : TimeCost). with_new c.args.atoms.now (cost_atoms (world_of c.args.tables.now) (cost_of x))) (sym c.in-LeftOut.is)
