use Rattle.std.proofs.Common.{◌≡◌, sym, ap, subst, List, [], OnOk, Option}
use Rattle.pddl_terms.specs.declared.trees.ConForm.{ConForm}
use Rattle.pddl_names.specs.Declarations.{with_new}
use Rattle.ground_world.specs.World.{GroundAtom, either}
use Rattle.ground_world.specs.Shown.{world_of}
use Rattle.grounder.specs.Terms.{constraint_atoms}
use Rattle.grounder.proofs.FactSteps.{some-fit}
use Rattle.grounder.proofs.facts.add_optional.Goals as goal

pub add_constraint_atoms-requires : goal.add_constraint_atoms-requires
add_constraint_atoms-requires c = some-fit (world_of c.args.tables.now) c.in-Some.is c.requires

pub returns-in-Some : goal.returns-in-Some
returns-in-Some c =
    subst (λ (l : List GroundAtom). OnOk c.add_constraint_atoms.result (c.add_constraint_atoms.new.atoms ≡ with_new c.args.atoms.now l))
    (ap (λ (o : Option ConForm). either [] (constraint_atoms (world_of c.args.tables.now) []) o) (sym c.in-Some.is)) c.add_constraint_atoms.ensures

pub returns-in-None : goal.returns-in-None
returns-in-None c = ap (λ (o : Option ConForm). with_new c.args.atoms.now (either [] (constraint_atoms (world_of c.args.tables.now) []) o)) (sym c.in-None.is)
