use Rattle.std.proofs.Common.{◌≡◌, sym, ap, subst, ◌∙◌, List, [], ◌∷◌, OnOk}
use Rattle.pddl_names.specs.Declarations.{with_new}
use Rattle.ground_world.specs.World.{GroundAtom}
use Rattle.ground_world.specs.declared.parts.CondPart.{CondPart}
use Rattle.ground_world.specs.Shown.{part_of}
use Rattle.grounder.specs.Terms.{part_atoms}
use Rattle.grounder.proofs.mentioned_atoms.add_part_atom.Goals as goal

pub returns-in-Literal : goal.returns-in-Literal
returns-in-Literal c =
    subst (λ (l : List GroundAtom). OnOk c.add_key.result (c.add_key.new.atoms ≡ with_new c.args.atoms.now l))
    (ap (λ (k : GroundAtom). k ∷ []) c.as_slice.ensures ∙ ap (λ (p : CondPart). part_atoms (part_of p)) (sym c.in-Literal.is)) c.add_key.ensures

pub returns-in-Same : goal.returns-in-Same
returns-in-Same c = ap (λ (p : CondPart). with_new c.args.atoms.now (part_atoms (part_of p))) (sym c.in-Same.is)

pub returns-in-Compares : goal.returns-in-Compares
returns-in-Compares c = ap (λ (p : CondPart). with_new c.args.atoms.now (part_atoms (part_of p))) (sym c.in-Compares.is)
