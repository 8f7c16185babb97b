use Rattle.std.proofs.Common.{◌≡◌, sym, ap, subst, ◌∙◌, List, OnOk}
use Rattle.pddl_names.specs.Declarations.{with_new}
use Rattle.pddl_names.proofs.Doubling.{with_new-append}
use Rattle.ground_world.specs.World.{GroundAtom}
use Rattle.ground_world.specs.Shown.{env_of, world_of}
use Rattle.grounder.specs.Terms.{formula_atoms}
use Rattle.grounder.proofs.mentioned_atoms.add_two.Goals as goal

pub returns : goal.returns
returns c =
    let f = formula_atoms (world_of c.args.tables.now) (env_of c.args.env.now) in
    subst (λ (l : List GroundAtom). OnOk c.add_formula_atoms-2.result (c.add_formula_atoms-2.new.atoms ≡ l))
    (ap (λ (l : List GroundAtom). with_new l (f c.args.second.now)) c.in_ok-add_formula_atoms.ensures ∙ sym (with_new-append c.args.atoms.now (f c.args.first.now) (f c.args.second.now)))
    c.add_formula_atoms-2.ensures
