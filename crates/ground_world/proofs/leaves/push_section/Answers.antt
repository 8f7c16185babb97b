use Rattle.std.proofs.Common.{◌≡◌, sym, ap, subst, ◌∙◌, OnOk, Option, List, [], ◌++◌}
use Rattle.std.proofs.lemmas.List.{append-nil}
use Rattle.pddl_terms.specs.declared.trees.ConForm.{ConForm}
use Rattle.pddl_terms.specs.declared.trees.Trajectory.{Trajectory}
use Rattle.pddl_names.specs.Declarations.{Text}
use Rattle.ground_world.specs.World.{either}
use Rattle.ground_world.specs.Leaves.{Leaf, constraint_leaves}
use Rattle.ground_world.specs.ShownLeaves.{constraints_of}
use Rattle.ground_world.proofs.Insides.{inside-none}
use Rattle.ground_world.proofs.leaves.push_section.Goals as goal

pub returns-in-Some : goal.returns-in-Some
returns-in-Some c =
    subst (λ (l : List (Leaf (Option Text × Trajectory))). OnOk c.push_constraints.result (constraints_of c.push_constraints.new.out ≡ constraints_of c.args.out.now ++ l))
    (inside-none (constraint_leaves c.in-Some.tree) ∙ ap (λ (s : Option ConForm). either [] constraint_leaves s) (sym c.in-Some.is)) c.push_constraints.ensures

pub returns-in-None : goal.returns-in-None
returns-in-None c =
    sym (append-nil (constraints_of c.args.out.now))
    ∙ ap (λ (s : Option ConForm). constraints_of c.args.out.now ++ either [] constraint_leaves s) (sym c.in-None.is)
