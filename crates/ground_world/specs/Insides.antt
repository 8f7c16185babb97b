-- Private: leaves inside lists of variables.
use Rattle.std.specs.Prelude.{List, ◌++◌}
use Rattle.pddl_terms.specs.declared.trees.Group.{Group}
use Rattle.ground_world.specs.Leaves.{Leaf}

-- a leaf inside some lists of variables more
abbrev pub inside : {A : Type 0} → List (List Group) → Leaf A → Leaf A
inside outer l = record { around = outer ++ l.around; leaf = l.leaf }
