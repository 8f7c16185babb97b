-- What each walk over a tree comes to at each variant: one step of its fold.
use Rattle.std.proofs.Common.{◌≡◌, sym, ap, ◌∙◌, ℕ, List, map, Option}
use Rattle.pddl_terms.specs.declared.trees.FactForm.{FactForm, fold-FactForm, fold-roll-FactForm}
use Rattle.pddl_terms.specs.declared.trees.FactForm.TheOpen.{FactForm-F}
use Rattle.pddl_terms.specs.declared.trees.FactForm.TheVariants as form
use Rattle.pddl_terms.specs.declared.trees.SoftTree.{SoftTree, fold-SoftTree, fold-roll-SoftTree}
use Rattle.pddl_terms.specs.declared.trees.SoftTree.TheOpen.{SoftTree-F}
use Rattle.pddl_terms.specs.declared.trees.SoftTree.TheVariants as soft
use Rattle.pddl_terms.specs.declared.trees.GoalTree.{GoalTree, fold-GoalTree, fold-roll-GoalTree}
use Rattle.pddl_terms.specs.declared.trees.GoalTree.TheOpen.{GoalTree-F}
use Rattle.pddl_terms.specs.declared.trees.GoalTree.TheVariants as goal
use Rattle.pddl_terms.specs.declared.trees.ConForm.{ConForm, fold-ConForm, fold-roll-ConForm}
use Rattle.pddl_terms.specs.declared.trees.ConForm.TheOpen.{ConForm-F}
use Rattle.pddl_terms.specs.declared.trees.ConForm.TheVariants as con
use Rattle.pddl_terms.specs.declared.trees.Name.{Name}
use Rattle.pddl_terms.specs.declared.trees.Atom.{Atom}
use Rattle.pddl_terms.specs.declared.trees.Group.{Group}
use Rattle.pddl_terms.specs.declared.trees.Side.{Side}
use Rattle.pddl_terms.specs.declared.trees.CondTree.{CondTree}
use Rattle.pddl_terms.specs.declared.trees.Trajectory.{Trajectory}
use Rattle.task_types.specs.declared.formulas.FactTree.{FactTree}
use Rattle.ground_world.specs.Conditions.{Part}
use Rattle.ground_world.specs.World.{Env, GroundAtom, World}
use Rattle.grounder.specs.Terms.{PreferencePart, atoms_layer, constraint_atoms, constraint_atoms_layer, formula, formula_atoms, formula_layer, goal_atoms, goal_atoms_layer, goal_layer, goal_parts, preference_part_layer, preference_parts}

-- formula
module _ (w : World) (number : GroundAtom → ℕ) (env : Env) where
  pub formula-Empty : (a : ℕ) → formula w number env (form.Empty a)
      ≡ formula_layer w number (FactForm-F.Empty a) env
  unfolding formula
  formula-Empty a = ap (λ t. fold-FactForm (Env → FactTree) (formula_layer w number) t env) (sym (form.rolls-Empty a))
      ∙ ap (λ f. f env) (fold-roll-FactForm (Env → FactTree) (formula_layer w number) (FactForm-F.Empty a))

  pub formula-Atom : (a : Atom) → formula w number env (form.Atom a)
      ≡ formula_layer w number (FactForm-F.Atom a) env
  unfolding formula
  formula-Atom a = ap (λ t. fold-FactForm (Env → FactTree) (formula_layer w number) t env) (sym (form.rolls-Atom a))
      ∙ ap (λ f. f env) (fold-roll-FactForm (Env → FactTree) (formula_layer w number) (FactForm-F.Atom a))

  pub formula-Equal : (a : ℕ) (b : Side) (c : Side) → formula w number env (form.Equal a b c)
      ≡ formula_layer w number (FactForm-F.Equal a b c) env
  unfolding formula
  formula-Equal a b c = ap (λ t. fold-FactForm (Env → FactTree) (formula_layer w number) t env) (sym (form.rolls-Equal a b c))
      ∙ ap (λ f. f env) (fold-roll-FactForm (Env → FactTree) (formula_layer w number) (FactForm-F.Equal a b c))

  pub formula-And : (a : ℕ) (b : List FactForm) → formula w number env (form.And a b)
      ≡ formula_layer w number (FactForm-F.And a (map (λ c env. formula w number env c) b)) env
  unfolding formula
  formula-And a b = ap (λ t. fold-FactForm (Env → FactTree) (formula_layer w number) t env) (sym (form.rolls-And a b))
      ∙ ap (λ f. f env) (fold-roll-FactForm (Env → FactTree) (formula_layer w number) (FactForm-F.And a b))

  pub formula-Or : (a : ℕ) (b : List FactForm) → formula w number env (form.Or a b)
      ≡ formula_layer w number (FactForm-F.Or a (map (λ c env. formula w number env c) b)) env
  unfolding formula
  formula-Or a b = ap (λ t. fold-FactForm (Env → FactTree) (formula_layer w number) t env) (sym (form.rolls-Or a b))
      ∙ ap (λ f. f env) (fold-roll-FactForm (Env → FactTree) (formula_layer w number) (FactForm-F.Or a b))

  pub formula-Not : (a : ℕ) (b : FactForm) → formula w number env (form.Not a b)
      ≡ formula_layer w number (FactForm-F.Not a (λ env. formula w number env b)) env
  unfolding formula
  formula-Not a b = ap (λ t. fold-FactForm (Env → FactTree) (formula_layer w number) t env) (sym (form.rolls-Not a b))
      ∙ ap (λ f. f env) (fold-roll-FactForm (Env → FactTree) (formula_layer w number) (FactForm-F.Not a b))

  pub formula-Imply : (a : ℕ) (b : FactForm) (c : FactForm) → formula w number env (form.Imply a b c)
      ≡ formula_layer w number (FactForm-F.Imply a (λ env. formula w number env b) (λ env. formula w number env c)) env
  unfolding formula
  formula-Imply a b c = ap (λ t. fold-FactForm (Env → FactTree) (formula_layer w number) t env) (sym (form.rolls-Imply a b c))
      ∙ ap (λ f. f env) (fold-roll-FactForm (Env → FactTree) (formula_layer w number) (FactForm-F.Imply a b c))

  pub formula-Exists : (a : ℕ) (b : List Group) (c : FactForm) → formula w number env (form.Exists a b c)
      ≡ formula_layer w number (FactForm-F.Exists a b (λ env. formula w number env c)) env
  unfolding formula
  formula-Exists a b c = ap (λ t. fold-FactForm (Env → FactTree) (formula_layer w number) t env) (sym (form.rolls-Exists a b c))
      ∙ ap (λ f. f env) (fold-roll-FactForm (Env → FactTree) (formula_layer w number) (FactForm-F.Exists a b c))

  pub formula-Forall : (a : ℕ) (b : List Group) (c : FactForm) → formula w number env (form.Forall a b c)
      ≡ formula_layer w number (FactForm-F.Forall a b (λ env. formula w number env c)) env
  unfolding formula
  formula-Forall a b c = ap (λ t. fold-FactForm (Env → FactTree) (formula_layer w number) t env) (sym (form.rolls-Forall a b c))
      ∙ ap (λ f. f env) (fold-roll-FactForm (Env → FactTree) (formula_layer w number) (FactForm-F.Forall a b c))

  pub formula-LeftOut : (a : ℕ) → formula w number env (form.LeftOut a)
      ≡ formula_layer w number (FactForm-F.LeftOut a) env
  unfolding formula
  formula-LeftOut a = ap (λ t. fold-FactForm (Env → FactTree) (formula_layer w number) t env) (sym (form.rolls-LeftOut a))
      ∙ ap (λ f. f env) (fold-roll-FactForm (Env → FactTree) (formula_layer w number) (FactForm-F.LeftOut a))

-- formula_atoms
module _ (w : World) (env : Env) where
  pub formula_atoms-Empty : (a : ℕ) → formula_atoms w env (form.Empty a)
      ≡ atoms_layer w (FactForm-F.Empty a) env
  unfolding formula_atoms
  formula_atoms-Empty a = ap (λ t. fold-FactForm (Env → List GroundAtom) (atoms_layer w) t env) (sym (form.rolls-Empty a))
      ∙ ap (λ f. f env) (fold-roll-FactForm (Env → List GroundAtom) (atoms_layer w) (FactForm-F.Empty a))

  pub formula_atoms-Atom : (a : Atom) → formula_atoms w env (form.Atom a)
      ≡ atoms_layer w (FactForm-F.Atom a) env
  unfolding formula_atoms
  formula_atoms-Atom a = ap (λ t. fold-FactForm (Env → List GroundAtom) (atoms_layer w) t env) (sym (form.rolls-Atom a))
      ∙ ap (λ f. f env) (fold-roll-FactForm (Env → List GroundAtom) (atoms_layer w) (FactForm-F.Atom a))

  pub formula_atoms-Equal : (a : ℕ) (b : Side) (c : Side) → formula_atoms w env (form.Equal a b c)
      ≡ atoms_layer w (FactForm-F.Equal a b c) env
  unfolding formula_atoms
  formula_atoms-Equal a b c = ap (λ t. fold-FactForm (Env → List GroundAtom) (atoms_layer w) t env) (sym (form.rolls-Equal a b c))
      ∙ ap (λ f. f env) (fold-roll-FactForm (Env → List GroundAtom) (atoms_layer w) (FactForm-F.Equal a b c))

  pub formula_atoms-And : (a : ℕ) (b : List FactForm) → formula_atoms w env (form.And a b)
      ≡ atoms_layer w (FactForm-F.And a (map (λ c env. formula_atoms w env c) b)) env
  unfolding formula_atoms
  formula_atoms-And a b = ap (λ t. fold-FactForm (Env → List GroundAtom) (atoms_layer w) t env) (sym (form.rolls-And a b))
      ∙ ap (λ f. f env) (fold-roll-FactForm (Env → List GroundAtom) (atoms_layer w) (FactForm-F.And a b))

  pub formula_atoms-Or : (a : ℕ) (b : List FactForm) → formula_atoms w env (form.Or a b)
      ≡ atoms_layer w (FactForm-F.Or a (map (λ c env. formula_atoms w env c) b)) env
  unfolding formula_atoms
  formula_atoms-Or a b = ap (λ t. fold-FactForm (Env → List GroundAtom) (atoms_layer w) t env) (sym (form.rolls-Or a b))
      ∙ ap (λ f. f env) (fold-roll-FactForm (Env → List GroundAtom) (atoms_layer w) (FactForm-F.Or a b))

  pub formula_atoms-Not : (a : ℕ) (b : FactForm) → formula_atoms w env (form.Not a b)
      ≡ atoms_layer w (FactForm-F.Not a (λ env. formula_atoms w env b)) env
  unfolding formula_atoms
  formula_atoms-Not a b = ap (λ t. fold-FactForm (Env → List GroundAtom) (atoms_layer w) t env) (sym (form.rolls-Not a b))
      ∙ ap (λ f. f env) (fold-roll-FactForm (Env → List GroundAtom) (atoms_layer w) (FactForm-F.Not a b))

  pub formula_atoms-Imply : (a : ℕ) (b : FactForm) (c : FactForm) → formula_atoms w env (form.Imply a b c)
      ≡ atoms_layer w (FactForm-F.Imply a (λ env. formula_atoms w env b) (λ env. formula_atoms w env c)) env
  unfolding formula_atoms
  formula_atoms-Imply a b c = ap (λ t. fold-FactForm (Env → List GroundAtom) (atoms_layer w) t env) (sym (form.rolls-Imply a b c))
      ∙ ap (λ f. f env) (fold-roll-FactForm (Env → List GroundAtom) (atoms_layer w) (FactForm-F.Imply a b c))

  pub formula_atoms-Exists : (a : ℕ) (b : List Group) (c : FactForm) → formula_atoms w env (form.Exists a b c)
      ≡ atoms_layer w (FactForm-F.Exists a b (λ env. formula_atoms w env c)) env
  unfolding formula_atoms
  formula_atoms-Exists a b c = ap (λ t. fold-FactForm (Env → List GroundAtom) (atoms_layer w) t env) (sym (form.rolls-Exists a b c))
      ∙ ap (λ f. f env) (fold-roll-FactForm (Env → List GroundAtom) (atoms_layer w) (FactForm-F.Exists a b c))

  pub formula_atoms-Forall : (a : ℕ) (b : List Group) (c : FactForm) → formula_atoms w env (form.Forall a b c)
      ≡ atoms_layer w (FactForm-F.Forall a b (λ env. formula_atoms w env c)) env
  unfolding formula_atoms
  formula_atoms-Forall a b c = ap (λ t. fold-FactForm (Env → List GroundAtom) (atoms_layer w) t env) (sym (form.rolls-Forall a b c))
      ∙ ap (λ f. f env) (fold-roll-FactForm (Env → List GroundAtom) (atoms_layer w) (FactForm-F.Forall a b c))

  pub formula_atoms-LeftOut : (a : ℕ) → formula_atoms w env (form.LeftOut a)
      ≡ atoms_layer w (FactForm-F.LeftOut a) env
  unfolding formula_atoms
  formula_atoms-LeftOut a = ap (λ t. fold-FactForm (Env → List GroundAtom) (atoms_layer w) t env) (sym (form.rolls-LeftOut a))
      ∙ ap (λ f. f env) (fold-roll-FactForm (Env → List GroundAtom) (atoms_layer w) (FactForm-F.LeftOut a))

-- preference_parts
module _ (w : World) where
  pub preference_parts-Formula : (a : FactForm) → preference_parts w (soft.Formula a)
      ≡ preference_part_layer w (SoftTree-F.Formula a)
  unfolding preference_parts
  preference_parts-Formula a = ap (λ t. fold-SoftTree (List PreferencePart) (preference_part_layer w) t) (sym (soft.rolls-Formula a))
      ∙ fold-roll-SoftTree (List PreferencePart) (preference_part_layer w) (SoftTree-F.Formula a)

  pub preference_parts-Equal : (a : ℕ) (b : Side) (c : Side) → preference_parts w (soft.Equal a b c)
      ≡ preference_part_layer w (SoftTree-F.Equal a b c)
  unfolding preference_parts
  preference_parts-Equal a b c = ap (λ t. fold-SoftTree (List PreferencePart) (preference_part_layer w) t) (sym (soft.rolls-Equal a b c))
      ∙ fold-roll-SoftTree (List PreferencePart) (preference_part_layer w) (SoftTree-F.Equal a b c)

  pub preference_parts-Comparison : (a : CondTree) → preference_parts w (soft.Comparison a)
      ≡ preference_part_layer w (SoftTree-F.Comparison a)
  unfolding preference_parts
  preference_parts-Comparison a = ap (λ t. fold-SoftTree (List PreferencePart) (preference_part_layer w) t) (sym (soft.rolls-Comparison a))
      ∙ fold-roll-SoftTree (List PreferencePart) (preference_part_layer w) (SoftTree-F.Comparison a)

  pub preference_parts-And : (a : ℕ) (b : List SoftTree) → preference_parts w (soft.And a b)
      ≡ preference_part_layer w (SoftTree-F.And a (map (λ c. preference_parts w c) b))
  unfolding preference_parts
  preference_parts-And a b = ap (λ t. fold-SoftTree (List PreferencePart) (preference_part_layer w) t) (sym (soft.rolls-And a b))
      ∙ fold-roll-SoftTree (List PreferencePart) (preference_part_layer w) (SoftTree-F.And a b)

-- goal_parts
module _ (w : World) (env : Env) where
  pub goal_parts-Condition : (a : CondTree) → goal_parts w env (goal.Condition a)
      ≡ goal_layer w (GoalTree-F.Condition a) env
  unfolding goal_parts
  goal_parts-Condition a = ap (λ t. fold-GoalTree (Env → List Part) (goal_layer w) t env) (sym (goal.rolls-Condition a))
      ∙ ap (λ f. f env) (fold-roll-GoalTree (Env → List Part) (goal_layer w) (GoalTree-F.Condition a))

  pub goal_parts-And : (a : ℕ) (b : List GoalTree) → goal_parts w env (goal.And a b)
      ≡ goal_layer w (GoalTree-F.And a (map (λ c env. goal_parts w env c) b)) env
  unfolding goal_parts
  goal_parts-And a b = ap (λ t. fold-GoalTree (Env → List Part) (goal_layer w) t env) (sym (goal.rolls-And a b))
      ∙ ap (λ f. f env) (fold-roll-GoalTree (Env → List Part) (goal_layer w) (GoalTree-F.And a b))

  pub goal_parts-Forall : (a : ℕ) (b : List Group) (c : GoalTree) → goal_parts w env (goal.Forall a b c)
      ≡ goal_layer w (GoalTree-F.Forall a b (λ env. goal_parts w env c)) env
  unfolding goal_parts
  goal_parts-Forall a b c = ap (λ t. fold-GoalTree (Env → List Part) (goal_layer w) t env) (sym (goal.rolls-Forall a b c))
      ∙ ap (λ f. f env) (fold-roll-GoalTree (Env → List Part) (goal_layer w) (GoalTree-F.Forall a b c))

  pub goal_parts-Preference : (a : ℕ) (b : Option Name) (c : SoftTree) → goal_parts w env (goal.Preference a b c)
      ≡ goal_layer w (GoalTree-F.Preference a b c) env
  unfolding goal_parts
  goal_parts-Preference a b c = ap (λ t. fold-GoalTree (Env → List Part) (goal_layer w) t env) (sym (goal.rolls-Preference a b c))
      ∙ ap (λ f. f env) (fold-roll-GoalTree (Env → List Part) (goal_layer w) (GoalTree-F.Preference a b c))

-- goal_atoms
module _ (w : World) (env : Env) where
  pub goal_atoms-Condition : (a : CondTree) → goal_atoms w env (goal.Condition a)
      ≡ goal_atoms_layer w (GoalTree-F.Condition a) env
  unfolding goal_atoms
  goal_atoms-Condition a = ap (λ t. fold-GoalTree (Env → List GroundAtom) (goal_atoms_layer w) t env) (sym (goal.rolls-Condition a))
      ∙ ap (λ f. f env) (fold-roll-GoalTree (Env → List GroundAtom) (goal_atoms_layer w) (GoalTree-F.Condition a))

  pub goal_atoms-And : (a : ℕ) (b : List GoalTree) → goal_atoms w env (goal.And a b)
      ≡ goal_atoms_layer w (GoalTree-F.And a (map (λ c env. goal_atoms w env c) b)) env
  unfolding goal_atoms
  goal_atoms-And a b = ap (λ t. fold-GoalTree (Env → List GroundAtom) (goal_atoms_layer w) t env) (sym (goal.rolls-And a b))
      ∙ ap (λ f. f env) (fold-roll-GoalTree (Env → List GroundAtom) (goal_atoms_layer w) (GoalTree-F.And a b))

  pub goal_atoms-Forall : (a : ℕ) (b : List Group) (c : GoalTree) → goal_atoms w env (goal.Forall a b c)
      ≡ goal_atoms_layer w (GoalTree-F.Forall a b (λ env. goal_atoms w env c)) env
  unfolding goal_atoms
  goal_atoms-Forall a b c = ap (λ t. fold-GoalTree (Env → List GroundAtom) (goal_atoms_layer w) t env) (sym (goal.rolls-Forall a b c))
      ∙ ap (λ f. f env) (fold-roll-GoalTree (Env → List GroundAtom) (goal_atoms_layer w) (GoalTree-F.Forall a b c))

  pub goal_atoms-Preference : (a : ℕ) (b : Option Name) (c : SoftTree) → goal_atoms w env (goal.Preference a b c)
      ≡ goal_atoms_layer w (GoalTree-F.Preference a b c) env
  unfolding goal_atoms
  goal_atoms-Preference a b c = ap (λ t. fold-GoalTree (Env → List GroundAtom) (goal_atoms_layer w) t env) (sym (goal.rolls-Preference a b c))
      ∙ ap (λ f. f env) (fold-roll-GoalTree (Env → List GroundAtom) (goal_atoms_layer w) (GoalTree-F.Preference a b c))

-- constraint_atoms
module _ (w : World) (env : Env) where
  pub constraint_atoms-And : (a : ℕ) (b : List ConForm) → constraint_atoms w env (con.And a b)
      ≡ constraint_atoms_layer w (ConForm-F.And a (map (λ c env. constraint_atoms w env c) b)) env
  unfolding constraint_atoms
  constraint_atoms-And a b = ap (λ t. fold-ConForm (Env → List GroundAtom) (constraint_atoms_layer w) t env) (sym (con.rolls-And a b))
      ∙ ap (λ f. f env) (fold-roll-ConForm (Env → List GroundAtom) (constraint_atoms_layer w) (ConForm-F.And a b))

  pub constraint_atoms-Forall : (a : ℕ) (b : List Group) (c : ConForm) → constraint_atoms w env (con.Forall a b c)
      ≡ constraint_atoms_layer w (ConForm-F.Forall a b (λ env. constraint_atoms w env c)) env
  unfolding constraint_atoms
  constraint_atoms-Forall a b c = ap (λ t. fold-ConForm (Env → List GroundAtom) (constraint_atoms_layer w) t env) (sym (con.rolls-Forall a b c))
      ∙ ap (λ f. f env) (fold-roll-ConForm (Env → List GroundAtom) (constraint_atoms_layer w) (ConForm-F.Forall a b c))

  pub constraint_atoms-Hard : (a : Trajectory) → constraint_atoms w env (con.Hard a)
      ≡ constraint_atoms_layer w (ConForm-F.Hard a) env
  unfolding constraint_atoms
  constraint_atoms-Hard a = ap (λ t. fold-ConForm (Env → List GroundAtom) (constraint_atoms_layer w) t env) (sym (con.rolls-Hard a))
      ∙ ap (λ f. f env) (fold-roll-ConForm (Env → List GroundAtom) (constraint_atoms_layer w) (ConForm-F.Hard a))

  pub constraint_atoms-Preference : (a : ℕ) (b : Option Name) (c : Trajectory) → constraint_atoms w env (con.Preference a b c)
      ≡ constraint_atoms_layer w (ConForm-F.Preference a b c) env
  unfolding constraint_atoms
  constraint_atoms-Preference a b c = ap (λ t. fold-ConForm (Env → List GroundAtom) (constraint_atoms_layer w) t env) (sym (con.rolls-Preference a b c))
      ∙ ap (λ f. f env) (fold-roll-ConForm (Env → List GroundAtom) (constraint_atoms_layer w) (ConForm-F.Preference a b c))

pub ruleset walks = (
  formula-Empty,
  formula-Atom,
  formula-Equal,
  formula-And,
  formula-Or,
  formula-Not,
  formula-Imply,
  formula-Exists,
  formula-Forall,
  formula-LeftOut,
  formula_atoms-Empty,
  formula_atoms-Atom,
  formula_atoms-Equal,
  formula_atoms-And,
  formula_atoms-Or,
  formula_atoms-Not,
  formula_atoms-Imply,
  formula_atoms-Exists,
  formula_atoms-Forall,
  formula_atoms-LeftOut,
  preference_parts-Formula,
  preference_parts-Equal,
  preference_parts-Comparison,
  preference_parts-And,
  goal_parts-Condition,
  goal_parts-And,
  goal_parts-Forall,
  goal_parts-Preference,
  goal_atoms-Condition,
  goal_atoms-And,
  goal_atoms-Forall,
  goal_atoms-Preference,
  constraint_atoms-And,
  constraint_atoms-Forall,
  constraint_atoms-Hard,
  constraint_atoms-Preference,
)
