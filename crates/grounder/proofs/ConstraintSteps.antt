-- Constraints whose bindings can be gone through: what holds of the parts; and what a trajectory constraint mentions.
use Rattle.std.proofs.Common.{◌≡◌, refl, sym, ap, subst, ◌∙◌, ℕ, ◌<◌, ◌≤◌, arith, Bool, true, List, [], ◌∷◌, ◌++◌, map, Option}
use Rattle.std.specs.List.{flat_map, list_all}
use Rattle.std.proofs.lemmas.List.{append-nil}
use Rattle.basics.proofs.Bools.{and_left, and_in}
use Rattle.basics.proofs.Lists.{all_left, all_right}
use Rattle.rational.specs.Rational.{ℚ}
use Rattle.task_types.specs.declared.constraints.TrailKind.{TrailKind}
use Rattle.pddl_terms.specs.declared.trees.Name.{Name}
use Rattle.pddl_terms.specs.declared.trees.Group.{Group}
use Rattle.pddl_terms.specs.declared.trees.FactForm.{FactForm}
use Rattle.pddl_terms.specs.declared.trees.Trajectory.{Trajectory}
use Rattle.pddl_terms.specs.declared.trees.Trajectory.TheVariants as trail
use Rattle.pddl_terms.specs.declared.trees.ConForm.{ConForm}
use Rattle.pddl_terms.specs.declared.trees.ConForm.TheVariants as con
use Rattle.pddl_names.specs.Declarations.{Text}
use Rattle.ground_world.specs.World.{World, Env, columns}
use Rattle.ground_world.specs.Bindings.{bindings, choice_count}
use Rattle.ground_world.specs.Leaves.{constraint_leaves}
use Rattle.ground_world.specs.Counts.{trajectory_count, part_limit, binding_limit}
use Rattle.ground_world.proofs.Walks as below
use Rattle.grounder.specs.Reach.{leaf_fits, constraint_fits, quantified_constraint_fits}
use Rattle.grounder.specs.Terms.{formula_atoms, constraint_atoms, watched, watched_atoms, one_formula, two_formulas}
use Rattle.grounder.proofs.Reaching.{parts_few, all_inner, all_none, nothing_all, constraint-unmentioned}
use Rattle.grounder.proofs.Walks as walk

all_in_each : {X Y : Type 0} (p : Y → Bool) (f : X → List Y) (xs : List X) → list_all p (flat_map (λ (part : List Y). part) (map f xs)) ≡ true → list_all (λ x. list_all p (f x)) xs ≡ true
all_in_each p f [] h = refl
all_in_each p f (x ∷ xs) h =
    and_in (list_all p (f x)) (list_all (λ x. list_all p (f x)) xs)
    (all_left p (f x) (flat_map (λ part. part) (map f xs)) h) (all_in_each p f xs (all_right p (f x) (flat_map (λ part. part) (map f xs)) h))

module _ (w : World) where
  pub fitting-And : (at : ℕ) (cs : List ConForm) → constraint_fits w (con.And at cs) ≡ true → list_all (constraint_fits w) cs ≡ true
  fitting-And at cs h = all_in_each (leaf_fits w) constraint_leaves cs (subst (λ ls. list_all (leaf_fits w) ls ≡ true) (below.constraint_leaves-And at cs) h)

  pub fitting-Forall : (at : ℕ) (vars : List Group) (c : ConForm) → constraint_fits w (con.Forall at vars c) ≡ true → quantified_constraint_fits w vars c ≡ true
  fitting-Forall at vars c h = subst (λ ls. list_all (leaf_fits w) ls ≡ true) (below.constraint_leaves-Forall at vars c) h

  pub fitting-Hard : (t : Trajectory) → constraint_fits w (con.Hard t) ≡ true → trajectory_count w t ≤ part_limit
  fitting-Hard t h =
      let one : 0 < 1 = omega arith in
      parts_few 1 (trajectory_count w t) one (and_left _ _ (subst (λ ls. list_all (leaf_fits w) ls ≡ true) (below.constraint_leaves-Hard t) h))

  pub fitting-Preference : (at : ℕ) (n : Option Name) (t : Trajectory) → constraint_fits w (con.Preference at n t) ≡ true → trajectory_count w t ≤ part_limit
  fitting-Preference at n t h =
      let one : 0 < 1 = omega arith in
      parts_few 1 (trajectory_count w t) one (and_left _ _ (subst (λ ls. list_all (leaf_fits w) ls ≡ true) (below.constraint_leaves-Preference at n t) h))

  pub fitting-instance : (vars : List Group) (c : ConForm) → 0 < choice_count (columns w vars) → quantified_constraint_fits w vars c ≡ true → constraint_fits w c ≡ true
  fitting-instance vars c p h = all_inner w (λ (x : Option Text × Trajectory). trajectory_count w x.1) vars (constraint_leaves c) p h

  -- where the variables have too many bindings, the body mentions nothing
  pub none-mentioned : (env : Env) (vars : List Group) (c : ConForm) → binding_limit < choice_count (columns w vars) → quantified_constraint_fits w vars c ≡ true
      → flat_map (λ e. constraint_atoms w e c) (bindings w env vars) ≡ []
  none-mentioned env vars c p h =
      nothing_all (λ e. constraint_atoms w e c)
      (constraint-unmentioned w c (all_none w (λ (x : Option Text × Trajectory). trajectory_count w x.1) vars (constraint_leaves c) p h)) (bindings w env vars)

-- ---- what a trajectory constraint mentions

module _ (w : World) (env : Env) (t : Trajectory) where
  pub one-mentioned : (k : TrailKind) (f : FactForm) (m : ℚ) → watched t ≡ one_formula k f m → formula_atoms w env f ≡ watched_atoms w env (watched t)
  one-mentioned k f m e = sym (ap (watched_atoms w env) e ∙ ap (λ l. formula_atoms w env f ++ l) (walk.formula_atoms-Empty w env 0) ∙ append-nil (formula_atoms w env f))

  pub two-mentioned : (k : TrailKind) (f g : FactForm) → watched t ≡ two_formulas k f g → formula_atoms w env f ++ formula_atoms w env g ≡ watched_atoms w env (watched t)
  two-mentioned k f g e = sym (ap (watched_atoms w env) e)

  pub none-watched : {at : ℕ} → t ≡ trail.LeftOut at → [] ≡ watched_atoms w env (watched t)
  none-watched {at} e = sym (walk.formula_atoms-LeftOut w env at) ∙ one-mentioned (watched (trail.LeftOut at)).kind (watched (trail.LeftOut at)).first (watched (trail.LeftOut at)).moment (ap watched e)
