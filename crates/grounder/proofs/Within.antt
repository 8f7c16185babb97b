-- What is within the limit where the whole is.
use Rattle.std.proofs.Common.{◌≡◌, ℕ, ◌+◌, ◌*◌, ◌<◌, ◌≤◌, arith, List, map, length, get_or}
use Rattle.std.proofs.Math.Nat.{le-mul_of_pos_right, mul_comm}
use Rattle.pddl_terms.specs.declared.trees.Group.{Group}
use Rattle.pddl_terms.specs.declared.trees.FactForm.{FactForm}
use Rattle.pddl_terms.specs.declared.trees.FactForm.TheVariants as form
use Rattle.ground_world.specs.World.{World, columns}
use Rattle.ground_world.specs.Bindings.{choice_count}
use Rattle.ground_world.specs.Counts.{formula_count, together, sum_or_one, or_one, written_out, part_limit, binding_limit}
use Rattle.ground_world.proofs.Walks as below
use Rattle.ground_world.proofs.Weights.{summand}
use Rattle.ground_world.proofs.PartSteps.{sum-least, or_one-least, or_one-positive}

module _ (w : World) where
  -- ---- quantifiers that are written out

  pub ways_within : (vars : List Group) (n limit : ℕ) → written_out w vars n ≤ limit → choice_count (columns w vars) ≤ limit
  ways_within vars n limit h =
      let a : choice_count (columns w vars) ≤ choice_count (columns w vars) * or_one n = le-mul_of_pos_right (choice_count (columns w vars)) (or_one-positive n) in
      let b : choice_count (columns w vars) * or_one n ≤ written_out w vars n = or_one-least (choice_count (columns w vars) * or_one n) in
      omega arith

  pub few_enough : (vars : List Group) (n : ℕ) → written_out w vars n ≤ part_limit → choice_count (columns w vars) ≤ binding_limit
  few_enough vars n h = let m : choice_count (columns w vars) ≤ part_limit = ways_within vars n part_limit h in omega arith

  pub body_within : (vars : List Group) (n limit : ℕ) → 0 < choice_count (columns w vars) → written_out w vars n ≤ limit → n ≤ limit
  body_within vars n limit k h =
      let a : or_one n ≤ or_one n * choice_count (columns w vars) = le-mul_of_pos_right (or_one n) k in
      let e : or_one n * choice_count (columns w vars) ≡ choice_count (columns w vars) * or_one n = mul_comm (or_one n) (choice_count (columns w vars)) in
      let b : choice_count (columns w vars) * or_one n ≤ written_out w vars n = or_one-least (choice_count (columns w vars) * or_one n) in
      let o : n ≤ or_one n = or_one-least n in
      omega arith

  -- ---- formulas

  pub formula_within : (fs : List FactForm) (i : ℕ) (f : FactForm) → i < length fs → f ≡ get_or fs i f → together (map (formula_count w) fs) ≤ part_limit → formula_count w f ≤ part_limit
  formula_within fs i f lt at h = let a : formula_count w f ≤ together (map (formula_count w) fs) = summand (formula_count w) fs i f lt at in omega arith

  pub and_within : (at : ℕ) (fs : List FactForm) → formula_count w (form.And at fs) ≤ part_limit → together (map (formula_count w) fs) ≤ part_limit
  and_within at fs h =
      let e : formula_count w (form.And at fs) ≡ sum_or_one (map (formula_count w) fs) = below.formula_count-And w at fs in
      let s : together (map (formula_count w) fs) ≤ sum_or_one (map (formula_count w) fs) = sum-least (map (formula_count w) fs) in
      omega arith

  pub or_within : (at : ℕ) (fs : List FactForm) → formula_count w (form.Or at fs) ≤ part_limit → together (map (formula_count w) fs) ≤ part_limit
  or_within at fs h =
      let e : formula_count w (form.Or at fs) ≡ sum_or_one (map (formula_count w) fs) = below.formula_count-Or w at fs in
      let s : together (map (formula_count w) fs) ≤ sum_or_one (map (formula_count w) fs) = sum-least (map (formula_count w) fs) in
      omega arith

  pub not_within : (at : ℕ) (f : FactForm) → formula_count w (form.Not at f) ≤ part_limit → formula_count w f ≤ part_limit
  not_within at f h = let e : formula_count w (form.Not at f) ≡ formula_count w f = below.formula_count-Not w at f in omega arith

  pub imply_within : (at : ℕ) (f g : FactForm) → formula_count w (form.Imply at f g) ≤ part_limit → (formula_count w f ≤ part_limit) × (formula_count w g ≤ part_limit)
  imply_within at f g h = let e : formula_count w (form.Imply at f g) ≡ formula_count w f + formula_count w g = below.formula_count-Imply w at f g in (omega arith, omega arith)

  pub exists_within : (at : ℕ) (vars : List Group) (f : FactForm) → formula_count w (form.Exists at vars f) ≤ part_limit → written_out w vars (formula_count w f) ≤ part_limit
  exists_within at vars f h = let e : formula_count w (form.Exists at vars f) ≡ written_out w vars (formula_count w f) = below.formula_count-Exists w at vars f in omega arith

  pub forall_within : (at : ℕ) (vars : List Group) (f : FactForm) → formula_count w (form.Forall at vars f) ≤ part_limit → written_out w vars (formula_count w f) ≤ part_limit
  forall_within at vars f h = let e : formula_count w (form.Forall at vars f) ≡ written_out w vars (formula_count w f) = below.formula_count-Forall w at vars f in omega arith
