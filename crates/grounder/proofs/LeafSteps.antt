-- Leaves inside several lists of variables: their bindings, and what is within the limits.
use Rattle.std.proofs.Common.{◌≡◌, sym, ap, ap₂, ◌∙◌, ℕ, zero, suc, ◌<◌, ◌≤◌, arith, Bool, true, List, [], ◌∷◌, ◌++◌, map, length, get_or}
use Rattle.std.specs.List.{list_all}
use Rattle.std.proofs.lemmas.List.{length-map}
use Rattle.basics.proofs.Bools.{and_left, and_right}
use Rattle.pddl_terms.specs.declared.trees.Group.{Group}
use Rattle.ground_world.specs.World.{World, Env}
use Rattle.ground_world.specs.Bindings.{choices, choice_count, paired, nested_bindings, all_names, all_columns}
use Rattle.ground_world.specs.Counts.{around_count, fit_limits, binding_limit, part_limit}
use Rattle.ground_world.specs.Shown.{names_of, columns_of}
use Rattle.ground_world.specs.declared.choosing.Variable.{Variable}
use Rattle.ground_world.proofs.NestedChoices.{nested-as_one, around-count}
use Rattle.grounder.specs.declared.quantified.Quantified.{Quantified}
use Rattle.grounder.specs.ShownQuantified.{envs_of}
use Rattle.grounder.proofs.OneByOne.{envs-count, length-choices}
use Rattle.grounder.proofs.Reaching.{parts_few}

module _ (w : World) (around : List (List Group)) where
  pub nested_few : (vs : List Variable) → columns_of vs ≡ all_columns w around → around_count w around ≤ binding_limit → choice_count (columns_of vs) ≤ binding_limit
  nested_few vs e h =
      let a : choice_count (columns_of vs) ≡ choice_count (all_columns w around) = ap choice_count e in
      let b : choice_count (all_columns w around) ≡ around_count w around = around-count w around in
      omega arith

  pub nested_envs : (q : Quantified) → names_of q.variables ≡ all_names around → columns_of q.variables ≡ all_columns w around
      → (env : Env) → envs_of q env ≡ nested_bindings w env around
  nested_envs q n e env = ap₂ (λ ns cs. map (λ os. env ++ paired ns os) (choices cs)) n e ∙ sym (nested-as_one w env around)

  pub some_instance : (q : Quantified) (env : Env) → envs_of q env ≡ nested_bindings w env around → (k : ℕ) → k < q.count → 0 < around_count w around
  some_instance q env are k h =
      let a : length (envs_of q env) ≡ q.count = envs-count q env ∙ sym q.counted in
      let b : length (envs_of q env) ≡ around_count w around =
      ap length (are ∙ nested-as_one w env around) ∙ length-map (choices (all_columns w around)) (λ os. env ++ paired (all_names around) os)
      ∙ length-choices (all_columns w around) ∙ around-count w around in
      omega arith

-- ---- what is within the limits

pub one_few : (parts : ℕ) → fit_limits 1 parts ≡ true → parts ≤ part_limit
one_few parts h = let one : 0 < 1 = omega arith in parts_few 1 parts one h

pub each_fits : {X Y : Type 0} (fits : Y → Bool) (f : X → Y) (xs : List X) (i : ℕ) (x : X) → i < length xs → x ≡ get_or xs i x → list_all fits (map f xs) ≡ true → fits (f x) ≡ true
each_fits fits f [] i x lt at h = absurd (omega arith)
each_fits fits f (y ∷ xs) zero x lt at h = ap (λ z. fits (f z)) at ∙ and_left (fits (f y)) (list_all fits (map f xs)) h
each_fits fits f (y ∷ xs) (suc i) x lt at h = each_fits fits f xs i x (omega arith) at (and_right (fits (f y)) (list_all fits (map f xs)) h)
