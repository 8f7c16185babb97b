-- The facts: what is within the limits where all is, and that what is mentioned makes the facts no fewer.
use Rattle.std.proofs.Common.{◌≡◌, sym, ap, subst, ◌∙◌, ℕ, ◌+◌, ◌<◌, ◌≤◌, arith, Bool, true, false, not, List, [], ◌∷◌, ◌++◌, ◌&&◌, zero, suc, length, take, get_or, Option, Some, length-append}
use Rattle.std.specs.Prelude.{if◌then◌else◌}
use Rattle.std.specs.List.{flat_map, list_all}
use Rattle.std.specs.List.Sorted.{IsStrictlySortedBy}
use Rattle.std.specs.Ordering.{nat_cmp}
use Rattle.std.proofs.lemmas.List.{append-nil}
use Rattle.std.proofs.lemmas.List.Concat.{flat_map-append}
use Rattle.basics.proofs.Bools.{and_left, and_right, and_in}
use Rattle.basics.proofs.Naturals.{le_in}
use Rattle.basics.proofs.Lists.{all_left, all_right}
use Rattle.pddl_terms.specs.declared.trees.FactForm.{FactForm}
use Rattle.pddl_terms.specs.declared.trees.ConForm.{ConForm}
use Rattle.pddl_terms.specs.declared.files.Domain.{Domain}
use Rattle.pddl_terms.specs.declared.files.Problem.{Problem}
use Rattle.pddl_terms.specs.declared.files.TimeCost.{TimeCost}
use Rattle.pddl_names.specs.Declarations.{Text, among, with_new}
use Rattle.pddl_names.proofs.Doubling.{with_new-append}
use Rattle.ground_world.specs.World.{World, GroundAtom, either}
use Rattle.ground_world.specs.FirstState.{world, types_of, objects_of, all_atoms}
use Rattle.ground_world.specs.Leaves.{Cost, constraint_leaves, cost_of}
use Rattle.ground_world.specs.Counts.{bindings_fit, goal_count, formula_count, fit_limits, part_limit}
use Rattle.ground_world.proofs.FluentOrder.{column-sorted}
use Rattle.ground_world.proofs.Steps.{taken}
use Rattle.grounder.specs.Reach.{goal_fits, leaf_fits, cost_fits, constraint_fits}
use Rattle.grounder.specs.Terms.{formula_atoms}
use Rattle.grounder.specs.Task.{mentioned_atoms, fact_atoms}
use Rattle.grounder.proofs.Reaching.{parts_few}

-- ---- what is within the limits

module _ (w : World) (d : Domain) (p : Problem) (fit : bindings_fit w d p ≡ true) where
  goal_small : goal_count w p.goal ≤ part_limit
  unfolding bindings_fit
  goal_small = let one : 0 < 1 = omega arith in parts_few 1 (goal_count w p.goal) one (and_right _ _ (and_left _ _ fit))

  pub goal-fits : goal_fits w p.goal ≡ true
  unfolding bindings_fit
  goal-fits = and_in _ _ (and_right _ _ (and_left _ _ (and_left _ _ (and_left _ _ fit)))) (le_in (goal_count w p.goal) part_limit goal_small)

  all_constraints : list_all (leaf_fits w) (either [] constraint_leaves d.constraints ++ either [] constraint_leaves p.constraints) ≡ true
  unfolding bindings_fit
  all_constraints = and_right _ _ (and_left _ _ (and_left _ _ fit))

  pub domain-fits : list_all (leaf_fits w) (either [] constraint_leaves d.constraints) ≡ true
  domain-fits = all_left (leaf_fits w) (either [] constraint_leaves d.constraints) (either [] constraint_leaves p.constraints) all_constraints

  pub problem-fits : list_all (leaf_fits w) (either [] constraint_leaves p.constraints) ≡ true
  problem-fits = all_right (leaf_fits w) (either [] constraint_leaves d.constraints) (either [] constraint_leaves p.constraints) all_constraints

  pub costs-fit : list_all (cost_fits w) (flat_map cost_of p.time_costs) ≡ true
  unfolding bindings_fit
  costs-fit = and_right _ _ fit

module _ (w : World) where
  pub some-fit : {o : Option ConForm} {c : ConForm} → o ≡ Some c → list_all (leaf_fits w) (either [] constraint_leaves o) ≡ true → constraint_fits w c ≡ true
  some-fit e h = subst (λ x. list_all (leaf_fits w) (either [] constraint_leaves x) ≡ true) e h

  pub formula-few : (f : FactForm) (rest : Bool) → (fit_limits 1 (formula_count w f) && rest) ≡ true → formula_count w f ≤ part_limit
  formula-few f rest h = let one : 0 < 1 = omega arith in parts_few 1 (formula_count w f) one (and_left (fit_limits 1 (formula_count w f)) rest h)

-- ---- time costs, one by one

module _ (w : World) where
  abbrev pub cost_atoms : List Cost → List GroundAtom
  cost_atoms cs = flat_map (λ c. formula_atoms w [] c.formula) cs

  pub cost-fits : (xs : List TimeCost) (i : ℕ) (x : TimeCost) → i < length xs → x ≡ get_or xs i x → list_all (cost_fits w) (flat_map cost_of xs) ≡ true → list_all (cost_fits w) (cost_of x) ≡ true
  cost-fits [] i x lt at h = absurd (omega arith)
  cost-fits (y ∷ xs) zero x lt at h = ap (λ t. list_all (cost_fits w) (cost_of t)) at ∙ all_left (cost_fits w) (cost_of y) (flat_map cost_of xs) h
  cost-fits (y ∷ xs) (suc i) x lt at h = cost-fits xs i x (omega arith) at (all_right (cost_fits w) (cost_of y) (flat_map cost_of xs) h)

  pub costs-more : (xs : List TimeCost) (i : ℕ) (x : TimeCost) (old before after : List GroundAtom) → i < length xs → x ≡ get_or xs i x
      → before ≡ with_new old (cost_atoms (flat_map cost_of (take i xs))) → after ≡ with_new before (cost_atoms (cost_of x))
      → after ≡ with_new old (cost_atoms (flat_map cost_of (take (i + 1) xs)))
  costs-more xs i x old before after lt at h k =
      k ∙ ap (λ l. with_new l (cost_atoms (cost_of x))) h
      ∙ sym (with_new-append old (cost_atoms (flat_map cost_of (take i xs))) (cost_atoms (cost_of x)))
      ∙ ap (with_new old) (sym (flat_map-append (λ c. formula_atoms w [] c.formula) (flat_map cost_of (take i xs)) (cost_of x))
      ∙ ap cost_atoms (sym (ap (flat_map cost_of) (taken xs i x lt at) ∙ flat_map-append cost_of (take i xs) (x ∷ []) ∙ ap (λ l. flat_map cost_of (take i xs) ++ l) (append-nil (cost_of x)))))

-- ---- all that is mentioned

pub four-added : (old a b c d one two three four : List GroundAtom) → one ≡ with_new old a → two ≡ with_new one b → three ≡ with_new two c
    → four ≡ with_new three d → four ≡ with_new old (a ++ b ++ c ++ d)
four-added old a b c d one two three four h i j k =
    k ∙ ap (λ l. with_new l d) (j ∙ ap (λ l. with_new l c) (i ∙ ap (λ l. with_new l b) h ∙ sym (with_new-append old a b)) ∙ sym (with_new-append old (a ++ b) c))
    ∙ sym (with_new-append old (a ++ b ++ c) d)

-- ---- the facts

pub new-longer : (old more : List Text) → length old ≤ length (with_new old more)
new-longer old [] = omega arith
new-longer old (n ∷ more) = by (among old n) (λ xs. new-longer xs more)
  where
    by : (b : Bool) → ((xs : List Text) → length xs ≤ length (with_new xs more)) → length old ≤ length (with_new (if b then old else old ++ (n ∷ [])) more)
    by true ih = ih old
    by false ih =
        let a : length (old ++ (n ∷ [])) ≤ length (with_new (old ++ (n ∷ [])) more) = ih (old ++ (n ∷ [])) in
        let l : length (old ++ (n ∷ [])) ≡ length old + 1 = length-append old (n ∷ []) in
        omega arith

module _ (w : World) (d : Domain) (p : Problem) where
  pub facts-are : (changing : List GroundAtom) → changing ≡ all_atoms w (λ x. not (w.is_static x)) d.predicates → with_new changing (mentioned_atoms w d p) ≡ fact_atoms w d p
  unfolding fact_atoms
  facts-are changing e = ap (λ l. with_new l (mentioned_atoms w d p)) e

  pub facts-many : 16384 < length (all_atoms w (λ x. not (w.is_static x)) d.predicates) → 16384 < length (fact_atoms w d p)
  unfolding fact_atoms
  facts-many h =
      let l : length (all_atoms w (λ x. not (w.is_static x)) d.predicates) ≤ length (with_new (all_atoms w (λ x. not (w.is_static x)) d.predicates) (mentioned_atoms w d p))
      = new-longer (all_atoms w (λ x. not (w.is_static x)) d.predicates) (mentioned_atoms w d p) in
      omega arith

pub world-ascending : (w : World) (d : Domain) (p : Problem) → w ≡ world d p → (s : Text) → IsStrictlySortedBy nat_cmp (w.fitting s)
unfolding world
world-ascending w d p e s = subst (λ (x : World). IsStrictlySortedBy nat_cmp (x.fitting s)) (sym e) (column-sorted (types_of d) (objects_of d p) s)
