-- The conditions of kept bindings and their forms are within the task.
use Rattle.std.proofs.Common.{◌≡◌, refl, sym, ap, subst, ◌∙◌, ℕ, ◌≤◌, arith, Bool, true, false, nat_lt, List, [], map, length}
use Rattle.std.specs.Prelude.{if◌then◌else◌}
use Rattle.std.specs.List.{AllByRecursion as Each, flat_map, filter}
use Rattle.std.proofs.lemmas.List.{length-map}
use Rattle.basics.proofs.Bools.{and_in}
use Rattle.basics.proofs.Naturals.{le_in, le_out}
use Rattle.basics.proofs.Lists.{all_in, all_out, all_left, each_map}
use Rattle.exact_lin.specs.Forms.{LinearForm, IsForm}
use Rattle.task_types.specs.declared.conditions.Literal.{Literal}
use Rattle.task_types.specs.declared.parts.TaskParts.{TaskParts}
use Rattle.task_types.specs.WellMade.{is_short, are_below, form_fits, condition_fits}
use Rattle.pddl_terms.specs.declared.files.Domain.{Domain}
use Rattle.pddl_terms.specs.declared.files.Problem.{Problem}
use Rattle.pddl_names.specs.Declarations.{among}
use Rattle.ground_world.specs.declared.changes.Stage.{Stage}
use Rattle.ground_world.specs.World.{GroundAtom, symbol, number_in}
use Rattle.ground_world.specs.Changes.{parts_at, same_stage, changes}
use Rattle.ground_world.specs.FirstState.{world}
use Rattle.ground_world.specs.Conditions.{Part, Lit, Same, Compares, Test, test_forms}
use Rattle.ground_world.specs.Counts.{body_count}
use Rattle.grounder.specs.Instances.{Instance, env_of, conditions_of, no_unknowns}
use Rattle.grounder.specs.Terms.{part_atoms}
use Rattle.grounder.specs.Task.{Ground, grounding, fact_atoms, over_fluents, compared, forms_in, literal_of, dynamic_literal, action_condition}
use Rattle.grounder.specs.Accepted.{is_binding, changed_atoms, IsAccepted}
use Rattle.grounder.proofs.Each.{each_weaker, each_flat_map, flat_map_each, each_filter, each_everywhere}
use Rattle.grounder.proofs.Placing.{number-within}
use Rattle.grounder.proofs.Sizes.{weights, all_weights, weights-at, body-counted}
use Rattle.grounder.proofs.GoalSizes.{length-parts, length-dynamic, length-forms}
use Rattle.grounder.proofs.FormFacts.{cut-fits, tests-ascend}
use Rattle.grounder.proofs.Kept.{Sound}
use Rattle.grounder.proofs.WorldFacts.{fact-known}

-- a list that is no longer than some parts that are few
pub short-list : {X : Type 0} (xs : List X) (n : ℕ) → length xs ≤ n → n ≤ 65536 → is_short xs ≡ true
short-list xs n h k = le_in (length xs) 1048576 (omega arith)

-- the task's facts are the atoms, and its fluents those of the world
pub record IsOver (g : Ground) (task : TaskParts) : Type 0 where
  pub facts : length task.facts ≡ length g.facts
  pub fluents : length task.fluents ≡ length g.world.fluents
  pub few : length g.world.fluents ≤ 1048576

module _ (g : Ground) (task : TaskParts) (over : IsOver g task) where
  pub over_fluents-fits : (f : LinearForm) → IsForm f → form_fits task (over_fluents g f) ≡ true
  over_fluents-fits f a = subst (λ n. are_below n (map (λ t. t.0) (filter (λ t. nat_lt t.0 (length g.world.fluents)) f.terms)) ≡ true) (sym over.fluents) (cut-fits (length g.world.fluents) f.terms over.few a)

  pub compared-fits : (t : Test) → Each (λ f. form_fits task f ≡ true) (compared g t)
  compared-fits t = each_map (λ f. form_fits task f ≡ true) (over_fluents g) (test_forms g.world no_unknowns t)
      (each_weaker IsForm (λ f. form_fits task (over_fluents g f) ≡ true) over_fluents-fits (test_forms g.world no_unknowns t) (tests-ascend g.world no_unknowns t))

  pub forms_in-fit : (p : Part) → Each (λ f. form_fits task f ≡ true) (forms_in g p)
  forms_in-fit (Lit a holds) = tt
  forms_in-fit (Same holds) = tt
  forms_in-fit (Compares t) = compared-fits t

  pub atom-numbered : (a : GroundAtom) → among g.facts a ≡ true → nat_lt (number_in g.facts a) (length task.facts) ≡ true
  atom-numbered a h = ap (λ n. nat_lt (number_in g.facts a) n) over.facts ∙ number-within g.facts a h

-- the literals of a part whose atoms are bindings of their predicates
module _ (d : Domain) (p : Problem) (ok : IsAccepted d p) (task : TaskParts) (over : IsOver (grounding d p) task) where
  part-literals : (x : Part) → Each (λ a. is_binding (world d p) d.predicates a ≡ true) (part_atoms x)
      → Each (λ l. nat_lt l.fact (length task.facts) ≡ true) (dynamic_literal (world d p) (fact_atoms (world d p) d p) x)
  part-literals (Lit a holds) h = by ((world d p).is_static (symbol a)) refl
    where
      by : (b : Bool) → (world d p).is_static (symbol a) ≡ b
          → Each (λ l. nat_lt l.fact (length task.facts) ≡ true) (if b then [] else literal_of (fact_atoms (world d p) d p) (Lit a holds))
      by true e = tt
      by false e = (atom-numbered (grounding d p) task over a (fact-known d p ok a h.0 e), tt)
  part-literals (Same holds) h = tt
  part-literals (Compares t) h = tt

  stage-atoms : (i : Instance) → Sound d p i → (s : Stage) → Each (λ x. Each (λ a. is_binding (world d p) d.predicates a ≡ true) (part_atoms x)) (parts_at s (conditions_of (world d p) i))
  stage-atoms i k s =
      each_map (λ x. Each (λ a. is_binding (world d p) d.predicates a ≡ true) (part_atoms x)) (λ x. x.part) (filter (λ x. same_stage x.stage s) (conditions_of (world d p) i))
      (each_weaker (λ x. Each (λ a. is_binding (world d p) d.predicates a ≡ true) (part_atoms x.part) × (same_stage x.stage s ≡ true))
      (λ x. Each (λ a. is_binding (world d p) d.predicates a ≡ true) (part_atoms x.part)) (λ x h. h.0) (filter (λ x. same_stage x.stage s) (conditions_of (world d p) i))
      (each_filter (λ x. Each (λ a. is_binding (world d p) d.predicates a ≡ true) (part_atoms x.part)) (λ x. same_stage x.stage s) (conditions_of (world d p) i)
      (flat_map_each (λ a. is_binding (world d p) d.predicates a ≡ true) (λ x. part_atoms x.part) (conditions_of (world d p) i)
      (all_out (is_binding (world d p) d.predicates) (flat_map (λ x. part_atoms x.part) (conditions_of (world d p) i))
      (all_left (is_binding (world d p) d.predicates) (flat_map (λ x. part_atoms x.part) (conditions_of (world d p) i))
      (flat_map (λ c. changed_atoms (world d p) (env_of i) c.part) (changes i.action)) k.atoms)))))

  few-parts : (i : Instance) → Sound d p i → (s : Stage) → weights (parts_at s (conditions_of (world d p) i)) ≤ 65536
  few-parts i k s =
      let a : weights (parts_at s (conditions_of (world d p) i)) ≤ all_weights (conditions_of (world d p) i) = weights-at s (conditions_of (world d p) i) in
      let b : all_weights (conditions_of (world d p) i) ≤ body_count (world d p) i.action.body = body-counted (world d p) (env_of i) i.action.body in
      let c : body_count (world d p) i.action.body ≤ 65536 = le_out (body_count (world d p) i.action.body) 65536 k.parts in
      omega arith

  -- the condition of a stage of a kept binding
  pub condition-fits : (i : Instance) → Sound d p i → (s : Stage) → condition_fits task (action_condition (grounding d p) (parts_at s (conditions_of (world d p) i))) ≡ true
  condition-fits i k s = and_in _ _
      (and_in _ _ (short-list (map (λ l. l.fact) literals) (weights parts) (let e : length (map (λ l. l.fact) literals) ≡ length literals = length-map literals (λ l. l.fact) in
      let f : length literals ≤ weights parts = length-parts (dynamic_literal (world d p) (fact_atoms (world d p) d p)) (length-dynamic (world d p) (fact_atoms (world d p) d p)) parts in omega arith) (few-parts i k s))
      (all_in (λ x. nat_lt x (length task.facts)) (map (λ l. l.fact) literals) (each_map (λ x. nat_lt x (length task.facts) ≡ true) (λ l. l.fact) literals
      (each_flat_map (λ l. nat_lt l.fact (length task.facts) ≡ true) (dynamic_literal (world d p) (fact_atoms (world d p) d p)) parts
      (each_weaker (λ x. Each (λ a. is_binding (world d p) d.predicates a ≡ true) (part_atoms x)) (λ x. Each (λ l. nat_lt l.fact (length task.facts) ≡ true) (dynamic_literal (world d p) (fact_atoms (world d p) d p) x))
      part-literals parts (stage-atoms i k s))))))
      (and_in _ _ (short-list forms (weights parts) (length-parts (forms_in (grounding d p)) (length-forms (grounding d p)) parts) (few-parts i k s))
      (all_in (form_fits task) forms (each_flat_map (λ f. form_fits task f ≡ true) (forms_in (grounding d p)) parts
      (each_everywhere (λ x. Each (λ f. form_fits task f ≡ true) (forms_in (grounding d p) x)) (forms_in-fit (grounding d p) task over) parts))))
    where
      parts : List Part
      parts = parts_at s (conditions_of (world d p) i)

      literals : List Literal
      literals = flat_map (dynamic_literal (world d p) (fact_atoms (world d p) d p)) (parts_at s (conditions_of (world d p) i))

      forms : List LinearForm
      forms = flat_map (forms_in (grounding d p)) (parts_at s (conditions_of (world d p) i))
