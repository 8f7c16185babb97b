-- The instances of a goal preference: that its parts are few where there are any, and the soft term of one, from the
-- formulas and the comparisons of its parts.
use Rattle.std.proofs.Common.{◌≡◌, refl, sym, ap, ◌∙◌, ℕ, suc, ◌+◌, ◌<◌, ◌≤◌, arith, true, List, [], ◌∷◌, ◌++◌, map, length}
use Rattle.std.specs.List.{flat_map}
use Rattle.std.proofs.lemmas.List.{map-append, length-append}
use Rattle.std.proofs.lemmas.List.Concat.{flat_map-append}
use Rattle.exact_lin.specs.Forms.{LinearForm}
use Rattle.task_types.specs.declared.formulas.FactTree.{FactTree}
use Rattle.task_types.specs.declared.formulas.FactTree.TheVariants as fact
use Rattle.pddl_terms.specs.declared.trees.Group.{Group}
use Rattle.pddl_terms.specs.declared.trees.SoftTree.{SoftTree}
use Rattle.ground_world.specs.World.{World, Env}
use Rattle.ground_world.specs.Bindings.{nested_bindings}
use Rattle.ground_world.specs.Conditions.{Part, tests_in}
use Rattle.ground_world.specs.Counts.{around_count, soft_count, fit_limits, part_limit}
use Rattle.ground_world.specs.Shown.{part_of, parts_of}
use Rattle.ground_world.specs.declared.parts.CondPart.{CondPart}
use Rattle.grounder.specs.declared.preferences.PreferencePart as code
use Rattle.grounder.specs.declared.quantified.Quantified.{Quantified}
use Rattle.grounder.specs.ShownPreferences.{preference_of, preferences_of, preferences_count, compared_parts}
use Rattle.grounder.specs.ShownQuantified.{envs_of}
use Rattle.grounder.specs.Task.{Ground, fact_number, compared, all_of}
use Rattle.grounder.specs.Terms.{PreferencePart, preference_parts, formula, formulas_in, comparisons_in}
use Rattle.grounder.proofs.LeafSteps.{some_instance}
use Rattle.grounder.proofs.Pushing.{flat_map-more}
use Rattle.grounder.proofs.PreferenceSteps.{preference-counted, tests_of_parts}
use Rattle.grounder.proofs.Reaching.{parts_few}

-- ---- the parts of a preference that has an instance

pub few_parts : (w : World) (around : List (List Group)) (s : SoftTree) → fit_limits (around_count w around) (soft_count w s) ≡ true → (q : Quantified) → envs_of q [] ≡ nested_bindings w [] around
    → (k : ℕ) → k < q.count → (ps : List code.PreferencePart) → preferences_of ps ≡ preference_parts w s → preferences_count w (preferences_of ps) ≤ part_limit
few_parts w around s fits q are k lt ps e =
    let some : 0 < around_count w around = some_instance w around q [] are k lt in
    let few : soft_count w s ≤ part_limit = parts_few (around_count w around) (soft_count w s) some fits in
    let counted : preferences_count w (preference_parts w s) ≤ soft_count w s = preference-counted w s in
    let same : preferences_count w (preferences_of ps) ≡ preferences_count w (preference_parts w s) = ap (preferences_count w) e in
    omega arith

-- ---- the conjunction of some formulas

pub one_formula : (ts rest : List FactTree) (last : FactTree) → ts ≡ rest ++ (last ∷ []) → length ts ≡ 1 → last ≡ all_of ts
one_formula ts [] last e h = sym (ap all_of e)
one_formula ts (t ∷ rest) last e h = let k : length ts ≡ suc (length rest) + 1 = ap length e ∙ length-append (t ∷ rest) (last ∷ []) in absurd (omega arith)

pub no_formula : (ts : List FactTree) → ts ≡ [] → length ts ≡ 1 → fact.And [] ≡ all_of ts
no_formula ts e h = let k : length ts ≡ 0 = ap length e in absurd (omega arith)

pub several_formulas : (ts : List FactTree) → ¬ (length ts ≡ 1) → fact.And ts ≡ all_of ts
several_formulas [] n = refl
several_formulas (t ∷ []) n = absurd (n refl)
several_formulas (t ∷ u ∷ ts) n = refl

-- ---- one part more

module _ (g : Ground) (env : Env) where
  pub formulas-more : (xs : List code.PreferencePart) (x : code.PreferencePart)
      → map (formula g.world (fact_number g) env) (flat_map formulas_in (preferences_of (xs ++ (x ∷ []))))
      ≡ map (formula g.world (fact_number g) env) (flat_map formulas_in (preferences_of xs)) ++ map (formula g.world (fact_number g) env) (formulas_in (preference_of x))
  formulas-more xs x =
      ap (map (formula g.world (fact_number g) env)) (flat_map-more formulas_in preference_of xs x)
      ∙ map-append (formula g.world (fact_number g) env) (flat_map formulas_in (preferences_of xs)) (formulas_in (preference_of x))

pub forms-more : (g : Ground) (ps : List CondPart) (p : CondPart)
    → flat_map (compared g) (flat_map tests_in (parts_of (ps ++ (p ∷ [])))) ≡ flat_map (compared g) (flat_map tests_in (parts_of ps)) ++ flat_map (compared g) (tests_in (part_of p))
forms-more g ps p =
    ap (flat_map (compared g)) (flat_map-more tests_in part_of ps p)
    ∙ flat_map-append (compared g) (flat_map tests_in (parts_of ps)) (tests_in (part_of p))

-- ---- the forms of all that is compared

flat_map-joined : {X Y Z : Type 0} (f : Y → List Z) (h : X → List Y) (xs : List X) → flat_map f (flat_map h xs) ≡ flat_map (λ x. flat_map f (h x)) xs
flat_map-joined f h [] = refl
flat_map-joined f h (x ∷ xs) = flat_map-append f (h x) (flat_map h xs) ∙ ap (λ l. flat_map f (h x) ++ l) (flat_map-joined f h xs)

pub forms-compared : (g : Ground) (env : Env) (xs : List PreferencePart) (ps : List Part) (fs : List LinearForm) → ps ≡ flat_map (compared_parts g.world env) xs
    → fs ≡ flat_map (compared g) (flat_map tests_in ps) → fs ≡ flat_map (λ x. flat_map (compared g) (comparisons_in g.world env x)) xs
forms-compared g env xs ps fs e h =
    h ∙ ap (λ (l : List Part). flat_map (compared g) (flat_map tests_in l)) e ∙ ap (flat_map (compared g)) (tests_of_parts g.world env xs)
    ∙ flat_map-joined (compared g) (comparisons_in g.world env) xs
