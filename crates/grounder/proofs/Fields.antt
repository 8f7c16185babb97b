-- The parts of the ground task, and that its objects, schemas, facts and fluents fit.
use Rattle.std.proofs.Common.{◌≡◌, refl, sym, ap, subst, ◌∙◌, ℕ, ◌+◌, ◌≤◌, arith, true, not, ◌&&◌, nat_le, List, [], ◌∷◌, ◌++◌, map, length}
use Rattle.std.specs.Prelude.{slice_index_or}
use Rattle.std.specs.List.{AllByRecursion as Each, list_all, enumerate_from}
use Rattle.std.proofs.lemmas.List.{length-map}
use Rattle.basics.proofs.Bools.{and_left, and_right, and_in}
use Rattle.basics.proofs.Naturals.{le_in}
use Rattle.basics.proofs.Lists.{all_in, all_out, each_map}
use Rattle.rational.specs.Rational.{ℚ, zeroℚ}
use Rattle.task_types.specs.declared.actions.Schema.{Schema}
use Rattle.task_types.specs.declared.parts.Fact.{Fact}
use Rattle.task_types.specs.declared.parts.Fluent.{Fluent}
use Rattle.task_types.specs.WellMade.{is_short, are_below, are_names, schema_fits}
use Rattle.task_types.proofs.Assigning.{all_read}
use Rattle.pddl_terms.specs.declared.files.ActionDef.{ActionDef}
use Rattle.pddl_terms.specs.declared.files.Domain.{Domain}
use Rattle.pddl_terms.specs.declared.files.Problem.{Problem}
use Rattle.pddl_names.specs.Declarations.{Text, sorts_of}
use Rattle.ground_world.specs.World.{either, GroundAtom, columns, symbol, arguments}
use Rattle.ground_world.specs.FirstState.{world, all_atoms, has_value}
use Rattle.ground_world.specs.Leaves.{constraints, costs}
use Rattle.grounder.specs.Instances.{kept}
use Rattle.grounder.specs.Terms.{goal_parts}
use Rattle.grounder.specs.Task.{grounding, fact_atoms, mentioned_atoms, is_durative, numbered_actions, action_snaps, timings, moments, timed_snap, goal_condition, hard_terms, soft_terms, metric, ground_task}
use Rattle.grounder.specs.Accepted.{is_small, IsAccepted}
use Rattle.grounder.proofs.Each.{each_weaker, each_filter}
use Rattle.grounder.proofs.Placing.{with_new-each}
use Rattle.grounder.proofs.Columns.{columns-below}
use Rattle.grounder.proofs.WorldFacts.{fitting-below, objects-short, facts-below, functions-below}
use Rattle.grounder.proofs.Conditions.{IsOver}
use Rattle.grounder.proofs.Passed.{IsPassed}

-- ---- the parts

module _ (d : Domain) (p : Problem) where
  abbrev pub schema_of : ActionDef → Schema
  schema_of a = record { name = a.name.bytes; durative = is_durative a.body; params = columns (world d p) a.parameters }

  abbrev pub fact_of : GroundAtom → Fact
  fact_of a = record { name = slice_index_or (world d p).predicates (symbol a) []; args = arguments a; holds = (world d p).is_held a }

  abbrev pub fluent_of : GroundAtom → Fluent
  fluent_of f = record { name = slice_index_or (world d p).functions (symbol f) []; args = arguments f; value = either zeroℚ (λ q. q) ((world d p).value_of f) }

  pub objects-is : (ground_task d p).objects ≡ (world d p).objects
  unfolding ground_task
  objects-is = refl

  pub schemas-is : (ground_task d p).schemas ≡ map schema_of d.actions
  unfolding ground_task
  schemas-is = refl

  pub facts-is : (ground_task d p).facts ≡ map fact_of (fact_atoms (world d p) d p)
  unfolding ground_task
  facts-is = refl

  pub fluents-is : (ground_task d p).fluents ≡ map fluent_of (world d p).fluents
  unfolding ground_task
  fluents-is = refl

  pub actions-is : (ground_task d p).actions ≡ numbered_actions (grounding d p) 0 (kept (world d p) d.actions)
  unfolding ground_task
  actions-is = refl

  pub snaps-is : (ground_task d p).snaps ≡ action_snaps (grounding d p) (kept (world d p) d.actions)
      ++ map (timed_snap (grounding d p) (timings (world d p) p.init)) (moments (timings (world d p) p.init))
  unfolding ground_task
  snaps-is = refl

  pub timed-is : (ground_task d p).timed ≡ map {B = ℚ × ℕ} (λ x. (x.1, length (action_snaps (grounding d p) (kept (world d p) d.actions)) + x.0)) (enumerate_from 0 (moments (timings (world d p) p.init)))
  unfolding ground_task
  timed-is = refl

  pub goal-is : (ground_task d p).goal ≡ goal_condition (grounding d p) (goal_parts (world d p) [] p.goal)
  unfolding ground_task
  goal-is = refl

  pub hard-is : (ground_task d p).hard ≡ hard_terms (grounding d p) (constraints d p)
  unfolding ground_task
  hard-is = refl

  pub soft-is : (ground_task d p).soft ≡ soft_terms (grounding d p) p.goal (constraints d p) (costs p)
  unfolding ground_task
  soft-is = refl

  pub metric-is : (ground_task d p).metric ≡ metric (grounding d p)
  unfolding ground_task
  metric-is = refl

  names-same : (own : List ActionDef) → map (λ s. s.name) (map schema_of own) ≡ map (λ a. a.name.bytes) own
  names-same [] = refl
  names-same (a ∷ own) = ap (λ ns. a.name.bytes ∷ ns) (names-same own)

  -- ---- each part by itself

  module _ (ok : IsAccepted d p) (pass : IsPassed d p) where
    pub over : IsOver (grounding d p) (ground_task d p)
    over = record {
      facts = many_facts;
      fluents = many_fluents;
      few = (let e : length (ground_task d p).fluents ≡ length (world d p).fluents = many_fluents in let l : length (ground_task d p).fluents ≤ 2048 = pass.limited.fluents in omega arith);
    }
      where
        many_facts : length (ground_task d p).facts ≡ length (fact_atoms (world d p) d p)
        many_facts = ap length facts-is ∙ length-map (fact_atoms (world d p) d p) fact_of

        many_fluents : length (ground_task d p).fluents ≡ length (world d p).fluents
        many_fluents = ap length fluents-is ∙ length-map (world d p).fluents fluent_of

    pub objects-fit : (is_short (ground_task d p).objects && are_names (ground_task d p).objects) ≡ true
    objects-fit = subst (λ os. (is_short os && are_names os) ≡ true) (sym objects-is) ok.objects

    schema-fits : (a : ActionDef) → is_small a ≡ true → schema_fits (ground_task d p) (schema_of a) ≡ true
    schema-fits a s = and_in _ _ (ap (λ n. nat_le n 1048576) (length-map (sorts_of a.parameters) (world d p).fitting) ∙ and_left _ _ (and_left _ _ s))
        (all_in (are_below (length (ground_task d p).objects)) (columns (world d p) a.parameters)
        (subst (λ os. Each (λ c. are_below (length os) c ≡ true) (columns (world d p) a.parameters)) (sym objects-is)
        (columns-below (world d p) (length (world d p).objects) (fitting-below d p (objects-short d p ok)) (sorts_of a.parameters))))

    pub schemas-fit : (is_short (ground_task d p).schemas && are_names (map (λ s. s.name) (ground_task d p).schemas) && list_all (schema_fits (ground_task d p)) (ground_task d p).schemas) ≡ true
    schemas-fit = subst (λ ss. (is_short ss && are_names (map (λ s. s.name) ss) && list_all (schema_fits (ground_task d p)) ss) ≡ true) (sym schemas-is)
        (and_in _ _ (and_in _ _ (ap (λ n. nat_le n 1048576) (length-map d.actions schema_of) ∙ and_left _ _ ok.schemas)
        (ap are_names (names-same d.actions) ∙ and_right _ _ ok.schemas))
        (all_in (schema_fits (ground_task d p)) (map schema_of d.actions) (each_map (λ s. schema_fits (ground_task d p) s ≡ true) schema_of d.actions
        (each_weaker (λ a. is_small a ≡ true) (λ a. schema_fits (ground_task d p) (schema_of a) ≡ true) schema-fits d.actions (all_out is_small d.actions ok.small)))))

    -- ---- facts and fluents

    named : (names : List Text) → list_all is_short names ≡ true → (k : ℕ) → is_short (slice_index_or names k []) ≡ true
    named names h k = all_read is_short [] refl names h k

    abbrev WithinObjects : GroundAtom → Type 0
    WithinObjects a = are_below (length (world d p).objects) (arguments a) ≡ true

    atoms-within : Each WithinObjects (fact_atoms (world d p) d p)
    unfolding fact_atoms
    atoms-within = with_new-each WithinObjects (all_atoms (world d p) (λ x. not ((world d p).is_static x)) d.predicates) (mentioned_atoms (world d p) d p)
        (facts-below d p ok (λ x. not ((world d p).is_static x))) (all_out (λ a. are_below (length (world d p).objects) (arguments a)) (mentioned_atoms (world d p) d p) ok.mentioned)

    fluents-within : Each WithinObjects (world d p).fluents
    unfolding world
    fluents-within = each_weaker (λ f. WithinObjects f × (has_value (world d p) f ≡ true)) WithinObjects (λ f h. h.0) (world d p).fluents
        (each_filter WithinObjects (λ f. has_value (world d p) f) (all_atoms (world d p) (λ x. not ((world d p).is_static_function x)) d.functions)
        (functions-below d p ok (λ x. not ((world d p).is_static_function x))))

    fact-fits : (a : GroundAtom) → WithinObjects a → (is_short (fact_of a).name && are_below (length (ground_task d p).objects) (fact_of a).args) ≡ true
    fact-fits a h = and_in _ _ (named (world d p).predicates (and_left _ _ ok.names) (symbol a)) (subst (λ os. are_below (length os) (arguments a) ≡ true) (sym objects-is) h)

    fluent-fits : (f : GroundAtom) → WithinObjects f → (is_short (fluent_of f).name && are_below (length (ground_task d p).objects) (fluent_of f).args) ≡ true
    fluent-fits f h = and_in _ _ (named (world d p).functions (and_right _ _ ok.names) (symbol f)) (subst (λ os. are_below (length os) (arguments f) ≡ true) (sym objects-is) h)

    pub facts-fit : (is_short (ground_task d p).facts && list_all (λ f. is_short f.name && are_below (length (ground_task d p).objects) f.args) (ground_task d p).facts) ≡ true
    facts-fit = and_in _ _ (le_in (length (ground_task d p).facts) 1048576 (let l : length (ground_task d p).facts ≤ 16384 = pass.limited.facts in omega arith))
        (subst (λ fs. list_all (λ f. is_short f.name && are_below (length (ground_task d p).objects) f.args) fs ≡ true) (sym facts-is)
        (all_in (λ f. is_short f.name && are_below (length (ground_task d p).objects) f.args) (map fact_of (fact_atoms (world d p) d p))
        (each_map (λ f. (is_short f.name && are_below (length (ground_task d p).objects) f.args) ≡ true) fact_of (fact_atoms (world d p) d p)
        (each_weaker WithinObjects (λ a. (is_short (fact_of a).name && are_below (length (ground_task d p).objects) (fact_of a).args) ≡ true) fact-fits (fact_atoms (world d p) d p) atoms-within))))

    pub fluents-fit : (is_short (ground_task d p).fluents && list_all (λ f. is_short f.name && are_below (length (ground_task d p).objects) f.args) (ground_task d p).fluents) ≡ true
    fluents-fit = and_in _ _ (le_in (length (ground_task d p).fluents) 1048576 (let l : length (ground_task d p).fluents ≤ 2048 = pass.limited.fluents in omega arith))
        (subst (λ fs. list_all (λ f. is_short f.name && are_below (length (ground_task d p).objects) f.args) fs ≡ true) (sym fluents-is)
        (all_in (λ f. is_short f.name && are_below (length (ground_task d p).objects) f.args) (map fluent_of (world d p).fluents)
        (each_map (λ f. (is_short f.name && are_below (length (ground_task d p).objects) f.args) ≡ true) fluent_of (world d p).fluents
        (each_weaker WithinObjects (λ a. (is_short (fluent_of a).name && are_below (length (ground_task d p).objects) (fluent_of a).args) ≡ true) fluent-fits (world d p).fluents fluents-within))))
