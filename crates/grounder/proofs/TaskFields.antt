-- The fields of the ground task, from what code makes of the tables.
use Rattle.std.proofs.Common.{◌≡◌, refl, sym, ap, ◌∙◌, ℕ, ◌+◌, true, nat_le, List, [], ◌++◌, map, length}
use Rattle.std.specs.List.{enumerate_from, list_all}
use Rattle.basics.proofs.Lists.{all_in}
use Rattle.rational.specs.Rational.{ℚ}
use Rattle.task_types.specs.declared.parts.TaskParts.{TaskParts}
use Rattle.pddl_terms.specs.declared.files.ActionDef.{ActionDef}
use Rattle.pddl_terms.specs.declared.files.Domain.{Domain}
use Rattle.pddl_terms.specs.declared.files.InitEntry.{InitEntry}
use Rattle.pddl_terms.specs.declared.files.Problem.{Problem}
use Rattle.ground_world.specs.Counts.{bindings_fit, body_count, part_limit}
use Rattle.ground_world.specs.FirstState.{names_of, signatures_of, world}
use Rattle.ground_world.specs.Leaves.{constraints, costs}
use Rattle.grounder.specs.Accepted.{IsAccepted}
use Rattle.grounder.specs.Instances.{Instance, kept}
use Rattle.grounder.specs.PlainParts.{fact_of, fluent_of, schema_of}
use Rattle.grounder.specs.Task.{Ground, action_snaps, goal_condition, ground_task, grounding, hard_terms, metric, moments, numbered_actions, soft_terms, timed_snap, timings}
use Rattle.grounder.specs.Terms.{goal_parts}
use Rattle.grounder.proofs.Each.{each_weaker}
use Rattle.grounder.proofs.Fields.{actions-is, facts-is, fluents-is, goal-is, hard-is, metric-is, schemas-is, snaps-is, soft-is, timed-is}
use Rattle.grounder.proofs.Kept.{Sound, kept-sound}

-- tasks with the same fields
pub same_task : (s t : TaskParts) → s.objects ≡ t.objects → s.schemas ≡ t.schemas → s.facts ≡ t.facts → s.fluents ≡ t.fluents
    → s.actions ≡ t.actions → s.snaps ≡ t.snaps → s.timed ≡ t.timed → s.goal ≡ t.goal → s.hard ≡ t.hard → s.soft ≡ t.soft → s.metric ≡ t.metric → s ≡ t
same_task s t a b c e f g h i j k l =
    ap (λ x. record s { objects = x }) a
    ∙ ap (λ x. record s { objects = t.objects; schemas = x }) b
    ∙ ap (λ x. record s { objects = t.objects; schemas = t.schemas; facts = x }) c
    ∙ ap (λ x. record s { objects = t.objects; schemas = t.schemas; facts = t.facts; fluents = x }) e
    ∙ ap (λ x. record t { actions = x; snaps = s.snaps; timed = s.timed; goal = s.goal; hard = s.hard; soft = s.soft; metric = s.metric }) f
    ∙ ap (λ x. record t { snaps = x; timed = s.timed; goal = s.goal; hard = s.hard; soft = s.soft; metric = s.metric }) g
    ∙ ap (λ x. record t { timed = x; goal = s.goal; hard = s.hard; soft = s.soft; metric = s.metric }) h
    ∙ ap (λ x. record t { goal = x; hard = s.hard; soft = s.soft; metric = s.metric }) i
    ∙ ap (λ x. record t { hard = x; soft = s.soft; metric = s.metric }) j
    ∙ ap (λ x. record t { soft = x; metric = s.metric }) k
    ∙ ap (λ x. record t { metric = x }) l

module _ (d : Domain) (p : Problem) where
  pub world-predicates : (world d p).predicates ≡ names_of (signatures_of d.predicates)
  unfolding world
  world-predicates = refl

  pub world-functions : (world d p).functions ≡ names_of (signatures_of d.functions)
  unfolding world
  world-functions = refl

  -- the conditions of the bindings that make actions keep within the limit
  pub conditions-within : IsAccepted d p → bindings_fit (world d p) d p ≡ true
      → list_all (λ i. nat_le (body_count (world d p) i.action.body) part_limit) (kept (world d p) d.actions) ≡ true
  conditions-within ok fit = all_in (λ i. nat_le (body_count (world d p) i.action.body) part_limit) (kept (world d p) d.actions)
      (each_weaker (Sound d p) (λ i. nat_le (body_count (world d p) i.action.body) part_limit ≡ true) (λ i s. s.parts) (kept (world d p) d.actions) (kept-sound d p ok fit))

  module _ (g : Ground) (same : g ≡ grounding d p) where
    pub made-schemas : (own : List ActionDef) → own ≡ d.actions → map (schema_of g.world) own ≡ (ground_task d p).schemas
    made-schemas own e = ap (λ (xs : List ActionDef). map (schema_of g.world) xs) e ∙ ap (λ (h : Ground). map (schema_of h.world) d.actions) same ∙ sym (schemas-is d p)

    pub made-facts : map (fact_of g.world) g.facts ≡ (ground_task d p).facts
    made-facts = ap (λ (h : Ground). map (fact_of h.world) h.facts) same ∙ sym (facts-is d p)

    pub made-fluents : map (fluent_of g.world) g.world.fluents ≡ (ground_task d p).fluents
    made-fluents = ap (λ (h : Ground). map (fluent_of h.world) h.world.fluents) same ∙ sym (fluents-is d p)

    pub made-goal : goal_condition g (goal_parts g.world [] p.goal) ≡ (ground_task d p).goal
    made-goal = ap (λ (h : Ground). goal_condition h (goal_parts h.world [] p.goal)) same ∙ sym (goal-is d p)

    pub made-hard : hard_terms g (constraints d p) ≡ (ground_task d p).hard
    made-hard = ap (λ (h : Ground). hard_terms h (constraints d p)) same ∙ sym (hard-is d p)

    pub made-soft : soft_terms g p.goal (constraints d p) (costs p) ≡ (ground_task d p).soft
    made-soft = ap (λ (h : Ground). soft_terms h p.goal (constraints d p) (costs p)) same ∙ sym (soft-is d p)

    pub made-metric : metric g ≡ (ground_task d p).metric
    made-metric = ap (λ (h : Ground). metric h) same ∙ sym (metric-is d p)

    module _ (is : List Instance) (k : is ≡ kept (world d p) d.actions) where
      pub made-actions : numbered_actions g 0 is ≡ (ground_task d p).actions
      made-actions = ap (λ (own : List Instance). numbered_actions g 0 own) k ∙ ap (λ (h : Ground). numbered_actions h 0 (kept (world d p) d.actions)) same ∙ sym (actions-is d p)

      module _ (es : List InitEntry) (e : es ≡ p.init) where
        pub made-snaps : action_snaps g is ++ map (timed_snap g (timings g.world es)) (moments (timings g.world es)) ≡ (ground_task d p).snaps
        made-snaps = ap (λ (own : List InitEntry). action_snaps g is ++ map (timed_snap g (timings g.world own)) (moments (timings g.world own))) e
            ∙ ap (λ (own : List Instance). action_snaps g own ++ map (timed_snap g (timings g.world p.init)) (moments (timings g.world p.init))) k
            ∙ ap (λ (h : Ground). action_snaps h (kept (world d p) d.actions) ++ map (timed_snap h (timings h.world p.init)) (moments (timings h.world p.init))) same
            ∙ sym (snaps-is d p)

        pub made-timed : map {B = ℚ × ℕ} (λ x. (x.1, length (action_snaps g is) + x.0)) (enumerate_from 0 (moments (timings g.world es))) ≡ (ground_task d p).timed
        made-timed = ap (λ (own : List InitEntry). map {B = ℚ × ℕ} (λ x. (x.1, length (action_snaps g is) + x.0)) (enumerate_from 0 (moments (timings g.world own)))) e
            ∙ ap (λ (own : List Instance). map {B = ℚ × ℕ} (λ x. (x.1, length (action_snaps g own) + x.0)) (enumerate_from 0 (moments (timings g.world p.init)))) k
            ∙ ap (λ (h : Ground). map {B = ℚ × ℕ} (λ x. (x.1, length (action_snaps h (kept (world d p) d.actions)) + x.0)) (enumerate_from 0 (moments (timings h.world p.init)))) same
            ∙ sym (timed-is d p)
