-- The task that is made is well made.
use Rattle.std.proofs.Common.{◌≡◌, refl, sym, ap, subst, ◌∙◌, ℕ, ◌+◌, ◌≤◌, arith, Bool, true, false, ◌&&◌, ◌==◌, nat_le, List, [], ◌∷◌, ◌++◌, map, length, Option, Some, None, Result, Ok, Err}
use Rattle.std.specs.Prelude.{if◌then◌else◌}
use Rattle.std.specs.List.{AllByRecursion as Each, flat_map, list_all, enumerate_from}
use Rattle.std.proofs.lemmas.List.{length-map, length-append}
use Rattle.std.proofs.lemmas.List.FromFn.{length-enumerate_from}
use Rattle.basics.proofs.Bools.{and_in}
use Rattle.basics.proofs.Naturals.{le_in, same_in}
use Rattle.basics.proofs.Lists.{all_in, all_append, each_map}
use Rattle.rational.specs.Rational.{ℚ, zeroℚ}
use Rattle.task_types.specs.declared.actions.Action.{Action}
use Rattle.task_types.specs.declared.actions.Snap.{Snap}
use Rattle.task_types.specs.declared.parts.TaskParts.{TaskParts}
use Rattle.task_types.specs.Tests.{◌≤?◌, ◌=?◌}
use Rattle.task_types.specs.WellMade.{IsWellMade, is_short, action_fits, snap_fits, snap_total, are_numbered, are_timed, moments_ascend, condition_fits, trail_fits, soft_fits, form_fits}
use Rattle.pddl_terms.specs.declared.files.Domain.{Domain}
use Rattle.pddl_terms.specs.declared.files.Problem.{Problem}
use Rattle.task_types.specs.declared.actions.SnapKind.TheVariants as snap
use Rattle.ground_world.specs.declared.changes.Stage.TheVariants.{AtStart, AtEnd}
use Rattle.ground_world.specs.Changes.{changes}
use Rattle.ground_world.specs.World.{either}
use Rattle.ground_world.specs.FirstState.{world}
use Rattle.ground_world.specs.Leaves.{constraints, costs}
use Rattle.grounder.specs.declared.faults.GroundFault.{GroundFault}
use Rattle.grounder.specs.Instances.{Instance, env_of, kept}
use Rattle.grounder.specs.Task.{grounding, is_durative, snap_of, fluent_rates, numbered_actions, action_snaps, snaps_of, timings, moments, timed_snap, hard_terms, soft_terms, ground_task}
use Rattle.grounder.specs.Answer.{ground_fault, ground_answer}
use Rattle.grounder.specs.Accepted.{IsAccepted}
use Rattle.grounder.specs.Laws.{MadeTasksAreWellMade}
use Rattle.grounder.proofs.Each.{each_everywhere}
use Rattle.grounder.proofs.Kept.{Sound, kept-sound}
use Rattle.grounder.proofs.Stepping.{actions-numbered, snap_total-is, steps-timed, rising-ascends}
use Rattle.grounder.proofs.Passed.{IsPassed, passed, greatest-each}
use Rattle.grounder.proofs.Fields.{over, objects-fit, schemas-fit, facts-fit, fluents-fit, schemas-is, actions-is, snaps-is, timed-is, goal-is, hard-is, soft-is, metric-is}
use Rattle.grounder.proofs.ActionFields.{length-numbered, actions-fit, snaps-fit}
use Rattle.grounder.proofs.TermFields.{timed-fits, moments-rise, goal-fits, hard-fit, soft-fit, metric-fits}

module _ (d : Domain) (p : Problem) (ok : IsAccepted d p) (pass : IsPassed d p) where
  abbrev is : List Instance
  is = kept (world d p) d.actions

  abbrev ms : List ℚ
  ms = moments (timings (world d p) p.init)

  abbrev own_snaps : List Snap
  own_snaps = action_snaps (grounding d p) (kept (world d p) d.actions)

  abbrev timed_snaps : List Snap
  timed_snaps = map (timed_snap (grounding d p) (timings (world d p) p.init)) (moments (timings (world d p) p.init))

  sound : Each (Sound d p) (kept (world d p) d.actions)
  sound = kept-sound d p ok pass.bindings

  many_actions : length (ground_task d p).actions ≡ length (kept (world d p) d.actions)
  many_actions = ap length (actions-is d p) ∙ length-numbered (grounding d p) 0 (kept (world d p) d.actions)

  watches : Each (λ a. length a.over_all.comparisons ≤ 8) (numbered_actions (grounding d p) 0 (kept (world d p) d.actions))
  watches = subst (λ own. Each (λ (a : Action). length a.over_all.comparisons ≤ 8) own) (actions-is d p) (greatest-each (λ (a : Action). length a.over_all.comparisons) 8 (ground_task d p).actions pass.limited.watches)

  actions-ok : (is_short (ground_task d p).actions && list_all (action_fits (ground_task d p)) (ground_task d p).actions) ≡ true
  actions-ok = and_in _ _ (le_in (length (ground_task d p).actions) 1048576 (let l : length (ground_task d p).actions ≤ 8192 = pass.limited.actions in omega arith))
      (subst (λ own. list_all (action_fits (ground_task d p)) own ≡ true) (sym (actions-is d p))
      (actions-fit d p ok (ground_task d p) (over d p ok pass) (schemas-is d p) (kept (world d p) d.actions) sound watches))

  -- ---- how many snap actions there are

  many_own : length own_snaps ≡ snap_total (ground_task d p).actions
  many_own = snap_total-is (grounding d p) (ground_task d p) 0 0 (kept (world d p) d.actions) ∙ ap snap_total (sym (actions-is d p))

  many_timed : length (ground_task d p).timed ≡ length ms
  many_timed = ap length (timed-is d p) ∙ length-map (enumerate_from 0 ms) (λ x. (x.1, length own_snaps + x.0)) ∙ length-enumerate_from 0 ms

  many_snaps : length (ground_task d p).snaps ≡ snap_total (ground_task d p).actions + length (ground_task d p).timed
  many_snaps =
      let a : length (ground_task d p).snaps ≡ length (own_snaps ++ timed_snaps) = ap length (snaps-is d p) in
      let b : length (own_snaps ++ timed_snaps) ≡ length own_snaps + length timed_snaps = length-append own_snaps timed_snaps in
      let c : length timed_snaps ≡ length ms = length-map ms (timed_snap (grounding d p) (timings (world d p) p.init)) in
      let e : length own_snaps ≡ snap_total (ground_task d p).actions = many_own in
      let f : length (ground_task d p).timed ≡ length ms = many_timed in
      omega arith

  of_one : (b : Bool) (s e o : Snap) → length (if b then (s ∷ e ∷ []) else (o ∷ [])) ≤ 2
  of_one true s e o = omega arith
  of_one false s e o = omega arith

  twice : (a : ℕ) (more : List Instance) → length (flat_map (λ x. snaps_of (grounding d p) x.0 x.1) (enumerate_from a more)) ≤ length more + length more
  twice a [] = omega arith
  twice a (i ∷ more) =
      let few : length (snaps_of (grounding d p) a i) ≤ 2 = of_one (is_durative i.action.body)
      (snap_of (grounding d p) a i snap.Start AtStart (flat_map (λ c. fluent_rates (grounding d p) (env_of i) c.part) (changes i.action)))
      (snap_of (grounding d p) a i snap.End AtEnd []) (snap_of (grounding d p) a i snap.Instant AtStart []) in
      let ih : length (flat_map (λ x. snaps_of (grounding d p) x.0 x.1) (enumerate_from (a + 1) more)) ≤ length more + length more = twice (a + 1) more in
      let e : length (snaps_of (grounding d p) a i ++ flat_map (λ x. snaps_of (grounding d p) x.0 x.1) (enumerate_from (a + 1) more))
      ≡ length (snaps_of (grounding d p) a i) + length (flat_map (λ x. snaps_of (grounding d p) x.0 x.1) (enumerate_from (a + 1) more))
      = length-append (snaps_of (grounding d p) a i) (flat_map (λ x. snaps_of (grounding d p) x.0 x.1) (enumerate_from (a + 1) more)) in
      omega arith

  snaps-ok : (is_short (ground_task d p).snaps && list_all (snap_fits (ground_task d p)) (ground_task d p).snaps) ≡ true
  snaps-ok = and_in _ _
      (le_in (length (ground_task d p).snaps) 1048576
      (let a : length (ground_task d p).snaps ≡ snap_total (ground_task d p).actions + length (ground_task d p).timed = many_snaps in
      let b : length own_snaps ≡ snap_total (ground_task d p).actions = many_own in
      let c : length own_snaps ≤ length is + length is = twice 0 is in
      let e : length (ground_task d p).actions ≡ length is = many_actions in
      let f : length (ground_task d p).actions ≤ 8192 = pass.limited.actions in
      let h : length (ground_task d p).timed ≤ 64 = pass.limited.timed in
      omega arith))
      (subst (λ ss. list_all (snap_fits (ground_task d p)) ss ≡ true) (sym (snaps-is d p))
      (all_append (snap_fits (ground_task d p)) own_snaps timed_snaps
      (all_in (snap_fits (ground_task d p)) own_snaps (snaps-fit d p ok (ground_task d p) (over d p ok pass) (schemas-is d p) (kept (world d p) d.actions) sound many_actions))
      (all_in (snap_fits (ground_task d p)) timed_snaps (each_map (λ s. snap_fits (ground_task d p) s ≡ true) (timed_snap (grounding d p) (timings (world d p) p.init)) ms
      (each_everywhere (λ t. snap_fits (ground_task d p) (timed_snap (grounding d p) (timings (world d p) p.init) t) ≡ true) (timed-fits d p ok pass.bindings pass.valued (ground_task d p) (over d p ok pass)) ms)))))

  numbered-ok : ((length (ground_task d p).snaps == snap_total (ground_task d p).actions + length (ground_task d p).timed) && are_numbered (ground_task d p) 0 0 (ground_task d p).actions) ≡ true
  numbered-ok = and_in _ _ (same_in (length (ground_task d p).snaps) (snap_total (ground_task d p).actions + length (ground_task d p).timed) many_snaps)
      (subst (λ own. are_numbered (ground_task d p) 0 0 own ≡ true) (sym (actions-is d p)) (actions-numbered (grounding d p) (ground_task d p) timed_snaps (kept (world d p) d.actions) (snaps-is d p)))

  timed-ok : (nat_le (length (ground_task d p).timed) 64 && are_timed (ground_task d p) (snap_total (ground_task d p).actions) (ground_task d p).timed && moments_ascend zeroℚ (ground_task d p).timed) ≡ true
  timed-ok = and_in _ _ (and_in _ _ (le_in (length (ground_task d p).timed) 64 pass.limited.timed)
      (subst (λ ts. are_timed (ground_task d p) (snap_total (ground_task d p).actions) ts ≡ true) (sym (timed-is d p))
      (steps-timed (grounding d p) (ground_task d p) (timed_snap (grounding d p) (timings (world d p) p.init)) (λ t. refl) (length own_snaps) 0 (snap_total (ground_task d p).actions) own_snaps ms (snaps-is d p) many_own
      (let e : length own_snaps ≡ snap_total (ground_task d p).actions = many_own in omega arith))))
      (subst (λ ts. moments_ascend zeroℚ ts ≡ true) (sym (timed-is d p)) (rising-ascends (length own_snaps) 0 zeroℚ ms (moments-rise d p ok pass.bindings pass.valued (ground_task d p) (over d p ok pass))))

  terms-ok : (nat_le (length (ground_task d p).hard + length (ground_task d p).soft) 512 && list_all (trail_fits (ground_task d p)) (ground_task d p).hard && list_all (soft_fits (ground_task d p)) (ground_task d p).soft) ≡ true
  terms-ok = and_in _ _ (and_in _ _ (le_in (length (ground_task d p).hard + length (ground_task d p).soft) 512 pass.limited.terms)
      (subst (λ ts. list_all (trail_fits (ground_task d p)) ts ≡ true) (sym (hard-is d p)) (all_in (trail_fits (ground_task d p)) (hard_terms (grounding d p) (constraints d p)) (hard-fit d p ok pass.bindings pass.valued (ground_task d p) (over d p ok pass)))))
      (subst (λ ts. list_all (soft_fits (ground_task d p)) ts ≡ true) (sym (soft-is d p)) (all_in (soft_fits (ground_task d p)) (soft_terms (grounding d p) p.goal (constraints d p) (costs p)) (soft-fit d p ok pass.bindings pass.valued (ground_task d p) (over d p ok pass))))

  pub is_well_made : IsWellMade (ground_task d p)
  is_well_made = record {
    objects = objects-fit d p ok pass;
    schemas = schemas-fit d p ok pass;
    facts = facts-fit d p ok pass;
    fluents = fluents-fit d p ok pass;
    actions = actions-ok;
    snaps = snaps-ok;
    numbered = numbered-ok;
    timed = timed-ok;
    goal = subst (λ c. condition_fits (ground_task d p) c ≡ true) (sym (goal-is d p)) (goal-fits d p ok pass.bindings pass.valued (ground_task d p) (over d p ok pass));
    terms = terms-ok;
    metric = subst (λ m. ((zeroℚ ≤? m.last) && form_fits (ground_task d p) m.fluents && (m.fluents.constant =? zeroℚ)) ≡ true) (sym (metric-is d p)) (metric-fits d p ok pass.bindings pass.valued (ground_task d p) (over d p ok pass));
  }

answered : (o : Option GroundFault) (made task : TaskParts) → ◌≡◌ {A = Result TaskParts GroundFault} (either (Ok made) (λ f. Err f) o) (Ok task) → (o ≡ None) × (made ≡ task)
answered None made task e = (refl, cc)
answered (Some f) made task e = cc

pub made_tasks-well_made : MadeTasksAreWellMade
unfolding ground_answer
made_tasks-well_made d p task ok e =
    let a : (ground_fault d p ≡ None) × (ground_task d p ≡ task) = answered (ground_fault d p) (ground_task d p) task e in
    subst IsWellMade a.1 (is_well_made d p ok (passed d p a.0))
