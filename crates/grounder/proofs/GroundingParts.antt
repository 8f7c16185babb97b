-- What the parts of the task are numbered and weighed by, and the faults with a place, from the tables of code.
use Rattle.std.proofs.Common.{◌≡◌, refl, sym, ap, subst, ◌∙◌, ℕ, ◌<◌, ◌≤◌, List, [], length, Option, Some, None}
use Rattle.std.specs.Prelude.{MatchOption}
use Rattle.exact_lin.specs.Forms.{LinearForm}
use Rattle.pddl_terms.specs.declared.files.ActionDef.{ActionDef}
use Rattle.pddl_terms.specs.declared.files.Domain.{Domain}
use Rattle.pddl_terms.specs.declared.files.Problem.{Problem}
use Rattle.ground_world.specs.World.{World, GroundAtom, either}
use Rattle.ground_world.specs.FirstState.{world}
use Rattle.ground_world.specs.Expressions.{Unknowns, form_or_zero, own_unknown, reckoned, unknown}
use Rattle.ground_world.specs.Leaves.{goal_preferences, toward, unknowns}
use Rattle.grounder.specs.Instances.{wide_in_actions}
use Rattle.grounder.specs.Task.{Ground, fact_atoms, grounding}
use Rattle.grounder.specs.Answer.{least, units}
use Rattle.grounder.specs.FaultSteps.{unit_fault, value_fault}
use Rattle.grounder.specs.Units.{problem_units}

module _ (d : Domain) (p : Problem) where
  abbrev form_of : World → Unknowns → LinearForm
  form_of w us = either (unknown (own_unknown w)) (λ m. toward m.aim (form_or_zero (reckoned w us [] m.expression))) p.metric

  pub same_ground : (w : World) (facts : List GroundAtom) (us : Unknowns) (cost : LinearForm) → w ≡ world d p → facts ≡ fact_atoms w d p → us ≡ unknowns d p
      → cost ≡ either (unknown (own_unknown w)) (λ m. toward m.aim (form_or_zero (reckoned w us [] m.expression))) p.metric
      → ◌≡◌ {A = Ground} (record { world = w; facts = facts; unknowns = us; cost = cost }) (grounding d p)
  same_ground w facts us cost a b c e =
      ap (λ (x : List GroundAtom). let g : Ground = record { world = w; facts = x; unknowns = us; cost = cost } in g) b
      ∙ ap (λ (x : LinearForm). let g : Ground = record { world = w; facts = fact_atoms w d p; unknowns = us; cost = x } in g) e
      ∙ ap (λ (x : Unknowns). let g : Ground = record { world = w; facts = fact_atoms w d p; unknowns = x; cost = form_of w x } in g) c
      ∙ ap (λ (x : World). let g : Ground = record { world = x; facts = fact_atoms x d p; unknowns = unknowns d p; cost = form_of x (unknowns d p) } in g) a

  units-are : (w : World) → problem_units w (unknowns d p) p.goal (goal_preferences p.goal) p.metric ≡ units w d p
  unfolding units
  units-are w = refl

  pub value_fault-is : (w : World) (us : Unknowns) (own : List ActionDef) (wide : Option ℕ) → w ≡ world d p → us ≡ unknowns d p → own ≡ d.actions
      → wide ≡ least (wide_in_actions w own) → unit_fault w wide (problem_units w us p.goal (goal_preferences p.goal) p.metric) ≡ value_fault (world d p) d p
  value_fault-is w us own wide a b c e =
      ap (λ (o : Option ℕ). unit_fault w o (problem_units w us p.goal (goal_preferences p.goal) p.metric)) e
      ∙ ap (λ (xs : List ActionDef). unit_fault w (least (wide_in_actions w xs)) (problem_units w us p.goal (goal_preferences p.goal) p.metric)) c
      ∙ ap (λ (x : Unknowns). unit_fault w (least (wide_in_actions w d.actions)) (problem_units w x p.goal (goal_preferences p.goal) p.metric)) b
      ∙ ap (λ us. unit_fault w (least (wide_in_actions w d.actions)) us) (units-are w)
      ∙ ap (λ (x : World). unit_fault x (least (wide_in_actions x d.actions)) (units x d p)) a

-- the facts where they are not too many, and that they are where none are given
module _ (all : List GroundAtom) (found : Option (List GroundAtom)) (h : MatchOption found (16384 < length all) (λ facts. (facts ≡ all) × (length all ≤ 16384))) where
  pub facts-given : (facts : List GroundAtom) → found ≡ Some facts → (facts ≡ all) × (length facts ≤ 16384)
  facts-given facts e =
      let told = subst (λ (o : Option (List GroundAtom)). MatchOption o (16384 < length all) (λ own. (own ≡ all) × (length all ≤ 16384))) e h in
      (told.0, subst (λ (own : List GroundAtom). length own ≤ 16384) (sym told.0) told.1)

  pub facts-many : found ≡ None → 16384 < length all
  facts-many e = subst (λ (o : Option (List GroundAtom)). MatchOption o (16384 < length all) (λ own. (own ≡ all) × (length all ≤ 16384))) e h
