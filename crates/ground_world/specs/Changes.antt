-- Believed: what an action changes: the parts of its effects, in the order of the text.
use Rattle.std.specs.Prelude.{Bool, true, false, List, [], ◌∷◌, map}
use Rattle.std.specs.List.{flat_map, filter}
use Rattle.pddl_terms.specs.declared.trees.Atom.{Atom}
use Rattle.pddl_terms.specs.declared.trees.Call.{Call}
use Rattle.pddl_terms.specs.declared.trees.Call.TheVariants as call
use Rattle.pddl_terms.specs.declared.trees.ChangeKind.{ChangeKind}
use Rattle.pddl_terms.specs.declared.trees.Trend.{Trend}
use Rattle.pddl_terms.specs.declared.trees.RateTree.{RateTree}
use Rattle.pddl_terms.specs.declared.trees.EffTree.{EffTree, fold-EffTree}
use Rattle.pddl_terms.specs.declared.trees.EffTree.TheOpen.{EffTree-F}
use Rattle.pddl_terms.specs.declared.trees.TimedEff.{TimedEff, fold-TimedEff}
use Rattle.pddl_terms.specs.declared.trees.TimedEff.TheOpen.{TimedEff-F}
use Rattle.pddl_terms.specs.declared.trees.ExprTree.{ExprTree}
use Rattle.pddl_terms.specs.declared.files.ActionBody.{ActionBody}
use Rattle.pddl_terms.specs.declared.files.ActionBody.TheVariants.{Instant, Durative}
use Rattle.pddl_terms.specs.declared.files.ActionDef.{ActionDef}
use Rattle.ground_world.specs.declared.changes.Stage.{Stage}
use Rattle.ground_world.specs.declared.changes.Stage.TheVariants.{AtStart, OverAll, AtEnd}
use Rattle.ground_world.specs.World.{either}

abbrev pub same_stage : Stage → Stage → Bool
same_stage AtStart AtStart = true
same_stage OverAll OverAll = true
same_stage AtEnd AtEnd = true
same_stage _ _ = false

-- a part with the stage at which it belongs
pub record Staged (A : Type 0) : Type 0 where
  pub stage : Stage
  pub part : A

abbrev pub parts_at : {A : Type 0} → Stage → List (Staged A) → List A
parts_at p xs = map (λ x. x.part) (filter (λ x. same_stage x.stage p) xs)

abbrev pub staged : {A : Type 0} → Stage → List A → List (Staged A)
staged p xs = map (λ x. record { stage = p; part = x }) xs

-- A part of an effect makes a fact true or false, changes a fluent at a moment, or gives it a rate.
pub data Change : Type 0 where
  Adds : Atom → Change
  Deletes : Atom → Change
  Moves : ChangeKind → Atom → ExprTree → Change
  Flows : Trend → Atom → RateTree → Change

-- an atom or a fluent; a list that is left out is none
abbrev pub atoms_in : Call → List Atom
atoms_in (call.Named a) = a ∷ []
atoms_in (call.LeftOut at) = []

abbrev pub effect_layer : EffTree-F (List Change) → List Change
effect_layer (EffTree-F.Empty at) = []
effect_layer (EffTree-F.And at parts) = flat_map (λ part. part) parts
effect_layer (EffTree-F.Add a) = Adds a ∷ []
effect_layer (EffTree-F.Delete at c) = map Deletes (atoms_in c)
effect_layer (EffTree-F.Change at kind c e) = map (λ f. Moves kind f e) (atoms_in c)
effect_layer (EffTree-F.LeftOut at) = []

unfoldable pub effect_parts : EffTree → List Change
effect_parts e = fold-EffTree (List Change) effect_layer e

abbrev pub timed_effect_layer : TimedEff-F (List (Staged Change)) → List (Staged Change)
timed_effect_layer (TimedEff-F.Empty at) = []
timed_effect_layer (TimedEff-F.And at parts) = flat_map (λ part. part) parts
timed_effect_layer (TimedEff-F.AtStart at e) = staged AtStart (effect_parts e)
timed_effect_layer (TimedEff-F.AtEnd at e) = staged AtEnd (effect_parts e)
timed_effect_layer (TimedEff-F.Rate at trend c r) = staged AtStart (map (λ f. Flows trend f r) (atoms_in c))
timed_effect_layer (TimedEff-F.LeftOut at) = []

unfoldable pub timed_effect_parts : TimedEff → List (Staged Change)
timed_effect_parts e = fold-TimedEff (List (Staged Change)) timed_effect_layer e

-- The changes of an action; a rate belongs to its start.
abbrev pub body_changes : ActionBody → List (Staged Change)
body_changes (Instant cond effect) = either [] (λ e. staged AtStart (effect_parts e)) effect
body_changes (Durative dur cond effect) = either [] timed_effect_parts effect

abbrev pub changes : ActionDef → List (Staged Change)
changes a = body_changes a.body
