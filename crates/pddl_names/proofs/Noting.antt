-- The names of preferences, variant by variant.
use Rattle.std.proofs.Common.{◌≡◌, sym, ap, ◌∙◌, ℕ, ◌+◌, ◌≤◌, ◌<◌, List, [], ◌∷◌, Option, take, length, get_or}
use Rattle.std.specs.List.{flat_map}
use Rattle.std.proofs.lemmas.List.{take_all}
use Rattle.std.proofs.lemmas.List.Folds.{flat_map-map}
use Rattle.pddl_terms.specs.declared.trees.Name.{Name}
use Rattle.pddl_terms.specs.declared.trees.Group.{Group}
use Rattle.pddl_terms.specs.declared.trees.Trajectory.{Trajectory}
use Rattle.pddl_terms.specs.declared.trees.CondTree.{CondTree}
use Rattle.pddl_terms.specs.declared.trees.SoftTree.{SoftTree}
use Rattle.pddl_terms.specs.declared.trees.ConForm.{ConForm, fold-ConForm, fold-roll-ConForm}
use Rattle.pddl_terms.specs.declared.trees.ConForm.TheOpen.{ConForm-F}
use Rattle.pddl_terms.specs.declared.trees.ConForm.TheVariants as con
use Rattle.pddl_terms.specs.declared.trees.GoalTree.{GoalTree, fold-GoalTree, fold-roll-GoalTree}
use Rattle.pddl_terms.specs.declared.trees.GoalTree.TheOpen.{GoalTree-F}
use Rattle.pddl_terms.specs.declared.trees.GoalTree.TheVariants as goal
use Rattle.pddl_names.specs.Declarations.{Text, with_new}
use Rattle.pddl_names.specs.Files.{preference_name, constraint_preference_layer, constraint_preferences, goal_preference_layer, goal_preferences}
use Rattle.pddl_names.proofs.Doubling.{with_new-append, grown}

-- a loop over the parts notes the names of each
pub noted-loop : {X : Type 0} (f : X → List Text) (before : List Text) (xs : List X) (i : ℕ) (x : X) (now next : List Text)
    → i < length xs → x ≡ get_or xs i x → now ≡ with_new before (flat_map f (take i xs)) → next ≡ with_new now (f x) → next ≡ with_new before (flat_map f (take (i + 1) xs))
noted-loop f before xs i x now next h e j n =
    n ∙ ap (λ t. with_new t (f x)) j ∙ sym (with_new-append before (flat_map f (take i xs)) (f x)) ∙ ap (with_new before) (sym (grown f xs i x h e))

-- constraints
module _ (before : List Text) where
  is-constraint-And : (a0 : ℕ) (a1 : List ConForm) → constraint_preferences (con.And a0 a1) ≡ flat_map constraint_preferences a1
  unfolding constraint_preferences
  is-constraint-And a0 a1 = ap (λ t. fold-ConForm (List Text) constraint_preference_layer t) (sym (con.rolls-And a0 a1)) ∙ fold-roll-ConForm (List Text) constraint_preference_layer (ConForm-F.And a0 a1) ∙ flat_map-map (λ (part : List Text). part) (fold-ConForm (List Text) constraint_preference_layer) a1

  pub noted-constraint-And : {tree : ConForm} {a0 : ℕ} {a1 : List ConForm} {xs : List ConForm} {n : ℕ} {now : List Text} → tree ≡ con.And a0 a1 → xs ≡ a1 → length xs ≤ n → now ≡ with_new before (flat_map constraint_preferences (take n xs)) → now ≡ with_new before (constraint_preferences tree)
  noted-constraint-And {tree} {a0} {a1} {xs} {n} {now} e f l h = h ∙ ap (λ t. with_new before (flat_map constraint_preferences t)) (take_all n xs l ∙ f) ∙ ap (with_new before) (sym (ap constraint_preferences e ∙ is-constraint-And a0 a1))

  is-constraint-Forall : (a0 : ℕ) (a1 : List Group) (a2 : ConForm) → constraint_preferences (con.Forall a0 a1 a2) ≡ constraint_preferences a2
  unfolding constraint_preferences
  is-constraint-Forall a0 a1 a2 = ap (λ t. fold-ConForm (List Text) constraint_preference_layer t) (sym (con.rolls-Forall a0 a1 a2)) ∙ fold-roll-ConForm (List Text) constraint_preference_layer (ConForm-F.Forall a0 a1 a2)

  pub noted-constraint-Forall : {tree : ConForm} {a0 : ℕ} {a1 : List Group} {a2 : ConForm} {x : ConForm} {now : List Text} → tree ≡ con.Forall a0 a1 a2 → x ≡ a2 → now ≡ with_new before (constraint_preferences x) → now ≡ with_new before (constraint_preferences tree)
  noted-constraint-Forall {tree} {a0} {a1} {a2} {x} {now} e f h = h ∙ ap (λ t. with_new before (constraint_preferences t)) f ∙ ap (with_new before) (sym (ap constraint_preferences e ∙ is-constraint-Forall a0 a1 a2))

  is-constraint-Hard : (a0 : Trajectory) → constraint_preferences (con.Hard a0) ≡ []
  unfolding constraint_preferences
  is-constraint-Hard a0 = ap (λ t. fold-ConForm (List Text) constraint_preference_layer t) (sym (con.rolls-Hard a0)) ∙ fold-roll-ConForm (List Text) constraint_preference_layer (ConForm-F.Hard a0)

  pub noted-constraint-Hard : {tree : ConForm} {a0 : Trajectory} → tree ≡ con.Hard a0 → before ≡ with_new before (constraint_preferences tree)
  noted-constraint-Hard {tree} {a0} e = ap (with_new before) (sym (ap constraint_preferences e ∙ is-constraint-Hard a0))

  is-constraint-Preference : (a0 : ℕ) (a1 : Option Name) (a2 : Trajectory) → constraint_preferences (con.Preference a0 a1 a2) ≡ preference_name a1 ∷ []
  unfolding constraint_preferences
  is-constraint-Preference a0 a1 a2 = ap (λ t. fold-ConForm (List Text) constraint_preference_layer t) (sym (con.rolls-Preference a0 a1 a2)) ∙ fold-roll-ConForm (List Text) constraint_preference_layer (ConForm-F.Preference a0 a1 a2)

  pub noted-constraint-Preference : {tree : ConForm} {a0 : ℕ} {a1 : Option Name} {a2 : Trajectory} {now : List Text} → tree ≡ con.Preference a0 a1 a2 → now ≡ with_new before (preference_name a1 ∷ []) → now ≡ with_new before (constraint_preferences tree)
  noted-constraint-Preference {tree} {a0} {a1} {a2} {now} e h = h ∙ ap (with_new before) (sym (ap constraint_preferences e ∙ is-constraint-Preference a0 a1 a2))

-- goals
module _ (before : List Text) where
  is-goal-Condition : (a0 : CondTree) → goal_preferences (goal.Condition a0) ≡ []
  unfolding goal_preferences
  is-goal-Condition a0 = ap (λ t. fold-GoalTree (List Text) goal_preference_layer t) (sym (goal.rolls-Condition a0)) ∙ fold-roll-GoalTree (List Text) goal_preference_layer (GoalTree-F.Condition a0)

  pub noted-goal-Condition : {tree : GoalTree} {a0 : CondTree} → tree ≡ goal.Condition a0 → before ≡ with_new before (goal_preferences tree)
  noted-goal-Condition {tree} {a0} e = ap (with_new before) (sym (ap goal_preferences e ∙ is-goal-Condition a0))

  is-goal-And : (a0 : ℕ) (a1 : List GoalTree) → goal_preferences (goal.And a0 a1) ≡ flat_map goal_preferences a1
  unfolding goal_preferences
  is-goal-And a0 a1 = ap (λ t. fold-GoalTree (List Text) goal_preference_layer t) (sym (goal.rolls-And a0 a1)) ∙ fold-roll-GoalTree (List Text) goal_preference_layer (GoalTree-F.And a0 a1) ∙ flat_map-map (λ (part : List Text). part) (fold-GoalTree (List Text) goal_preference_layer) a1

  pub noted-goal-And : {tree : GoalTree} {a0 : ℕ} {a1 : List GoalTree} {xs : List GoalTree} {n : ℕ} {now : List Text} → tree ≡ goal.And a0 a1 → xs ≡ a1 → length xs ≤ n → now ≡ with_new before (flat_map goal_preferences (take n xs)) → now ≡ with_new before (goal_preferences tree)
  noted-goal-And {tree} {a0} {a1} {xs} {n} {now} e f l h = h ∙ ap (λ t. with_new before (flat_map goal_preferences t)) (take_all n xs l ∙ f) ∙ ap (with_new before) (sym (ap goal_preferences e ∙ is-goal-And a0 a1))

  is-goal-Forall : (a0 : ℕ) (a1 : List Group) (a2 : GoalTree) → goal_preferences (goal.Forall a0 a1 a2) ≡ goal_preferences a2
  unfolding goal_preferences
  is-goal-Forall a0 a1 a2 = ap (λ t. fold-GoalTree (List Text) goal_preference_layer t) (sym (goal.rolls-Forall a0 a1 a2)) ∙ fold-roll-GoalTree (List Text) goal_preference_layer (GoalTree-F.Forall a0 a1 a2)

  pub noted-goal-Forall : {tree : GoalTree} {a0 : ℕ} {a1 : List Group} {a2 : GoalTree} {x : GoalTree} {now : List Text} → tree ≡ goal.Forall a0 a1 a2 → x ≡ a2 → now ≡ with_new before (goal_preferences x) → now ≡ with_new before (goal_preferences tree)
  noted-goal-Forall {tree} {a0} {a1} {a2} {x} {now} e f h = h ∙ ap (λ t. with_new before (goal_preferences t)) f ∙ ap (with_new before) (sym (ap goal_preferences e ∙ is-goal-Forall a0 a1 a2))

  is-goal-Preference : (a0 : ℕ) (a1 : Option Name) (a2 : SoftTree) → goal_preferences (goal.Preference a0 a1 a2) ≡ preference_name a1 ∷ []
  unfolding goal_preferences
  is-goal-Preference a0 a1 a2 = ap (λ t. fold-GoalTree (List Text) goal_preference_layer t) (sym (goal.rolls-Preference a0 a1 a2)) ∙ fold-roll-GoalTree (List Text) goal_preference_layer (GoalTree-F.Preference a0 a1 a2)

  pub noted-goal-Preference : {tree : GoalTree} {a0 : ℕ} {a1 : Option Name} {a2 : SoftTree} {now : List Text} → tree ≡ goal.Preference a0 a1 a2 → now ≡ with_new before (preference_name a1 ∷ []) → now ≡ with_new before (goal_preferences tree)
  noted-goal-Preference {tree} {a0} {a1} {a2} {now} e h = h ∙ ap (with_new before) (sym (ap goal_preferences e ∙ is-goal-Preference a0 a1 a2))
