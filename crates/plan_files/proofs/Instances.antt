-- A ground action that a name and some objects stand for is an instance of an action of the domain of that name.
use Rattle.std.proofs.Common.{◌≡◌, refl, sym, subst, ℕ, ◌<◌, ◌≤◌, ◌^◌, Bool, true, false, ◌&&◌, List, [], ◌∷◌, length, arith, ◌||◌}
use Rattle.std.specs.Prelude.{nat_eq, Option, Some, None, is_some, is_none, if◌then◌else◌}
use Rattle.std.specs.List.{list_any}
use Rattle.std.specs.Option.{option_and_then}
use Rattle.std.specs.Cmp.Lexicographic.{pointwise}
use Rattle.std.specs.Cmp.Lexicographic.{same_text}
use Rattle.std.proofs.lemmas.List.Quantifiers.{position-Some}
use Rattle.basics.proofs.Bools.{and_left, and_right, and_in}
use Rattle.basics.proofs.Naturals.{le_out}
use Rattle.basics.proofs.Lists.{all_out, each_at}
use Rattle.task_types.specs.declared.actions.Action.{Action}
use Rattle.task_types.specs.declared.actions.Schema.{Schema}
use Rattle.task_types.specs.declared.parts.TaskParts.{TaskParts}
use Rattle.task_types.specs.Plan.{no_action, action_of}
use Rattle.task_types.specs.WellMade.{IsWellMade, is_instance, action_fits, arguments_fit, list_limit}
use Rattle.plan_files.specs.Names.{same_word, objects_named, action_with, action_named, names_durative}
use Rattle.plan_files.specs.Finding.{fits_some}

any_weaker : {X : Type 0} (p q : X → Bool) → ((x : X) → p x ≡ true → q x ≡ true) → (xs : List X) → list_any p xs ≡ true → list_any q xs ≡ true
any_weaker p q w [] e = e
any_weaker p q w (x ∷ xs) e = go (p x) (q x) (w x) (any_weaker p q w xs) e
  where
    go : (a b : Bool) → (a ≡ true → b ≡ true) → (list_any p xs ≡ true → list_any q xs ≡ true) → (a || list_any p xs) ≡ true → (b || list_any q xs) ≡ true
    go true true h k e = refl
    go true false h k e = absurd (let f = h refl in cc)
    go false true h k e = refl
    go false false h k e = k e

module _ (task : TaskParts) (w : IsWellMade task) where
  pub schemas-few : length task.schemas < 2 ^ 32
  schemas-few = let h : length task.schemas ≤ 1048576 = le_out (length task.schemas) list_limit (and_left _ _ (and_left _ _ w.schemas)) in omega arith

  module _ (name os : List ℕ) (a : ℕ) (e : action_with task name os ≡ Some a) where
    abbrev test : Action → Bool
    test x = same_word name x.name && pointwise nat_eq os x.args

    abbrev found : Action
    found = action_of task a

    pub found-there : a < length task.actions
    found-there = (position-Some test task.actions a no_action e).0

    passes : test found ≡ true
    passes = (position-Some test task.actions a no_action e).1

    named : same_word name found.name ≡ true
    named = and_left (same_word name found.name) (pointwise nat_eq os found.args) passes

    same_args : os ≡ found.args
    same_args = same_text os found.args (sym (and_right (same_word name found.name) (pointwise nat_eq os found.args) passes))

    fits : action_fits task found ≡ true
    fits = each_at (λ (x : Action). action_fits task x ≡ true) task.actions a no_action found-there (all_out (action_fits task) task.actions (and_right _ _ w.actions))

    instance : list_any (is_instance found) task.schemas ≡ true
    instance = and_left _ _ (and_left _ _ (and_left _ _ (and_left _ _ fits)))

    same_name : (s : Schema) → is_instance found s ≡ true → same_word name s.name ≡ true
    same_name s h = subst (λ (n : List ℕ). same_word name n ≡ true) (same_text found.name s.name (sym (and_left _ _ (and_left _ _ h)))) named

    pub found-fits : fits_some task name os ≡ true
    found-fits = any_weaker (is_instance found) (λ (s : Schema). same_word name s.name && arguments_fit os s.params)
        (λ s h. and_in _ _ (same_name s h) (subst (λ (l : List ℕ). arguments_fit l s.params ≡ true) (sym same_args) (and_right _ _ h))) task.schemas instance

    durative : (s : Schema) → is_some found.end ≡ true → is_instance found s ≡ true → s.durative ≡ true
    durative s t h = go s.durative found.end t (and_right _ _ (and_left _ _ h))
      where
        go : (d : Bool) (o : Option ℕ) → is_some o ≡ true → (if d then is_some o else is_none o) ≡ true → d ≡ true
        go true o t e = refl
        go false None t e = cc
        go false (Some n) t e = cc

    pub found-durative : is_some found.end ≡ true → names_durative task name ≡ true
    found-durative t = any_weaker (is_instance found) (λ (s : Schema). same_word name s.name && s.durative)
        (λ s h. and_in _ _ (same_name s h) (durative s t h)) task.schemas instance

  -- the same of an action that a name and some words for objects stand for
  module _ (name : List ℕ) (args : List (List ℕ)) (a : ℕ) (e : action_named task name args ≡ Some a) where
    by_objects : {P : Type 0} → ((os : List ℕ) → action_with task name os ≡ Some a → P) → P
    by_objects {P} f = go (objects_named task args) e
      where
        go : (o : Option (List ℕ)) → option_and_then (action_with task name) o ≡ Some a → P
        go None h = absurd (cc)
        go (Some os) h = f os h

    pub named-there : a < length task.actions
    named-there = by_objects (λ os h. found-there name os a h)

    pub named-durative : is_some (action_of task a).end ≡ true → names_durative task name ≡ true
    named-durative = by_objects (λ os h. found-durative name os a h)
