-- Actions and snap actions are numbered in order, one binding more.
use Rattle.std.proofs.Common.{◌≡◌, refl, sym, ap, ap₂, ◌∙◌, ℕ, suc, ◌+◌, ◌*◌, ◌<◌, ◌≤◌, arith, Bool, true, false, nat_le, List, [], ◌∷◌, ◌++◌, length, take, get_or, append_assoc}
use Rattle.std.specs.Prelude.{if◌then◌else◌}
use Rattle.std.specs.List.{flat_map, enumerate_from, list_all}
use Rattle.std.proofs.lemmas.List.{append-nil, map-append, length-append, length-map, length-take-le}
use Rattle.std.proofs.lemmas.List.Folds.{list_all-map}
use Rattle.basics.proofs.Naturals.{le_out}
use Rattle.task_types.specs.declared.actions.Action.{Action}
use Rattle.task_types.specs.declared.actions.Snap.{Snap}
use Rattle.ground_world.specs.World.{World}
use Rattle.ground_world.specs.Counts.{body_count, part_limit}
use Rattle.ground_world.proofs.Steps.{taken}
use Rattle.grounder.specs.Instances.{Instance}
use Rattle.grounder.specs.ShownInstances.{instance_of, all_of}
use Rattle.grounder.specs.declared.instances.Instance as held
use Rattle.grounder.specs.Task.{Ground, is_durative, snaps_of, action_of, numbered_actions, action_snaps}
use Rattle.grounder.proofs.ActionFields.{length-numbered}
use Rattle.grounder.proofs.Each.{passes}

module _ (g : Ground) where
  abbrev snaps_from : ℕ → List Instance → List Snap
  snaps_from a is = flat_map (λ x. snaps_of g x.0 x.1) (enumerate_from a is)

  snaps_from-more : (a : ℕ) (is : List Instance) (i : Instance) → snaps_from a (is ++ (i ∷ [])) ≡ snaps_from a is ++ snaps_of g (a + length is) i
  snaps_from-more a [] i = append-nil (snaps_of g a i) ∙ ap (λ n. snaps_of g n i) (omega arith)
  snaps_from-more a (j ∷ is) i =
      ap (λ (l : List Snap). snaps_of g a j ++ l) (snaps_from-more (a + 1) is i ∙ ap (λ n. snaps_from (a + 1) is ++ snaps_of g n i) (omega arith))
      ∙ sym (append_assoc (snaps_of g a j) (snaps_from (a + 1) is) (snaps_of g (a + suc (length is)) i))

  pub snaps-more : (is : List Instance) (i : Instance) → action_snaps g (is ++ (i ∷ [])) ≡ action_snaps g is ++ snaps_of g (length is) i
  snaps-more is i = snaps_from-more 0 is i ∙ ap (λ n. action_snaps g is ++ snaps_of g n i) (omega arith)

  length-snaps : (a n : ℕ) (i : Instance) → (if is_durative i.action.body then n + 2 else n + 1) ≡ n + length (snaps_of g a i)
  length-snaps a n i = by (is_durative i.action.body) _ _ refl refl
    where
      by : (b : Bool) (two one : List Snap) → length two ≡ 2 → length one ≡ 1 → (if b then n + 2 else n + 1) ≡ n + length (if b then two else one)
      by true two one h k = omega (arith, h)
      by false two one h k = omega (arith, k)

  numbered_from-more : (n a : ℕ) (is : List Instance) (i : Instance)
      → numbered_actions g n (is ++ (i ∷ [])) ≡ numbered_actions g n is ++ (action_of g (n + length (snaps_from a is)) i ∷ [])
  numbered_from-more n a [] i = ap (λ m. action_of g m i ∷ []) (omega arith)
  numbered_from-more n a (j ∷ is) i =
      ap (λ (l : List Action). action_of g n j ∷ l)
      (numbered_from-more (if is_durative j.action.body then n + 2 else n + 1) (a + 1) is i
      ∙ ap (λ m. numbered_actions g (if is_durative j.action.body then n + 2 else n + 1) is ++ (action_of g m i ∷ []))
      (let e = length-snaps a n j in let l = length-append (snaps_of g a j) (snaps_from (a + 1) is) in omega (arith, e, l)))

  pub numbered-more : (is : List Instance) (i : Instance)
      → numbered_actions g 0 (is ++ (i ∷ [])) ≡ numbered_actions g 0 is ++ (action_of g (length (action_snaps g is)) i ∷ [])
  numbered-more is i = numbered_from-more 0 0 is i ∙ ap (λ m. numbered_actions g 0 is ++ (action_of g m i ∷ [])) (omega arith)

  pub few-snaps : (a : ℕ) (i : Instance) → length (snaps_of g a i) ≤ 2
  few-snaps a i = by (is_durative i.action.body) _ _ refl refl
    where
      by : (b : Bool) (two one : List Snap) → length two ≡ 2 → length one ≡ 1 → length (if b then two else one) ≤ 2
      by true two one h k = omega (arith, h)
      by false two one h k = omega (arith, k)

-- ---- the instances that code holds

module _ (xs : List held.Instance) (i : ℕ) (x : held.Instance) (lt : i < length xs) (at : x ≡ get_or xs i x) where
  all-more : all_of (take (i + 1) xs) ≡ all_of (take i xs) ++ (instance_of x ∷ [])
  all-more = ap all_of (taken xs i x lt at) ∙ map-append instance_of (take i xs) (x ∷ [])

  module _ (g : Ground) (actions : List Action) (snaps : List Snap) (h : actions ≡ numbered_actions g 0 (all_of (take i xs))) (k : snaps ≡ action_snaps g (all_of (take i xs))) where
    length-actions : length actions ≡ length (all_of (take i xs))
    length-actions = ap length h ∙ length-numbered g 0 (all_of (take i xs))

    pub actions-before : length actions ≡ i
    actions-before = length-actions ∙ length-map (take i xs) instance_of ∙ length-take-le i xs (omega arith)

    pub actions-step : (after : List Action) → after ≡ actions ++ (action_of g (length snaps) (instance_of x) ∷ []) → after ≡ numbered_actions g 0 (all_of (take (i + 1) xs))
    actions-step after e =
        e ∙ ap₂ (λ (l : List Action) (n : ℕ). l ++ (action_of g n (instance_of x) ∷ [])) h (ap length k)
        ∙ sym (numbered-more g (all_of (take i xs)) (instance_of x)) ∙ ap (numbered_actions g 0) (sym all-more)

    pub snaps-step : (after : List Snap) → after ≡ snaps ++ snaps_of g (length actions) (instance_of x) → after ≡ action_snaps g (all_of (take (i + 1) xs))
    snaps-step after e =
        e ∙ ap₂ (λ (l : List Snap) (n : ℕ). l ++ snaps_of g n (instance_of x)) k length-actions
        ∙ sym (snaps-more g (all_of (take i xs)) (instance_of x)) ∙ ap (action_snaps g) (sym all-more)

    pub few-step : (after : List Snap) → after ≡ snaps ++ snaps_of g (length actions) (instance_of x) → length snaps ≤ 2 * i → length after ≤ 2 * (i + 1)
    few-step after e few =
        let l = ap length e ∙ length-append snaps (snaps_of g (length actions) (instance_of x)) in
        let m = few-snaps g (length actions) (instance_of x) in
        omega (arith, l, m)

  -- each is within the limit where all are
  pub within-limit : (w : World) → list_all (λ j. nat_le (body_count w j.action.body) part_limit) (all_of xs) ≡ true → body_count w x.action.now.body ≤ part_limit
  within-limit w h =
      le_out _ _ (passes (λ (y : held.Instance). nat_le (body_count w y.action.now.body) part_limit) xs i x lt at
      (sym (list_all-map (λ (j : Instance). nat_le (body_count w j.action.body) part_limit) instance_of xs) ∙ h))
