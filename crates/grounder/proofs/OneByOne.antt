-- What a loop has gathered from a list, one element more each time.
use Rattle.std.proofs.Common.{◌≡◌, sym, ap, ap₂, ◌∙◌, ℕ, ◌+◌, ◌<◌, ◌≤◌, arith, List, [], ◌∷◌, ◌++◌, map, length, take, get_or, append_assoc, Option}
use Rattle.std.specs.Prelude.{MatchOption}
use Rattle.std.specs.List.{flat_map}
use Rattle.std.proofs.lemmas.List.{map-append, append-nil, take_more, take_all, length-map}
use Rattle.std.proofs.lemmas.List.Concat.{flat_map-append}
use Rattle.std.proofs.lemmas.List.Folds.{flat_map-map}
use Rattle.std.proofs.lemmas.List.FromFn.{length-range_with_len, get_or-map-range_with_len}
use Rattle.std.proofs.lemmas.Simd.{map-map}
use Rattle.pddl_terms.specs.declared.trees.Group.{Group}
use Rattle.pddl_names.specs.Declarations.{Text, with_new}
use Rattle.pddl_names.proofs.Doubling.{with_new-append}
use Rattle.ground_world.specs.World.{World, Env, columns}
use Rattle.ground_world.specs.Bindings.{bindings, choices, choice_count, choice_at, numbers, paired}
use Rattle.ground_world.specs.Counts.{binding_limit}
use Rattle.ground_world.specs.Shown.{columns_of, names_of}
use Rattle.ground_world.proofs.Choices.{choices-by_number}
use Rattle.ground_world.proofs.Steps.{taken}
use Rattle.grounder.specs.declared.quantified.Quantified.{Quantified}
use Rattle.grounder.specs.ShownQuantified.{envs_of}
use Rattle.grounder.proofs.Sizes.{length-bindings}

-- ---- one more

module _ {X : Type 0} (xs : List X) (i : ℕ) (x : X) (lt : i < length xs) (at : x ≡ get_or xs i x) where
  one_more : take (i + 1) xs ≡ take i xs ++ (x ∷ [])
  one_more = taken xs i x lt at

  pub mapped_more : {Y : Type 0} (f : X → Y) (before after : List Y) → before ≡ map f (take i xs) → after ≡ before ++ (f x ∷ []) → after ≡ map f (take (i + 1) xs)
  mapped_more f before after h k = k ∙ ap (λ l. l ++ (f x ∷ [])) h ∙ sym (ap (map f) one_more ∙ map-append f (take i xs) (x ∷ []))

  pub joined_more : {Y : Type 0} (f : X → List Y) (old before after : List Y) → before ≡ old ++ flat_map f (take i xs) → after ≡ before ++ f x → after ≡ old ++ flat_map f (take (i + 1) xs)
  joined_more f old before after h k =
      k ∙ ap (λ l. l ++ f x) h ∙ append_assoc old _ _
      ∙ ap (λ l. old ++ l) (ap (λ l. flat_map f (take i xs) ++ l) (sym (append-nil (f x))) ∙ sym (flat_map-append f (take i xs) (x ∷ [])) ∙ sym (ap (flat_map f) one_more))

  pub added_more : (f : X → List Text) (old before after : List Text) → before ≡ with_new old (flat_map f (take i xs)) → after ≡ with_new before (f x) → after ≡ with_new old (flat_map f (take (i + 1) xs))
  added_more f old before after h k =
      k ∙ ap (λ l. with_new l (f x)) h ∙ sym (with_new-append old (flat_map f (take i xs)) (f x))
      ∙ ap (with_new old) (ap (λ l. flat_map f (take i xs) ++ l) (sym (append-nil (f x))) ∙ sym (flat_map-append f (take i xs) (x ∷ [])) ∙ sym (ap (flat_map f) one_more))

  -- of what the elements stand for
  pub added_of_more : {Z : Type 0} (g : X → Z) (f : Z → List Text) (old before after : List Text) → before ≡ with_new old (flat_map f (map g (take i xs))) → after ≡ with_new before (f (g x))
      → after ≡ with_new old (flat_map f (map g (take (i + 1) xs)))
  added_of_more g f old before after h k =
      added_more (λ y. f (g y)) old before after (h ∙ ap (with_new old) (flat_map-map f g (take i xs))) k ∙ ap (with_new old) (sym (flat_map-map f g (take (i + 1) xs)))

  pub joined_of_more : {Y Z : Type 0} (g : X → Z) (f : Z → List Y) (old before after : List Y) → before ≡ old ++ flat_map f (map g (take i xs)) → after ≡ before ++ f (g x)
      → after ≡ old ++ flat_map f (map g (take (i + 1) xs))
  joined_of_more g f old before after h k =
      joined_more (λ y. f (g y)) old before after (h ∙ ap (λ l. old ++ l) (flat_map-map f g (take i xs))) k ∙ ap (λ l. old ++ l) (sym (flat_map-map f g (take (i + 1) xs)))

  pub put_of_more : {Y Z : Type 0} (g : X → Z) (f : Z → Y) (old before after : List Y) → before ≡ old ++ map f (map g (take i xs)) → after ≡ before ++ (f (g x) ∷ [])
      → after ≡ old ++ map f (map g (take (i + 1) xs))
  put_of_more g f old before after h k =
      k ∙ ap (λ l. l ++ (f (g x) ∷ [])) h ∙ append_assoc old (map f (map g (take i xs))) (f (g x) ∷ [])
      ∙ ap (λ l. old ++ l) (sym (ap (λ l. map f (map g l)) one_more ∙ ap (map f) (map-append g (take i xs) (x ∷ [])) ∙ map-append f (map g (take i xs)) (g x ∷ [])))

-- ---- bindings by their numbers

-- variables with few bindings, or that they have too many
abbrev pub Few : World → List Group → Option Quantified → Type 0
Few w groups found = MatchOption found (binding_limit < choice_count (columns w groups)) (λ q. (env : Env) → envs_of q env ≡ bindings w env groups)

pub length-choices : (cs : List (List ℕ)) → length (choices cs) ≡ choice_count cs
length-choices cs = ap length (choices-by_number cs) ∙ length-map (numbers (choice_count cs)) (choice_at cs) ∙ length-range_with_len 0 (choice_count cs)

pub envs-count : (q : Quantified) (env : Env) → length (envs_of q env) ≡ choice_count (columns_of q.variables)
envs-count q env = length-map (choices (columns_of q.variables)) (λ os. env ++ paired (names_of q.variables) os) ∙ length-choices (columns_of q.variables)

pub envs-at : (q : Quantified) (env : Env) (k : ℕ) → k < choice_count (columns_of q.variables)
    → env ++ paired (names_of q.variables) (choice_at (columns_of q.variables) k) ≡ get_or (envs_of q env) k []
envs-at q env k h =
    sym (ap (λ (l : List Env). get_or l k [])
    (ap (map (λ os. env ++ paired (names_of q.variables) os)) (choices-by_number (columns_of q.variables))
    ∙ map-map (λ os. env ++ paired (names_of q.variables) os) (choice_at (columns_of q.variables)) (numbers (choice_count (columns_of q.variables))))
    ∙ get_or-map-range_with_len (λ n. env ++ paired (names_of q.variables) (choice_at (columns_of q.variables) n)) 0 (choice_count (columns_of q.variables)) k k [] h (omega arith))

-- all of them
pub envs-all : (q : Quantified) (env : Env) (all : List Env) → envs_of q env ≡ all → (k : ℕ) → q.count ≤ k → take k (envs_of q env) ≡ all
envs-all q env all are k h =
    let l : length (envs_of q env) ≡ q.count = envs-count q env ∙ sym q.counted in
    take_all k (envs_of q env) (omega arith) ∙ are

module _ (w : World) (q : Quantified) (env : Env) (groups : List Group) (are : envs_of q env ≡ bindings w env groups) where
  pub all-counted : q.count ≡ choice_count (columns w groups)
  all-counted = q.counted ∙ sym (envs-count q env) ∙ ap length are ∙ length-bindings w env groups

  pub some_binding : (k : ℕ) → k < q.count → 0 < choice_count (columns w groups)
  some_binding k h = let e : q.count ≡ choice_count (columns w groups) = all-counted in omega arith

  pub envs-taken : (k : ℕ) → q.count ≤ k → take k (envs_of q env) ≡ bindings w env groups
  envs-taken k h = envs-all q env (bindings w env groups) are k h

-- one binding more
module _ (q : Quantified) (env e : Env) (k : ℕ) (lt : k < q.count) (at : e ≡ get_or (envs_of q env) k []) where
  in_range : k < length (envs_of q env)
  in_range = let l : length (envs_of q env) ≡ q.count = envs-count q env ∙ sym q.counted in omega arith

  envs-more : take (k + 1) (envs_of q env) ≡ take k (envs_of q env) ++ (e ∷ [])
  envs-more = take_more (envs_of q env) k [] in_range ∙ ap (λ (x : Env). take k (envs_of q env) ++ (x ∷ [])) (sym at)

  pub mapped_env : {Y : Type 0} (f : Env → Y) (y : Y) (before after : List Y) → before ≡ map f (take k (envs_of q env)) → y ≡ f e → after ≡ before ++ (y ∷ []) → after ≡ map f (take (k + 1) (envs_of q env))
  mapped_env f y before after h i j =
      j ∙ ap₂ (λ l x. l ++ (x ∷ [])) h i ∙ sym (ap (map f) envs-more ∙ map-append f (take k (envs_of q env)) (e ∷ []))

  pub put_env : {Y : Type 0} (f : Env → Y) (y : Y) (old before after : List Y) → before ≡ old ++ map f (take k (envs_of q env)) → y ≡ f e → after ≡ before ++ (y ∷ []) → after ≡ old ++ map f (take (k + 1) (envs_of q env))
  put_env f y old before after h i j =
      j ∙ ap₂ (λ l x. l ++ (x ∷ [])) h i ∙ append_assoc old (map f (take k (envs_of q env))) (f e ∷ [])
      ∙ ap (λ l. old ++ l) (sym (ap (map f) envs-more ∙ map-append f (take k (envs_of q env)) (e ∷ [])))

  pub joined_env : {Y : Type 0} (f : Env → List Y) (ys : List Y) (old before after : List Y) → before ≡ old ++ flat_map f (take k (envs_of q env)) → ys ≡ f e → after ≡ before ++ ys → after ≡ old ++ flat_map f (take (k + 1) (envs_of q env))
  joined_env f ys old before after h i j =
      j ∙ ap₂ (λ l x. l ++ x) h i ∙ append_assoc old (flat_map f (take k (envs_of q env))) (f e)
      ∙ ap (λ l. old ++ l) (ap (λ l. flat_map f (take k (envs_of q env)) ++ l) (sym (append-nil (f e))) ∙ sym (flat_map-append f (take k (envs_of q env)) (e ∷ [])) ∙ ap (flat_map f) (sym envs-more))

  pub added_env : (f : Env → List Text) (ys : List Text) (old before after : List Text) → before ≡ with_new old (flat_map f (take k (envs_of q env))) → ys ≡ f e → after ≡ with_new before ys → after ≡ with_new old (flat_map f (take (k + 1) (envs_of q env)))
  added_env f ys old before after h i j =
      j ∙ ap₂ with_new h i ∙ sym (with_new-append old (flat_map f (take k (envs_of q env))) (f e))
      ∙ ap (with_new old) (ap (λ l. flat_map f (take k (envs_of q env)) ++ l) (sym (append-nil (f e))) ∙ sym (flat_map-append f (take k (envs_of q env)) (e ∷ [])) ∙ ap (flat_map f) (sym envs-more))
