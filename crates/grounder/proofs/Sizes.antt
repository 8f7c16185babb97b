-- The parts of a condition are no more than are counted before anything is dropped.
use Rattle.std.proofs.Common.{◌≡◌, refl, ap, ◌∙◌, ℕ, ◌+◌, ◌*◌, ◌≤◌, arith, Bool, true, false, ◌==◌, List, [], ◌∷◌, ◌++◌, map, cond, length, Some, None}
use Rattle.std.specs.Prelude.{if◌then◌else◌}
use Rattle.std.specs.List.{AllByRecursion as Each, flat_map, filter}
use Rattle.std.proofs.lemmas.List.{length-map}
use Rattle.std.proofs.lemmas.List.FromFn.{length-range_with_len}
use Rattle.std.proofs.Math.Nat.{mul-le-mul_left}
use Rattle.pddl_terms.specs.declared.trees.Group.{Group}
use Rattle.pddl_terms.specs.declared.trees.Comparison.{Comparison}
use Rattle.pddl_terms.specs.declared.trees.Comparison.TheVariants.{Equal}
use Rattle.pddl_terms.specs.declared.trees.CondTree.{CondTree}
use Rattle.pddl_terms.specs.declared.trees.CondTree.TheVariants as tree
use Rattle.pddl_terms.specs.declared.trees.TimedCond.{TimedCond}
use Rattle.pddl_terms.specs.declared.trees.TimedCond.TheVariants as timed
use Rattle.pddl_terms.specs.declared.trees.Side.{Side}
use Rattle.pddl_terms.specs.declared.trees.ExprTree.{ExprTree}
use Rattle.pddl_terms.specs.declared.trees.Atom.{Atom}
use Rattle.pddl_terms.specs.declared.files.ActionBody.{ActionBody}
use Rattle.pddl_terms.specs.declared.files.ActionBody.TheVariants.{Instant, Durative}
use Rattle.pddl_names.specs.Equalities.{is_equality}
use Rattle.ground_world.specs.declared.changes.Stage.{Stage}
use Rattle.ground_world.specs.declared.changes.Stage.TheVariants.{AtStart, OverAll, AtEnd}
use Rattle.ground_world.specs.World.{World, Env, columns, variable_names}
use Rattle.ground_world.specs.Bindings.{bindings, choices, choice_count, choice_at, numbers, paired}
use Rattle.ground_world.specs.Changes.{Staged, staged, parts_at, same_stage}
use Rattle.ground_world.specs.Conditions.{Part, Lit, Same, Compares, test, side_object, side_expression, equal_part, negated, condition_parts, timed_condition_parts, body_conditions}
use Rattle.ground_world.specs.Counts.{condition_count, timed_count, body_count, equal_count, together, sum_or_one, or_one, written_out, compare_count}
use Rattle.ground_world.proofs.Choices.{choices-by_number}
use Rattle.ground_world.proofs.Walks as walks
use Rattle.ground_world.proofs.PartSteps.{sum-least, or_one-least}
use Rattle.grounder.proofs.Inductions.{each_condition, each_timed_condition}

-- a literal or an equality of terms counts one, a comparison as often as it is a form
abbrev pub weight : Part → ℕ
weight (Lit a holds) = 1
weight (Same holds) = 1
weight (Compares t) = compare_count t.order

abbrev pub weights : List Part → ℕ
weights [] = 0
weights (p ∷ ps) = weight p + weights ps

pub weights-append : (ps qs : List Part) → weights (ps ++ qs) ≡ weights ps + weights qs
weights-append [] qs = omega arith
weights-append (p ∷ ps) qs = let ih : weights (ps ++ qs) ≡ weights ps + weights qs = weights-append ps qs in omega arith

weight-negated : (p : Part) → weight (negated p) ≡ weight p
weight-negated (Lit a holds) = refl
weight-negated (Same holds) = refl
weight-negated (Compares t) = refl

weights-negated : (ps : List Part) → weights (map negated ps) ≡ weights ps
weights-negated [] = refl
weights-negated (p ∷ ps) =
    let own : weight (negated p) ≡ weight p = weight-negated p in
    let ih : weights (map negated ps) ≡ weights ps = weights-negated ps in omega arith

-- ---- bindings

pub length-bindings : (w : World) (env : Env) (vars : List Group) → length (bindings w env vars) ≡ choice_count (columns w vars)
length-bindings w env vars =
    length-map (choices (columns w vars)) (λ os. env ++ paired (variable_names vars) os)
    ∙ ap length (choices-by_number (columns w vars))
    ∙ length-map (numbers (choice_count (columns w vars))) (choice_at (columns w vars))
    ∙ length-range_with_len 0 (choice_count (columns w vars))

pub written-least : (w : World) (vars : List Group) (n : ℕ) → choice_count (columns w vars) * n ≤ written_out w vars n
written-least w vars n =
    let a : n ≤ or_one n = or_one-least n in
    let b : choice_count (columns w vars) * n ≤ choice_count (columns w vars) * or_one n = mul-le-mul_left (choice_count (columns w vars)) a in
    let c : choice_count (columns w vars) * or_one n ≤ or_one (choice_count (columns w vars) * or_one n) = or_one-least (choice_count (columns w vars) * or_one n) in
    omega arith

pub weights-flat : {X : Type 0} (f : X → List Part) (n : ℕ) → ((x : X) → weights (f x) ≤ n) → (xs : List X) → weights (flat_map f xs) ≤ length xs * n
weights-flat f n h [] = omega arith
weights-flat f n h (x ∷ xs) =
    let own : weights (f x) ≤ n = h x in
    let ih : weights (flat_map f xs) ≤ length xs * n = weights-flat f n h xs in
    let e : weights (f x ++ flat_map f xs) ≡ weights (f x) + weights (flat_map f xs) = weights-append (f x) (flat_map f xs) in
    omega arith

pub weights-written : (w : World) (env : Env) (vars : List Group) (f : Env → List Part) (n : ℕ) → ((e : Env) → weights (f e) ≤ n) → weights (flat_map f (bindings w env vars)) ≤ written_out w vars n
weights-written w env vars f n h =
    let a : weights (flat_map f (bindings w env vars)) ≤ length (bindings w env vars) * n = weights-flat f n h (bindings w env vars) in
    let b : length (bindings w env vars) * n ≡ choice_count (columns w vars) * n = ap (λ (m : ℕ). m * n) (length-bindings w env vars) in
    let c : choice_count (columns w vars) * n ≤ written_out w vars n = written-least w vars n in
    omega arith

-- ---- conditions

module _ (w : World) where
  abbrev IsCounted : CondTree → Type 0
  IsCounted c = (env : Env) → weights (condition_parts w env c) ≤ condition_count w c

  parts-together : (cs : List CondTree) (env : Env) → Each IsCounted cs
      → weights (flat_map (λ (part : Env → List Part). part env) (map (λ c env. condition_parts w env c) cs)) ≤ together (map (λ c. condition_count w c) cs)
  parts-together [] env h = omega arith
  parts-together (c ∷ cs) env h =
      let own : weights (condition_parts w env c) ≤ condition_count w c = h.0 env in
      let ih : weights (flat_map (λ (part : Env → List Part). part env) (map (λ c env. condition_parts w env c) cs)) ≤ together (map (λ c. condition_count w c) cs) = parts-together cs env h.1 in
      let e : weights (condition_parts w env c ++ flat_map (λ (part : Env → List Part). part env) (map (λ c env. condition_parts w env c) cs))
      ≡ weights (condition_parts w env c) + weights (flat_map (λ (part : Env → List Part). part env) (map (λ c env. condition_parts w env c) cs))
      = weights-append (condition_parts w env c) (flat_map (λ (part : Env → List Part). part env) (map (λ c env. condition_parts w env c) cs)) in
      omega arith

  of_Empty : (a : ℕ) → IsCounted (tree.Empty a)
  of_Empty a env = let e : weights (condition_parts w env (tree.Empty a)) ≡ 0 = ap weights (walks.condition_parts-Empty w env a) in omega arith

  of_And : (a : ℕ) (cs : List CondTree) → Each IsCounted cs → IsCounted (tree.And a cs)
  of_And a cs h env =
      let e : weights (condition_parts w env (tree.And a cs)) ≡ weights (flat_map (λ (part : Env → List Part). part env) (map (λ c env. condition_parts w env c) cs)) = ap weights (walks.condition_parts-And w env a cs) in
      let k : condition_count w (tree.And a cs) ≡ sum_or_one (map (λ c. condition_count w c) cs) = walks.condition_count-And w a cs in
      let m : weights (flat_map (λ (part : Env → List Part). part env) (map (λ c env. condition_parts w env c) cs)) ≤ together (map (λ c. condition_count w c) cs) = parts-together cs env h in
      let s : together (map (λ c. condition_count w c) cs) ≤ sum_or_one (map (λ c. condition_count w c) cs) = sum-least (map (λ c. condition_count w c) cs) in
      omega arith

  of_Forall : (a : ℕ) (vars : List Group) (c : CondTree) → IsCounted c → IsCounted (tree.Forall a vars c)
  of_Forall a vars c h env =
      let e : weights (condition_parts w env (tree.Forall a vars c)) ≡ weights (flat_map (λ env. condition_parts w env c) (bindings w env vars)) = ap weights (walks.condition_parts-Forall w env a vars c) in
      let k : condition_count w (tree.Forall a vars c) ≡ written_out w vars (condition_count w c) = walks.condition_count-Forall w a vars c in
      let m : weights (flat_map (λ env. condition_parts w env c) (bindings w env vars)) ≤ written_out w vars (condition_count w c) = weights-written w env vars (λ env. condition_parts w env c) (condition_count w c) h in
      omega arith

  of_Atom : (a : Atom) → IsCounted (tree.Atom a)
  of_Atom a env =
      let e : weights (condition_parts w env (tree.Atom a)) ≡ 1 = ap weights (walks.condition_parts-Atom w env a) in
      let k : condition_count w (tree.Atom a) ≡ 1 = walks.condition_count-Atom w a in omega arith

  of_Not : (a : ℕ) (c : CondTree) → IsCounted c → IsCounted (tree.Not a c)
  of_Not a c h env =
      let e : weights (condition_parts w env (tree.Not a c)) ≡ weights (map negated (condition_parts w env c)) = ap weights (walks.condition_parts-Not w env a c) in
      let n : weights (map negated (condition_parts w env c)) ≡ weights (condition_parts w env c) = weights-negated (condition_parts w env c) in
      let k : condition_count w (tree.Not a c) ≡ condition_count w c = walks.condition_count-Not w a c in
      let own : weights (condition_parts w env c) ≤ condition_count w c = h env in omega arith

  of_Equal : (a : ℕ) (l r : Side) → IsCounted (tree.Equal a l r)
  of_Equal a l r env =
      let e : weights (condition_parts w env (tree.Equal a l r)) ≡ weight (equal_part w env a l r) + 0 = ap weights (walks.condition_parts-Equal w env a l r) in
      let k : condition_count w (tree.Equal a l r) ≡ equal_count w l r = walks.condition_count-Equal w a l r in
      let m : weight (equal_part w env a l r) ≤ equal_count w l r = by (is_equality w.functions l r) in
      omega arith
    where
      by : (b : Bool) → weight (if b then Same (side_object w env l == side_object w env r) else Compares (test env a Equal (side_expression l) (side_expression r))) ≤ (if b then 1 else 2)
      by true = omega arith
      by false = omega arith

  of_Compare : (a : ℕ) (o : Comparison) (l r : ExprTree) → IsCounted (tree.Compare a o l r)
  of_Compare a o l r env =
      let e : weights (condition_parts w env (tree.Compare a o l r)) ≡ compare_count o + 0 = ap weights (walks.condition_parts-Compare w env a o l r) in
      let k : condition_count w (tree.Compare a o l r) ≡ compare_count o = walks.condition_count-Compare w a o l r in omega arith

  of_LeftOut : (a : ℕ) → IsCounted (tree.LeftOut a)
  of_LeftOut a env = let e : weights (condition_parts w env (tree.LeftOut a)) ≡ 0 = ap weights (walks.condition_parts-LeftOut w env a) in omega arith

  pub condition-counted : (c : CondTree) → IsCounted c
  condition-counted = each_condition IsCounted of_Empty of_And of_Forall of_Atom of_Not of_Equal of_Compare of_LeftOut

-- ---- conditions of actions

-- the parts of all stages together
abbrev pub all_weights : List (Staged Part) → ℕ
all_weights ps = weights (map (λ p. p.part) ps)

all-append : (ps qs : List (Staged Part)) → all_weights (ps ++ qs) ≡ all_weights ps + all_weights qs
all-append [] qs = omega arith
all-append (p ∷ ps) qs = let ih : all_weights (ps ++ qs) ≡ all_weights ps + all_weights qs = all-append ps qs in omega arith

weights-staged : (s : Stage) (ps : List Part) → all_weights (staged s ps) ≡ weights ps
weights-staged s [] = refl
weights-staged s (p ∷ ps) = let ih : all_weights (staged s ps) ≡ weights ps = weights-staged s ps in omega arith

pub weights-at : (s : Stage) (ps : List (Staged Part)) → weights (parts_at s ps) ≤ all_weights ps
weights-at s [] = omega arith
weights-at s (p ∷ ps) = by (same_stage p.stage s) (weights-at s ps)
  where
    by : (b : Bool) → weights (parts_at s ps) ≤ all_weights ps
        → weights (map (λ x. x.part) (cond b (p ∷ filter (λ x. same_stage x.stage s) ps) (filter (λ x. same_stage x.stage s) ps))) ≤ weight p.part + all_weights ps
    by true h = omega arith
    by false h = omega arith

module _ (w : World) (env : Env) where
  abbrev IsTimedCounted : TimedCond → Type 0
  IsTimedCounted c = all_weights (timed_condition_parts w env c) ≤ timed_count w c

  timed-together : (cs : List TimedCond) → Each IsTimedCounted cs
      → all_weights (flat_map (λ (part : List (Staged Part)). part) (map (λ c. timed_condition_parts w env c) cs)) ≤ together (map (λ c. timed_count w c) cs)
  timed-together [] h = omega arith
  timed-together (c ∷ cs) h =
      let own : all_weights (timed_condition_parts w env c) ≤ timed_count w c = h.0 in
      let ih : all_weights (flat_map (λ (part : List (Staged Part)). part) (map (λ c. timed_condition_parts w env c) cs)) ≤ together (map (λ c. timed_count w c) cs) = timed-together cs h.1 in
      let e : all_weights (timed_condition_parts w env c ++ flat_map (λ (part : List (Staged Part)). part) (map (λ c. timed_condition_parts w env c) cs))
      ≡ all_weights (timed_condition_parts w env c) + all_weights (flat_map (λ (part : List (Staged Part)). part) (map (λ c. timed_condition_parts w env c) cs))
      = all-append (timed_condition_parts w env c) (flat_map (λ (part : List (Staged Part)). part) (map (λ c. timed_condition_parts w env c) cs)) in
      omega arith

  timed_Empty : (a : ℕ) → IsTimedCounted (timed.Empty a)
  timed_Empty a = let e : all_weights (timed_condition_parts w env (timed.Empty a)) ≡ 0 = ap all_weights (walks.timed_condition_parts-Empty w env a) in omega arith

  timed_And : (a : ℕ) (cs : List TimedCond) → Each IsTimedCounted cs → IsTimedCounted (timed.And a cs)
  timed_And a cs h =
      let e : all_weights (timed_condition_parts w env (timed.And a cs)) ≡ all_weights (flat_map (λ (part : List (Staged Part)). part) (map (λ c. timed_condition_parts w env c) cs)) = ap all_weights (walks.timed_condition_parts-And w env a cs) in
      let k : timed_count w (timed.And a cs) ≡ sum_or_one (map (λ c. timed_count w c) cs) = walks.timed_count-And w a cs in
      let m : all_weights (flat_map (λ (part : List (Staged Part)). part) (map (λ c. timed_condition_parts w env c) cs)) ≤ together (map (λ c. timed_count w c) cs) = timed-together cs h in
      let s : together (map (λ c. timed_count w c) cs) ≤ sum_or_one (map (λ c. timed_count w c) cs) = sum-least (map (λ c. timed_count w c) cs) in
      omega arith

  at_stage : (s : Stage) (c : CondTree) (t : TimedCond) → timed_condition_parts w env t ≡ staged s (condition_parts w env c) → timed_count w t ≡ condition_count w c → IsTimedCounted t
  at_stage s c t e k =
      let f : all_weights (timed_condition_parts w env t) ≡ all_weights (staged s (condition_parts w env c)) = ap all_weights e in
      let g : all_weights (staged s (condition_parts w env c)) ≡ weights (condition_parts w env c) = weights-staged s (condition_parts w env c) in
      let h : weights (condition_parts w env c) ≤ condition_count w c = condition-counted w c env in
      omega arith

  timed_LeftOut : (a : ℕ) → IsTimedCounted (timed.LeftOut a)
  timed_LeftOut a = let e : all_weights (timed_condition_parts w env (timed.LeftOut a)) ≡ 0 = ap all_weights (walks.timed_condition_parts-LeftOut w env a) in omega arith

  timed-counted : (c : TimedCond) → IsTimedCounted c
  timed-counted = each_timed_condition IsTimedCounted timed_Empty timed_And
      (λ a c. at_stage AtStart c (timed.AtStart a c) (walks.timed_condition_parts-AtStart w env a c) (walks.timed_count-AtStart w a c))
      (λ a c. at_stage OverAll c (timed.OverAll a c) (walks.timed_condition_parts-OverAll w env a c) (walks.timed_count-OverAll w a c))
      (λ a c. at_stage AtEnd c (timed.AtEnd a c) (walks.timed_condition_parts-AtEnd w env a c) (walks.timed_count-AtEnd w a c))
      timed_LeftOut

  pub body-counted : (b : ActionBody) → all_weights (body_conditions w env b) ≤ body_count w b
  body-counted (Instant None e) = omega arith
  body-counted (Instant (Some c) e) =
      let g : all_weights (staged AtStart (condition_parts w env c)) ≡ weights (condition_parts w env c) = weights-staged AtStart (condition_parts w env c) in
      let h : weights (condition_parts w env c) ≤ condition_count w c = condition-counted w c env in
      omega arith
  body-counted (Durative d None e) = omega arith
  body-counted (Durative d (Some c) e) = timed-counted c
