-- Conditions of durative actions: their weight, which falls at each step down, what is within the limit, and their parts and stages.
use Rattle.std.proofs.Common.{◌≡◌, refl, sym, ap, ◌∙◌, ℕ, ◌+◌, ◌<◌, ◌≤◌, arith, false, List, [], ◌∷◌, ◌++◌, map, length, take, get_or, append_assoc, replicate}
use Rattle.std.specs.List.{flat_map}
use Rattle.std.proofs.lemmas.List.{map-append, map-id, length-map}
use Rattle.std.proofs.lemmas.List.Folds.{flat_map-map}
use Rattle.pddl_terms.specs.declared.trees.TimedCond.{TimedCond, fold-TimedCond, fold-roll-TimedCond}
use Rattle.pddl_terms.specs.declared.trees.TimedCond.TheOpen.{TimedCond-F}
use Rattle.pddl_terms.specs.declared.trees.TimedCond.TheVariants as tree
use Rattle.ground_world.specs.declared.changes.Stage.{Stage}
use Rattle.ground_world.specs.World.{World, Env}
use Rattle.ground_world.specs.Changes.{staged}
use Rattle.ground_world.specs.Conditions.{Part, timed_condition_parts}
use Rattle.ground_world.specs.Shown.{part_of, parts_of, turned}
use Rattle.ground_world.specs.declared.parts.CondPart.{CondPart}
use Rattle.ground_world.specs.Counts.{timed_count, together, sum_or_one, part_limit}
use Rattle.ground_world.proofs.Walks as walk
use Rattle.ground_world.proofs.Weights.{summand}
use Rattle.ground_world.proofs.PartSteps.{sum-least}
use Rattle.ground_world.proofs.Steps.{parts_more}

abbrev timed_weight_layer : TimedCond-F ℕ → ℕ
timed_weight_layer (TimedCond-F.And at parts) = 1 + together parts
timed_weight_layer _ = 1

unfoldable pub timed_weight : TimedCond → ℕ
timed_weight c = fold-TimedCond ℕ timed_weight_layer c

weight-and : (at : ℕ) (cs : List TimedCond) → timed_weight (tree.And at cs) ≡ 1 + together (map timed_weight cs)
unfolding timed_weight
weight-and at cs = ap (λ t. fold-TimedCond ℕ timed_weight_layer t) (sym (tree.rolls-And at cs)) ∙ fold-roll-TimedCond ℕ timed_weight_layer (TimedCond-F.And at cs)

pub lighter : (at : ℕ) (cs : List TimedCond) (i : ℕ) (c : TimedCond) → i < length cs → c ≡ get_or cs i c → timed_weight c < timed_weight (tree.And at cs)
lighter at cs i c h e =
    let a : timed_weight c ≤ together (map timed_weight cs) = summand timed_weight cs i c h e in
    let b : timed_weight (tree.And at cs) ≡ 1 + together (map timed_weight cs) = weight-and at cs in
    omega arith

pub child_within : (w : World) (at : ℕ) (cs : List TimedCond) (i : ℕ) (c : TimedCond) → i < length cs → c ≡ get_or cs i c → timed_count w (tree.And at cs) ≤ part_limit → timed_count w c ≤ part_limit
child_within w at cs i c h e l =
    let a : timed_count w c ≤ together (map (timed_count w) cs) = summand (timed_count w) cs i c h e in
    let b : together (map (timed_count w) cs) ≤ sum_or_one (map (timed_count w) cs) = sum-least (map (timed_count w) cs) in
    let k : timed_count w (tree.And at cs) ≡ sum_or_one (map (timed_count w) cs) = walk.timed_count-And w at cs in
    omega arith

-- ---- parts and stages

pub parts-staged : {A : Type 0} (s : Stage) (xs : List A) → map (λ p. p.part) (staged s xs) ≡ xs
parts-staged s [] = refl
parts-staged s (x ∷ xs) = ap (λ l. x ∷ l) (parts-staged s xs)

pub stages-staged : {A : Type 0} (s : Stage) (xs : List A) → map (λ p. p.stage) (staged s xs) ≡ map (λ x. s) xs
stages-staged s [] = refl
stages-staged s (x ∷ xs) = ap (λ l. s ∷ l) (stages-staged s xs)

pub repeated : {A B : Type 0} (s : B) (xs : List A) (n : ℕ) → n ≡ length xs → replicate n s ≡ map (λ x. s) xs
repeated {A} {B} s xs n e = ap (λ k. replicate k s) e ∙ by xs
  where
    by : (ys : List A) → replicate (length ys) s ≡ map (λ x. s) ys
    by [] = refl
    by (y ∷ ys) = ap (λ l. s ∷ l) (by ys)

-- what is found of a condition, put behind other parts
pub found_parts : (old found : List CondPart) (ps : List Part) → parts_of found ≡ map (turned false) ps → parts_of (old ++ found) ≡ parts_of old ++ ps
found_parts old found ps h = map-append part_of old found ∙ ap (λ l. parts_of old ++ l) (h ∙ map-id ps)

pub found_stages : (s : Stage) (n : ℕ) (found : List CondPart) (ps : List Part) → n ≡ length found → parts_of found ≡ map (turned false) ps → replicate n s ≡ map (λ p. s) ps
found_stages s n found ps e h =
    repeated s ps n (e ∙ sym (length-map found part_of) ∙ ap length (h ∙ map-id ps))

pub parts-and : (w : World) (env : Env) (at : ℕ) (cs : List TimedCond) → timed_condition_parts w env (tree.And at cs) ≡ flat_map (timed_condition_parts w env) cs
parts-and w env at cs = walk.timed_condition_parts-And w env at cs ∙ flat_map-map (λ p. p) (timed_condition_parts w env) cs

-- one part more of a list
pub mapped_more : {X A B : Type 0} (f : X → List A) (g : A → B) (old before after : List B) (xs : List X) (i : ℕ) (x : X) → i < length xs → x ≡ get_or xs i x
    → before ≡ old ++ map g (flat_map f (take i xs)) → after ≡ before ++ map g (f x) → after ≡ old ++ map g (flat_map f (take (i + 1) xs))
mapped_more f g old before after xs i x lt at h k =
    k ∙ ap (λ l. l ++ map g (f x)) h ∙ append_assoc old _ _
    ∙ ap (λ l. old ++ l) (sym (map-append g (flat_map f (take i xs)) (f x)) ∙ ap (map g) (sym (parts_more f xs i x lt at)))
