-- The parts of a condition, one more child or one more binding; and which children are within the limit.
use Rattle.std.proofs.Common.{◌≡◌, refl, sym, ap, ap₂, ◌∙◌, ℕ, zero, suc, ◌+◌, ◌*◌, ◌<◌, ◌≤◌, arith, Bool, true, false, not, List, [], ◌∷◌, ◌++◌, map, length, get_or, append_assoc, min}
use Rattle.std.specs.List.{flat_map}
use Rattle.std.proofs.lemmas.List.{map-append}
use Rattle.std.proofs.Math.Nat.{mul-suc, mul_comm}
use Rattle.std.proofs.lemmas.Bool.Decides.{nat_tests}
use Rattle.std.proofs.lemmas.List.Concat.{flat_map-append}
use Rattle.std.proofs.lemmas.List.{append-nil}
use Rattle.std.proofs.lemmas.List.Folds.{flat_map-map}
use Rattle.pddl_terms.specs.declared.trees.Group.{Group}
use Rattle.pddl_terms.specs.declared.trees.CondTree.{CondTree}
use Rattle.pddl_terms.specs.declared.trees.CondTree.TheVariants as tree
use Rattle.ground_world.specs.World.{World, Env, columns, variable_names}
use Rattle.ground_world.specs.Bindings.{numbers, choice_count, choice_at, paired}
use Rattle.ground_world.specs.Conditions.{Part, Lit, Same, Compares, negated, condition_parts}
use Rattle.ground_world.specs.Counts.{condition_count, together, sum_or_one, or_one, written_out, part_limit}
use Rattle.ground_world.specs.Shown.{turned}
use Rattle.ground_world.proofs.Choices.{choices-by_number}
use Rattle.ground_world.proofs.Weights.{summand}
use Rattle.ground_world.proofs.Walks.{condition_parts-And, condition_parts-Forall, condition_count-And, condition_count-Forall, condition_count-Not}
use Rattle.basics.proofs.Lists.{range-more}

-- ---- within the limit

pub sum-least : (ns : List ℕ) → together ns ≤ sum_or_one ns
sum-least [] = omega arith
sum-least (n ∷ ns) = omega arith

pub child_within : (w : World) (at : ℕ) (cs : List CondTree) (i : ℕ) (c : CondTree) → i < length cs → c ≡ get_or cs i c → condition_count w (tree.And at cs) ≤ part_limit → condition_count w c ≤ part_limit
child_within w at cs i c h e l =
    let a : condition_count w c ≤ together (map (condition_count w) cs) = summand (condition_count w) cs i c h e in
    let b : together (map (condition_count w) cs) ≤ sum_or_one (map (condition_count w) cs) = sum-least (map (condition_count w) cs) in
    let k : condition_count w (tree.And at cs) ≡ sum_or_one (map (condition_count w) cs) = condition_count-And w at cs in
    omega arith

pub negated_within : (w : World) (at : ℕ) (c : CondTree) → condition_count w (tree.Not at c) ≤ part_limit → condition_count w c ≤ part_limit
negated_within w at c l = let k : condition_count w (tree.Not at c) ≡ condition_count w c = condition_count-Not w at c in omega arith

pub or_one-least : (n : ℕ) → n ≤ or_one n
or_one-least n = grind (arith, nat_tests)

pub or_one-positive : (n : ℕ) → 0 < or_one n
or_one-positive n = grind (arith, nat_tests)

factor-least : (a b : ℕ) → 0 < b → a ≤ a * b
factor-least a zero h = absurd (omega arith)
factor-least a (suc b) h = let e : a * suc b ≡ a * b + a = mul-suc a b in omega arith

product_within : (w : World) (at : ℕ) (vars : List Group) (c : CondTree) → condition_count w (tree.Forall at vars c) ≤ part_limit → choice_count (columns w vars) * or_one (condition_count w c) ≤ part_limit
product_within w at vars c l =
    let k : condition_count w (tree.Forall at vars c) ≡ written_out w vars (condition_count w c) = condition_count-Forall w at vars c in
    let m : choice_count (columns w vars) * or_one (condition_count w c) ≤ written_out w vars (condition_count w c) = or_one-least (choice_count (columns w vars) * or_one (condition_count w c)) in
    omega arith

pub choices_fit : (w : World) (at : ℕ) (vars : List Group) (c : CondTree) → condition_count w (tree.Forall at vars c) ≤ part_limit → choice_count (columns w vars) ≤ part_limit
choices_fit w at vars c l =
    let k : choice_count (columns w vars) * or_one (condition_count w c) ≤ part_limit = product_within w at vars c l in
    let m : choice_count (columns w vars) ≤ choice_count (columns w vars) * or_one (condition_count w c) = factor-least (choice_count (columns w vars)) (or_one (condition_count w c)) (or_one-positive (condition_count w c)) in
    omega arith

pub body_within : (w : World) (at : ℕ) (vars : List Group) (c : CondTree) (k : ℕ) → k < choice_count (columns w vars) → condition_count w (tree.Forall at vars c) ≤ part_limit → condition_count w c ≤ part_limit
body_within w at vars c k h l =
    let a : choice_count (columns w vars) * or_one (condition_count w c) ≤ part_limit = product_within w at vars c l in
    let m : or_one (condition_count w c) ≤ or_one (condition_count w c) * choice_count (columns w vars) = factor-least (or_one (condition_count w c)) (choice_count (columns w vars)) (omega arith) in
    let n : or_one (condition_count w c) * choice_count (columns w vars) ≡ choice_count (columns w vars) * or_one (condition_count w c) = mul_comm (or_one (condition_count w c)) (choice_count (columns w vars)) in
    let o : condition_count w c ≤ or_one (condition_count w c) = or_one-least (condition_count w c) in
    omega arith

-- ---- one more

-- what is made of a list, turned, with one more item
pub more : {X : Type 0} (b : Bool) (f : X → List Part) (before ps qs : List Part) (xs : List X) (x : X) → ps ≡ before ++ map (turned b) (flat_map f xs) → qs ≡ ps ++ map (turned b) (f x) → qs ≡ before ++ map (turned b) (flat_map f (xs ++ (x ∷ [])))
more b f before ps qs xs x h k =
    k ∙ ap (λ l. l ++ map (turned b) (f x)) h ∙ append_assoc before _ _
    ∙ ap (λ l. before ++ l) (sym (map-append (turned b) (flat_map f xs) (f x)) ∙ ap (map (turned b)) (ap (λ l. flat_map f xs ++ l) (sym (append-nil (f x))) ∙ sym (flat_map-append f xs (x ∷ []))))

-- binding number k under an outer one
abbrev pub inner : World → Env → List Group → ℕ → Env
inner w env vars k = env ++ paired (variable_names vars) (choice_at (columns w vars) k)

-- a quantifier is written out by the numbers of its bindings
pub forall-by_number : (w : World) (env : Env) (at : ℕ) (vars : List Group) (c : CondTree)
    → condition_parts w env (tree.Forall at vars c) ≡ flat_map (λ k. condition_parts w (inner w env vars k) c) (numbers (choice_count (columns w vars)))
forall-by_number w env at vars c =
    condition_parts-Forall w env at vars c
    ∙ ap (λ l. flat_map (λ e. condition_parts w e c) (map (λ os. env ++ paired (variable_names vars) os) l)) (choices-by_number (columns w vars))
    ∙ flat_map-map (λ e. condition_parts w e c) (λ os. env ++ paired (variable_names vars) os) (map (choice_at (columns w vars)) (numbers (choice_count (columns w vars))))
    ∙ flat_map-map (λ os. condition_parts w (env ++ paired (variable_names vars) os) c) (choice_at (columns w vars)) (numbers (choice_count (columns w vars)))

pub more_numbers : (b : Bool) (f : ℕ → List Part) (before ps qs : List Part) (n : ℕ) → ps ≡ before ++ map (turned b) (flat_map f (numbers n)) → qs ≡ ps ++ map (turned b) (f n) → qs ≡ before ++ map (turned b) (flat_map f (numbers (n + 1)))
more_numbers b f before ps qs n h k = more b f before ps qs (numbers n) n h k
    ∙ ap (λ l. before ++ map (turned b) (flat_map f l)) (let same : 0 + n ≡ n = omega arith in ap (λ j. numbers n ++ j ∷ []) (sym same) ∙ sym (range-more 0 n))

-- ---- negation

turned-negated : (b : Bool) (p : Part) → turned b (negated p) ≡ turned (not b) p
turned-negated false p = refl
turned-negated true (Lit a true) = refl
turned-negated true (Lit a false) = refl
turned-negated true (Same true) = refl
turned-negated true (Same false) = refl
turned-negated true (Compares t) = refl

pub turned-twice : (b : Bool) (ps : List Part) → map (turned b) (map negated ps) ≡ map (turned (not b)) ps
turned-twice b [] = refl
turned-twice b (p ∷ ps) = ap₂ (λ q l. q ∷ l) (turned-negated b p) (turned-twice b ps)

-- the choices within the limit are all
pub all_choices : (n : ℕ) → n ≤ part_limit → min 65536 n ≡ n
all_choices n h = omega arith

-- the parts of a list of conditions
pub joined : {X : Type 0} (env : Env) (f : X → Env → List Part) (cs : List X)
    → flat_map (λ part. part env) (map f cs) ≡ flat_map (λ c. f c env) cs
joined env f [] = refl
joined env f (c ∷ cs) = ap (λ l. f c env ++ l) (joined env f cs)

pub parts-and : (w : World) (env : Env) (at : ℕ) (cs : List CondTree)
    → condition_parts w env (tree.And at cs) ≡ flat_map (condition_parts w env) cs
parts-and w env at cs = condition_parts-And w env at cs ∙ joined env (λ c e. condition_parts w e c) cs
