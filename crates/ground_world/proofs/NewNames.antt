-- Names that are numbered in a loop, and how many they can be.
use Rattle.std.proofs.Common.{◌≡◌, refl, sym, ap, ap₂, ◌∙◌, ℕ, suc, ◌+◌, ◌<◌, ◌≤◌, arith, Bool, true, false, List, [], ◌∷◌, ◌++◌, map, length, take, get_or, Option, Some, None, if◌then◌else◌}
use Rattle.std.specs.List.{flat_map}
use Rattle.std.proofs.lemmas.List.{map-append, length-append, length-map}
use Rattle.pddl_names.specs.Declarations.{Text, among, with_new}
use Rattle.pddl_names.proofs.Doubling.{with_new-append}
use Rattle.pddl_terms.specs.declared.trees.SoftTree.{SoftTree}
use Rattle.pddl_terms.specs.declared.trees.Trajectory.{Trajectory}
use Rattle.ground_world.specs.Leaves.{Leaf, Named, Cost, preference_name}
use Rattle.ground_world.specs.ShownLeaves.{text_of, preferences_of, constraints_of, costs_of}
use Rattle.ground_world.specs.declared.leaves.GoalPreference.{GoalPreference}
use Rattle.ground_world.specs.declared.leaves.ConstraintLeaf.{ConstraintLeaf}
use Rattle.ground_world.specs.declared.leaves.CostLeaf.{CostLeaf}
use Rattle.ground_world.proofs.Steps.{taken, parts_more}

-- one name more
pub names-next : {X : Type 0} (f : X → Text) (names now next : List Text) (xs : List X) (i : ℕ) (x : X) → i < length xs → x ≡ get_or xs i x
    → now ≡ with_new names (map f (take i xs)) → next ≡ with_new now (f x ∷ []) → next ≡ with_new names (map f (take (i + 1) xs))
names-next f names now next xs i x lt at h e =
    e ∙ ap (λ (l : List Text). with_new l (f x ∷ [])) h ∙ sym (with_new-append names (map f (take i xs)) (f x ∷ []))
    ∙ ap (with_new names) (sym (ap (map f) (taken xs i x lt at) ∙ map-append f (take i xs) (x ∷ [])))

-- the name of one constraint more, where it is a preference
abbrev pub name_of : ConstraintLeaf → List Text
name_of l = preference_name (text_of l.name)

pub constraint_names-next : (names now next : List Text) (xs : List ConstraintLeaf) (i : ℕ) (x : ConstraintLeaf) → i < length xs → x ≡ get_or xs i x
    → now ≡ with_new names (flat_map name_of (take i xs)) → next ≡ with_new now (name_of x) → next ≡ with_new names (flat_map name_of (take (i + 1) xs))
constraint_names-next names now next xs i x lt at h e =
    e ∙ ap (λ (l : List Text). with_new l (name_of x)) h ∙ sym (with_new-append names (flat_map name_of (take i xs)) (name_of x))
    ∙ ap (with_new names) (sym (parts_more name_of xs i x lt at))

-- ---- how many there are

one_more : (b : Bool) (names : List Text) (n : Text) → length (if b then names else names ++ (n ∷ [])) ≤ length names + 1
one_more true names n = omega arith
one_more false names n = let e : length (names ++ (n ∷ [])) ≡ length names + 1 = length-append names (n ∷ []) in omega arith

pub with_new-length : (names more : List Text) → length (with_new names more) ≤ length names + length more
with_new-length names [] = omega arith
with_new-length names (n ∷ more) =
    let h : length (with_new (if among names n then names else names ++ (n ∷ [])) more) ≤ length (if among names n then names else names ++ (n ∷ [])) + length more =
    with_new-length (if among names n then names else names ++ (n ∷ [])) more in
    let k : length (if among names n then names else names ++ (n ∷ [])) ≤ length names + 1 = one_more (among names n) names n in
    omega arith

pub preference_names-length : {X : Type 0} (f : X → Option Text) (xs : List X) → length (flat_map (λ x. preference_name (f x)) xs) ≤ length xs
preference_names-length f [] = omega arith
preference_names-length f (x ∷ xs) =
    let e : length (preference_name (f x) ++ flat_map (λ x. preference_name (f x)) xs) ≡ length (preference_name (f x)) + length (flat_map (λ x. preference_name (f x)) xs) =
    length-append (preference_name (f x)) (flat_map (λ x. preference_name (f x)) xs) in
    let h : length (flat_map (λ x. preference_name (f x)) xs) ≤ length xs = preference_names-length f xs in
    let k : length (preference_name (f x)) ≤ 1 = one (f x) in
    omega arith
  where
    one : (o : Option Text) → length (preference_name o) ≤ 1
    one None = omega arith
    one (Some n) = omega arith

-- ---- the names of leaves

pub preference-names : (ps : List GoalPreference) → map (λ p. p.name.now) ps ≡ map (λ (l : Leaf (Named SoftTree)). l.leaf.name) (preferences_of ps)
preference-names [] = refl
preference-names (p ∷ ps) = ap (λ (l : List Text). p.name.now ∷ l) (preference-names ps)

pub constraint-names : (cs : List ConstraintLeaf)
    → flat_map (λ c. preference_name (text_of c.name)) cs ≡ flat_map (λ (l : Leaf (Option Text × Trajectory)). preference_name l.leaf.0) (constraints_of cs)
constraint-names [] = refl
constraint-names (c ∷ cs) = ap (λ (l : List Text). preference_name (text_of c.name) ++ l) (constraint-names cs)

pub cost-names : (cs : List CostLeaf) → map (λ c. c.name.now) cs ≡ map (λ (c : Cost). c.name) (costs_of cs)
cost-names [] = refl
cost-names (c ∷ cs) = ap (λ (l : List Text). c.name.now ∷ l) (cost-names cs)

-- the names of all preferences, and how many they can be
pub all-names : (ps : List GoalPreference) (cs : List ConstraintLeaf) (first last : List Text)
    → first ≡ with_new [] (map (λ p. p.name.now) ps) → last ≡ with_new first (flat_map (λ c. preference_name (text_of c.name)) cs)
    → last ≡ with_new [] (map (λ (l : Leaf (Named SoftTree)). l.leaf.name) (preferences_of ps)
    ++ flat_map (λ (l : Leaf (Option Text × Trajectory)). preference_name l.leaf.0) (constraints_of cs))
all-names ps cs first last h k =
    k ∙ ap₂ (λ (a b : List Text). with_new a b) (h ∙ ap (with_new []) (preference-names ps)) (constraint-names cs)
    ∙ sym (with_new-append [] (map (λ l. l.leaf.name) (preferences_of ps)) (flat_map (λ l. preference_name l.leaf.0) (constraints_of cs)))

pub all-length : (ps : List GoalPreference) (cs : List ConstraintLeaf) (first last : List Text)
    → first ≡ with_new [] (map (λ p. p.name.now) ps) → last ≡ with_new first (flat_map (λ c. preference_name (text_of c.name)) cs)
    → length last ≤ length ps + length cs
all-length ps cs first last h k =
    let a : length first ≡ length (with_new [] (map (λ p. p.name.now) ps)) = ap length h in
    let b : length (with_new [] (map (λ (p : GoalPreference). p.name.now) ps)) ≤ length {A = Text} [] + length (map (λ (p : GoalPreference). p.name.now) ps) = with_new-length [] (map (λ p. p.name.now) ps) in
    let n : length (map (λ (p : GoalPreference). p.name.now) ps) ≡ length ps = length-map ps (λ p. p.name.now) in
    let d : length last ≡ length (with_new first (flat_map (λ (c : ConstraintLeaf). preference_name (text_of c.name)) cs)) = ap length k in
    let e : length (with_new first (flat_map (λ (c : ConstraintLeaf). preference_name (text_of c.name)) cs)) ≤ length first + length (flat_map (λ (c : ConstraintLeaf). preference_name (text_of c.name)) cs)
    = with_new-length first (flat_map (λ c. preference_name (text_of c.name)) cs) in
    let g : length (flat_map (λ (c : ConstraintLeaf). preference_name (text_of c.name)) cs) ≤ length cs = preference_names-length (λ c. text_of c.name) cs in
    omega arith

-- how many names of time costs there can be
pub cost-length : (cs : List CostLeaf) (last : List Text) → last ≡ with_new [] (map (λ c. c.name.now) cs) → length last ≤ length cs
cost-length cs last h =
    let a : length last ≡ length (with_new [] (map (λ (c : CostLeaf). c.name.now) cs)) = ap length h in
    let b : length (with_new [] (map (λ (c : CostLeaf). c.name.now) cs)) ≤ length {A = Text} [] + length (map (λ (c : CostLeaf). c.name.now) cs) = with_new-length [] (map (λ c. c.name.now) cs) in
    let n : length (map (λ (c : CostLeaf). c.name.now) cs) ≡ length cs = length-map cs (λ c. c.name.now) in
    omega arith
