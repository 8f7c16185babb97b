-- The counts of parts of a goal together, some of which hold nothing but preferences.
use Rattle.std.proofs.Common.{◌≡◌, refl, sym, ap, ◌∙◌, ℕ, ◌+◌, ◌<◌, min, arith, List, [], ◌∷◌, ◌++◌, map, length, take, get_or, Option, Some, None}
use Rattle.std.specs.Option.{option_map, unwrap_or}
use Rattle.std.proofs.lemmas.List.{map-append}
use Rattle.pddl_terms.specs.declared.trees.Group.{Group}
use Rattle.pddl_terms.specs.declared.trees.GoalTree.TheOpen.{GoalTree-F}
use Rattle.ground_world.specs.World.{World, either}
use Rattle.ground_world.specs.Counts.{somes, written_out, goal_count_layer}
use Rattle.ground_world.specs.Counting.{capped, both, somes_or_one}
use Rattle.ground_world.proofs.Steps.{taken}

abbrev amount : Option ℕ → ℕ
amount n = either 0 (λ k. k) n

both-none : (n : Option ℕ) → both n None ≡ n
both-none None = refl
both-none (Some n) = let e : n + 0 ≡ n = omega arith in ap Some e

amount-both : (m n : Option ℕ) → amount (both m n) ≡ amount m + amount n
amount-both None n = omega arith
amount-both (Some m) n = refl

both-assoc : (l m n : Option ℕ) → both l (both m n) ≡ both (both l m) n
both-assoc None m n = refl
both-assoc (Some l) m n = let e : l + amount (both m n) ≡ l + amount m + amount n = let f : amount (both m n) ≡ amount m + amount n = amount-both m n in omega arith in ap Some e

somes-both : (n : Option ℕ) (ns : List (Option ℕ)) → somes (n ∷ ns) ≡ both n (somes ns)
somes-both None ns = refl
somes-both (Some n) ns = refl

somes-more : (ns : List (Option ℕ)) (n : Option ℕ) → somes (ns ++ (n ∷ [])) ≡ both (somes ns) n
somes-more [] n = somes-both n [] ∙ both-none n
somes-more (m ∷ ns) n =
    somes-both m (ns ++ (n ∷ [])) ∙ ap (both m) (somes-more ns n) ∙ both-assoc m (somes ns) n ∙ ap (λ k. both k n) (sym (somes-both m ns))

-- one part more
pub somes-next : {X : Type 0} (f : X → Option ℕ) (xs : List X) (i : ℕ) (x : X) → i < length xs → x ≡ get_or xs i x
    → somes (map f (take (i + 1) xs)) ≡ both (somes (map f (take i xs))) (f x)
somes-next f xs i x lt at =
    ap somes (ap (map f) (taken xs i x lt at) ∙ map-append f (take i xs) (x ∷ [])) ∙ somes-more (map f (take i xs)) (f x)

pub somes-some : {X : Type 0} (f : X → Option ℕ) (xs : List X) → 0 < length xs → somes_or_one (map f xs) ≡ somes (map f xs)
somes-some f [] h = absurd (omega arith)
somes-some f (x ∷ xs) h = refl

pub somes-none : {X : Type 0} (f : X → Option ℕ) (xs : List X) → length xs ≡ 0 → somes_or_one (map f xs) ≡ Some 1
somes-none f [] h = refl
somes-none f (x ∷ xs) h = absurd (omega arith)

pub layer-and : (w : World) (a : ℕ) (ns : List (Option ℕ)) → goal_count_layer w (GoalTree-F.And a ns) ≡ somes_or_one ns
layer-and w a [] = refl
layer-and w a (n ∷ ns) = refl

pub layer-forall : (w : World) (a : ℕ) (vars : List Group) (n : Option ℕ) → goal_count_layer w (GoalTree-F.Forall a vars n) ≡ option_map (written_out w vars) n
layer-forall w a vars None = refl
layer-forall w a vars (Some n) = refl

-- ---- counts that stop at the cap

pub both-capped : (a b : ℕ) (m n : Option ℕ) → Some a ≡ capped m → Some b ≡ capped n
    → Some (min (min (a + b) 18446744073709551615) 65537) ≡ capped (both m n)
both-capped a b None n h k = absurd cc
both-capped a b (Some m) None h k = absurd cc
both-capped a b (Some m) (Some n) h k =
    let e : a ≡ min 65537 m = cc in
    let f : b ≡ min 65537 n = cc in
    let g : min (min (a + b) 18446744073709551615) 65537 ≡ min 65537 (m + n) = omega arith in ap Some g

pub left-capped : (o : Option ℕ) (m n : Option ℕ) → o ≡ capped m → None ≡ capped n → o ≡ capped (both m n)
left-capped o m None h k = h ∙ ap capped (sym (both-none m))
left-capped o m (Some n) h k = absurd cc

pub right-capped : (o : Option ℕ) (m n : Option ℕ) → None ≡ capped m → o ≡ capped n → o ≡ capped (both m n)
right-capped o None n h k = k
right-capped o (Some m) n h k = absurd cc

pub amount-capped : (n : Option ℕ) → unwrap_or (capped n) 0 ≡ min 65537 (either 0 (λ k. k) n)
amount-capped None = refl
amount-capped (Some n) = refl
