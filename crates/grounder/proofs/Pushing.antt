-- What a loop puts at the end of a list, one item more.
use Rattle.std.proofs.Common.{◌≡◌, sym, ap, ◌∙◌, ℕ, ◌+◌, ◌<◌, true, false, cond, List, [], ◌∷◌, ◌++◌, map, length, take, get_or, append_assoc}
use Rattle.std.specs.List.{flat_map, filter}
use Rattle.std.proofs.lemmas.List.{map-append, append-nil}
use Rattle.std.proofs.lemmas.List.Elements.{filter-append}
use Rattle.std.proofs.lemmas.List.Concat.{flat_map-append}
use Rattle.ground_world.specs.declared.changes.Stage.{Stage}
use Rattle.ground_world.specs.Changes.{Staged, parts_at, same_stage}
use Rattle.ground_world.proofs.Steps.{taken}

pub pushed : {X Z : Type 0} (whole : List X → List Z) (own : X → List Z)
    → ((xs : List X) (x : X) → whole (xs ++ (x ∷ [])) ≡ whole xs ++ own x)
    → (old before after : List Z) (xs : List X) (i : ℕ) (x : X) → i < length xs → x ≡ get_or xs i x
    → before ≡ old ++ whole (take i xs) → after ≡ before ++ own x → after ≡ old ++ whole (take (i + 1) xs)
pushed whole own more old before after xs i x lt at h k =
    k ∙ ap (λ l. l ++ own x) h ∙ append_assoc old (whole (take i xs)) (own x)
    ∙ ap (λ l. old ++ l) (sym (more (take i xs) x) ∙ ap whole (sym (taken xs i x lt at)))

pub grown : {X Z : Type 0} (whole : List X → List Z) (own : X → List Z)
    → ((xs : List X) (x : X) → whole (xs ++ (x ∷ [])) ≡ whole xs ++ own x)
    → (before after : List Z) (xs : List X) (i : ℕ) (x : X) → i < length xs → x ≡ get_or xs i x
    → before ≡ whole (take i xs) → after ≡ before ++ own x → after ≡ whole (take (i + 1) xs)
grown whole own more before after = pushed whole own more [] before after

-- the items of a list, each of which gives several
pub flat_map-more : {X Y Z : Type 0} (f : Y → List Z) (g : X → Y) (xs : List X) (x : X)
    → flat_map f (map g (xs ++ (x ∷ []))) ≡ flat_map f (map g xs) ++ f (g x)
flat_map-more f g xs x =
    ap (flat_map f) (map-append g xs (x ∷ [])) ∙ flat_map-append f (map g xs) (g x ∷ [])
    ∙ ap (λ l. flat_map f (map g xs) ++ l) (append-nil (f (g x)))

pub parts_at-append : {A : Type 0} (s : Stage) (xs ys : List (Staged A)) → parts_at s (xs ++ ys) ≡ parts_at s xs ++ parts_at s ys
parts_at-append s xs ys =
    ap (map (λ x. x.part)) (filter-append (λ x. same_stage x.stage s) xs ys)
    ∙ map-append (λ x. x.part) (filter (λ x. same_stage x.stage s) xs) (filter (λ x. same_stage x.stage s) ys)

-- what those of a stage give
pub at_stage-append : {X A Z : Type 0} (f : A → List Z) (g : X → Staged A) (s : Stage) (xs ys : List X)
    → flat_map f (parts_at s (map g (xs ++ ys))) ≡ flat_map f (parts_at s (map g xs)) ++ flat_map f (parts_at s (map g ys))
at_stage-append f g s xs ys =
    ap (λ l. flat_map f (parts_at s l)) (map-append g xs ys) ∙ ap (flat_map f) (parts_at-append s (map g xs) (map g ys))
    ∙ flat_map-append f (parts_at s (map g xs)) (parts_at s (map g ys))

-- one part, at its stage or not
pub at_stage : {A : Type 0} (s t : Stage) (p : A) → same_stage t s ≡ true → parts_at s (record { stage = t; part = p } ∷ []) ≡ p ∷ []
at_stage {A} s t p h = let x : Staged A = record { stage = t; part = p } in ap (λ b. map (λ (y : Staged A). y.part) (cond b (x ∷ []) [])) h

pub off_stage : {A : Type 0} (s t : Stage) (p : A) → same_stage t s ≡ false → parts_at s (record { stage = t; part = p } ∷ []) ≡ []
off_stage {A} s t p h = let x : Staged A = record { stage = t; part = p } in ap (λ b. map (λ (y : Staged A). y.part) (cond b (x ∷ []) [])) h
