-- Tests of some element of a list, through lists that are made of others.
use Rattle.std.proofs.Common.{◌≡◌, refl, ap, ◌∙◌, ℕ, Bool, true, false, ◌&&◌, ◌||◌, cond, List, [], ◌∷◌, ◌++◌, map}
use Rattle.std.specs.Prelude.{◌==◌}
use Rattle.std.specs.List.{list_any, flat_map, filter}
use Rattle.std.proofs.lemmas.List.Folds.{list_any-append}
use Rattle.task_types.specs.Sets.{is_in, meet}

pub any-map : {X Y : Type 0} (p : Y → Bool) (f : X → Y) (xs : List X) → list_any p (map f xs) ≡ list_any (λ x. p (f x)) xs
any-map p f [] = refl
any-map p f (x ∷ xs) = ap (λ b. p (f x) || b) (any-map p f xs)

pub any-flat_map : {X Y : Type 0} (p : Y → Bool) (f : X → List Y) (xs : List X) → list_any p (flat_map f xs) ≡ list_any (λ x. list_any p (f x)) xs
any-flat_map p f [] = refl
any-flat_map p f (x ∷ xs) = list_any-append p (f x) (flat_map f xs) ∙ ap (λ b. list_any p (f x) || b) (any-flat_map p f xs)

pub any-filter : {X : Type 0} (p r : X → Bool) (xs : List X) → list_any p (filter r xs) ≡ list_any (λ x. r x && p x) xs
any-filter p r [] = refl
any-filter p r (x ∷ xs) = go (r x) ∙ ap (λ b. (r x && p x) || b) (any-filter p r xs)
  where
    go : (b : Bool) → list_any p (cond b (x ∷ filter r xs) (filter r xs)) ≡ ((b && p x) || list_any p (filter r xs))
    go true = refl
    go false = refl

-- ---- two lists, one behind the other

pub meet-either : (xs ys zs : List ℕ) → meet (xs ++ ys) zs ≡ (meet xs zs || meet ys zs)
meet-either xs ys zs = list_any-append (λ x. is_in x zs) xs ys

pub entries-either : {A : Type 0} (f : ℕ) (xs ys : List (ℕ × A)) → is_in f (map (λ e. e.0) xs ++ map (λ e. e.0) ys) ≡ (list_any (λ e. e.0 == f) xs || list_any (λ e. e.0 == f) ys)
entries-either f xs ys = list_any-append (λ y. y == f) (map (λ e. e.0) xs) (map (λ e. e.0) ys)
    ∙ ap (λ b. b || list_any (λ y. y == f) (map (λ e. e.0) ys)) (any-map (λ y. y == f) (λ e. e.0) xs)
    ∙ ap (λ b. list_any (λ e. e.0 == f) xs || b) (any-map (λ y. y == f) (λ e. e.0) ys)

pub flat-either : {X : Type 0} (p : ℕ → Bool) (f : X → List ℕ) (xs ys : List X) → list_any p (flat_map f (xs ++ ys)) ≡ (list_any (λ x. list_any p (f x)) xs || list_any (λ x. list_any p (f x)) ys)
flat-either p f xs ys = any-flat_map p f (xs ++ ys) ∙ list_any-append (λ x. list_any p (f x)) xs ys
