-- The least of several offences, list by list.
use Rattle.std.proofs.Common.{◌≡◌, refl, sym, ap, ◌∙◌, ℕ, ◌+◌, ◌<◌, ◌≤◌, List, [], ◌∷◌, ◌++◌, map, length, take, get_or, Option, Some, None, append-nil}
use Rattle.std.specs.List.{flat_map}
use Rattle.std.proofs.lemmas.List.{take_more, take_all}
use Rattle.std.proofs.lemmas.List.Concat.{flat_map-append}
use Rattle.std.proofs.lemmas.List.Folds.{flat_map-map}
use Rattle.pddl_names.specs.declared.offences.Offence.{Offence}
use Rattle.pddl_names.specs.Offences.{earlier, least}
use Rattle.pddl_names.proofs.Least.{earlier-none, earlier-assoc}
use Rattle.pddl_forms.specs.Offences.{lesser, least_with}

pub least_with-none : (found : Option Offence) → least_with found [] ≡ found
unfolding least_with
least_with-none found = refl

pub least_with-one : (found : Option Offence) (o : Offence) → least_with found (o ∷ []) ≡ lesser found o
unfolding least_with
least_with-one found o = refl

pub least_with-append : (found : Option Offence) (xs ys : List Offence) → least_with found (xs ++ ys) ≡ least_with (least_with found xs) ys
unfolding least_with
least_with-append found [] ys = refl
least_with-append found (x ∷ xs) ys = least_with-append (lesser found x) xs ys

-- the least of these, and of what was found before them
least_with-least : (found : Option Offence) (os : List Offence) → least_with found os ≡ earlier found (least os)
unfolding least_with lesser
least_with-least found [] = sym (earlier-none found)
least_with-least found (o ∷ os) = least_with-least (lesser found o) os ∙ earlier-assoc found (Some o) (least os)

pub least_with-all : (os : List Offence) → least_with None os ≡ least os
least_with-all os = least_with-least None os

pub ruleset least_of = (least_with-none, least_with-one, least_with-append)

-- lists joined, each made of an element
pub concat-map : {A B : Type 0} (f : A → List B) (xs : List A) → flat_map (λ part. part) (map f xs) ≡ flat_map f xs
concat-map {B = B} f xs = flat_map-map (λ (part : List B). part) f xs

-- the same, where each is made of an element and what is around it
pub concat-map_at : {A B C : Type 0} (f : A → C → List B) (c : C) (xs : List A) → flat_map (λ part. part c) (map f xs) ≡ flat_map (λ x. f x c) xs
concat-map_at {B = B} {C = C} f c xs = flat_map-map (λ (part : C → List B). part c) f xs

-- A loop that goes on from element to element with what a walk over lists gives, for a walk that may stop anywhere.
module _ {S A B : Type 0} (walk : S → List B → S) (joins : (s : S) (xs ys : List B) → walk s (xs ++ ys) ≡ walk (walk s xs) ys) (f : A → List B) (start : S) where
  pub walk-next : (so_far next : S) (xs : List A) (i : ℕ) (x : A) → i < length xs → x ≡ get_or xs i x
      → so_far ≡ walk start (flat_map f (take i xs)) → next ≡ walk so_far (f x) → next ≡ walk start (flat_map f (take (i + 1) xs))
  walk-next so_far next xs i x h e j n =
      n ∙ ap (λ a. walk a (f x)) j
      ∙ sym (ap (λ l. walk start (flat_map f l)) (take_more xs i x h ∙ ap (λ y. take i xs ++ y ∷ []) (sym e))
      ∙ ap (walk start) (flat_map-append f (take i xs) (x ∷ []) ∙ ap (λ l. flat_map f (take i xs) ++ l) (append-nil (f x)))
      ∙ joins start (flat_map f (take i xs)) (f x))

  pub walk-end : (so_far : S) (xs ys : List A) (i : ℕ) (all : List B) → length xs ≤ i → xs ≡ ys
      → so_far ≡ walk start (flat_map f (take i xs)) → all ≡ flat_map f ys → so_far ≡ walk start all
  walk-end so_far xs ys i all h e j a = j ∙ ap (λ l. walk start (flat_map f l)) (take_all i xs h ∙ e) ∙ sym (ap (walk start) a)

pub least-next : {A : Type 0} (f : A → List Offence) (start found next : Option Offence) (xs : List A) (i : ℕ) (x : A) → i < length xs → x ≡ get_or xs i x
    → found ≡ least_with start (flat_map f (take i xs)) → next ≡ least_with found (f x) → next ≡ least_with start (flat_map f (take (i + 1) xs))
least-next f start = walk-next least_with least_with-append f start

pub least-end : {A : Type 0} (f : A → List Offence) (start found : Option Offence) (xs ys : List A) (i : ℕ) (all : List Offence) → length xs ≤ i → xs ≡ ys
    → found ≡ least_with start (flat_map f (take i xs)) → all ≡ flat_map f ys → found ≡ least_with start all
least-end f start = walk-end least_with least_with-append f start

-- the same of a list of numbers, whose element is told by its place
pub least-next_at : (f : ℕ → List Offence) (start found next : Option Offence) (xs : List ℕ) (i d : ℕ) → i < length xs
    → found ≡ least_with start (flat_map f (take i xs)) → next ≡ least_with found (f (get_or xs i d)) → next ≡ least_with start (flat_map f (take (i + 1) xs))
least-next_at f start found next xs i d h j n =
    n ∙ ap (λ a. least_with a (f (get_or xs i d))) j
    ∙ sym (ap (λ l. least_with start (flat_map f l)) (take_more xs i d h)
    ∙ ap (least_with start) (flat_map-append f (take i xs) (get_or xs i d ∷ []) ∙ ap (λ l. flat_map f (take i xs) ++ l) (append-nil (f (get_or xs i d))))
    ∙ least_with-append start (flat_map f (take i xs)) (f (get_or xs i d)))
