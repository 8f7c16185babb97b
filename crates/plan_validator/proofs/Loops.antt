-- One element more of loops over a slice, in what is reckoned and in what is told.
use Rattle.std.proofs.Common.{◌≡◌, refl, sym, ap, subst, ◌∙◌, ℕ, ◌+◌, ◌<◌, ◌≤◌, Bool, true, false, ◌&&◌, List, [], ◌∷◌, ◌++◌, length, map, take, drop, fold}
use Rattle.std.specs.Prelude.{slice_index_or, Err, Option}
use Rattle.std.specs.List.{list_all, flat_map}
use Rattle.std.proofs.lemmas.List.{take_more, take_all, take-append-drop}
use Rattle.std.proofs.lemmas.List.Concat.{flat_map-append}
use Rattle.exact_lin.specs.Reckoning.{wide_limit}
use Rattle.exact_lin.specs.Reckonings.{Reckoning, IsDefined}
use Rattle.exact_lin.specs.declared.faults.FormFault.{FormFault}
use Rattle.basics.proofs.Bools.{and_assoc}
use Rattle.basics.proofs.Lists.{each_left, each_right}
use Rattle.task_types.proofs.Places.{flat_map-take-more}
use Rattle.timed_meaning.specs.Answers.{Defined, Tells}
use Rattle.timed_meaning.proofs.Amounts.{append-in, part-fault}
use Rattle.plan_validator.specs.Firsts.{Place, Note, noted, all_noted}

module _ {X : Type 0} (xs : List X) (i : ℕ) (x : X) (h : i < length xs) (e : x ≡ slice_index_or xs i x) where
  pub take-one : take (i + 1) xs ≡ take i xs ++ x ∷ []
  take-one = take_more xs i x h ∙ ap (λ y. take i xs ++ y ∷ []) (sym e)

  pub defined-more : (G : X → List Reckoning) → Defined (flat_map G (take i xs)) → Defined (G x) → Defined (flat_map G (take (i + 1) xs))
  defined-more G d g = subst Defined (sym (flat_map-take-more G xs i x h e)) (append-in (flat_map G (take i xs)) (G x) d g)

  pub defined-part : (G : X → List Reckoning) → Defined (flat_map G xs) → Defined (G x)
  defined-part G d = each_right (IsDefined wide_limit) (flat_map G (take i xs)) (G x) (subst Defined (flat_map-take-more G xs i x h e)
      (each_left (IsDefined wide_limit) (flat_map G (take (i + 1) xs)) (flat_map G (drop (i + 1) xs)) (subst Defined (ap (flat_map G) (sym (take-append-drop (i + 1) xs)) ∙ flat_map-append G (take (i + 1) xs) (drop (i + 1) xs)) d)))

  pub stops : {A B : Type 0} (f : FormFault) (G : X → List Reckoning) (P : A → Type 0) (Q : B → Type 0) → Tells (Err f) (G x) P → Tells (Err f) (flat_map G xs) Q
  stops f G P Q t = part-fault f (G x) (flat_map G xs) P Q (defined-part G) t

  all-put : (p : X → Bool) (ys : List X) → list_all p (ys ++ x ∷ []) ≡ (list_all p ys && p x)
  all-put p [] = go (p x)
    where
      go : (b : Bool) → (b && true) ≡ b
      go true = refl
      go false = refl
  all-put p (y ∷ ys) = ap (λ b. p y && b) (all-put p ys) ∙ sym (and_assoc (p y) (list_all p ys) (p x))

  pub all-more : (p : X → Bool) → list_all p (take (i + 1) xs) ≡ (list_all p (take i xs) && p x)
  all-more p = ap (list_all p) take-one ∙ all-put p (take i xs)

  fold-put : {A : Type 0} (f : A → X → A) (a : A) (ys : List X) → fold f a (ys ++ x ∷ []) ≡ f (fold f a ys) x
  fold-put f a [] = refl
  fold-put f a (y ∷ ys) = fold-put f (f a y) ys

  pub fold-more : {A : Type 0} (f : A → X → A) (a : A) → fold f a (take (i + 1) xs) ≡ f (fold f a (take i xs)) x
  fold-more f a = ap (fold f a) take-one ∙ fold-put f a (take i xs)

-- notes of the elements of a list, one more
pub noted-more : {X : Type 0} (xs : List X) (i : ℕ) (x : X) → i < length xs → x ≡ slice_index_or xs i x → (note : X → Note) (o : Option Place) → all_noted o (map note (take (i + 1) xs)) ≡ noted (all_noted o (map note (take i xs))) (note x)
noted-more {X = X} xs i x h e note o = ap (λ l. all_noted o (map note l)) (take-one xs i x h e) ∙ put (take i xs) o
  where
    put : (ys : List X) (o : Option Place) → all_noted o (map note (ys ++ x ∷ [])) ≡ noted (all_noted o (map note ys)) (note x)
    put [] o = refl
    put (y ∷ ys) o = put ys (noted o (note y))

pub whole : {X : Type 0} (xs : List X) (i : ℕ) → length xs ≤ i → take i xs ≡ xs
whole xs i h = take_all i xs h
