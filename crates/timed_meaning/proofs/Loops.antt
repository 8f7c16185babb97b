-- One element more of loops that push something of each numbered element.
use Rattle.std.proofs.Common.{◌≡◌, sym, ap, ◌∙◌, ℕ, ◌+◌, ◌<◌, List, [], ◌∷◌, ◌++◌, length, map, take, drop, append_assoc}
use Rattle.std.specs.Prelude.{slice_index_or}
use Rattle.std.specs.List.{flat_map, enumerate_from}
use Rattle.std.proofs.lemmas.List.{map-append, drop_more}
use Rattle.task_types.proofs.Places.{enumerate-more, flat_map-enumerate-more}

pub one-numbered : {X Y : Type 0} (f : ℕ × X → Y) (out new start : List Y) (xs : List X) (i : ℕ) (x : X) → i < length xs → x ≡ slice_index_or xs i x → out ≡ start ++ map f (enumerate_from 0 (take i xs)) → new ≡ out ++ f (i, x) ∷ []
    → new ≡ start ++ map f (enumerate_from 0 (take (i + 1) xs))
one-numbered f out new start xs i x h e o n = n ∙ ap (λ l. l ++ f (i, x) ∷ []) o ∙ append_assoc start (map f (enumerate_from 0 (take i xs))) (f (i, x) ∷ [])
    ∙ ap (λ l. start ++ l) (sym (ap (map f) (enumerate-more xs i x h e) ∙ map-append f (enumerate_from 0 (take i xs)) ((i, x) ∷ [])))

pub numbered-lists : {X Y : Type 0} (f : ℕ × X → List Y) (out new start : List Y) (xs : List X) (i : ℕ) (x : X) → i < length xs → x ≡ slice_index_or xs i x → out ≡ start ++ flat_map f (enumerate_from 0 (take i xs)) → new ≡ out ++ f (i, x)
    → new ≡ start ++ flat_map f (enumerate_from 0 (take (i + 1) xs))
numbered-lists f out new start xs i x h e o n = n ∙ ap (λ l. l ++ f (i, x)) o ∙ append_assoc start (flat_map f (enumerate_from 0 (take i xs))) (f (i, x)) ∙ ap (λ l. start ++ l) (sym (flat_map-enumerate-more f xs i x h e))

-- lists pushed for what each element has, one element more
pub pushed_of : {X Y A : Type 0} (F : Y → List A) (f : X → Y) (out new all : List A) (xs : List X) (i : ℕ) (x : X) → i < length xs → x ≡ slice_index_or xs i x → new ≡ out ++ F (f x) → out ++ flat_map F (map f (drop i xs)) ≡ all
    → new ++ flat_map F (map f (drop (i + 1) xs)) ≡ all
pushed_of F f out new all xs i x h e n k = ap (λ l. l ++ flat_map F (map f (drop (i + 1) xs))) n ∙ append_assoc out (F (f x)) (flat_map F (map f (drop (i + 1) xs)))
    ∙ ap (λ y. out ++ (F (f y) ++ flat_map F (map f (drop (i + 1) xs)))) e ∙ ap (λ l. out ++ flat_map F (map f l)) (sym (drop_more xs i x h)) ∙ k
