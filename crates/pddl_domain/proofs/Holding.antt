-- What a list of one or none gives up.
use Rattle.std.proofs.Common.{◌≡◌, refl, sym, ap, ◌∙◌, List, [], ◌∷◌, ◌++◌, Option, Some, None}
use Rattle.std.specs.Prelude.{MatchOption}
use Rattle.pddl_domain.specs.Held.{held}

not_empty : {A : Type 0} (xs : List A) (x : A) → xs ++ x ∷ [] ≡ [] → ⊥
not_empty [] x e = cc
not_empty (y ∷ ys) x e = cc

last_is : {A : Type 0} (xs : List A) (y x : A) → xs ++ y ∷ [] ≡ x ∷ [] → y ≡ x
last_is [] y x e = cc
last_is (z ∷ zs) y x e = let rest : zs ++ y ∷ [] ≡ [] = cc in absurd (not_empty zs y rest)

pub given_up : {A : Type 0} (r o : Option A) (old new : List A) → MatchOption r ((old ≡ []) × (new ≡ [])) (λ last. old ≡ new ++ last ∷ []) → old ≡ held o → r ≡ o
given_up None None old new m e = refl
given_up None (Some x) old new m e = let none : old ≡ [] = m.0 in absurd (cc)
given_up (Some y) None old new m e = absurd (not_empty new y (sym m ∙ e))
given_up (Some y) (Some x) old new m e = ap Some (last_is new y x (sym m ∙ e))

pub only_one : {A : Type 0} (new old : List A) (x : A) → old ≡ [] → new ≡ old ++ x ∷ [] → new ≡ x ∷ []
only_one new old x e f = f ∙ ap (λ l. l ++ x ∷ []) e
