-- A filter over all choices, in nested loops.
use Rattle.std.proofs.Common.{◌≡◌, refl, sym, ap, ap₂, ◌∙◌, ℕ, Bool, true, false, cond, List, [], ◌∷◌, ◌++◌, map, append_assoc, if◌then◌else◌}
use Rattle.std.specs.List.{flat_map, filter}
use Rattle.std.proofs.lemmas.List.{map-append}
use Rattle.std.proofs.lemmas.List.Elements.{filter-append}
use Rattle.ground_world.specs.Bindings.{choices}
use Rattle.ground_world.specs.Laws.{FilterIsNested}

-- the choices behind o, behind what stands before
one_further : (before : List ℕ) (o : ℕ) (rests : List (List ℕ)) → map (λ rest. before ++ rest) (map (λ rest. o ∷ rest) rests) ≡ map (λ rest. (before ++ (o ∷ [])) ++ rest) rests
one_further before o [] = refl
one_further before o (rest ∷ rests) = ap₂ (λ x l. x ∷ l) (sym (append_assoc before (o ∷ []) rest)) (one_further before o rests)

nothing : (p : List ℕ → Bool) (start : List ℕ) (rests : List (List ℕ)) → ((rest : List ℕ) → p (start ++ rest) ≡ false) → filter p (map (λ rest. start ++ rest) rests) ≡ []
nothing p start [] h = refl
nothing p start (rest ∷ rests) h = ap (λ b. cond b ((start ++ rest) ∷ filter p (map (λ r. start ++ r) rests)) (filter p (map (λ r. start ++ r) rests))) (h rest) ∙ nothing p start rests h

pub filter-nested : FilterIsNested
filter-nested p alive before c cs h = over c
  where
    here : (o : ℕ) (b : Bool) → alive (before ++ (o ∷ [])) ≡ b → filter p (map (λ rest. (before ++ (o ∷ [])) ++ rest) (choices cs)) ≡ (if b then filter p (map (λ rest. (before ++ (o ∷ [])) ++ rest) (choices cs)) else [])
    here o true e = refl
    here o false e = nothing p (before ++ (o ∷ [])) (choices cs) (λ rest. h (before ++ (o ∷ [])) rest e)

    over : (os : List ℕ) → filter p (map (λ rest. before ++ rest) (flat_map (λ o. map (λ rest. o ∷ rest) (choices cs)) os)) ≡ flat_map (λ o. if alive (before ++ (o ∷ [])) then filter p (map (λ rest. (before ++ (o ∷ [])) ++ rest) (choices cs)) else []) os
    over [] = refl
    over (o ∷ os) =
        ap (filter p) (map-append (λ rest. before ++ rest) (map (λ rest. o ∷ rest) (choices cs)) (flat_map (λ o. map (λ rest. o ∷ rest) (choices cs)) os))
        ∙ filter-append p (map (λ rest. before ++ rest) (map (λ rest. o ∷ rest) (choices cs))) _
        ∙ ap₂ (λ l m. l ++ m) (ap (filter p) (one_further before o (choices cs)) ∙ here o (alive (before ++ (o ∷ []))) refl) (over os)
