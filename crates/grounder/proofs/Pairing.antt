-- Variables paired with objects, one pair more.
use Rattle.std.proofs.Common.{◌≡◌, refl, sym, ap, ap₂, ◌∙◌, ℕ, ◌+◌, ◌<◌, ◌≤◌, arith, min, List, [], ◌∷◌, ◌++◌, length, drop, get_or, append_assoc, add-one, ⊎_elim}
use Rattle.std.proofs.Math.Seq.{drop-cons}
use Rattle.std.proofs.lemmas.Bool.{cases_lt}
use Rattle.std.proofs.lemmas.List.{map-append, append-nil, drop_all}
use Rattle.pddl_names.specs.Declarations.{Text}
use Rattle.ground_world.specs.World.{Env}
use Rattle.ground_world.specs.Bindings.{paired}
use Rattle.ground_world.specs.Shown.{env_of, names_of}
use Rattle.ground_world.specs.declared.binding.Bound.{Bound}
use Rattle.ground_world.specs.declared.choosing.Variable.{Variable}
use Rattle.basics.proofs.Lists.{drop_item}

pub paired-step : (vs : List Variable) (os : List ℕ) (i : ℕ) (v : Variable) (before after : List Bound) (whole : Env)
    → i < length vs → i < length os → v ≡ get_or vs i v
    → env_of before ++ paired (names_of (drop i vs)) (drop i os) ≡ whole → after ≡ before ++ (record { name = v.name; object = get_or os i 0 } ∷ [])
    → env_of after ++ paired (names_of (drop (i + 1) vs)) (drop (i + 1) os) ≡ whole
paired-step vs os i v before after whole lt within at h k =
    let rest : Env = paired (names_of (drop (i + 1) vs)) (drop (i + 1) os) in
    let objects : drop i os ≡ get_or os i 0 ∷ drop (i + 1) os = drop-cons os i 0 within ∙ ap (λ n. get_or os i 0 ∷ drop n os) (sym (add-one i)) in
    ap (λ (bs : List Bound). env_of bs ++ rest) k
    ∙ ap (λ (e : Env). e ++ rest) (map-append (λ (b : Bound). (b.name.now, b.object)) before (record { name = v.name; object = get_or os i 0 } ∷ []))
    ∙ append_assoc (env_of before) ((v.name.now, get_or os i 0) ∷ []) rest
    ∙ ap (λ (e : Env). env_of before ++ e) (sym (ap₂ (λ (ws : List Variable) (ps : List ℕ). paired (names_of ws) ps) (drop_item vs i v lt at) objects))
    ∙ h

no-objects : (ns : List Text) → paired ns [] ≡ []
no-objects [] = refl
no-objects (n ∷ ns) = refl

-- nothing is left behind the shorter of the two lists
pub paired-all : (vs : List Variable) (os : List ℕ) (i : ℕ) (made whole : Env) → min (length vs) (length os) ≤ i
    → made ++ paired (names_of (drop i vs)) (drop i os) ≡ whole → made ≡ whole
paired-all vs os i made whole h k = sym (append-nil made) ∙ ap (λ (e : Env). made ++ e) (sym nothing) ∙ k
  where
    nothing : paired (names_of (drop i vs)) (drop i os) ≡ []
    nothing = ⊎_elim
        (λ (l : i < length vs). ap (paired (names_of (drop i vs))) (drop_all i os (omega arith)) ∙ no-objects (names_of (drop i vs)))
        (λ (l : length vs ≤ i). ap (λ (ws : List Variable). paired (names_of ws) (drop i os)) (drop_all i vs l))
        (cases_lt i (length vs))
