use Rattle.std.proofs.Common.{◌≡◌, sym, ap, ◌∙◌, ℕ, not, cond, is_some, List, [], ◌∷◌, ◌++◌, map, Option, Some, None}
use Rattle.std.proofs.lemmas.List.{append-nil}
use Rattle.rational.specs.Rational.{ℚ}
use Rattle.ground_world.specs.World.{World, GroundAtom, place_in}
use Rattle.ground_world.specs.FirstState.{unvalued_places}
use Rattle.ground_world.specs.Shown.{world_of}
use Rattle.ground_world.proofs.comparing.push_bare_unvalued.Goals as goal

-- the place of a fluent by whether it has a value
abbrev place_if : ℕ → GroundAtom → Option ℚ → List ℕ
place_if p key value = map {A = ℕ × GroundAtom} (λ f. f.0) (cond (not (is_some value)) ((p, key) ∷ []) [])

valued : (w : World) (p : ℕ) (key : GroundAtom) (q : ℚ) (old : List ℕ) → Some q ≡ w.value_of key → old ≡ old ++ unvalued_places w ((p, key) ∷ [])
valued w p key q old h = sym (append-nil old) ∙ ap (λ value. old ++ place_if p key value) h

lacking : (w : World) (p : ℕ) (key : GroundAtom) (old new : List ℕ) → None ≡ w.value_of key → new ≡ old ++ (p ∷ []) → new ≡ old ++ unvalued_places w ((p, key) ∷ [])
lacking w p key old new h k = k ∙ ap (λ value. old ++ place_if p key value) h

pub returns-in-Some : goal.returns-in-Some
returns-in-Some c =
    let w = world_of c.args.tables.now in
    let key = c.function.ensures ∙ ap (place_in w.functions) c.as_slice.ensures in
    valued w c.args.name.now.at (place_in w.functions c.args.name.now.bytes ∷ []) c.in-Some.field-0 c.args.out.now (c.in-Some.ensures ∙ ap (λ n. w.value_of (n ∷ [])) key)

pub returns-in_ok-push-in-None : goal.returns-in_ok-push-in-None
returns-in_ok-push-in-None c =
    let w = world_of c.args.tables.now in
    let key = c.function.ensures ∙ ap (place_in w.functions) c.as_slice.ensures in
    lacking w c.args.name.now.at (place_in w.functions c.args.name.now.bytes ∷ []) c.args.out.now c.push.new.self (c.in-None.ensures ∙ ap (λ n. w.value_of (n ∷ [])) key) c.in_ok-push-in-None.ensures.ok
