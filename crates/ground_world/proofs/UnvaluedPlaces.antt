-- The places of fluents without a first value, of lists one behind the other.
use Rattle.std.proofs.Common.{◌≡◌, sym, ap, ◌∙◌, ℕ, not, List, ◌++◌, map, append_assoc}
use Rattle.std.specs.List.{filter}
use Rattle.std.proofs.lemmas.List.{map-append}
use Rattle.std.proofs.lemmas.List.Elements.{filter-append}
use Rattle.ground_world.specs.World.{World, GroundAtom}
use Rattle.ground_world.specs.FirstState.{has_value, unvalued_places}

pub unvalued-append : (w : World) (xs ys : List (ℕ × GroundAtom))
    → unvalued_places w (xs ++ ys) ≡ unvalued_places w xs ++ unvalued_places w ys
unvalued-append w xs ys =
    ap (map (λ f. f.0)) (filter-append (λ f. not (has_value w f.1)) xs ys)
    ∙ map-append (λ f. f.0) (filter (λ f. not (has_value w f.1)) xs) (filter (λ f. not (has_value w f.1)) ys)

-- two lists, one after the other
pub unvalued-joined : (w : World) (old : List ℕ) (xs ys : List (ℕ × GroundAtom))
    → (old ++ unvalued_places w xs) ++ unvalued_places w ys ≡ old ++ unvalued_places w (xs ++ ys)
unvalued-joined w old xs ys = append_assoc old _ _ ∙ ap (λ l. old ++ l) (sym (unvalued-append w xs ys))
