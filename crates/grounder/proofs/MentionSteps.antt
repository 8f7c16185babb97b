-- The fluents without a value that a binding mentions, item by item.
use Rattle.std.proofs.Common.{◌≡◌, refl, sym, ap, ◌∙◌, ℕ, Bool, true, false, not, ◌&&◌, List, [], ◌∷◌, ◌++◌, map, cond}
use Rattle.std.specs.Prelude.{IsTrue, ◌↔◌}
use Rattle.std.specs.List.{flat_map, filter, list_all}
use Rattle.std.proofs.lemmas.List.Concat.{flat_map-append}
use Rattle.ground_world.specs.World.{World, Env, GroundAtom}
use Rattle.ground_world.specs.Conditions.{tests_in}
use Rattle.ground_world.specs.FirstState.{has_value, unvalued_places, no_places}
use Rattle.ground_world.specs.Expressions.{mentioned}
use Rattle.ground_world.specs.Shown.{part_of, parts_of}
use Rattle.ground_world.specs.ShownBounds.{bounds_of}
use Rattle.ground_world.specs.ShownChanges.{change_of, changes_of}
use Rattle.ground_world.specs.declared.changes.StagedChange.{StagedChange}
use Rattle.ground_world.specs.declared.durations.DurationBound.{DurationBound}
use Rattle.ground_world.specs.declared.parts.CondPart.{CondPart}
use Rattle.ground_world.proofs.UnvaluedPlaces.{unvalued-append}
use Rattle.grounder.specs.Instances.{test_mentions, change_mentions}
use Rattle.grounder.proofs.Pushing.{flat_map-more}

module _ (w : World) (env : Env) where
  -- what several items mention, one item more
  unvalued-more : {X Y : Type 0} (f : Y → List (ℕ × GroundAtom)) (g : X → Y) (xs : List X) (x : X)
      → unvalued_places w (flat_map f (map g (xs ++ (x ∷ [])))) ≡ unvalued_places w (flat_map f (map g xs)) ++ unvalued_places w (f (g x))
  unvalued-more f g xs x = ap (unvalued_places w) (flat_map-more f g xs x) ∙ unvalued-append w (flat_map f (map g xs)) (f (g x))

  pub in_bounds-more : (bs : List DurationBound) (b : DurationBound)
      → unvalued_places w (flat_map (λ l. mentioned w env l.expression) (bounds_of (bs ++ (b ∷ []))))
      ≡ unvalued_places w (flat_map (λ l. mentioned w env l.expression) (bounds_of bs)) ++ unvalued_places w (mentioned w env b.expression.now)
  in_bounds-more bs b = unvalued-more (λ l. mentioned w env l.expression) (λ x. record { at_end = x.at_end; order = x.order; expression = x.expression.now }) bs b

  pub in_parts-more : (ps : List CondPart) (p : CondPart)
      → unvalued_places w (flat_map (test_mentions w) (flat_map tests_in (parts_of (ps ++ (p ∷ [])))))
      ≡ unvalued_places w (flat_map (test_mentions w) (flat_map tests_in (parts_of ps))) ++ unvalued_places w (flat_map (test_mentions w) (tests_in (part_of p)))
  in_parts-more ps p =
      ap (λ ts. unvalued_places w (flat_map (test_mentions w) ts)) (flat_map-more tests_in part_of ps p)
      ∙ ap (unvalued_places w) (flat_map-append (test_mentions w) (flat_map tests_in (parts_of ps)) (tests_in (part_of p)))
      ∙ unvalued-append w (flat_map (test_mentions w) (flat_map tests_in (parts_of ps))) (flat_map (test_mentions w) (tests_in (part_of p)))

  pub in_changes-more : (cs : List StagedChange) (c : StagedChange)
      → unvalued_places w (flat_map (λ x. change_mentions w env x.part) (changes_of (cs ++ (c ∷ []))))
      ≡ unvalued_places w (flat_map (λ x. change_mentions w env x.part) (changes_of cs)) ++ unvalued_places w (change_mentions w env (change_of c.change))
  in_changes-more cs c = unvalued-more (λ x. change_mentions w env x.part) (λ x. record { stage = x.stage; part = change_of x.change }) cs c

-- no place is left where all have values
pub no_places-all : (w : World) (fs : List (ℕ × GroundAtom)) → no_places (unvalued_places w fs) ≡ list_all (λ f. has_value w f.1) fs
no_places-all w [] = refl
no_places-all w (f ∷ fs) = by (has_value w f.1) (no_places-all w fs)
  where
    by : (b : Bool) → no_places (unvalued_places w fs) ≡ list_all (λ f. has_value w f.1) fs
        → no_places (map (λ x. x.0) (cond (not b) (f ∷ filter (λ x. not (has_value w x.1)) fs) (filter (λ x. not (has_value w x.1)) fs))) ≡ (b && list_all (λ x. has_value w x.1) fs)
    by true h = h
    by false h = refl

nothing-left : (r : Bool) (ps : List ℕ) → (IsTrue r ↔ (ps ≡ [])) → r ≡ no_places ps
nothing-left true ps h = ap no_places (sym (h.0 refl))
nothing-left false [] h = h.1 refl
nothing-left false (p ∷ ps) h = refl

-- whether the places found in three lists, one behind the other, are none
pub valued-by : (w : World) (bs ts cs : List (ℕ × GroundAtom)) (one two three : List ℕ) (r : Bool) → one ≡ [] ++ unvalued_places w bs
    → two ≡ one ++ unvalued_places w ts → three ≡ two ++ unvalued_places w cs → (IsTrue r ↔ (three ≡ [])) → r ≡ list_all (λ f. has_value w f.1) (bs ++ ts ++ cs)
valued-by w bs ts cs one two three r h k l m =
    nothing-left r three m
    ∙ ap no_places (l ∙ ap (λ xs. xs ++ unvalued_places w cs) (k ∙ ap (λ xs. xs ++ unvalued_places w ts) h ∙ sym (unvalued-append w bs ts)) ∙ sym (unvalued-append w (bs ++ ts) cs))
    ∙ no_places-all w (bs ++ ts ++ cs)
