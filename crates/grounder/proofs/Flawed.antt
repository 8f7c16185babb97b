-- The flaws of what a binding reckons, item by item.
use Rattle.std.proofs.Common.{◌≡◌, refl, sym, ap, ◌∙◌, ℕ, true, false, List, [], ◌∷◌, ◌++◌, map, Some, None}
use Rattle.std.specs.List.{flat_map}
use Rattle.std.proofs.lemmas.List.{map-append, append-nil}
use Rattle.std.proofs.lemmas.List.Concat.{flat_map-append}
use Rattle.ground_world.specs.World.{World, Env}
use Rattle.ground_world.specs.Conditions.{tests_in, difference}
use Rattle.ground_world.specs.Expressions.{Reckoned, reckoned}
use Rattle.ground_world.specs.FirstState.{no_places}
use Rattle.ground_world.specs.Shown.{part_of, parts_of}
use Rattle.ground_world.specs.ShownBounds.{bounds_of}
use Rattle.ground_world.specs.ShownChanges.{change_of, changes_of}
use Rattle.ground_world.specs.declared.changes.StagedChange.{StagedChange}
use Rattle.ground_world.specs.declared.durations.DurationBound.{DurationBound}
use Rattle.ground_world.specs.declared.parts.CondPart.{CondPart}
use Rattle.grounder.specs.Answer.{least}
use Rattle.grounder.specs.Instances.{no_unknowns, flaws_of, change_reckons}
use Rattle.grounder.specs.Bindings.{bound_flaws, test_flaws, change_flaws}
use Rattle.grounder.proofs.Pushing.{flat_map-more}

pub flaws-append : (rs ss : List Reckoned) → flaws_of (rs ++ ss) ≡ flaws_of rs ++ flaws_of ss
flaws-append rs ss = flat_map-append (λ (r : Reckoned). r.flaws) rs ss

pub flaws-joined : (rs ss ts : List Reckoned) → flaws_of rs ++ flaws_of ss ++ flaws_of ts ≡ flaws_of (rs ++ ss ++ ts)
flaws-joined rs ss ts = sym (flaws-append (rs ++ ss) ts ∙ ap (λ l. l ++ flaws_of ts) (flaws-append rs ss))

flaws-one : (r : Reckoned) → flaws_of (r ∷ []) ≡ r.flaws
flaws-one r = append-nil r.flaws

module _ (w : World) (env : Env) where
  pub of_bounds-more : (bs : List DurationBound) (b : DurationBound)
      → bound_flaws w env (bounds_of (bs ++ (b ∷ []))) ≡ bound_flaws w env (bounds_of bs) ++ (reckoned w no_unknowns env b.expression.now).flaws
  of_bounds-more bs b =
      ap (bound_flaws w env) (map-append (λ x. record { at_end = x.at_end; order = x.order; expression = x.expression.now }) bs (b ∷ []))
      ∙ flat_map-more (λ (r : Reckoned). r.flaws) (λ l. reckoned w no_unknowns env l.expression) (bounds_of bs) (record { at_end = b.at_end; order = b.order; expression = b.expression.now })

  pub of_parts-more : (ps : List CondPart) (p : CondPart)
      → test_flaws w (flat_map tests_in (parts_of (ps ++ (p ∷ [])))) ≡ test_flaws w (flat_map tests_in (parts_of ps)) ++ test_flaws w (tests_in (part_of p))
  of_parts-more ps p =
      ap (test_flaws w) (flat_map-more tests_in part_of ps p)
      ∙ ap flaws_of (map-append (difference w no_unknowns) (flat_map tests_in (parts_of ps)) (tests_in (part_of p)))
      ∙ flaws-append (map (difference w no_unknowns) (flat_map tests_in (parts_of ps))) (map (difference w no_unknowns) (tests_in (part_of p)))

  pub of_changes-more : (cs : List StagedChange) (c : StagedChange)
      → change_flaws w env (changes_of (cs ++ (c ∷ []))) ≡ change_flaws w env (changes_of cs) ++ flaws_of (change_reckons w env (change_of c.change))
  of_changes-more cs c =
      ap flaws_of (flat_map-more (λ x. change_reckons w env x.part) (λ x. record { stage = x.stage; part = change_of x.change }) cs c)
      ∙ flaws-append (flat_map (λ x. change_reckons w env x.part) (changes_of cs)) (change_reckons w env (change_of c.change))

-- there is a least place where there is one
pub some-place : (ps : List ℕ) (p : ℕ) → least ps ≡ Some p → no_places ps ≡ false
some-place [] p e = cc
some-place (q ∷ ps) p e = refl

pub no-place : (ps : List ℕ) → least ps ≡ None → no_places ps ≡ true
no-place [] e = refl
no-place (q ∷ ps) e = cc
