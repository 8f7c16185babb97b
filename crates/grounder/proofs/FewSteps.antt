-- How many snap actions and moments there are at most.
use Rattle.std.proofs.Common.{ℕ, suc, ◌+◌, ◌*◌, ◌≤◌, arith, Bool, true, false, List, [], ◌∷◌, length}
use Rattle.std.specs.Prelude.{if◌then◌else◌}
use Rattle.std.specs.List.{flat_map, enumerate_from}
use Rattle.std.proofs.lemmas.List.{length-append}
use Rattle.rational.specs.Rational.{ℚ}
use Rattle.task_types.specs.Tests.{◌<?◌, ◌=?◌}
use Rattle.grounder.specs.Instances.{Instance}
use Rattle.grounder.specs.Task.{Ground, Timing, action_snaps, moments, snaps_of, with_moment}
use Rattle.grounder.proofs.ActionNumbers.{few-snaps}

pub snaps-few : (g : Ground) (is : List Instance) → length (action_snaps g is) ≤ 2 * length is
snaps-few g is = from 0 is
  where
    from : (a : ℕ) (more : List Instance) → length (flat_map (λ x. snaps_of g x.0 x.1) (enumerate_from a more)) ≤ 2 * length more
    from a [] = omega arith
    from a (i ∷ more) =
        let few = few-snaps g a i in
        let rest = from (a + 1) more in
        let both = length-append (snaps_of g a i) (flat_map (λ x. snaps_of g x.0 x.1) (enumerate_from (a + 1) more)) in
        omega (arith, few, rest, both)

with_moment-few : (t : ℚ) (us : List ℚ) → length (with_moment t us) ≤ suc (length us)
with_moment-few t [] = omega arith
with_moment-few t (u ∷ us) = by (with_moment t us) (with_moment-few t us) (t <? u) (t =? u)
  where
    by : (more : List ℚ) → length more ≤ suc (length us) → (below same : Bool)
        → length (if below then t ∷ u ∷ us else (if same then u ∷ us else (u ∷ more))) ≤ suc (suc (length us))
    by more h true same = omega arith
    by more h false true = omega arith
    by more h false false = omega arith

pub moments-few : (ls : List Timing) → length (moments ls) ≤ length ls
moments-few [] = omega arith
moments-few (l ∷ ls) = let one = with_moment-few l.moment (moments ls) in let rest = moments-few ls in omega (arith, one, rest)
