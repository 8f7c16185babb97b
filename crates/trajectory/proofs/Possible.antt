-- What a verdict tells of the states of an ordering.
use Rattle.std.proofs.Common.{◌≡◌, refl, sym, ap, ◌∙◌, ℕ, suc, Bool, true, false, ◌&&◌, ◌||◌, [], ◌∷◌, length, arith}
use Rattle.std.specs.Prelude.{Option, Some, None, position, is_some, ◌==◌, if◌then◌else◌}
use Rattle.std.specs.List.{list_any}
use Rattle.std.specs.Option.{option_map}
use Rattle.std.proofs.lemmas.Bool.Decides.{nat_tests}
use Rattle.rational.specs.Rational.{zeroℚ}
use Rattle.task_types.specs.declared.constraints.Trail.{Trail}
use Rattle.task_types.specs.declared.constraints.TrailKind.{TrailKind}
use Rattle.task_types.specs.declared.constraints.TrailKind.TheVariants.{Always, Sometime, Within, AtMostOnce, SometimeAfter, SometimeBefore, AtEnd}
use Rattle.task_types.specs.Tests.{◌≤?◌, some, ◌⇒◌}
use Rattle.task_types.specs.State.{tree_holds}
use Rattle.task_types.specs.Trace.{Trace, Moment, at, met, first_state}
use Rattle.task_types.specs.Blocking.{may_be_met}
use Rattle.task_types.proofs.Sayings.{constraints_along}
use Rattle.trajectory.specs.declared.automaton.TrailEnd.TheVariants.{Met, Broken}
use Rattle.trajectory.specs.Verdicts.{verdict_by, verdict_on, timed_or_broken}
use Rattle.trajectory.specs.Laws.{tells_possible}
use Rattle.trajectory.proofs.FirstStates.{position-cons}

-- whether the first state in which a formula holds, if there is one, isn't the initial state or passes a test
abbrev may_be_soon : Bool → Option ℕ → Bool
may_be_soon b None = false
may_be_soon b (Some k) = k == 0 ⇒ b

module _ (p : Moment → Bool) where
  some_is_first : (ms : Trace) → list_any p ms ≡ is_some (position p ms)
  some_is_first [] = refl
  some_is_first (m ∷ ms) = ap (λ b. p m || b) (some_is_first ms) ∙ go (p m) (position p ms) ∙ ap is_some (sym (position-cons p m ms))
    where
      go : (b : Bool) (o : Option ℕ) → (b || is_some o) ≡ is_some (if b then Some 0 else option_map suc o)
      go true o = refl
      go false None = refl
      go false (Some k) = refl

  not_zero : (k : ℕ) → (suc k == 0) ≡ false
  not_zero k = grind (arith, nat_tests)

  first_decides : (b : Bool) (ms : Trace) → (list_any p ms && (at ms 0 p ⇒ b)) ≡ may_be_soon b (position p ms)
  first_decides b [] = refl
  first_decides b (m ∷ ms) = ap (λ c. (p m || c) && (p m ⇒ b)) (some_is_first ms) ∙ go (p m) (position p ms) ∙ ap (may_be_soon b) (sym (position-cons p m ms))
    where
      go : (c : Bool) (o : Option ℕ) → ((c || is_some o) && (c ⇒ b)) ≡ may_be_soon b (if c then Some 0 else option_map suc o)
      go true o = refl
      go false None = refl
      go false (Some k) = sym (ap (λ c. c ⇒ b) (not_zero k))

some_along : (c : Trail) (states : Trace) → some (length states) (λ k. at states k (λ m. tree_holds c.first m.facts)) ≡ list_any (λ m. tree_holds c.first m.facts) states
unfolding met
some_along c states = constraints_along.along (record c { kind = Sometime }) states

possible_timed : (c : Trail) (o : Option ℕ) → may_be_soon (zeroℚ ≤? c.moment) o ≡ tells_possible c (timed_or_broken o)
possible_timed c None = refl
possible_timed c (Some k) = refl

possible_kept : (c : Trail) (b : Bool) → b ≡ tells_possible c (if b then Met else Broken)
possible_kept c true = refl
possible_kept c false = refl

pub verdict-possible : (c : Trail) (states : Trace) → may_be_met c.kind c states ≡ tells_possible c (verdict_on c states)
unfolding first_state
verdict-possible c states = go c.kind
  where
    go : (kind : TrailKind) → may_be_met kind c states ≡ tells_possible c (verdict_by kind (met c states) (first_state c.first states))
    go Always = possible_kept c (met c states)
    go Sometime = possible_kept c (met c states)
    go Within = ap (λ b. b && (at states 0 (λ m. tree_holds c.first m.facts) ⇒ (zeroℚ ≤? c.moment))) (some_along c states)
        ∙ first_decides (λ m. tree_holds c.first m.facts) (zeroℚ ≤? c.moment) states
        ∙ possible_timed c (position (λ (m : Moment). tree_holds c.first m.facts) states)
    go AtMostOnce = possible_kept c (met c states)
    go SometimeAfter = possible_kept c (met c states)
    go SometimeBefore = possible_kept c (met c states)
    go AtEnd = possible_kept c (met c states)
