-- An automaton that has followed some states gives the verdict on them, and what the verdict tells.
use Rattle.std.proofs.Common.{◌≡◌, refl, sym, ap, ◌∙◌, ℕ, suc, ◌+◌, Bool, true, false, ◌&&◌, ◌||◌, List, [], ◌∷◌, ◌++◌, map, length, arith}
use Rattle.std.specs.Prelude.{Option, Some, None, position, if◌then◌else◌}
use Rattle.std.specs.List.{AllByRecursion, list_any}
use Rattle.std.specs.Option.{option_map}
use Rattle.std.proofs.lemmas.List.{length_push}
use Rattle.std.proofs.lemmas.List.Elements.{recursion_from_All}
use Rattle.rational.specs.Rational.{ℚ, ◌≤ℚ◌}
use Rattle.rational.proofs.Inequalities.{le_trans}
use Rattle.task_types.specs.declared.constraints.Trail.{Trail}
use Rattle.task_types.specs.declared.constraints.TrailKind.{TrailKind}
use Rattle.task_types.specs.declared.constraints.TrailKind.TheVariants.{Always, Sometime, Within, AtMostOnce, SometimeAfter, SometimeBefore, AtEnd}
use Rattle.task_types.specs.Tests.{◌≤?◌}
use Rattle.task_types.specs.State.{tree_holds}
use Rattle.task_types.specs.Trace.{Trace, Moment, at, met, first_state}
use Rattle.task_types.specs.Laws.{kept_along}
use Rattle.task_types.proofs.Comparisons.{le_out, le_in}
use Rattle.task_types.proofs.Sayings.{constraints_along}
use Rattle.trajectory.specs.declared.automaton.Automaton.{Automaton}
use Rattle.trajectory.specs.declared.automaton.TrailEnd.TheVariants.{Met, Broken}
use Rattle.trajectory.specs.declared.flags.Flags.{Flags}
use Rattle.trajectory.specs.Passing.{first_flags, next_flags, flags_after, kept_or_now}
use Rattle.trajectory.specs.Following.{Follows}
use Rattle.trajectory.specs.Verdicts.{verdict_by, verdict_on, timed_or_broken}
use Rattle.trajectory.specs.Laws.{NeverFall, tells_met}
use Rattle.trajectory.proofs.FirstStates.{position-cons, position-append}
use Rattle.trajectory.proofs.Following.{flags_after-append, met-along}

pub follows_none : (trail given : Trail) (flags : Flags) → trail ≡ given → flags ≡ first_flags given.kind → Follows record { trail = trail; flags = flags; first = None; taken = 0 } []
unfolding first_state
follows_none trail given flags e f = record { taken = refl; first = refl; flags = f ∙ ap (λ (c : Trail). first_flags c.kind) (sym e) }

-- x and y: whether the two formulas hold in the state that was taken
pub follows_on : (trail : Trail) (flags flags' : Flags) (first first' : Option ℕ) (taken taken' : ℕ) (m : Moment) (x y : Bool)
    → x ≡ tree_holds trail.first m.facts → y ≡ tree_holds trail.second m.facts
    → flags' ≡ next_flags trail.kind x y flags → first' ≡ kept_or_now first x taken → taken' ≡ taken + 1
    → (states : Trace) → Follows record { trail = trail; flags = flags; first = first; taken = taken } states
    → Follows record { trail = trail; flags = flags'; first = first'; taken = taken' } (states ++ m ∷ [])
unfolding first_state
follows_on trail flags flags' first first' taken taken' m x y a b e f g states h = record {
  taken = omega (arith, g, h.taken, length_push states m);
  first = f ∙ ap (λ o. kept_or_now o x taken) h.first
      ∙ ap (λ (n : ℕ). kept_or_now (position (λ (n : Moment). tree_holds trail.first n.facts) states) x n) h.taken
      ∙ ap (λ x. kept_or_now (position (λ (n : Moment). tree_holds trail.first n.facts) states) x (length states)) a
      ∙ sym (position-append (λ (n : Moment). tree_holds trail.first n.facts) states m);
  flags = e ∙ ap (next_flags trail.kind x y) h.flags ∙ ap (λ x. next_flags trail.kind x y so_far) a ∙ ap (λ y. next_flags trail.kind (tree_holds trail.first m.facts) y so_far) b
      ∙ sym (flags_after-append (λ (n : Moment). tree_holds trail.first n.facts) (λ (n : Moment). tree_holds trail.second n.facts) trail.kind (first_flags trail.kind) states m);
}
  where
    so_far : Flags
    so_far = flags_after trail.kind (λ (n : Moment). tree_holds trail.first n.facts) (λ (n : Moment). tree_holds trail.second n.facts) (first_flags trail.kind) states

-- ---- the verdict
verdict_by-other : (kind : TrailKind) (b : Bool) (o : Option ℕ) → ¬ (kind ≡ Within) → verdict_by kind b o ≡ (if b then Met else Broken)
verdict_by-other Always b o n = refl
verdict_by-other Sometime b o n = refl
verdict_by-other Within b o n = absurd (n refl)
verdict_by-other AtMostOnce b o n = refl
verdict_by-other SometimeAfter b o n = refl
verdict_by-other SometimeBefore b o n = refl
verdict_by-other AtEnd b o n = refl

pub verdict-other : (automaton : Automaton) → ¬ (automaton.trail.kind ≡ Within) → (states : Trace) → Follows automaton states
    → (b : Bool) → automaton.flags.met ≡ b → (if b then Met else Broken) ≡ verdict_on automaton.trail states
verdict-other automaton n states h b is =
    ap (λ b. if b then Met else Broken) (sym is) ∙ ap (λ b. if b then Met else Broken) (ap (λ (s : Flags). s.met) h.flags
    ∙ met-along (λ (m : Moment). tree_holds automaton.trail.first m.facts) (λ (m : Moment). tree_holds automaton.trail.second m.facts) automaton.trail.kind (λ (m : Moment). m.time ≤? automaton.trail.moment) states n
    ∙ sym (constraints_along.along automaton.trail states))
    ∙ sym (verdict_by-other automaton.trail.kind (met automaton.trail states) (first_state automaton.trail.first states) n)

-- ---- what it tells
-- whether the state of this number, if there is one, comes soon enough
abbrev is_soon : ℚ → Trace → Option ℕ → Bool
is_soon t states None = false
is_soon t states (Some k) = at states k (λ m. m.time ≤? t)

module _ (a : Moment → Bool) (t : ℚ) where
  later : (x y : ℚ) → x ≤ℚ y → (x ≤? t) ≡ false → (y ≤? t) ≡ false
  later x y le e = go (y ≤? t) refl
    where
      go : (b : Bool) → (y ≤? t) ≡ b → b ≡ false
      go true f = sym (le_in x t (le_trans x y t le (le_out y t f))) ∙ e
      go false f = refl

  none_soon : (x : ℚ) (ms : Trace) → AllByRecursion (λ n. x ≤ℚ n.time) ms → (x ≤? t) ≡ false → list_any (λ m. a m && (m.time ≤? t)) ms ≡ false
  none_soon x [] h e = refl
  none_soon x (m ∷ ms) h e = go (a m) (m.time ≤? t) (later x m.time h.0 e) (none_soon x ms h.1 e)
    where
      go : (b c : Bool) → c ≡ false → list_any (λ m. a m && (m.time ≤? t)) ms ≡ false → ((b && c) || list_any (λ m. a m && (m.time ≤? t)) ms) ≡ false
      go true true f g = absurd (cc)
      go true false f g = g
      go false c f g = g

  first_is_soon : (ms : Trace) → NeverFall ms → list_any (λ m. a m && (m.time ≤? t)) ms ≡ is_soon t ms (position a ms)
  first_is_soon [] h = refl
  first_is_soon (m ∷ ms) h = go (a m) (m.time ≤? t) refl (first_is_soon ms (λ i j d l k. h (suc i) (suc j) d (omega arith) (omega arith))) ∙ ap (is_soon t (m ∷ ms)) (sym (position-cons a m ms))
    where
      shifted : (o : Option ℕ) → is_soon t ms o ≡ is_soon t (m ∷ ms) (option_map suc o)
      shifted None = refl
      shifted (Some k) = refl

      go : (b c : Bool) → (m.time ≤? t) ≡ c → list_any (λ m. a m && (m.time ≤? t)) ms ≡ is_soon t ms (position a ms)
          → ((b && c) || list_any (λ m. a m && (m.time ≤? t)) ms) ≡ is_soon t (m ∷ ms) (if b then Some 0 else option_map suc (position a ms))
      go true true e g = sym e
      go true false e g = none_soon m.time ms (recursion_from_All (λ (n : Moment). m.time ≤ℚ n.time) ms (λ j d l. h 0 (suc j) d (omega arith) (omega arith))) e ∙ sym e
      go false c e g = g ∙ shifted (position a ms)

tells_timed : (c : Trail) (states : Trace) (o : Option ℕ) → is_soon c.moment states o ≡ tells_met c states (timed_or_broken o)
tells_timed c states None = refl
tells_timed c states (Some k) = refl

tells_kept : (c : Trail) (states : Trace) (b : Bool) → b ≡ tells_met c states (if b then Met else Broken)
tells_kept c states true = refl
tells_kept c states false = refl

pub verdict_tells : (c : Trail) (states : Trace) → NeverFall states → met c states ≡ tells_met c states (verdict_on c states)
unfolding first_state
verdict_tells c states h = go c.kind refl
  where
    go : (kind : TrailKind) → c.kind ≡ kind → met c states ≡ tells_met c states (verdict_by kind (met c states) (first_state c.first states))
    go Always e = tells_kept c states (met c states)
    go Sometime e = tells_kept c states (met c states)
    go Within e = constraints_along.along c states
        ∙ ap (λ kind. kept_along kind (λ (m : Moment). tree_holds c.first m.facts) (λ (m : Moment). tree_holds c.second m.facts) (λ (m : Moment). m.time ≤? c.moment) states) e
        ∙ first_is_soon (λ m. tree_holds c.first m.facts) c.moment states h
        ∙ tells_timed c states (position (λ (m : Moment). tree_holds c.first m.facts) states)
    go AtMostOnce e = tells_kept c states (met c states)
    go SometimeAfter e = tells_kept c states (met c states)
    go SometimeBefore e = tells_kept c states (met c states)
    go AtEnd e = tells_kept c states (met c states)

-- ---- a verdict goes by the facts alone
module _ {M N : Type 0} (f : M → N) (a b : N → Bool) where
  flags_after-map : (kind : TrailKind) (s : Flags) (ms : List M) → flags_after kind (λ m. a (f m)) (λ m. b (f m)) s ms ≡ flags_after kind a b s (map f ms)
  flags_after-map kind s [] = refl
  flags_after-map kind s (m ∷ ms) = flags_after-map kind (next_flags kind (a (f m)) (b (f m)) s) ms

  position-map : (ms : List M) → position (λ m. a (f m)) ms ≡ position a (map f ms)
  position-map [] = refl
  position-map (m ∷ ms) = position-cons (λ m. a (f m)) m ms ∙ ap (λ o. if a (f m) then Some 0 else option_map suc o) (position-map ms) ∙ sym (position-cons a (f m) (map f ms))

module _ (c : Trail) where
  met-facts : (xs : Trace) → ¬ (c.kind ≡ Within) → met c xs ≡ (flags_after c.kind (tree_holds c.first) (tree_holds c.second) (first_flags c.kind) (map (λ (m : Moment). m.facts) xs)).met
  met-facts xs n = constraints_along.along c xs
      ∙ sym (met-along (λ (m : Moment). tree_holds c.first m.facts) (λ (m : Moment). tree_holds c.second m.facts) c.kind (λ (m : Moment). m.time ≤? c.moment) xs n)
      ∙ ap (λ (s : Flags). s.met) (flags_after-map (λ (m : Moment). m.facts) (tree_holds c.first) (tree_holds c.second) c.kind (first_flags c.kind) xs)

  pub verdict-facts : (xs ys : Trace) → map (λ (m : Moment). m.facts) xs ≡ map (λ (m : Moment). m.facts) ys → verdict_on c xs ≡ verdict_on c ys
  unfolding first_state
  verdict-facts xs ys e = go c.kind refl
    where
      same : ¬ (c.kind ≡ Within) → (if met c xs then Met else Broken) ≡ (if met c ys then Met else Broken)
      same n = ap (λ b. if b then Met else Broken) (met-facts xs n ∙ ap (λ (fs : List (ℕ → Bool)). (flags_after c.kind (tree_holds c.first) (tree_holds c.second) (first_flags c.kind) fs).met) e ∙ sym (met-facts ys n))

      go : (kind : TrailKind) → c.kind ≡ kind → verdict_by kind (met c xs) (first_state c.first xs) ≡ verdict_by kind (met c ys) (first_state c.first ys)
      go Always e' = same (λ w. let d : Always ≡ Within = sym e' ∙ w in cc)
      go Sometime e' = same (λ w. let d : Sometime ≡ Within = sym e' ∙ w in cc)
      go Within e' = ap timed_or_broken (position-map (λ (m : Moment). m.facts) (tree_holds c.first) (tree_holds c.second) xs ∙ ap (position (tree_holds c.first)) e ∙ sym (position-map (λ (m : Moment). m.facts) (tree_holds c.first) (tree_holds c.second) ys))
      go AtMostOnce e' = same (λ w. let d : AtMostOnce ≡ Within = sym e' ∙ w in cc)
      go SometimeAfter e' = same (λ w. let d : SometimeAfter ≡ Within = sym e' ∙ w in cc)
      go SometimeBefore e' = same (λ w. let d : SometimeBefore ≡ Within = sym e' ∙ w in cc)
      go AtEnd e' = same (λ w. let d : AtEnd ≡ Within = sym e' ∙ w in cc)
