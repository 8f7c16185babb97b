-- One state more: whether a `within` is met, and the first moment of a formula.
use Rattle.std.proofs.Common.{◌≡◌, refl, sym, ap, ◌∙◌, ℕ, Bool, true, false, ◌&&◌, ◌||◌, List, [], ◌∷◌, ◌++◌}
use Rattle.std.specs.Prelude.{Option, Some, None, if◌then◌else◌}
use Rattle.std.specs.List.{list_any, find}
use Rattle.std.specs.Option.{option_map, option_or}
use Rattle.std.proofs.lemmas.List.Folds.{list_any-append, find-append}
use Rattle.rational.specs.Rational.{ℚ}
use Rattle.task_types.specs.declared.constraints.Trail.{Trail}
use Rattle.task_types.specs.declared.constraints.TrailKind.{TrailKind}
use Rattle.task_types.specs.declared.constraints.TrailKind.TheVariants.{Always, Sometime, Within, AtMostOnce, SometimeAfter, SometimeBefore, AtEnd}
use Rattle.task_types.specs.declared.formulas.FactTree.{FactTree}
use Rattle.task_types.specs.Tests.{◌≤?◌}
use Rattle.task_types.specs.State.{tree_holds}
use Rattle.task_types.specs.Trace.{Trace, Moment, met, first_state, first_moment}
use Rattle.task_types.specs.Laws.{kept_along}
use Rattle.task_types.proofs.Sayings.{constraints_along}
use Rattle.trajectory.specs.declared.automaton.TrailEnd.{TrailEnd}
use Rattle.trajectory.specs.declared.automaton.TrailEnd.TheVariants.{Met, Broken, Timed}
use Rattle.trajectory.specs.Verdicts.{verdict_by, verdict_on}
use Rattle.basics.proofs.Bools.{or_false}

-- ---- a `within`
within-along : (c : Trail) (xs : Trace) → c.kind ≡ Within → met c xs ≡ list_any (λ (m : Moment). tree_holds c.first m.facts && (m.time ≤? c.moment)) xs
within-along c xs e = constraints_along.along c xs ∙ ap (λ kind. kept_along kind (λ (m : Moment). tree_holds c.first m.facts) (λ (m : Moment). tree_holds c.second m.facts) (λ (m : Moment). m.time ≤? c.moment) xs) e

pub met-none : (c : Trail) → c.kind ≡ Within → false ≡ met c []
met-none c e = sym (within-along c [] e)

met-more : (c : Trail) (xs : Trace) (m : Moment) → c.kind ≡ Within → met c (xs ++ m ∷ []) ≡ (met c xs || (tree_holds c.first m.facts && (m.time ≤? c.moment)))
met-more c xs m e = within-along c (xs ++ m ∷ []) e
    ∙ list_any-append (λ (m : Moment). tree_holds c.first m.facts && (m.time ≤? c.moment)) xs (m ∷ [])
    ∙ ap (λ b. list_any (λ (m : Moment). tree_holds c.first m.facts && (m.time ≤? c.moment)) xs || b) (or_false (tree_holds c.first m.facts && (m.time ≤? c.moment)))
    ∙ ap (λ b. b || (tree_holds c.first m.facts && (m.time ≤? c.moment))) (sym (within-along c xs e))

-- the state that was taken meets it
pub met-now : (c : Trail) (xs : Trace) (m : Moment) (soon : Bool) → c.kind ≡ Within → soon ≡ (tree_holds c.first m.facts && (m.time ≤? c.moment)) → soon ≡ true → true ≡ met c (xs ++ m ∷ [])
met-now c xs m soon e is h = sym (met-more c xs m e ∙ ap (λ b. met c xs || b) (sym is ∙ h) ∙ or_true (met c xs))
  where
    or_true : (b : Bool) → (b || true) ≡ true
    or_true true = refl
    or_true false = refl

-- it tells nothing new
pub met-still : (c : Trail) (xs : Trace) (m : Moment) (was soon : Bool) → c.kind ≡ Within → soon ≡ (tree_holds c.first m.facts && (m.time ≤? c.moment)) → soon ≡ false → was ≡ met c xs → was ≡ met c (xs ++ m ∷ [])
met-still c xs m was soon e is h k = k ∙ sym (or_false (met c xs)) ∙ ap (λ b. met c xs || b) (sym h ∙ is) ∙ sym (met-more c xs m e)

-- ---- the first moment of a formula
pub first-none : (formula : FactTree) → None ≡ first_moment formula []
unfolding first_moment
first-none formula = refl

module _ (formula : FactTree) (xs : Trace) (m : Moment) where
  abbrev p : Moment → Bool
  p n = tree_holds formula n.facts

  one : Bool → Option ℚ
  one b = if b then Some m.time else None

  first-more : (o : Option Moment) (b : Bool) → option_map (λ (n : Moment). n.time) (option_or o (if b then Some m else None)) ≡ option_or (option_map (λ (n : Moment). n.time) o) (if b then Some m.time else None)
  first-more (Some n) b = refl
  first-more None true = refl
  first-more None false = refl

  first-put : first_moment formula (xs ++ m ∷ []) ≡ option_or (first_moment formula xs) (if tree_holds formula m.facts then Some m.time else None)
  unfolding first_moment
  first-put = ap (option_map (λ (n : Moment). n.time)) (find-append p xs (m ∷ [])) ∙ first-more (find p xs) (p m)

  pub first-found : (t : ℚ) → Some t ≡ first_moment formula xs → Some t ≡ first_moment formula (xs ++ m ∷ [])
  first-found t e = sym (first-put ∙ ap (λ o. option_or o (if tree_holds formula m.facts then Some m.time else None)) (sym e))

  pub first-now : (b : Bool) → None ≡ first_moment formula xs → b ≡ tree_holds formula m.facts → b ≡ true → Some m.time ≡ first_moment formula (xs ++ m ∷ [])
  first-now b e is h = sym (first-put ∙ ap (λ o. option_or o (if tree_holds formula m.facts then Some m.time else None)) (sym e) ∙ ap (λ b. if b then Some m.time else None) (sym is ∙ h))

  pub first-still : (b : Bool) → None ≡ first_moment formula xs → b ≡ tree_holds formula m.facts → b ≡ false → None ≡ first_moment formula (xs ++ m ∷ [])
  first-still b e is h = sym (first-put ∙ ap (λ o. option_or o (if tree_holds formula m.facts then Some m.time else None)) (sym e) ∙ ap (λ b. if b then Some m.time else None) (sym is ∙ h))

-- ---- a verdict
abbrev is_met_end : TrailEnd → Bool
is_met_end Met = true
is_met_end Broken = false
is_met_end (Timed k) = false

told : (b : Bool) → is_met_end (if b then Met else Broken) ≡ b
told true = refl
told false = refl

verdict_is : (kind : TrailKind) (b : Bool) (o : Option ℕ) → ¬ (kind ≡ Within) → is_met_end (verdict_by kind b o) ≡ b
verdict_is Always b o n = told b
verdict_is Sometime b o n = told b
verdict_is Within b o n = absurd (n refl)
verdict_is AtMostOnce b o n = told b
verdict_is SometimeAfter b o n = told b
verdict_is SometimeBefore b o n = told b
verdict_is AtEnd b o n = told b

pub verdict_tells : (c given : Trail) (xs : Trace) (end : TrailEnd) → c ≡ given → ¬ (given.kind ≡ Within) → end ≡ verdict_on c xs → is_met_end end ≡ met given xs
verdict_tells c given xs end e n v = ap is_met_end (v ∙ ap (λ (c : Trail). verdict_on c xs) e) ∙ verdict_is given.kind (met given xs) (first_state given.first xs) n
