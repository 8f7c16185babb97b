-- The flags after some states tell what one pass along them finds.
use Rattle.std.proofs.Common.{◌≡◌, refl, ◌∙◌, Bool, true, false, not, ◌&&◌, ◌||◌, List, [], ◌∷◌, ◌++◌}
use Rattle.std.specs.Prelude.{if◌then◌else◌}
use Rattle.std.specs.List.{list_all, list_any}
use Rattle.basics.proofs.Bools.{and_assoc, or_assoc}
use Rattle.task_types.specs.declared.constraints.TrailKind.{TrailKind}
use Rattle.task_types.specs.declared.constraints.TrailKind.TheVariants.{Always, Sometime, Within, AtMostOnce, SometimeAfter, SometimeBefore, AtEnd}
use Rattle.task_types.specs.Tests.{◌⇒◌}
use Rattle.task_types.specs.Laws.{kept_along, none_later, run_ends, one_run, are_answered, are_prepared, ends_with}
use Rattle.trajectory.specs.declared.flags.Flags.{Flags}
use Rattle.trajectory.specs.Passing.{next_flags, first_flags, flags_after}

abbrev flags : Bool → Bool → Bool → Flags
flags m s o = record { met = m; seen = s; over = o }

module _ {M : Type 0} (a b : M → Bool) where
  pub flags_after-append : (kind : TrailKind) (s : Flags) (ms : List M) (m : M) → flags_after kind a b s (ms ++ m ∷ []) ≡ next_flags kind (a m) (b m) (flags_after kind a b s ms)
  flags_after-append kind s [] m = refl
  flags_after-append kind s (n ∷ ms) m = flags_after-append kind (next_flags kind (a n) (b n) s) ms m

  abbrev met_after : TrailKind → (met seen over : Bool) → List M → Bool
  met_after kind v s o ms = (flags_after kind a b (flags v s o) ms).met

  always : (s o v : Bool) (ms : List M) → met_after Always v s o ms ≡ (v && list_all a ms)
  always s o true [] = refl
  always s o false [] = refl
  always s o v (m ∷ ms) = always s o (v && a m) ms ∙ and_assoc v (a m) (list_all a ms)

  sometime : (s o v : Bool) (ms : List M) → met_after Sometime v s o ms ≡ (v || list_any a ms)
  sometime s o true [] = refl
  sometime s o false [] = refl
  sometime s o v (m ∷ ms) = sometime s o (v || a m) ms ∙ or_assoc v (a m) (list_any a ms)

  -- what is broken stays broken
  broken : (s o : Bool) (ms : List M) → met_after AtMostOnce false s o ms ≡ false
  broken s o [] = refl
  broken s o (m ∷ ms) = broken (s || a m) (o || (s && not (a m))) ms

  after_run : (ms : List M) → met_after AtMostOnce true true true ms ≡ none_later a ms
  after_run [] = refl
  after_run (m ∷ ms) = go (a m) (after_run ms)
    where
      go : (x : Bool) → met_after AtMostOnce true true true ms ≡ none_later a ms
          → met_after AtMostOnce (true && not (x && true)) (true || x) (true || (true && not x)) ms ≡ (not x && none_later a ms)
      go true r = broken true true ms
      go false r = r

  in_run : (ms : List M) → met_after AtMostOnce true true false ms ≡ run_ends a ms
  in_run [] = refl
  in_run (m ∷ ms) = go (a m) (in_run ms)
    where
      go : (x : Bool) → met_after AtMostOnce true true false ms ≡ run_ends a ms
          → met_after AtMostOnce (true && not (x && false)) (true || x) (false || (true && not x)) ms ≡ (if x then run_ends a ms else none_later a ms)
      go true r = r
      go false r = after_run ms

  before_run : (ms : List M) → met_after AtMostOnce true false false ms ≡ one_run a ms
  before_run [] = refl
  before_run (m ∷ ms) = go (a m) (before_run ms)
    where
      go : (x : Bool) → met_after AtMostOnce true false false ms ≡ one_run a ms
          → met_after AtMostOnce (true && not (x && false)) (false || x) (false || (false && not x)) ms ≡ (if x then run_ends a ms else one_run a ms)
      go true r = in_run ms
      go false r = r

  -- v: no state waits for its answer
  answered : (s o v : Bool) (ms : List M) → met_after SometimeAfter v s o ms ≡ ((not v ⇒ list_any b ms) && are_answered a b ms)
  answered s o true [] = refl
  answered s o false [] = refl
  answered s o v (m ∷ ms) = answered s o (b m || (v && not (a m))) ms ∙ go v (a m) (b m) (list_any b ms) (are_answered a b ms)
    where
      go : (v x y p q : Bool) → ((not (y || (v && not x)) ⇒ p) && q) ≡ ((not v ⇒ (y || p)) && ((x ⇒ (y || p)) && q))
      go true true true p q = refl
      go true true false p q = refl
      go true false true p q = refl
      go true false false p q = refl
      go false true true p q = refl
      go false true false true q = refl
      go false true false false q = refl
      go false false true p q = refl
      go false false false true q = refl
      go false false false false q = refl

  prepared : (o v s : Bool) (ms : List M) → met_after SometimeBefore v s o ms ≡ (v && are_prepared s a b ms)
  prepared o true s [] = refl
  prepared o false s [] = refl
  prepared o v s (m ∷ ms) = prepared o (v && (not (a m) || s)) (s || b m) ms ∙ and_assoc v (not (a m) || s) (are_prepared (s || b m) a b ms)

  at_end : (s o v : Bool) (m : M) (ms : List M) → met_after AtEnd v s o (m ∷ ms) ≡ ends_with a (m ∷ ms)
  at_end s o v m [] = refl
  at_end s o v m (n ∷ ms) = at_end s o (a m) n ms

  pub met-along : (kind : TrailKind) (soon : M → Bool) (ms : List M) → ¬ (kind ≡ Within) → (flags_after kind a b (first_flags kind) ms).met ≡ kept_along kind a b soon ms
  met-along Always soon ms n = always false false true ms
  met-along Sometime soon ms n = sometime false false false ms
  met-along Within soon ms n = absurd (n refl)
  met-along AtMostOnce soon ms n = before_run ms
  met-along SometimeAfter soon ms n = answered false false true ms
  met-along SometimeBefore soon ms n = prepared false true false ms
  met-along AtEnd soon [] n = refl
  met-along AtEnd soon (m ∷ ms) n = at_end false false false m ms
