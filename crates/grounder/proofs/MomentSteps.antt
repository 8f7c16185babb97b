-- Timed literals, one more each time: their moments, from the last on; the facts of one moment; and numbered steps.
use Rattle.std.proofs.Common.{◌≡◌, sym, ap, ap₂, ◌∙◌, ℕ, ◌+◌, ◌<◌, Bool, true, false, not, ◌&&◌, cond, List, [], ◌∷◌, ◌++◌, map, length, take, drop, get_or, if◌then◌else◌}
use Rattle.std.specs.List.{enumerate_from}
use Rattle.std.proofs.lemmas.List.{append-nil, map-append}
use Rattle.basics.proofs.Lists.{map-filter-append, drop_item}
use Rattle.rational.specs.Rational.{ℚ}
use Rattle.task_types.specs.Tests.{◌=?◌}
use Rattle.task_types.proofs.Places.{enumerate-more}
use Rattle.ground_world.proofs.Steps.{taken}
use Rattle.grounder.specs.Task as task
use Rattle.grounder.specs.Task.{Ground, with_moment, moments, literals_at, fact_number}
use Rattle.grounder.specs.ShownTimings.{timing_of, timings_of}
use Rattle.grounder.specs.declared.timings.Timing.{Timing}

-- one timed literal before others
pub earlier : (ts : List Timing) (i : ℕ) (t : Timing) (before after : List ℚ) → i < length ts → t ≡ get_or ts i t → before ≡ moments (timings_of (drop (i + 1) ts)) → after ≡ with_moment t.moment before
    → after ≡ moments (timings_of (drop i ts))
earlier ts i t before after lt at h k = k ∙ ap (with_moment t.moment) h ∙ ap (λ l. moments (timings_of l)) (sym (drop_item ts i t lt at))

-- ---- the facts that become true or false at a moment

module _ (g : Ground) (t : ℚ) (holds : Bool) where
  abbrev pub turns : task.Timing → Bool
  turns l = (l.moment =? t) && (if holds then l.holds else not l.holds)

  pub literal-left : (x : Timing) (out : List ℕ) → turns (timing_of x) ≡ false → out ≡ out ++ literals_at g (timing_of x ∷ []) t holds
  literal-left x out e = sym (ap (λ b. out ++ map (λ (l : task.Timing). fact_number g l.atom) (cond b (timing_of x ∷ []) [])) e ∙ append-nil out)

  pub literal-put : (x : Timing) (out after : List ℕ) (n : ℕ) → turns (timing_of x) ≡ true → n ≡ fact_number g x.atom → after ≡ out ++ (n ∷ [])
      → after ≡ out ++ literals_at g (timing_of x ∷ []) t holds
  literal-put x out after n e is h =
      h ∙ ap (λ (k : ℕ). out ++ (k ∷ [])) is
      ∙ sym (ap (λ b. out ++ map (λ (l : task.Timing). fact_number g l.atom) (cond b (timing_of x ∷ []) [])) e)

  pub literals-more : (ts : List Timing) (i : ℕ) (x : Timing) (before after : List ℕ) → i < length ts → x ≡ get_or ts i x → before ≡ literals_at g (timings_of (take i ts)) t holds
      → after ≡ before ++ literals_at g (timing_of x ∷ []) t holds → after ≡ literals_at g (timings_of (take (i + 1) ts)) t holds
  literals-more ts i x before after lt at h k =
      k ∙ ap (λ (l : List ℕ). l ++ literals_at g (timing_of x ∷ []) t holds) h
      ∙ sym (ap (λ (l : List Timing). literals_at g (timings_of l) t holds) (taken ts i x lt at)
      ∙ ap (λ (l : List task.Timing). literals_at g l t holds) (map-append timing_of (take i ts) (x ∷ []))
      ∙ map-filter-append (λ (l : task.Timing). fact_number g l.atom) turns (timings_of (take i ts)) (timing_of x ∷ []))

-- ---- the steps by their numbers

abbrev numbered : {X : Type 0} → ℕ → ℕ × X → X × ℕ
numbered first y = (y.1, first + y.0)

pub numbers-more : {X : Type 0} (first : ℕ) (xs : List X) (i : ℕ) (x : X) → i < length xs → x ≡ get_or xs i x → (before after : List (X × ℕ)) (n : ℕ) → n ≡ first + i
    → before ≡ map (numbered first) (enumerate_from 0 (take i xs)) → after ≡ before ++ ((x, n) ∷ [])
    → after ≡ map (numbered first) (enumerate_from 0 (take (i + 1) xs))
numbers-more {X} first xs i x lt at before after n e h k =
    k ∙ ap₂ (λ (l : List (X × ℕ)) (m : ℕ). l ++ ((x, m) ∷ [])) h e
    ∙ sym (ap (map (numbered first)) (enumerate-more xs i x lt at) ∙ map-append (numbered first) (enumerate_from 0 (take i xs)) ((i, x) ∷ []))
