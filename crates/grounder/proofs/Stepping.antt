-- Actions and timed steps are numbered one after the other, and moments ascend.
use Rattle.std.proofs.Common.{◌≡◌, refl, sym, ap, subst, ◌∙◌, ℕ, ◌+◌, arith, Bool, true, false, ◌&&◌, ◌==◌, List, [], ◌∷◌, ◌++◌, map, length, append_assoc, Some, None}
use Rattle.std.specs.Prelude.{if◌then◌else◌, is_some, is_none}
use Rattle.std.specs.List.{flat_map, enumerate_from}
use Rattle.std.specs.declared.cmp.Ordering.{Ordering}
use Rattle.std.specs.declared.cmp.Ordering.TheVariants.{Less, Equal, Greater}
use Rattle.std.specs.Ordering.{MatchOrdering}
use Rattle.std.proofs.lemmas.List.{length-append}
use Rattle.std.proofs.lemmas.List.Sums.{sum_by-cons}
use Rattle.basics.proofs.Bools.{and_in}
use Rattle.basics.proofs.Naturals.{same_itself, same_in}
use Rattle.rational.specs.Rational.{ℚ, cmp_ℚ, ◌<ℚ◌}
use Rattle.rational.proofs.Comparisons.{cmp_ranks}
use Rattle.task_types.specs.declared.actions.Snap.{Snap}
use Rattle.task_types.specs.declared.parts.TaskParts.{TaskParts}
use Rattle.task_types.specs.Tests.{is_less, is_equal, ◌<?◌, ◌=?◌}
use Rattle.task_types.specs.Touch.{is_timed}
use Rattle.task_types.specs.Trace.{at}
use Rattle.task_types.specs.WellMade.{snap_count, snap_total, same_kind, is_number, is_snap_of, has_snaps, are_numbered, are_timed, moments_ascend}
use Rattle.task_types.specs.declared.actions.SnapKind.TheVariants as snap
use Rattle.task_types.proofs.Comparisons.{lt_in}
use Rattle.ground_world.specs.declared.changes.Stage.TheVariants.{AtStart, AtEnd}
use Rattle.ground_world.specs.Changes.{changes}
use Rattle.grounder.specs.Instances.{Instance, env_of}
use Rattle.grounder.specs.Task.{Ground, is_durative, snap_of, snaps_of, action_of, numbered_actions, fluent_rates, with_moment}

pub at-behind : {X : Type 0} (p : X → Bool) (before : List X) (x : X) (rest : List X) (n : ℕ) → length before ≡ n → p x ≡ true → at (before ++ x ∷ rest) n p ≡ true
at-behind p [] x rest n e h = subst (λ m. at (x ∷ rest) m p ≡ true) e h
at-behind p (y ∷ ys) x rest n e h = subst (λ m. at (y ∷ (ys ++ x ∷ rest)) m p ≡ true) e (at-behind p ys x rest (length ys) refl h)

module _ (g : Ground) (task : TaskParts) where
  numbered : (before after : List Snap) (n a : ℕ) (is : List Instance)
      → task.snaps ≡ before ++ (flat_map (λ x. snaps_of g x.0 x.1) (enumerate_from a is) ++ after) → length before ≡ n
      → are_numbered task n a (numbered_actions g n is) ≡ true
  numbered before after n a [] e l = refl
  numbered before after n a (i ∷ rest) e l = by (is_durative i.action.body) e (λ earlier m. numbered earlier after m (a + 1) rest)
    where
      start : Snap
      start = snap_of g a i snap.Start AtStart (flat_map (λ c. fluent_rates g (env_of i) c.part) (changes i.action))

      end : Snap
      end = snap_of g a i snap.End AtEnd []

      once : Snap
      once = snap_of g a i snap.Instant AtStart []

      more : List Snap
      more = flat_map (λ x. snaps_of g x.0 x.1) (enumerate_from (a + 1) rest)

      by : (b : Bool) → task.snaps ≡ before ++ (((if b then (start ∷ end ∷ []) else (once ∷ [])) ++ more) ++ after)
          → ((earlier : List Snap) (m : ℕ) → task.snaps ≡ earlier ++ (more ++ after) → length earlier ≡ m → are_numbered task m (a + 1) (numbered_actions g m rest) ≡ true)
          → ((n == n && has_snaps task n a (if b then Some (n + 1) else None))
          && are_numbered task (n + (if is_some (if b then Some (n + 1) else None) then 2 else 1)) (a + 1) (numbered_actions g (if b then n + 2 else n + 1) rest)) ≡ true
      by true s ih = and_in _ _ (and_in _ _ (same_itself n) (and_in _ _ (and_in _ _ (same_itself (n + 1)) starts) ends)) others
        where
          starts : is_snap_of task n snap.Start a ≡ true
          starts = subst (λ ss. at ss n (λ s. same_kind s.kind snap.Start && is_number s.action a) ≡ true) (sym s)
              (at-behind (λ s. same_kind s.kind snap.Start && is_number s.action a) before start (end ∷ (more ++ after)) n l (same_itself a))

          ends : is_snap_of task (n + 1) snap.End a ≡ true
          ends = subst (λ ss. at ss (n + 1) (λ s. same_kind s.kind snap.End && is_number s.action a) ≡ true) (append_assoc before (start ∷ []) (end ∷ (more ++ after)) ∙ sym s)
              (at-behind (λ s. same_kind s.kind snap.End && is_number s.action a) (before ++ (start ∷ [])) end (more ++ after) (n + 1) (length-append before (start ∷ []) ∙ ap (λ m. m + 1) l) (same_itself a))

          others : are_numbered task (n + 2) (a + 1) (numbered_actions g (n + 2) rest) ≡ true
          others = ih (before ++ (start ∷ end ∷ [])) (n + 2) (s ∙ sym (append_assoc before (start ∷ end ∷ []) (more ++ after)))
              (length-append before (start ∷ end ∷ []) ∙ ap (λ m. m + 2) l)
      by false s ih = and_in _ _ (and_in _ _ (same_itself n) one) others
        where
          one : is_snap_of task n snap.Instant a ≡ true
          one = subst (λ ss. at ss n (λ s. same_kind s.kind snap.Instant && is_number s.action a) ≡ true) (sym s)
              (at-behind (λ s. same_kind s.kind snap.Instant && is_number s.action a) before once (more ++ after) n l (same_itself a))

          others : are_numbered task (n + 1) (a + 1) (numbered_actions g (n + 1) rest) ≡ true
          others = ih (before ++ (once ∷ [])) (n + 1) (s ∙ sym (append_assoc before (once ∷ []) (more ++ after)))
              (length-append before (once ∷ []) ∙ ap (λ m. m + 1) l)

  pub actions-numbered : (after : List Snap) (is : List Instance) → task.snaps ≡ flat_map (λ x. snaps_of g x.0 x.1) (enumerate_from 0 is) ++ after
      → are_numbered task 0 0 (numbered_actions g 0 is) ≡ true
  actions-numbered after is e = numbered [] after 0 0 is e refl

  -- how many snap actions there are
  pub snap_total-is : (n a : ℕ) (is : List Instance) → length (flat_map (λ x. snaps_of g x.0 x.1) (enumerate_from a is)) ≡ snap_total (numbered_actions g n is)
  snap_total-is n a [] = refl
  snap_total-is n a (i ∷ rest) =
      length-append (snaps_of g a i) (flat_map (λ x. snaps_of g x.0 x.1) (enumerate_from (a + 1) rest))
      ∙ by (is_durative i.action.body) (λ m. snap_total-is m (a + 1) rest)
      ∙ sym (sum_by-cons (λ (m : ℕ). m) (snap_count (action_of g n i)) (map snap_count (numbered_actions g (if is_durative i.action.body then n + 2 else n + 1) rest)))
    where
      by : (b : Bool) → ((m : ℕ) → length (flat_map (λ x. snaps_of g x.0 x.1) (enumerate_from (a + 1) rest)) ≡ snap_total (numbered_actions g m rest))
          → length (if b then (snap_of g a i snap.Start AtStart (flat_map (λ c. fluent_rates g (env_of i) c.part) (changes i.action)) ∷ snap_of g a i snap.End AtEnd [] ∷ []) else (snap_of g a i snap.Instant AtStart [] ∷ []))
          + length (flat_map (λ x. snaps_of g x.0 x.1) (enumerate_from (a + 1) rest))
          ≡ (if is_some (if b then Some (n + 1) else None) then 2 else 1) + snap_total (numbered_actions g (if b then n + 2 else n + 1) rest)
      by true more = ap (λ m. 2 + m) (more (n + 2))
      by false more = ap (λ m. 1 + m) (more (n + 1))

  -- timed steps one after the other
  pub steps-timed : (f : ℚ → Snap) → ((t : ℚ) → (is_timed (f t).kind && is_none (f t).action) ≡ true)
      → (base k n : ℕ) (before : List Snap) (ms : List ℚ) → task.snaps ≡ before ++ map f ms → length before ≡ n → base + k ≡ n
      → are_timed task n (map {B = ℚ × ℕ} (λ x. (x.1, base + x.0)) (enumerate_from k ms)) ≡ true
  steps-timed f timed base k n before [] e l b = refl
  steps-timed f timed base k n before (m ∷ ms) e l b =
      and_in _ _ (and_in _ _ (same_in (base + k) n b)
      (subst (λ ss. at ss n (λ s. is_timed s.kind && is_none s.action) ≡ true) (sym e) (at-behind (λ s. is_timed s.kind && is_none s.action) before (f m) (map f ms) n l (timed m))))
      (steps-timed f timed base (k + 1) (n + 1) (before ++ (f m ∷ [])) ms (e ∙ sym (append_assoc before (f m ∷ []) (map f ms)))
      (length-append before (f m ∷ []) ∙ ap (λ j. j + 1) l) (omega arith))

-- ---- moments

-- each moment is above the one before it
abbrev pub Rising : ℚ → List ℚ → Type 0
Rising t [] = Unit {0}
Rising t (u ∷ us) = ((t <? u) ≡ true) × Rising u us

above : (t u : ℚ) → (t <? u) ≡ false → (t =? u) ≡ false → (u <? t) ≡ true
above t u = go (cmp_ℚ t u) (cmp_ranks t u)
  where
    go : (o : Ordering) → MatchOrdering o (t <ℚ u) (t ≡ u) (u <ℚ t) → is_less o ≡ false → is_equal o ≡ false → (u <? t) ≡ true
    go Less m e f = cc
    go Equal m e f = cc
    go Greater m e f = lt_in u t m

pub rising-with : (low t : ℚ) (us : List ℚ) → (low <? t) ≡ true → Rising low us → Rising low (with_moment t us)
rising-with low t [] h r = (h, tt)
rising-with low t (u ∷ us) h r = by (t <? u) refl (t =? u) refl (λ k. rising-with u t us k r.1)
  where
    by : (b : Bool) → (t <? u) ≡ b → (c : Bool) → (t =? u) ≡ c → ((u <? t) ≡ true → Rising u (with_moment t us)) → Rising low (if b then t ∷ u ∷ us else (if c then u ∷ us else (u ∷ with_moment t us)))
    by true e c f ih = (h, (e, r.1))
    by false e true f ih = r
    by false e false f ih = (r.0, ih (above t u e f))

pub rising-ascends : (base k : ℕ) (low : ℚ) (ms : List ℚ) → Rising low ms → moments_ascend low (map {B = ℚ × ℕ} (λ x. (x.1, base + x.0)) (enumerate_from k ms)) ≡ true
rising-ascends base k low [] r = refl
rising-ascends base k low (m ∷ ms) r = and_in _ _ r.0 (rising-ascends base (k + 1) m ms r.1)
