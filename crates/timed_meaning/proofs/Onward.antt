-- An agenda at a happening: how it begins and goes on.
use Rattle.std.proofs.Common.{◌≡◌, refl, sym, ap, subst, ◌∙◌, ℕ, zero, suc, ◌<◌, ◌≤◌, ◌+◌, ◌-◌, true, List, [], ◌∷◌, ◌++◌, length, drop, take, zero-add, arith}
use Rattle.std.specs.Prelude.{Result, Ok, Err, OnOk, IsPermutation}
use Rattle.std.specs.List.{AllByRecursion, filter}
use Rattle.std.proofs.lemmas.List.{drop-drop, length-drop, take-map, drop-map, length-map}
use native.Mathlib.Decide.{dec_lt}
use Rattle.rational.specs.Rational.{ℚ, ◌≤ℚ◌}
use Rattle.rational.proofs.Inequalities.{le_trans}
use Rattle.rational.proofs.Order.{lt_le}
use Rattle.task_types.specs.declared.parts.TaskParts.{TaskParts}
use Rattle.task_types.specs.Plan.{Plan, Step, happenings}
use Rattle.task_types.specs.Course.{steps_at, time_of, count, runs_between}
use Rattle.task_types.specs.Reckoned.{by_start}
use Rattle.task_types.proofs.Comparisons.{le_in, le_out}
use Rattle.task_types.proofs.Everyone.{all_map}
use Rattle.task_types.proofs.Instants.{happenings-Ascends}
use Rattle.task_types.proofs.Segment.{adjacent_ascend}
use Rattle.timed_meaning.specs.declared.agendas.Agenda.{Agenda}
use Rattle.timed_meaning.specs.declared.steps.OwnedStep.{OwnedStep}
use Rattle.timed_meaning.specs.declared.placing.PlacedLine.{PlacedLine}
use Rattle.timed_meaning.specs.Moves.{AreLines}
use Rattle.timed_meaning.specs.Sorts.{run}
use Rattle.timed_meaning.specs.Owned.{steps_of, placed_lines, lines_of}
use Rattle.timed_meaning.specs.Places.{has_begun, lasts_to, begun_by, AreRunning}
use Rattle.timed_meaning.specs.Agendas.{Left, run_end, time_at, Follows, here_of, owned_here_of, AreListed, IsAt}
use Rattle.timed_meaning.proofs.Left.{left-in, left-time, Left-onward, Left-run, Left-end, run-first, run_end-within}
use Rattle.timed_meaning.proofs.Known.{filter-each}
use Rattle.timed_meaning.proofs.Running.{Rises, by_start-rises}
use Rattle.timed_meaning.proofs.Followed.{run_between, lasting-later, followed, running-chosen, running-lines_of, running-places}

-- what is left from a place on begins with the time of its happening
left-at : (task : TaskParts) (plan : Plan) (k : ℕ) (xs : List Step) (i : ℕ) → i < length xs → Left task plan k (drop i xs) → (time_of task plan k ≡ time_at xs i) × (k < count task plan)
left-at task plan k [] i h l = absurd (omega arith)
left-at task plan k (x ∷ xs) zero h l = (left-time task plan k x xs l, left-in task plan k x xs l)
left-at task plan k (x ∷ xs) (suc i) h l = left-at task plan k xs i (omega arith) l

-- and past the steps nothing is left
left-past : (task : TaskParts) (plan : Plan) (k : ℕ) (xs : List Step) (i : ℕ) → length xs ≤ i → Left task plan k (drop i xs) → count task plan ≤ k
left-past task plan k xs i h l = Left-end task plan k (subst (Left task plan k) (none xs i h) l)
  where
    none : (xs : List Step) (i : ℕ) → length xs ≤ i → drop i xs ≡ []
    none [] zero h = refl
    none [] (suc i) h = refl
    none (x ∷ xs) zero h = absurd (omega arith)
    none (x ∷ xs) (suc i) h = none xs i (omega arith)

-- what follows on Ok
pub on_ok : {A E P Q : Type 0} (r : Result A E) → (P → Q) → OnOk r P → OnOk r Q
on_ok (Ok x) f h = f h
on_ok (Err e) f h = tt

run_end-some : (xs : List Step) → 0 < length xs → 0 < run_end xs
run_end-some [] h = absurd (omega arith)
run_end-some (x ∷ xs) h = let e : length (run x.time (x ∷ xs)) ≡ suc (length (run x.time xs)) = ap length (run-first x xs) in omega (arith, e)

module _ (task : TaskParts) (plan : Plan) where
  -- what is left after the steps of a happening
  pub left-next : (k : ℕ) (xs : List Step) (first next : ℕ) → next ≡ first + run_end (drop first xs) → Left task plan k (drop first xs) → Left task plan (suc k) (drop next xs)
  left-next k xs first next e l = subst (λ n. Left task plan (suc k) (drop n xs)) (sym e) (subst (Left task plan (suc k)) (drop-drop (run_end (drop first xs)) first xs) (Left-onward task plan k (drop first xs) l))

  module _ (a : Agenda) (at : IsAt task plan a) where
    -- the place of an agenda grows no faster than its steps
    pub counted-next : a.next < length a.steps.items → suc a.place ≤ a.next
    counted-next h = let some : 0 < run_end (drop a.first a.steps.items) = run_end-some (drop a.first a.steps.items) (omega (arith, length-drop a.first a.steps.items, at.next, h)) in omega (arith, at.counted, at.next, some)

    -- there is a next happening exactly where a step is left
    pub more-in : a.next < length a.steps.items → suc a.place < count task plan
    more-in h = (left-at task plan (suc a.place) a.steps.items a.next h (left-next a.place a.steps.items a.first a.next at.next at.left)).1

    pub more-out : suc a.place < count task plan → a.next < length a.steps.items
    more-out h = elim (dec_lt a.next (length a.steps.items)) [
      | yes q ↦ q
      | no q ↦ absurd (let p : count task plan ≤ suc a.place = left-past task plan (suc a.place) a.steps.items a.next (omega (arith, q)) (left-next a.place a.steps.items a.first a.next at.next at.left) in omega (arith, p, h))
    ]

    pub time-first : a.first < length a.steps.items → time_of task plan a.place ≡ time_at a.steps.items a.first
    time-first h = (left-at task plan a.place a.steps.items a.first h at.left).0

    pub time-next : a.next < length a.steps.items → time_of task plan (suc a.place) ≡ time_at a.steps.items a.next
    time-next h = (left-at task plan (suc a.place) a.steps.items a.next h (left-next a.place a.steps.items a.first a.next at.next at.left)).0

    pub first-within : a.place < count task plan → a.first < length a.steps.items
    first-within h = elim (dec_lt a.first (length a.steps.items)) [
      | yes q ↦ q
      | no q ↦ absurd (let p : count task plan ≤ a.place = left-past task plan a.place a.steps.items a.first (omega (arith, q)) at.left in omega (arith, p, h))
    ]

    -- the steps of the happening
    pub here-is : a.place < count task plan → here_of a ≡ steps_at task plan (time_of task plan a.place)
    here-is h = subst (λ n. take n (drop a.first a.steps.items) ≡ steps_at task plan (time_of task plan a.place)) (let e : run_end (drop a.first a.steps.items) ≡ a.next - a.first = omega (arith, at.next) in e)
        (go (drop a.first a.steps.items) (let n : length (drop a.first a.steps.items) ≡ length a.steps.items - a.first = length-drop a.first a.steps.items in omega (arith, n, first-within h)) at.left)
      where
        go : (rest : List Step) → 0 < length rest → Left task plan a.place rest → take (run_end rest) rest ≡ steps_at task plan (time_of task plan a.place)
        go [] h l = absurd (omega arith)
        go (x ∷ xs) h l = Left-run task plan a.place x xs l

    -- the running lines of the agenda, between the times that its steps have
    module _ (h : suc a.place < count task plan) (from to : ℚ) (f : from ≡ time_of task plan a.place) (t : to ≡ time_of task plan (suc a.place)) where
      abbrev is_running : AreRunning from to a.lines.items a.started a.running.items
      is_running = subst (λ u. AreRunning u to a.lines.items a.started a.running.items) (sym f) (subst (λ u. AreRunning (time_of task plan a.place) u a.lines.items a.started a.running.items) (sym t) (at.running h))

      pub running-lines : lines_of a.running.items ≡ by_start (filter (runs_between from to) plan)
      running-lines = running-lines_of plan from to a.lines.items a.started a.running.items at.listed.ends is_running at.listed.lines

      pub running-placed : IsPermutation (filter (run_between from to) (placed_lines plan)) a.running.items
      running-placed = running-places plan from to a.lines.items a.started a.running.items at.listed.ends is_running at.listed.placed

      pub running-known : AreLines task (lines_of a.running.items)
      running-known = subst (AreLines task) (sym (running-chosen plan from to a.lines.items a.started a.running.items at.listed.ends is_running))
          (filter-each (λ l. l.action < length task.actions) (runs_between from to) (lines_of a.lines.items) at.listed.lines_known)

    -- the steps of the happening with their owners are its steps
    pub owned-here : steps_of (owned_here_of a) ≡ here_of a
    owned-here = sym (take-map (λ o. o.step) (a.next - a.first) (drop a.first a.owned.items)) ∙ ap (take (a.next - a.first)) (sym (drop-map (λ o. o.step) a.first a.owned.items) ∙ ap (drop a.first) (sym at.steps))

    pub owned-within : a.next ≤ length a.owned.items
    owned-within = let e : length a.steps.items ≡ length a.owned.items = ap length at.steps ∙ length-map a.owned.items (λ o. o.step) in omega (arith, e, at.within)

    -- where there is no next happening all steps are those met or here
    pub all-met : count task plan ≤ suc a.place → a.next ≡ length a.owned.items
    all-met h = elim (dec_lt a.next (length a.steps.items)) [
      | yes q ↦ absurd (let m : suc a.place < count task plan = more-in q in omega (arith, m, h))
      | no q ↦ let e : length a.steps.items ≡ length a.owned.items = ap length at.steps ∙ length-map a.owned.items (λ o. o.step) in omega (arith, e, at.within, q)
    ]

  -- The lines that run from a happening on are followed from others of which the same last.
  module _ (xs : List Step) (k first next : ℕ) (l : Left task plan k (drop first xs)) (n : next ≡ first + run_end (drop first xs)) where
    abbrev after : Left task plan (suc k) (drop next xs)
    after = left-next k xs first next n l

    there : suc k < count task plan → next < length xs
    there h = elim (dec_lt next (length xs)) [
      | yes q ↦ q
      | no q ↦ absurd (let p : count task plan ≤ suc k = left-past task plan (suc k) xs next (omega (arith, q)) after in omega (arith, p, h))
    ]

    pub run-on : (lines : List PlacedLine) (old new : List PlacedLine) (started now : ℕ) → Rises (lines_of lines) → started ≤ length lines
        → AllByRecursion (λ p. has_begun (time_of task plan k) p ≡ true) (take started lines)
        → (suc k < count task plan → filter (lasts_to (time_of task plan (suc k))) old ≡ filter (lasts_to (time_of task plan (suc k))) (take started lines))
        → Follows xs first next lines started now old new → suc k < count task plan → AreRunning (time_of task plan k) (time_of task plan (suc k)) lines now new
    run-on lines old new started now rises inside begun lasting f h =
        followed (time_of task plan k) (time_of task plan (suc k)) lines started rises inside old new now begun (lasting h)
        (subst (λ t. now ≡ started + length (begun_by t (drop started lines))) from_is (f (there h)).0)
        (subst (λ t. new ≡ filter (lasts_to (time_of task plan (suc k))) old ++ filter (lasts_to (time_of task plan (suc k))) (begun_by t (drop started lines))) from_is
        (subst (λ t. new ≡ filter (lasts_to t) old ++ filter (lasts_to t) (begun_by (time_at xs first) (drop started lines))) to_is (f (there h)).1))
      where
        from_is : time_at xs first ≡ time_of task plan k
        from_is = sym (left-at task plan k xs first (let q : next < length xs = there h in omega (arith, n, q)) l).0

        to_is : time_at xs next ≡ time_of task plan (suc k)
        to_is = sym (left-at task plan (suc k) xs next (there h) after).0

  -- what has begun and lasts at a happening, seen from the next
  module _ (a : Agenda) (at : IsAt task plan a) (h : suc a.place < count task plan) where
    onward : (k : ℕ) → suc k < count task plan → time_of task plan k ≤ℚ time_of task plan (suc k)
    onward k q = lt_le (time_of task plan k) (time_of task plan (suc k)) (adjacent_ascend (happenings task plan) k (happenings-Ascends task plan) q)

    pub begun-before : AllByRecursion (λ p. has_begun (time_of task plan (suc a.place)) p ≡ true) (take a.started a.lines.items)
    begun-before = all_map (λ p. has_begun (time_of task plan a.place) p ≡ true) (λ p. has_begun (time_of task plan (suc a.place)) p ≡ true) (take a.started a.lines.items)
        (λ p b. le_in p.line.at (time_of task plan (suc a.place)) (le_trans p.line.at (time_of task plan a.place) (time_of task plan (suc a.place)) (le_out p.line.at (time_of task plan a.place) b) (onward a.place h))) (at.running h).begun

    pub lasting-on : suc (suc a.place) < count task plan → filter (lasts_to (time_of task plan (suc (suc a.place)))) a.running.items ≡ filter (lasts_to (time_of task plan (suc (suc a.place)))) (take a.started a.lines.items)
    lasting-on q = ap (filter (lasts_to (time_of task plan (suc (suc a.place))))) (at.running h).lasting
        ∙ lasting-later (time_of task plan (suc a.place)) (time_of task plan (suc (suc a.place))) (onward (suc a.place) q) (take a.started a.lines.items)

  -- the lines of an agenda rise
  pub rises-listed : (all : List OwnedStep) (sorted : List PlacedLine) → AreListed task plan all sorted → Rises (lines_of sorted)
  rises-listed all sorted l = subst Rises (sym l.lines) (by_start-rises plan)

  -- an agenda is at the first happening where its parts are
  pub at-first : (a : Agenda) → AreListed task plan a.owned.items a.lines.items → a.steps.items ≡ steps_of a.owned.items → a.place ≡ 0 → a.first ≡ 0 → a.next ≡ run_end a.steps.items → a.started ≤ length a.lines.items
      → Follows a.steps.items 0 a.next a.lines.items 0 a.started [] a.running.items → IsAt task plan a
  at-first a listed s p f n w r = record {
    listed = listed;
    steps = s;
    left = left;
    next = n ∙ sym (zero-add (run_end a.steps.items)) ∙ ap (λ i. i + run_end (drop i a.steps.items)) (sym f);
    within = subst (λ m. m ≤ length a.steps.items) (sym n) (run_end-within a.steps.items);
    counted = omega (arith, p);
    started = w;
    running = subst (λ k. suc k < count task plan → AreRunning (time_of task plan k) (time_of task plan (suc k)) a.lines.items a.started a.running.items) (sym p)
        (run-on a.steps.items 0 0 a.next (subst (Left task plan 0) (sym s) listed.left) (n ∙ sym (zero-add (run_end a.steps.items))) a.lines.items [] a.running.items 0 a.started
        (rises-listed a.owned.items a.lines.items listed) (omega arith) tt (λ h. refl) r);
  }
    where
      left : Left task plan a.place (drop a.first a.steps.items)
      left = subst (λ k. Left task plan k (drop a.first a.steps.items)) (sym p) (subst (λ i. Left task plan 0 (drop i a.steps.items)) (sym f) (subst (Left task plan 0) (sym s) listed.left))

  -- an agenda is at the next happening where its parts follow those of another at the one before
  pub at-next : (a b : Agenda) → IsAt task plan a → suc a.place < count task plan → b.owned ≡ a.owned → b.steps ≡ a.steps → b.lines ≡ a.lines → b.place ≡ suc a.place → b.first ≡ a.next
      → b.next ≡ a.next + run_end (drop a.next a.steps.items) → b.next ≤ length a.steps.items → b.started ≤ length a.lines.items
      → Follows a.steps.items a.next b.next a.lines.items a.started b.started a.running.items b.running.items → IsAt task plan b
  at-next a b at h o s l p f n w st r = record {
    listed = subst (λ v. AreListed task plan v.items b.lines.items) (sym o) (subst (λ v. AreListed task plan a.owned.items v.items) (sym l) at.listed);
    steps = ap (λ v. v.items) s ∙ at.steps ∙ ap (λ v. steps_of v.items) (sym o);
    left = subst (λ k. Left task plan k (drop b.first b.steps.items)) (sym p) (subst (λ i. Left task plan (suc a.place) (drop i b.steps.items)) (sym f) (subst (λ v. Left task plan (suc a.place) (drop a.next v.items)) (sym s) left));
    next = n ∙ ap (λ i. i + run_end (drop i a.steps.items)) (sym f) ∙ ap (λ v. b.first + run_end (drop b.first v.items)) (sym s);
    within = subst (λ v. b.next ≤ length v.items) (sym s) w;
    counted = let c : suc a.place ≤ a.next = counted-next a at (more-out a at h) in omega (arith, c, p, f);
    started = subst (λ v. b.started ≤ length v.items) (sym l) st;
    running = subst (λ k. suc k < count task plan → AreRunning (time_of task plan k) (time_of task plan (suc k)) b.lines.items b.started b.running.items) (sym p)
        (subst (λ v. suc (suc a.place) < count task plan → AreRunning (time_of task plan (suc a.place)) (time_of task plan (suc (suc a.place))) v.items b.started b.running.items) (sym l)
        (run-on a.steps.items (suc a.place) a.next b.next left n a.lines.items a.running.items b.running.items a.started b.started
        (rises-listed a.owned.items a.lines.items at.listed) at.started (begun-before a at h) (lasting-on a at h) r));
  }
    where
      left : Left task plan (suc a.place) (drop a.next a.steps.items)
      left = left-next a.place a.steps.items a.first a.next at.next at.left
