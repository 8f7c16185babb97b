-- The running lines followed from happening to happening: those that end are dropped, those that begin are put behind.
use Rattle.std.proofs.Common.{◌≡◌, refl, sym, ap, subst, ◌∙◌, ℕ, zero, suc, ◌+◌, ◌-◌, ◌≤◌, Bool, true, false, ◌&&◌, cond, if◌then◌else◌, List, [], ◌∷◌, ◌++◌, length, map, take, drop, zero-add, arith}
use Rattle.std.specs.Prelude.{IsPermutation}
use Rattle.std.specs.List.{AllByRecursion, filter, enumerate_from}
use Rattle.std.proofs.lemmas.List.{take-append-drop, drop-drop, length-drop}
use Rattle.std.proofs.lemmas.List.Elements.{filter-append}
use Rattle.rational.specs.Rational.{ℚ, ◌≤ℚ◌}
use Rattle.rational.proofs.Inequalities.{le_trans, lt_le_trans}
use Rattle.basics.proofs.Lists.{each_append}
use Rattle.task_types.specs.declared.plans.PlanLine.{PlanLine}
use Rattle.task_types.specs.Tests.{◌≤?◌}
use Rattle.task_types.specs.Plan.{Plan, end_of}
use Rattle.task_types.specs.Course.{runs_between}
use Rattle.task_types.specs.Reckoned.{by_start}
use Rattle.task_types.proofs.Comparisons.{le_in, le_out, later_out, lt_le_absurd}
use Rattle.task_types.proofs.Everyone.{all_map, all_both, filter_same, filter_none}
use Rattle.task_types.proofs.Reordering.{filter_reordered}
use Rattle.timed_meaning.specs.declared.placing.PlacedLine.{PlacedLine}
use Rattle.timed_meaning.specs.Owned.{placed, placed_lines, lines_of}
use Rattle.timed_meaning.specs.Places.{has_begun, lasts_to, runs, begun_by, AreRunning}
use Rattle.timed_meaning.proofs.Running.{Rises, running-is}

pub lines-placed : (n : ℕ) (plan : Plan) → lines_of (map placed (enumerate_from n plan)) ≡ plan
lines-placed n [] = refl
lines-placed n (l ∷ ls) = ap (λ ms. l ∷ ms) (lines-placed (n + 1) ls)

-- ---- the lines at the front that have begun

take-none : {X : Type 0} (n : ℕ) → ◌≡◌ {A = List X} (take n []) []
take-none zero = refl
take-none (suc n) = refl

pub take-parts : {X : Type 0} (s n : ℕ) (xs : List X) → take (s + n) xs ≡ take s xs ++ take n (drop s xs)
take-parts zero n xs = ap (λ k. take k xs) (zero-add n)
take-parts (suc s) n [] = take-none (suc s + n) ∙ sym (take-none n)
take-parts (suc s) n (x ∷ xs) = ap (λ k. take k (x ∷ xs)) (let e : suc s + n ≡ suc (s + n) = omega arith in e) ∙ ap (λ l. x ∷ l) (take-parts s n xs)

module _ (from : ℚ) where
  take-begun : (xs : List PlacedLine) → take (length (begun_by from xs)) xs ≡ begun_by from xs
  take-begun [] = refl
  take-begun (x ∷ xs) = go (has_begun from x) (take-begun xs)
    where
      go : (b : Bool) → take (length (begun_by from xs)) xs ≡ begun_by from xs → take (length (if b then (x ∷ begun_by from xs) else [])) (x ∷ xs) ≡ (if b then (x ∷ begun_by from xs) else [])
      go true r = ap (λ l. x ∷ l) r
      go false r = refl

  are-begun : (xs : List PlacedLine) → AllByRecursion (λ p. has_begun from p ≡ true) (begun_by from xs)
  are-begun [] = tt
  are-begun (x ∷ xs) = go (has_begun from x) refl (are-begun xs)
    where
      go : (b : Bool) → has_begun from x ≡ b → AllByRecursion (λ p. has_begun from p ≡ true) (begun_by from xs) → AllByRecursion (λ p. has_begun from p ≡ true) (if b then (x ∷ begun_by from xs) else [])
      go true e r = (e, r)
      go false e r = tt

  -- behind a line that hasn't begun none has
  none-behind : (x : PlacedLine) (xs : List PlacedLine) → has_begun from x ≡ false → AllByRecursion (λ (m : PlanLine). x.line.at ≤ℚ m.at) (lines_of xs) → AllByRecursion (λ p. has_begun from p ≡ false) xs
  none-behind x [] e h = tt
  none-behind x (y ∷ ys) e h = (late (has_begun from y) refl, none-behind x ys e h.1)
    where
      late : (b : Bool) → has_begun from y ≡ b → b ≡ false
      late true f = absurd (lt_le_absurd from y.line.at (lt_le_trans from x.line.at y.line.at (later_out x.line.at from e) h.0) (le_out y.line.at from f))
      late false f = refl

  are-waiting : (xs : List PlacedLine) → Rises (lines_of xs) → AllByRecursion (λ p. has_begun from p ≡ false) (drop (length (begun_by from xs)) xs)
  are-waiting [] r = tt
  are-waiting (x ∷ xs) r = go (has_begun from x) refl (are-waiting xs r.1)
    where
      go : (b : Bool) → has_begun from x ≡ b → AllByRecursion (λ p. has_begun from p ≡ false) (drop (length (begun_by from xs)) xs) → AllByRecursion (λ p. has_begun from p ≡ false) (drop (length (if b then (x ∷ begun_by from xs) else [])) (x ∷ xs))
      go true e q = q
      go false e q = (e, none-behind x xs e r.0)

  length-begun : (xs : List PlacedLine) → length (begun_by from xs) ≤ length xs
  length-begun [] = omega arith
  length-begun (x ∷ xs) = go (has_begun from x) (length-begun xs)
    where
      go : (b : Bool) → length (begun_by from xs) ≤ length xs → length (if b then (x ∷ begun_by from xs) else []) ≤ suc (length xs)
      go true r = omega (arith, r)
      go false r = omega arith

Rises-drop : (n : ℕ) (xs : List PlacedLine) → Rises (lines_of xs) → Rises (lines_of (drop n xs))
Rises-drop zero xs r = r
Rises-drop (suc n) [] r = r
Rises-drop (suc n) (x ∷ xs) r = Rises-drop n xs r.1

-- ---- on to the next happening

-- a line that lasts to a time lasts to each earlier one
pub lasting-later : (t u : ℚ) → t ≤ℚ u → (xs : List PlacedLine) → filter (lasts_to u) (filter (lasts_to t) xs) ≡ filter (lasts_to u) xs
lasting-later t u h [] = refl
lasting-later t u h (x ∷ xs) = go (lasts_to t x) (lasts_to u x) refl refl (lasting-later t u h xs)
  where
    go : (a b : Bool) → lasts_to t x ≡ a → lasts_to u x ≡ b → filter (lasts_to u) (filter (lasts_to t) xs) ≡ filter (lasts_to u) xs
        → filter (lasts_to u) (cond a (x ∷ filter (lasts_to t) xs) (filter (lasts_to t) xs)) ≡ cond b (x ∷ filter (lasts_to u) xs) (filter (lasts_to u) xs)
    go true b e f r = ap (λ c. cond c (x ∷ filter (lasts_to u) (filter (lasts_to t) xs)) (filter (lasts_to u) (filter (lasts_to t) xs))) f ∙ ap (λ l. cond b (x ∷ l) l) r
    go false true e f r = let c : false ≡ true = sym e ∙ le_in t x.end (le_trans t u x.end h (le_out u x.end f)) in cc
    go false false e f r = r

module _ (from to : ℚ) (lines : List PlacedLine) (started : ℕ) (rises : Rises (lines_of lines)) (inside : started ≤ length lines) where
  abbrev rest : List PlacedLine
  rest = drop started lines

  pub followed : (old new : List PlacedLine) (now : ℕ) → AllByRecursion (λ p. has_begun from p ≡ true) (take started lines) → filter (lasts_to to) old ≡ filter (lasts_to to) (take started lines)
      → now ≡ started + length (begun_by from (drop started lines)) → new ≡ filter (lasts_to to) old ++ filter (lasts_to to) (begun_by from (drop started lines)) → AreRunning from to lines now new
  followed old new now b l n e = record {
    begun = subst (AllByRecursion (λ p. has_begun from p ≡ true)) (sym front) (each_append (λ p. has_begun from p ≡ true) (take started lines) (begun_by from rest) b (are-begun from rest));
    waiting = subst (AllByRecursion (λ p. has_begun from p ≡ false)) (sym back) (are-waiting from rest (Rises-drop started lines rises));
    lasting = e ∙ ap (λ k. k ++ filter (lasts_to to) (begun_by from rest)) l ∙ sym (ap (filter (lasts_to to)) front ∙ filter-append (lasts_to to) (take started lines) (begun_by from rest));
  }
    where
      front : take now lines ≡ take started lines ++ begun_by from rest
      front = ap (λ k. take k lines) n ∙ take-parts started (length (begun_by from rest)) lines ∙ ap (λ k. take started lines ++ k) (take-begun from rest)

      back : drop now lines ≡ drop (length (begun_by from rest)) rest
      back = ap (λ k. drop k lines) n ∙ sym (drop-drop (length (begun_by from rest)) started lines)

  pub followed-inside : (now : ℕ) → now ≡ started + length (begun_by from (drop started lines)) → now ≤ length lines
  followed-inside now n = let h : length (begun_by from rest) ≤ length rest = length-begun from rest in let d : length rest ≡ length lines - started = length-drop started lines in omega (arith, h, d, n, inside)

-- ---- the running lines are those that run between the two times

abbrev pub run_between : ℚ → ℚ → PlacedLine → Bool
run_between from to p = runs_between from to p.line

split : {X : Type 0} (P : X → Type 0) (xs ys : List X) → AllByRecursion P (xs ++ ys) → AllByRecursion P xs × AllByRecursion P ys
split P [] ys h = (tt, h)
split P (x ∷ xs) ys h = let r = split P xs ys h.1 in ((h.0, r.0), r.1)

pub running-filtered : (from to : ℚ) (lines : List PlacedLine) (started : ℕ) (running : List PlacedLine) → AllByRecursion (λ p. p.end ≡ end_of p.line) lines → AreRunning from to lines started running → running ≡ filter (run_between from to) lines
running-filtered from to lines started running ends r =
    r.lasting ∙ sym (ap (filter (run_between from to)) (sym whole) ∙ filter-append (run_between from to) (take started lines) (drop started lines)
    ∙ ap (λ k. k ++ filter (run_between from to) (drop started lines)) (filter_same (run_between from to) (lasts_to to) (take started lines) (all_both (λ p. p.end ≡ end_of p.line) (λ p. has_begun from p ≡ true) (λ p. run_between from to p ≡ lasts_to to p) (take started lines) same parts.0 r.begun))
    ∙ ap (λ k. filter (lasts_to to) (take started lines) ++ k) (filter_none (run_between from to) (drop started lines) (all_map (λ p. has_begun from p ≡ false) (λ p. run_between from to p ≡ false) (drop started lines) none r.waiting))
    ∙ unended (filter (lasts_to to) (take started lines)))
  where
    whole : take started lines ++ drop started lines ≡ lines
    whole = take-append-drop started lines

    parts : AllByRecursion (λ p. p.end ≡ end_of p.line) (take started lines) × AllByRecursion (λ p. p.end ≡ end_of p.line) (drop started lines)
    parts = split (λ p. p.end ≡ end_of p.line) (take started lines) (drop started lines) (subst (AllByRecursion (λ p. p.end ≡ end_of p.line)) (sym whole) ends)

    same : (p : PlacedLine) → p.end ≡ end_of p.line → has_begun from p ≡ true → run_between from to p ≡ lasts_to to p
    same p e b = ap (λ c. c && (to ≤? end_of p.line)) b ∙ ap (λ t. to ≤? t) (sym e)

    none : (p : PlacedLine) → has_begun from p ≡ false → run_between from to p ≡ false
    none p b = ap (λ c. c && (to ≤? end_of p.line)) b

    unended : (xs : List PlacedLine) → xs ++ [] ≡ xs
    unended [] = refl
    unended (x ∷ xs) = ap (λ l. x ∷ l) (unended xs)

lines-filtered : (p : PlanLine → Bool) (xs : List PlacedLine) → lines_of (filter (λ x. p x.line) xs) ≡ filter p (lines_of xs)
lines-filtered p [] = refl
lines-filtered p (x ∷ xs) = go (p x.line) (lines-filtered p xs)
  where
    go : (b : Bool) → lines_of (filter (λ x. p x.line) xs) ≡ filter p (lines_of xs) → lines_of (cond b (x ∷ filter (λ x. p x.line) xs) (filter (λ x. p x.line) xs)) ≡ cond b (x.line ∷ filter p (lines_of xs)) (filter p (lines_of xs))
    go true r = ap (λ l. x.line ∷ l) r
    go false r = r

module _ (plan : Plan) (from to : ℚ) (lines : List PlacedLine) (started : ℕ) (running : List PlacedLine) (ends : AllByRecursion (λ p. p.end ≡ end_of p.line) lines) (r : AreRunning from to lines started running) where
  pub running-chosen : lines_of running ≡ filter (runs_between from to) (lines_of lines)
  running-chosen = ap lines_of (running-filtered from to lines started running ends r) ∙ lines-filtered (runs_between from to) lines

  pub running-lines_of : lines_of lines ≡ by_start plan → lines_of running ≡ by_start (filter (runs_between from to) plan)
  running-lines_of e = running-chosen ∙ ap (filter (runs_between from to)) e ∙ sym (running-is (runs_between from to) plan)

  pub running-places : IsPermutation (placed_lines plan) lines → IsPermutation (filter (run_between from to) (placed_lines plan)) running
  running-places p = subst (IsPermutation (filter (run_between from to) (placed_lines plan))) (sym (running-filtered from to lines started running ends r)) (filter_reordered (run_between from to) (placed_lines plan) lines p)

-- the lines that are found to run between two times
pub found-lines : (plan : Plan) (from to : ℚ) (lines : List PlacedLine) → AllByRecursion (λ p. p.end ≡ end_of p.line) lines → lines_of lines ≡ by_start plan → lines_of (filter (runs from to) lines) ≡ by_start (filter (runs_between from to) plan)
found-lines plan from to lines ends e = ap lines_of (filter_same (runs from to) (run_between from to) lines (all_map (λ p. p.end ≡ end_of p.line) (λ p. runs from to p ≡ run_between from to p) lines (λ p q. ap (λ t. (p.line.at ≤? from) && (to ≤? t)) q) ends))
    ∙ lines-filtered (runs_between from to) lines ∙ ap (filter (runs_between from to)) e ∙ sym (running-is (runs_between from to) plan)

pub found-known : (P : PlanLine → Type 0) (from to : ℚ) (lines : List PlacedLine) → AllByRecursion P (lines_of lines) → AllByRecursion P (lines_of (filter (runs from to) lines))
found-known P from to [] h = tt
found-known P from to (x ∷ xs) h = go (runs from to x) (found-known P from to xs h.1)
  where
    go : (b : Bool) → AllByRecursion P (lines_of (filter (runs from to) xs)) → AllByRecursion P (lines_of (cond b (x ∷ filter (runs from to) xs) (filter (runs from to) xs)))
    go true r = (h.0, r)
    go false r = r
