-- What is noted of pairs of steps tells of the clash duties of the lines.
use Rattle.std.proofs.Common.{◌≡◌, refl, sym, ap, subst, ◌∙◌, ℕ, suc, ◌+◌, ◌-◌, ◌<◌, ◌≤◌, Bool, true, false, ◌&&◌, ◌||◌, if◌then◌else◌, List, [], ◌∷◌, ◌++◌, length, map, inl, inr, arith}
use Rattle.std.specs.Prelude.{IsPermutation, nat_le, slice_index_or}
use Rattle.std.proofs.lemmas.List.Sorted.{IsPermutation-sym}
use Rattle.std.specs.List.{AllByRecursion, flat_map, list_all, enumerate_from}
use Rattle.std.proofs.lemmas.List.{map-append}
use Rattle.rational.specs.Rational.{ℚ, zeroℚ}
use Rattle.basics.specs.Duties.{duty}
use Rattle.basics.proofs.Bools.{and_left, and_right, and_in}
use Rattle.basics.proofs.Lists.{each_append, each_left, each_right, each_map}
use Rattle.basics.proofs.Naturals.{le_in, le_out}
use Rattle.task_types.specs.declared.parts.Rules.{Rules}
use Rattle.task_types.specs.declared.parts.TaskParts.{TaskParts}
use Rattle.task_types.specs.declared.plans.PlanLine.{PlanLine}
use Rattle.task_types.specs.declared.plans.Reason.{Reason}
use Rattle.task_types.specs.declared.plans.Reason.TheVariants as reason
use Rattle.task_types.specs.Plan.{Plan, Step, line_steps, timed_steps}
use Rattle.task_types.specs.Valid.{are_apart, all_apart, each_apart, clash_duties}
use Rattle.timed_meaning.specs.declared.steps.OwnedStep.{OwnedStep}
use Rattle.timed_meaning.specs.Told.{timed_step}
use Rattle.timed_meaning.specs.Owned.{owned, owned_line, owned_moment, owned_steps, steps_of}
use Rattle.timed_meaning.specs.Sorts.{NeverFall}
use Rattle.plan_validator.specs.Firsts.{Place}
use Rattle.plan_validator.specs.Clashes.{pair_place, is_kept, clash_notes}
use Rattle.plan_validator.proofs.Noting.{Precedes, Placed, AreAscending, duties_at}
use Rattle.plan_validator.proofs.Judgement.{Agree}
use Rattle.plan_validator.proofs.Ascending.{ascending-append}
use Rattle.plan_validator.proofs.Choosing.{EachPair, EachAcross, pairs-append, pairs-left, pairs-right, pairs-across, chosen_in, chosen_out}
use Rattle.task_types.proofs.Everyone.{all_both, all_map, all_of_map}
use Rattle.plan_validator.proofs.Windows.{AreKept, windows_in, windows_out, kept-reordered}

-- ---- the pairs at their places: a line with itself, with each later line, and with each timed step

pub data Meeting : Type 0 where
  Itself : (l : PlanLine) → Meeting
  Lines : (l m : PlanLine) → Meeting
  WithTimed : (l : PlanLine) (s : Step) → Meeting

abbrev pub itself_item : ℕ → PlanLine → Placed Meeting
itself_item i l = record { place = (i, i); item = Itself l }

abbrev pub later_item : ℕ → PlanLine → ℕ × PlanLine → Placed Meeting
later_item i l e = record { place = (i, e.0); item = Lines l e.1 }

abbrev pub timed_item : ℕ → ℕ → PlanLine → ℕ × (ℚ × ℕ) → Placed Meeting
timed_item n i l e = record { place = (i, n + e.0); item = WithTimed l (timed_step e.1) }

module _ (task : TaskParts) (rules : Rules) (n : ℕ) where
  abbrev pub later_items : ℕ → PlanLine → ℕ → Plan → List (Placed Meeting)
  later_items i l j ls = map (later_item i l) (enumerate_from j ls)

  abbrev pub timed_items : ℕ → PlanLine → List (Placed Meeting)
  timed_items i l = map (timed_item n i l) (enumerate_from 0 task.timed)

  abbrev pub meetings : ℕ → Plan → List (Placed Meeting)
  meetings i [] = []
  meetings i (l ∷ ls) = itself_item i l ∷ later_items i l (i + 1) ls ++ timed_items i l ++ meetings (i + 1) ls

  abbrev pub meeting_reason : Meeting → Reason
  meeting_reason (Itself l) = reason.Clash l.line l.line
  meeting_reason (Lines l m) = reason.Clash l.line m.line
  meeting_reason (WithTimed l s) = reason.ClashTimed l.line s.time

  abbrev pub meeting_test : Meeting → Bool
  meeting_test (Itself l) = each_apart task rules (line_steps task l)
  meeting_test (Lines l m) = all_apart task rules (line_steps task l) (line_steps task m)
  meeting_test (WithTimed l s) = all_apart task rules (line_steps task l) (s ∷ [])

  -- ---- their duties

  duties-later : (i : ℕ) (l : PlanLine) (j : ℕ) (ls : Plan) → duties_at meeting_reason meeting_test (later_items i l j ls) ≡ map (λ m. duty (reason.Clash l.line m.line) (all_apart task rules (line_steps task l) (line_steps task m))) ls
  duties-later i l j [] = refl
  duties-later i l j (m ∷ ms) = ap (λ ds. duty (reason.Clash l.line m.line) (all_apart task rules (line_steps task l) (line_steps task m)) ∷ ds) (duties-later i l (j + 1) ms)

  duties-timed : (i : ℕ) (l : PlanLine) (j : ℕ) (ts : List (ℚ × ℕ)) → duties_at meeting_reason meeting_test (map (timed_item n i l) (enumerate_from j ts)) ≡ map (λ s. duty (reason.ClashTimed l.line s.time) (all_apart task rules (line_steps task l) (s ∷ []))) (map timed_step ts)
  duties-timed i l j [] = refl
  duties-timed i l j (t ∷ ts) = ap (λ ds. duty (reason.ClashTimed l.line t.0) (all_apart task rules (line_steps task l) (timed_step t ∷ [])) ∷ ds) (duties-timed i l (j + 1) ts)

  pub duties-meetings : (i : ℕ) (ls : Plan) → duties_at meeting_reason meeting_test (meetings i ls) ≡ clash_duties task rules ls
  duties-meetings i [] = refl
  duties-meetings i (l ∷ ls) =
      map-append (λ e. duty (meeting_reason e.item) (meeting_test e.item)) (itself_item i l ∷ later_items i l (i + 1) ls ++ timed_items i l) (meetings (i + 1) ls)
      ∙ ap (λ ds. ds ++ duties_at meeting_reason meeting_test (meetings (i + 1) ls)) (map-append (λ e. duty (meeting_reason e.item) (meeting_test e.item)) (itself_item i l ∷ later_items i l (i + 1) ls) (timed_items i l))
      ∙ ap (λ ds. duty (reason.Clash l.line l.line) (each_apart task rules (line_steps task l)) ∷ ds ++ duties_at meeting_reason meeting_test (timed_items i l) ++ duties_at meeting_reason meeting_test (meetings (i + 1) ls)) (duties-later i l (i + 1) ls)
      ∙ ap (λ ds. duty (reason.Clash l.line l.line) (each_apart task rules (line_steps task l)) ∷ map (λ m. duty (reason.Clash l.line m.line) (all_apart task rules (line_steps task l) (line_steps task m))) ls ++ ds ++ duties_at meeting_reason meeting_test (meetings (i + 1) ls)) (duties-timed i l 0 task.timed)
      ∙ ap (λ ds. duty (reason.Clash l.line l.line) (each_apart task rules (line_steps task l)) ∷ map (λ m. duty (reason.Clash l.line m.line) (all_apart task rules (line_steps task l) (line_steps task m))) ls
      ++ map (λ s. duty (reason.ClashTimed l.line s.time) (all_apart task rules (line_steps task l) (s ∷ []))) (timed_steps task) ++ ds) (duties-meetings (i + 1) ls)

  -- ---- their places ascend

  later-above : (i : ℕ) (l : PlanLine) (j : ℕ) (ls : Plan) (p : Place) → ((k : ℕ) → j ≤ k → Precedes p (i, k)) → AllByRecursion (λ d. Precedes p d.place) (later_items i l j ls)
  later-above i l j [] p h = tt
  later-above i l j (m ∷ ms) p h = (h j (omega arith), later-above i l (j + 1) ms p (λ k q. h k (omega (arith, q))))

  timed-above : (i : ℕ) (l : PlanLine) (j : ℕ) (ts : List (ℚ × ℕ)) (p : Place) → ((k : ℕ) → n + j ≤ k → Precedes p (i, k)) → AllByRecursion (λ d. Precedes p d.place) (map (timed_item n i l) (enumerate_from j ts))
  timed-above i l j [] p h = tt
  timed-above i l j (t ∷ ts) p h = (h (n + j) (omega arith), timed-above i l (j + 1) ts p (λ k q. h k (omega (arith, q))))

  meetings-above : (i : ℕ) (ls : Plan) (p : Place) → p.0 < i → AllByRecursion (λ d. Precedes p d.place) (meetings i ls)
  meetings-above i [] p h = tt
  meetings-above i (l ∷ ls) p h = each_append (λ d. Precedes p d.place) (itself_item i l ∷ later_items i l (i + 1) ls ++ timed_items i l) (meetings (i + 1) ls)
      (each_append (λ d. Precedes p d.place) (itself_item i l ∷ later_items i l (i + 1) ls) (timed_items i l) (inl h, later-above i l (i + 1) ls p (λ k q. inl h)) (timed-above i l 0 task.timed p (λ k q. inl h)))
      (meetings-above (i + 1) ls p (omega (arith, h)))

  later-ascend : (i : ℕ) (l : PlanLine) (j : ℕ) (ls : Plan) → AreAscending (later_items i l j ls)
  later-ascend i l j [] = tt
  later-ascend i l j (m ∷ ms) = (later-above i l (j + 1) ms (i, j) (λ k q. inr (refl, omega (arith, q))), later-ascend i l (j + 1) ms)

  timed-ascend : (i : ℕ) (l : PlanLine) (j : ℕ) (ts : List (ℚ × ℕ)) → AreAscending (map (timed_item n i l) (enumerate_from j ts))
  timed-ascend i l j [] = tt
  timed-ascend i l j (t ∷ ts) = (timed-above i l (j + 1) ts (i, n + j) (λ k q. inr (refl, omega (arith, q))), timed-ascend i l (j + 1) ts)

  -- the later lines come before the timed steps
  later-timed : (i : ℕ) (l : PlanLine) (j : ℕ) (ls : Plan) → j + length ls ≤ n → AllByRecursion (λ x. AllByRecursion (λ y. Precedes x.place y.place) (timed_items i l)) (later_items i l j ls)
  later-timed i l j [] h = tt
  later-timed i l j (m ∷ ms) h = (timed-above i l 0 task.timed (i, j) (λ k q. inr (refl, omega (arith, q, h))), later-timed i l (j + 1) ms (omega (arith, h)))

  each-lower : (i : ℕ) (ls : Plan) (es : List (Placed Meeting)) → AllByRecursion (λ x. x.place.0 < i) es → AllByRecursion (λ x. AllByRecursion (λ y. Precedes x.place y.place) (meetings i ls)) es
  each-lower i ls [] h = tt
  each-lower i ls (e ∷ es) h = (meetings-above i ls e.place h.0, each-lower i ls es h.1)

  later-of : (i : ℕ) (l : PlanLine) (j : ℕ) (ls : Plan) → AllByRecursion (λ x. x.place.0 < i + 1) (later_items i l j ls)
  later-of i l j [] = tt
  later-of i l j (m ∷ ms) = (omega arith, later-of i l (j + 1) ms)

  timed-of : (i : ℕ) (l : PlanLine) (j : ℕ) (ts : List (ℚ × ℕ)) → AllByRecursion (λ x. x.place.0 < i + 1) (map (timed_item n i l) (enumerate_from j ts))
  timed-of i l j [] = tt
  timed-of i l j (t ∷ ts) = (omega arith, timed-of i l (j + 1) ts)

  pub meetings-ascend : (i : ℕ) (ls : Plan) → i + length ls ≤ n → AreAscending (meetings i ls)
  meetings-ascend i [] h = tt
  meetings-ascend i (l ∷ ls) h = ascending-append (itself_item i l ∷ later_items i l (i + 1) ls ++ timed_items i l) (meetings (i + 1) ls)
      (ascending-append (itself_item i l ∷ later_items i l (i + 1) ls) (timed_items i l) (later-above i l (i + 1) ls (i, i) (λ k q. inr (refl, omega (arith, q))), later-ascend i l (i + 1) ls) (timed-ascend i l 0 task.timed)
      (timed-above i l 0 task.timed (i, i) (λ k q. inr (refl, omega (arith, q, h))), later-timed i l (i + 1) ls (omega (arith, h))))
      (meetings-ascend (i + 1) ls (omega (arith, h)))
      (each-lower (i + 1) ls (itself_item i l ∷ later_items i l (i + 1) ls ++ timed_items i l) (each_append (λ x. x.place.0 < i + 1) (itself_item i l ∷ later_items i l (i + 1) ls) (timed_items i l) (omega arith, later-of i l (i + 1) ls) (timed-of i l 0 task.timed)))

  -- ---- the reason of a place

  abbrev pub no_moment : ℚ × ℕ
  no_moment = (zeroℚ, 0)

  abbrev pub meeting_named : Plan → PlanLine → Place → Reason
  meeting_named all d m = if nat_le n m.1 then reason.ClashTimed (slice_index_or all m.0 d).line (slice_index_or task.timed (m.1 - n) no_moment).0 else reason.Clash (slice_index_or all m.0 d).line (slice_index_or all m.1 d).line

  module _ (all : Plan) (d : PlanLine) (m : Place) where
    abbrev Named : Placed Meeting → Type 0
    Named e = e.place ≡ m → meeting_reason e.item ≡ meeting_named all d m

    lines_case : (i j : ℕ) (l k : PlanLine) → j < n → l ≡ slice_index_or all i d → k ≡ slice_index_or all j d → (i, j) ≡ m → reason.Clash l.line k.line ≡ meeting_named all d m
    lines_case i j l k h e f q = ap (λ x. reason.Clash x.line k.line) e ∙ ap (λ x. reason.Clash (slice_index_or all i d).line x.line) f
        ∙ sym (ap (λ b. if b then reason.ClashTimed (slice_index_or all i d).line (slice_index_or task.timed (j - n) no_moment).0 else reason.Clash (slice_index_or all i d).line (slice_index_or all j d).line) (not_le n j h)) ∙ ap (meeting_named all d) q
      where
        not_le : (a b : ℕ) → b < a → nat_le a b ≡ false
        not_le a b h = go (nat_le a b) refl
          where
            go : (c : Bool) → nat_le a b ≡ c → c ≡ false
            go true e = absurd (omega (arith, h, le_out a b e))
            go false e = refl

    timed_case : (i s : ℕ) (l : PlanLine) (t : ℚ) → l ≡ slice_index_or all i d → t ≡ (slice_index_or task.timed s no_moment).0 → (i, n + s) ≡ m → reason.ClashTimed l.line t ≡ meeting_named all d m
    timed_case i s l t e f q = ap (λ x. reason.ClashTimed x.line t) e ∙ ap (λ x. reason.ClashTimed (slice_index_or all i d).line x) f ∙ ap (λ k. reason.ClashTimed (slice_index_or all i d).line (slice_index_or task.timed k no_moment).0) (let z : s ≡ n + s - n = omega arith in z)
        ∙ sym (ap (λ b. if b then reason.ClashTimed (slice_index_or all i d).line (slice_index_or task.timed (n + s - n) no_moment).0 else reason.Clash (slice_index_or all i d).line (slice_index_or all (n + s) d).line) (le_in n (n + s) (omega arith))) ∙ ap (meeting_named all d) q

    later-named : (i : ℕ) (l : PlanLine) (j : ℕ) (ls : Plan) → l ≡ slice_index_or all i d → j + length ls ≤ n → ((k : ℕ) → k < length ls → slice_index_or ls k d ≡ slice_index_or all (j + k) d) → AllByRecursion Named (later_items i l j ls)
    later-named i l j [] e b h = tt
    later-named i l j (x ∷ xs) e b h = (
      lines_case i j l x (omega (arith, b)) e (h 0 (omega arith) ∙ ap (λ k. slice_index_or all k d) (let z : j + 0 ≡ j = omega arith in z)),
      later-named i l (j + 1) xs e (omega (arith, b)) (λ k q. h (suc k) (omega (arith, q)) ∙ ap (λ k. slice_index_or all k d) (let z : j + suc k ≡ j + 1 + k = omega arith in z)),
    )

    timed-named : (i : ℕ) (l : PlanLine) (j : ℕ) (ts : List (ℚ × ℕ)) → l ≡ slice_index_or all i d → ((k : ℕ) → k < length ts → slice_index_or ts k no_moment ≡ slice_index_or task.timed (j + k) no_moment) → AllByRecursion Named (map (timed_item n i l) (enumerate_from j ts))
    timed-named i l j [] e h = tt
    timed-named i l j (t ∷ ts) e h = (
      timed_case i j l t.0 e (ap (λ (x : ℚ × ℕ). x.0) (h 0 (omega arith) ∙ ap (λ k. slice_index_or task.timed k no_moment) (let z : j + 0 ≡ j = omega arith in z))),
      timed-named i l (j + 1) ts e (λ k q. h (suc k) (omega (arith, q)) ∙ ap (λ k. slice_index_or task.timed k no_moment) (let z : j + suc k ≡ j + 1 + k = omega arith in z)),
    )

    pub meetings-named : (i : ℕ) (ls : Plan) → i + length ls ≤ n → ((k : ℕ) → k < length ls → slice_index_or ls k d ≡ slice_index_or all (i + k) d) → AllByRecursion Named (meetings i ls)
    meetings-named i [] b h = tt
    meetings-named i (l ∷ ls) b h = each_append Named (itself_item i l ∷ later_items i l (i + 1) ls ++ timed_items i l) (meetings (i + 1) ls)
        (each_append Named (itself_item i l ∷ later_items i l (i + 1) ls) (timed_items i l) (lines_case i i l l (omega (arith, b)) here here, later-named i l (i + 1) ls here (omega (arith, b)) later) (timed-named i l 0 task.timed here (λ k q. ap (λ k. slice_index_or task.timed k no_moment) (let z : k ≡ 0 + k = omega arith in z))))
        (meetings-named (i + 1) ls (omega (arith, b)) later)
      where
        here : l ≡ slice_index_or all i d
        here = h 0 (omega arith) ∙ ap (λ k. slice_index_or all k d) (let z : i + 0 ≡ i = omega arith in z)

        later : (k : ℕ) → k < length ls → slice_index_or ls k d ≡ slice_index_or all (i + 1 + k) d
        later k q = h (suc k) (omega (arith, q)) ∙ ap (λ k. slice_index_or all k d) (let z : i + suc k ≡ i + 1 + k = omega arith in z)

  -- ---- the notes agree

  module _ (Q : Place → Type 0) where
    abbrev R : OwnedStep → OwnedStep → Type 0
    R = AreKept task rules n Q

    abbrev Passed : Placed Meeting → Type 0
    Passed e = Q e.place → meeting_test e.item ≡ true

    module _ (i j : ℕ) (s t : Step) (low : i < n) (up : i ≤ j) where
      place-is : pair_place (owned i s) (owned j t) ≡ (i, j)
      place-is = ap (λ b. let p : Place = (if b then (i, j) else (j, i)) in p) (le_in i j up)

      kept-is : is_kept task rules n (owned i s) (owned j t) ≡ are_apart task rules s t
      kept-is = ap (λ b. (b && nat_le n j) || are_apart task rules s t) (go (nat_le n i) refl)
        where
          go : (c : Bool) → nat_le n i ≡ c → c ≡ false
          go true e = absurd (omega (arith, low, le_out n i e))
          go false e = refl

      kept_out : R (owned i s) (owned j t) → Q (i, j) → are_apart task rules s t ≡ true
      kept_out h q = sym kept-is ∙ h (subst Q (sym place-is) q)

      kept_in : (Q (i, j) → are_apart task rules s t ≡ true) → R (owned i s) (owned j t)
      kept_in h q = kept-is ∙ h (subst Q place-is q)

    module _ (i j : ℕ) (low : i < n) (up : i ≤ j) where
      row_out : (s : Step) (ts : List Step) → AllByRecursion (R (owned i s)) (map (owned j) ts) → Q (i, j) → list_all (are_apart task rules s) ts ≡ true
      row_out s ts h = chosen_out (Q (i, j)) (are_apart task rules s) ts (all_map (λ t. R (owned i s) (owned j t)) (λ t. Q (i, j) → are_apart task rules s t ≡ true) ts (λ t. kept_out i j s t low up) (all_of_map (R (owned i s)) (owned j) ts h))

      row_in : (s : Step) (ts : List Step) → (Q (i, j) → list_all (are_apart task rules s) ts ≡ true) → AllByRecursion (R (owned i s)) (map (owned j) ts)
      row_in s ts h = each_map (R (owned i s)) (owned j) ts (all_map (λ t. Q (i, j) → are_apart task rules s t ≡ true) (λ t. R (owned i s) (owned j t)) ts (λ t. kept_in i j s t low up) (chosen_in (Q (i, j)) (are_apart task rules s) ts h))

      across_out : (ss ts : List Step) → EachAcross R (map (owned i) ss) (map (owned j) ts) → Q (i, j) → all_apart task rules ss ts ≡ true
      across_out [] ts h q = refl
      across_out (s ∷ ss) ts h q = and_in (list_all (are_apart task rules s) ts) (all_apart task rules ss ts) (row_out s ts h.0 q) (across_out ss ts h.1 q)

      across_in : (ss ts : List Step) → (Q (i, j) → all_apart task rules ss ts ≡ true) → EachAcross R (map (owned i) ss) (map (owned j) ts)
      across_in [] ts h = tt
      across_in (s ∷ ss) ts h = (row_in s ts (λ q. and_left _ _ (h q)), across_in ss ts (λ q. and_right _ _ (h q)))

    module _ (i : ℕ) (low : i < n) where
      own_out : (ss : List Step) → EachPair R (map (owned i) ss) → Q (i, i) → each_apart task rules ss ≡ true
      own_out [] h q = refl
      own_out (s ∷ ss) h q = and_in (list_all (are_apart task rules s) ss) (each_apart task rules ss) (row_out i i low (omega arith) s ss h.0 q) (own_out ss h.1 q)

      own_in : (ss : List Step) → (Q (i, i) → each_apart task rules ss ≡ true) → EachPair R (map (owned i) ss)
      own_in [] h = tt
      own_in (s ∷ ss) h = (row_in i i low (omega arith) s ss (λ q. and_left _ _ (h q)), own_in ss (λ q. and_right _ _ (h q)))

      module _ (l : PlanLine) where
        abbrev own : List OwnedStep
        own = owned_line task (i, l)

        later_out : (j : ℕ) (ls : Plan) → i ≤ j → EachAcross R own (flat_map (owned_line task) (enumerate_from j ls)) → AllByRecursion Passed (later_items i l j ls)
        later_out j [] u h = tt
        later_out j (m ∷ ms) u h = (
          across_out i j low u (line_steps task l) (line_steps task m) (all_map (λ x. AllByRecursion (R x) (owned_line task (j, m) ++ flat_map (owned_line task) (enumerate_from (j + 1) ms))) (λ x. AllByRecursion (R x) (owned_line task (j, m))) own (λ x k. each_left (R x) (owned_line task (j, m)) (flat_map (owned_line task) (enumerate_from (j + 1) ms)) k) h),
          later_out (j + 1) ms (omega (arith, u)) (all_map (λ x. AllByRecursion (R x) (owned_line task (j, m) ++ flat_map (owned_line task) (enumerate_from (j + 1) ms))) (λ x. AllByRecursion (R x) (flat_map (owned_line task) (enumerate_from (j + 1) ms))) own (λ x k. each_right (R x) (owned_line task (j, m)) (flat_map (owned_line task) (enumerate_from (j + 1) ms)) k) h),
        )

        later_in : (j : ℕ) (ls : Plan) → i ≤ j → AllByRecursion Passed (later_items i l j ls) → EachAcross R own (flat_map (owned_line task) (enumerate_from j ls))
        later_in j [] u h = none own
          where
            none : (xs : List OwnedStep) → AllByRecursion (λ x. Unit {0}) xs
            none [] = tt
            none (x ∷ xs) = (tt, none xs)
        later_in j (m ∷ ms) u h = all_both (λ x. AllByRecursion (R x) (owned_line task (j, m))) (λ x. AllByRecursion (R x) (flat_map (owned_line task) (enumerate_from (j + 1) ms))) (λ x. AllByRecursion (R x) (owned_line task (j, m) ++ flat_map (owned_line task) (enumerate_from (j + 1) ms))) own
            (λ x k r. each_append (R x) (owned_line task (j, m)) (flat_map (owned_line task) (enumerate_from (j + 1) ms)) k r) (across_in i j low u (line_steps task l) (line_steps task m) h.0) (later_in (j + 1) ms (omega (arith, u)) h.1)

        timed_out : (k : ℕ) (ts : List (ℚ × ℕ)) → EachAcross R own (map (owned_moment n) (enumerate_from k ts)) → AllByRecursion Passed (map (timed_item n i l) (enumerate_from k ts))
        timed_out k [] h = tt
        timed_out k (t ∷ ts) h = (
          across_out i (n + k) low (omega (arith, low)) (line_steps task l) (timed_step t ∷ []) (all_map (λ x. AllByRecursion (R x) (map (owned_moment n) (enumerate_from k (t ∷ ts)))) (λ x. AllByRecursion (R x) (map (owned (n + k)) (timed_step t ∷ []))) own (λ x a. (a.0, tt)) h),
          timed_out (k + 1) ts (all_map (λ x. AllByRecursion (R x) (map (owned_moment n) (enumerate_from k (t ∷ ts)))) (λ x. AllByRecursion (R x) (map (owned_moment n) (enumerate_from (k + 1) ts))) own (λ x a. a.1) h),
        )

        timed_in : (k : ℕ) (ts : List (ℚ × ℕ)) → AllByRecursion Passed (map (timed_item n i l) (enumerate_from k ts)) → EachAcross R own (map (owned_moment n) (enumerate_from k ts))
        timed_in k [] h = none own
          where
            none : (xs : List OwnedStep) → AllByRecursion (λ x. Unit {0}) xs
            none [] = tt
            none (x ∷ xs) = (tt, none xs)
        timed_in k (t ∷ ts) h = all_both (λ x. AllByRecursion (R x) (map (owned (n + k)) (timed_step t ∷ []))) (λ x. AllByRecursion (R x) (map (owned_moment n) (enumerate_from (k + 1) ts))) (λ x. AllByRecursion (R x) (map (owned_moment n) (enumerate_from k (t ∷ ts)))) own
            (λ x a b. (a.0, b)) (across_in i (n + k) low (omega (arith, low)) (line_steps task l) (timed_step t ∷ []) h.0) (timed_in (k + 1) ts h.1)

    abbrev rest : ℕ → Plan → List OwnedStep
    rest i ls = flat_map (owned_line task) (enumerate_from i ls)

    abbrev moments : List OwnedStep
    moments = map (owned_moment n) (enumerate_from 0 task.timed)

    meetings_out : (i : ℕ) (ls : Plan) → i + length ls ≤ n → EachPair R (rest i ls) → EachAcross R (rest i ls) moments → AllByRecursion Passed (meetings i ls)
    meetings_out i [] b p a = tt
    meetings_out i (l ∷ ls) b p a = each_append Passed (itself_item i l ∷ later_items i l (i + 1) ls ++ timed_items i l) (meetings (i + 1) ls)
        (each_append Passed (itself_item i l ∷ later_items i l (i + 1) ls) (timed_items i l)
        (own_out i (omega (arith, b)) (line_steps task l) (pairs-left R (owned_line task (i, l)) (rest (i + 1) ls) p), later_out i (omega (arith, b)) l (i + 1) ls (omega arith) (pairs-across R (owned_line task (i, l)) (rest (i + 1) ls) p))
        (timed_out i (omega (arith, b)) l 0 task.timed (each_left (λ x. AllByRecursion (R x) moments) (owned_line task (i, l)) (rest (i + 1) ls) a)))
        (meetings_out (i + 1) ls (omega (arith, b)) (pairs-right R (owned_line task (i, l)) (rest (i + 1) ls) p) (each_right (λ x. AllByRecursion (R x) moments) (owned_line task (i, l)) (rest (i + 1) ls) a))

    meetings_in : (i : ℕ) (ls : Plan) → i + length ls ≤ n → AllByRecursion Passed (meetings i ls) → EachPair R (rest i ls) × EachAcross R (rest i ls) moments
    meetings_in i [] b h = (tt, tt)
    meetings_in i (l ∷ ls) b h = go (meetings_in (i + 1) ls (omega (arith, b)) (each_right Passed (itself_item i l ∷ later_items i l (i + 1) ls ++ timed_items i l) (meetings (i + 1) ls) h)) (each_left Passed (itself_item i l ∷ later_items i l (i + 1) ls ++ timed_items i l) (meetings (i + 1) ls) h)
      where
        go : EachPair R (rest (i + 1) ls) × EachAcross R (rest (i + 1) ls) moments → AllByRecursion Passed (itself_item i l ∷ later_items i l (i + 1) ls ++ timed_items i l) → EachPair R (rest i (l ∷ ls)) × EachAcross R (rest i (l ∷ ls)) moments
        go r k = finish (each_left Passed (itself_item i l ∷ later_items i l (i + 1) ls) (timed_items i l) k) (each_right Passed (itself_item i l ∷ later_items i l (i + 1) ls) (timed_items i l) k)
          where
            finish : AllByRecursion Passed (itself_item i l ∷ later_items i l (i + 1) ls) → AllByRecursion Passed (timed_items i l) → EachPair R (rest i (l ∷ ls)) × EachAcross R (rest i (l ∷ ls)) moments
            finish x y = (
              pairs-append R (owned_line task (i, l)) (rest (i + 1) ls) (own_in i (omega (arith, b)) (line_steps task l) x.0) r.0 (later_in i (omega (arith, b)) l (i + 1) ls (omega arith) x.1),
              each_append (λ z. AllByRecursion (R z) moments) (owned_line task (i, l)) (rest (i + 1) ls) (timed_in i (omega (arith, b)) l 0 task.timed y) r.1,
            )

    -- timed steps are kept apart from one another
    moments-kept : (k : ℕ) (ts : List (ℚ × ℕ)) → EachPair R (map (owned_moment n) (enumerate_from k ts))
    moments-kept k [] = tt
    moments-kept k (t ∷ ts) = (with_each (k + 1) ts, moments-kept (k + 1) ts)
      where
        with_each : (j : ℕ) (us : List (ℚ × ℕ)) → AllByRecursion (R (owned_moment n (k, t))) (map (owned_moment n) (enumerate_from j us))
        with_each j [] = tt
        with_each j (u ∷ us) = ((λ q. ap (λ b. (b && nat_le n (n + j)) || are_apart task rules (timed_step t) (timed_step u)) (le_in n (n + k) (omega arith)) ∙ ap (λ b. b || are_apart task rules (timed_step t) (timed_step u)) (le_in n (n + j) (omega arith))), with_each (j + 1) us)

pub clashes-agree : (task : TaskParts) (rules : Rules) (plan : Plan) (sorted : List OwnedStep) → IsPermutation (owned_steps task plan) sorted → NeverFall (steps_of sorted)
    → Agree (meeting_test task rules (length plan)) (meetings task rules (length plan) 0 plan) (clash_notes task rules (length plan) sorted)
clashes-agree task rules plan sorted p f = λ Q. (
  λ h. out Q (kept-reordered task rules (length plan) Q sorted (owned_steps task plan) (IsPermutation-sym (owned_steps task plan) sorted p) (windows_out task rules (length plan) Q sorted f h)),
  λ h. windows_in task rules (length plan) Q sorted (kept-reordered task rules (length plan) Q (owned_steps task plan) sorted p (inside Q (meetings_in task rules (length plan) Q 0 plan (omega arith) h))),
)
  where
    out : (Q : Place → Type 0) → EachPair (AreKept task rules (length plan) Q) (owned_steps task plan) → AllByRecursion (λ e. Q e.place → meeting_test task rules (length plan) e.item ≡ true) (meetings task rules (length plan) 0 plan)
    out Q h = meetings_out task rules (length plan) Q 0 plan (omega arith) (pairs-left (AreKept task rules (length plan) Q) (flat_map (owned_line task) (enumerate_from 0 plan)) (map (owned_moment (length plan)) (enumerate_from 0 task.timed)) h)
        (pairs-across (AreKept task rules (length plan) Q) (flat_map (owned_line task) (enumerate_from 0 plan)) (map (owned_moment (length plan)) (enumerate_from 0 task.timed)) h)

    inside : (Q : Place → Type 0) → EachPair (AreKept task rules (length plan) Q) (flat_map (owned_line task) (enumerate_from 0 plan)) × EachAcross (AreKept task rules (length plan) Q) (flat_map (owned_line task) (enumerate_from 0 plan)) (map (owned_moment (length plan)) (enumerate_from 0 task.timed)) → EachPair (AreKept task rules (length plan) Q) (owned_steps task plan)
    inside Q h = pairs-append (AreKept task rules (length plan) Q) (flat_map (owned_line task) (enumerate_from 0 plan)) (map (owned_moment (length plan)) (enumerate_from 0 task.timed)) h.0 (moments-kept task rules (length plan) Q 0 task.timed) h.1
