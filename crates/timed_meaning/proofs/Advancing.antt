-- A move in place: the lists tell the moved state where they told the state before.
use Rattle.std.proofs.Common.{◌≡◌, refl, sym, ap, subst, ◌∙◌, ℕ, zero, suc, ◌<◌, Bool, true, false, cond, ◌||◌, ◌==◌, List, [], ◌∷◌, ◌++◌, length, map, replicate, arith}
use Rattle.std.specs.Prelude.{slice_index_or, fold, None, slice_get, Result, Ok, Err}
use Rattle.std.specs.List.{AllByRecursion, filter, flat_map, range_with_len}
use Rattle.std.proofs.lemmas.List.{length-set, length-replicate, same_lists, get_or_default}
use Rattle.std.proofs.Math.Path.{fun_ext}
use native.Mathlib.Decide.{dec_lt}
use Rattle.rational.specs.Rational.{ℚ, zeroℚ, ◌+ℚ◌, ◌*ℚ◌, ◌-ℚ◌, neg_ℚ}
use Rattle.exact_lin.specs.Reckoning.{wide_limit, Fits}
use Rattle.exact_lin.specs.declared.faults.FormFault.{FormFault}
use Rattle.exact_lin.specs.declared.faults.FormFault.TheVariants.{Wide, Memory}
use Rattle.exact_lin.proofs.Results.{fits-whole}
use Rattle.task_types.specs.declared.actions.Snap.{Snap}
use Rattle.task_types.specs.declared.parts.TaskParts.{TaskParts}
use Rattle.task_types.specs.declared.plans.PlanLine.{PlanLine}
use Rattle.task_types.specs.Sets.{is_in}
use Rattle.task_types.specs.Plan.{Plan, action_of, no_snap}
use Rattle.task_types.specs.Course.{entries_of, rates_of, rate, runs_between, moved}
use Rattle.exact_lin.specs.Reckonings.{Reckoning, Sum, Product, IsDefined, sums}
use Rattle.task_types.specs.Reckoned.{by_start, rate_reckoned, move_of, move_reckoned, fluent_numbers}
use Rattle.task_types.specs.WellMade.{IsWellMade}
use Rattle.basics.proofs.Bools.{and_left, and_right}
use Rattle.basics.proofs.Lists.{each_left, each_right}
use Rattle.task_types.proofs.Assigning.{snap_of_fits}
use Rattle.task_types.proofs.Values.{reckonings_end, ends_at-sums}
use Rattle.timed_meaning.specs.Told.{told, Defined, Tells, raised, raised_reckoned}
use Rattle.timed_meaning.specs.Moves.{rates_on, Motion, rate_at, settled_at, settled, settled_reckoned}
use Rattle.timed_meaning.proofs.Amounts.{append-in}
use Rattle.timed_meaning.proofs.Writes.{Below, at, raised-at, length-raised, OwnSums, own-in, own-out}
use Rattle.timed_meaning.proofs.Happening.{below-map, entries-append, one_number, all_numbers, entries-none}
use Rattle.timed_meaning.proofs.Motions.{Ranged, Listed, Own, AllFit, own-still, own-each, each-own, values-moved, rates-gone}

pub none-snap : (xs : List Snap) (k : ℕ) → None ≡ slice_get xs k → slice_index_or xs k no_snap ≡ no_snap
none-snap [] k e = refl
none-snap (x ∷ xs) zero e = cc
none-snap (x ∷ xs) (suc k) e = none-snap xs k e

at-zeros : (n f : ℕ) → at (replicate n zeroℚ) f ≡ zeroℚ
at-zeros zero f = refl
at-zeros (suc n) zero = refl
at-zeros (suc n) (suc f) = at-zeros n f

fits-zero : Fits wide_limit zeroℚ
fits-zero = fits-whole wide_limit _ (omega arith) (omega arith)

fit-at : (xs : List ℚ) → AllByRecursion (Fits wide_limit) xs → (f : ℕ) → Fits wide_limit (at xs f)
fit-at [] h f = fits-zero
fit-at (x ∷ xs) h zero = h.0
fit-at (x ∷ xs) h (suc f) = fit-at xs h.1 f

entries-absent : (f : ℕ) (es : List (ℕ × ℚ)) → is_in f (map (λ n. n.0) es) ≡ false → entries_of f es ≡ []
entries-absent f [] q = refl
entries-absent f (n ∷ es) q = go (n.0 == f) q (entries-absent f es)
  where
    go : (b : Bool) → (b || is_in f (map (λ n. n.0) es)) ≡ false → (is_in f (map (λ n. n.0) es) ≡ false → entries_of f es ≡ []) → map (λ e. e.1) (cond b (n ∷ filter (λ e. e.0 == f) es) (filter (λ e. e.0 == f) es)) ≡ []
    go true q k = let c : true ≡ false = q in cc
    go false q k = k q

module _ (task : TaskParts) (w : IsWellMade task) where
  pub below-flat : (ls : List PlanLine) → Below (length task.fluents) (flat_map (rates_on task) ls)
  below-flat [] = tt
  below-flat (l ∷ ls) = join (rates_on task l) (below-map (length task.fluents) (rates_on task l) (and_right _ _ (and_right _ _ (and_left _ _ (and_left _ _ (and_left _ _ (snap_of_fits task (and_right _ _ w.snaps) (action_of task l.action).start))))))) (below-flat ls)
    where
      join : (es : List (ℕ × ℚ)) → Below (length task.fluents) es → Below (length task.fluents) (flat_map (rates_on task) ls) → Below (length task.fluents) (es ++ flat_map (rates_on task) ls)
      join [] h k = k
      join (e ∷ es) h k = (h.0, join es h.1 k)

  entries-rates : (ls : List PlanLine) (f : ℕ) → entries_of f (flat_map (rates_on task) ls) ≡ flat_map (λ l. rates_of task l f) ls
  entries-rates [] f = refl
  entries-rates (l ∷ ls) f = entries-append task f (rates_on task l) (flat_map (rates_on task) ls) ∙ ap (λ r. rates_of task l f ++ r) (entries-rates ls f)

  module _ (plan : Plan) (from to : ℚ) (facts : List Bool) (xs : List ℚ) (n : length xs ≡ length task.fluents) (fits : AllByRecursion (Fits wide_limit) xs) where
    abbrev pub es : List (ℕ × ℚ)
    es = flat_map (rates_on task) (by_start (filter (runs_between from to) plan))

    abbrev pub zeros : List ℚ
    zeros = replicate (length task.fluents) zeroℚ

    abbrev pub el : ℚ
    el = to -ℚ from

    abbrev pub p : Motion
    p = record { values = xs; rates = raised zeros es }

    pub zeros-below : Below (length zeros) es
    zeros-below = subst (λ k. Below k es) (sym (length-replicate (length task.fluents) zeroℚ)) (below-flat (by_start (filter (runs_between from to) plan)))

    pub values-below : Below (length xs) es
    values-below = subst (λ k. Below k es) (sym n) (below-flat (by_start (filter (runs_between from to) plan)))

    ranged : Ranged el p es
    ranged = (values-below, subst (λ k. Below k es) (sym (length-raised zeros es)) zeros-below)

    rate-fold : (f : ℕ) → rate_at p f ≡ fold (λ q r. q +ℚ r) zeroℚ (entries_of f es)
    rate-fold f = raised-at zeros es f zeros-below ∙ ap (λ q. fold (λ q r. q +ℚ r) q (entries_of f es)) (at-zeros (length task.fluents) f)

    rate-is : (f : ℕ) → rate_at p f ≡ rate task plan from to f
    rate-is f = rate-fold f ∙ ap (λ l. fold (λ q r. q +ℚ r) zeroℚ l) (entries-rates (by_start (filter (runs_between from to) plan)) f)
        ∙ sym (ends_at-sums zeroℚ (flat_map (λ l. rates_of task l f) (by_start (filter (runs_between from to) plan)))) ∙ reckonings_end.rates task plan from to f

    listed : Listed el p es
    listed = λ f q. rate-fold f ∙ ap (λ l. fold (λ q r. q +ℚ r) zeroℚ l) (entries-absent f es q)

    fit : AllFit el p
    fit = λ f. fit-at xs fits f

    pub moved-told : told facts (settled el p es).values ≡ moved task plan from to (told facts xs)
    unfolding moved
    moved-told = ap (λ (g : ℕ → ℚ). record { facts = λ f. slice_index_or facts f false; fluents = g }) (fun_ext (λ f. values-moved el p es ranged listed f ∙ ap (λ r. at xs f +ℚ r *ℚ el) (rate-is f)))

    length-settled : (q : Motion) (ns : List (ℕ × ℚ)) → length (settled el q ns).rates ≡ length q.rates
    length-settled q [] = refl
    length-settled q (m ∷ ns) = length-settled (settled_at el q m.0) ns ∙ length-set q.rates m.0 zeroℚ

    pub rates-told : (settled el p es).rates ≡ zeros
    rates-told = same_lists (settled el p es).rates zeros (length-settled p es ∙ length-raised zeros es)
        (λ k d h. get_or_default (settled el p es).rates k d zeroℚ h ∙ rates-gone el p es ranged listed k ∙ sym (at-zeros (length task.fluents) k) ∙ get_or_default zeros k zeroℚ d (subst (λ m. k < m) (length-settled p es ∙ length-raised zeros es) h))

    -- ---- where it is defined

    own-sums-is : (f : ℕ) → sums (at zeros f) (entries_of f es) ≡ rate_reckoned task plan from to f
    own-sums-is f = ap (λ q. sums q (entries_of f es)) (at-zeros (length task.fluents) f) ∙ ap (λ l. sums zeroℚ l) (entries-rates (by_start (filter (runs_between from to) plan)) f)

    abbrev tail_of : ℚ → ℕ → List Reckoning
    tail_of r f = Sum to (neg_ℚ from) ∷ Product r el ∷ Sum (at xs f) (r *ℚ el) ∷ []

    pub move-in : Defined (Sum to (neg_ℚ from) ∷ []) → Defined (raised_reckoned zeros es ++ settled_reckoned el p es) → Defined (move_reckoned task plan from to (told facts xs))
    move-in s d = all_numbers task (move_of task plan from to (told facts xs)) one (fluent_numbers task)
      where
        one : (f : ℕ) → Defined (move_of task plan from to (told facts xs) f)
        one f = append-in (rate_reckoned task plan from to f) (tail_of (rate task plan from to f) f)
            (subst Defined (own-sums-is f) (own-in zeros es zeros-below (each_left (IsDefined wide_limit) (raised_reckoned zeros es) (settled_reckoned el p es) d) f))
            (subst (λ r. Defined (tail_of r f)) (rate-is f) (s.0, own-each el p es ranged listed fit (each_right (IsDefined wide_limit) (raised_reckoned zeros es) (settled_reckoned el p es) d) f))

    each : Defined (move_reckoned task plan from to (told facts xs)) → (f : ℕ) → f < length task.fluents → Defined (move_of task plan from to (told facts xs) f)
    each d f h = one_number task (move_of task plan from to (told facts xs)) 0 (length task.fluents) f (omega arith) (omega (arith, h)) d

    pub move-elapsed : 0 < length task.fluents → Defined (move_reckoned task plan from to (told facts xs)) → Defined (Sum to (neg_ℚ from) ∷ [])
    move-elapsed some d = ((each_right (IsDefined wide_limit) (rate_reckoned task plan from to 0) (tail_of (rate task plan from to 0) 0) (each d 0 some)).0, tt)

    pub move-out : Defined (move_reckoned task plan from to (told facts xs)) → Defined (raised_reckoned zeros es ++ settled_reckoned el p es)
    move-out d = append-in (raised_reckoned zeros es) (settled_reckoned el p es) (own-out zeros es zeros-below own_sums) (each-own el p es ranged fit own)
      where
        own_sums : (f : ℕ) → OwnSums zeros es f
        own_sums f = elim (dec_lt f (length task.fluents)) [ yes l ↦ subst Defined (sym (own-sums-is f)) (each_left (IsDefined wide_limit) (rate_reckoned task plan from to f) (tail_of (rate task plan from to f) f) (each d f l)) | no l ↦ subst (λ k. Defined (sums (at zeros f) k)) (sym (entries-none task (length task.fluents) f es (omega (arith, l)) (below-flat (by_start (filter (runs_between from to) plan))))) tt ]

        own : (f : ℕ) → Own el p f
        own f = elim (dec_lt f (length task.fluents)) [ yes l ↦ subst (λ r. Defined (Product r el ∷ Sum (at xs f) (r *ℚ el) ∷ [])) (sym (rate-is f)) (each_right (IsDefined wide_limit) (rate_reckoned task plan from to f) (tail_of (rate task plan from to f) f) (each d f l)).1 | no l ↦ own-still el p f (fit f) (rate-fold f ∙ ap (λ l. fold (λ q r. q +ℚ r) zeroℚ l) (entries-none task (length task.fluents) f es (omega (arith, l)) (below-flat (by_start (filter (runs_between from to) plan))))) ]

    -- a task without fluents moves nothing, and reckons nothing for it
    no-entries : (m : ℕ) (ns : List (ℕ × ℚ)) → m ≡ 0 → Below m ns → ns ≡ []
    no-entries m [] z h = refl
    no-entries m (e ∷ ns) z h = let l : e.0 < m = h.0 in absurd (omega (arith, l, z))

    pub unmoved : length task.fluents ≡ 0 → Defined (move_reckoned task plan from to (told facts xs)) × (told facts xs ≡ moved task plan from to (told facts xs))
    unmoved z = (
      subst (λ m. Defined (flat_map (move_of task plan from to (told facts xs)) (range_with_len 0 m))) (sym z) tt,
      sym (ap (λ (ns : List (ℕ × ℚ)). told facts (settled el (record { values = xs; rates = raised zeros ns }) ns).values) (no-entries (length task.fluents) es z (below-flat (by_start (filter (runs_between from to) plan))))) ∙ moved-told,
    )

    -- the last call of a move tells all of it
    pub moves : {A : Type 0} (r : Result A FormFault) (elapsed : ℚ) (before now after : List ℚ) (entries : List (ℕ × ℚ)) → Defined (Sum to (neg_ℚ from) ∷ []) → elapsed ≡ el → before ≡ zeros → entries ≡ es
        → Tells r (raised_reckoned before entries ++ settled_reckoned elapsed (record { values = xs; rates = raised before entries }) entries) (λ _. record { values = now; rates = after } ≡ settled elapsed (record { values = xs; rates = raised before entries }) entries)
        → Tells r (move_reckoned task plan from to (told facts xs)) (λ _. (told facts now ≡ moved task plan from to (told facts xs)) × (after ≡ before))
    moves {A = A} r elapsed before now after entries s e z q t = subst (λ b. Tells r (move_reckoned task plan from to (told facts xs)) (λ _. (told facts now ≡ moved task plan from to (told facts xs)) × (after ≡ b))) (sym z)
        (go r (subst (λ k. Tells r (raised_reckoned zeros k ++ settled_reckoned el (record { values = xs; rates = raised zeros k }) k) (λ _. record { values = now; rates = after } ≡ settled el (record { values = xs; rates = raised zeros k }) k)) q
        (subst (λ b. Tells r (raised_reckoned b entries ++ settled_reckoned el (record { values = xs; rates = raised b entries }) entries) (λ _. record { values = now; rates = after } ≡ settled el (record { values = xs; rates = raised b entries }) entries)) z
        (subst (λ x. Tells r (raised_reckoned before entries ++ settled_reckoned x (record { values = xs; rates = raised before entries }) entries) (λ _. record { values = now; rates = after } ≡ settled x (record { values = xs; rates = raised before entries }) entries)) e t))))
      where
        go : (r : Result A FormFault) → Tells r (raised_reckoned zeros es ++ settled_reckoned el p es) (λ _. record { values = now; rates = after } ≡ settled el p es) → Tells r (move_reckoned task plan from to (told facts xs)) (λ _. (told facts now ≡ moved task plan from to (told facts xs)) × (after ≡ zeros))
        go (Ok u) t = (move-in s t.0, (ap (λ (m : Motion). told facts m.values) t.1 ∙ moved-told, ap (λ (m : Motion). m.rates) t.1 ∙ rates-told))
        go (Err Wide) t = λ all. t (move-out all)
        go (Err Memory) t = tt
