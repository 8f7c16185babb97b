-- The actions that run, each once, after one more step.
use Rattle.std.proofs.Common.{◌≡◌, refl, sym, ap, subst, ◌∙◌, ℕ, zero, suc, Bool, true, false, cond, not, ◌||◌, ◌==◌, List, [], ◌∷◌, ◌++◌, arith, Option, Some, None}
use Rattle.std.specs.Prelude.{slice_get, option_to_list, is_some, MatchOption}
use Rattle.std.specs.List.{filter, remove}
use Rattle.std.proofs.lemmas.Bool.Decides.{nat_tests}
use Rattle.std.proofs.lemmas.List.{append-nil}
use Rattle.std.proofs.lemmas.List.Folds.{list_any-append}
use Rattle.std.proofs.lemmas.Option.{same_Some}
use Rattle.basics.proofs.Bools.{and_left, and_right, and_in, or_left, or_right, or_false_left, or_false_right, not_true}
use Rattle.task_types.specs.declared.actions.SnapKind.{SnapKind}
use Rattle.task_types.specs.declared.actions.SnapKind.TheVariants.{Start, End, Instant, Timed}
use Rattle.task_types.specs.Sets.{is_in, meet, are_distinct}
use Rattle.task_types.specs.Order.{run_on}
use Rattle.basics.proofs.Naturals.{same_itself, same_out}
use Rattle.task_types.proofs.StepCounts.{other_way, distinct_more, chosen_not_in, distinct_chosen, without, nothing_lost}

-- ---- what stands in a list

pub in_at_place : (xs : List ℕ) (k a : ℕ) → slice_get xs k ≡ Some a → is_in a xs ≡ true
in_at_place [] k a e = let c : None ≡ Some a = e in cc
in_at_place (x ∷ xs) zero a e = or_left (x == a) (is_in a xs) (rw (same_Some x a e) (same_itself a))
in_at_place (x ∷ xs) (suc k) a e = or_right (x == a) (is_in a xs) (in_at_place xs k a e)

apart : (a x : ℕ) → (x == a) ≡ false → not (is_in x (a ∷ [])) ≡ true
apart a x e = rw (other_way a x, e) refl

pub without_at : (xs : List ℕ) (k a : ℕ) → are_distinct xs ≡ true → slice_get xs k ≡ Some a → without a xs ≡ remove xs k
without_at [] k a d e = let c : None ≡ Some a = e in cc
without_at (x ∷ xs) zero a d e = go (same_Some x a e)
  where
    equal : (b c : ℕ) → c ≡ b → (b == c) ≡ true
    equal b c f = grind (arith, nat_tests)

    go : x ≡ a → without a (x ∷ xs) ≡ xs
    go f = rw (equal a x f) (nothing_lost a xs (subst (λ y. is_in y xs ≡ false) f (not_true (is_in x xs) (and_left (not (is_in x xs)) (are_distinct xs) d))))
without_at (x ∷ xs) (suc k) a d e = rw (apart a x other, without_at xs k a (and_right (not (is_in x xs)) (are_distinct xs) d) e) refl
  where
    go : (b : Bool) → (x == a) ≡ b → (x == a) ≡ false
    go false f = f
    go true f = let c : true ≡ false = sym (in_at_place xs k x (rw (same_out x a f) e)) ∙ not_true (is_in x xs) (and_left (not (is_in x xs)) (are_distinct xs) d) in cc

    other : (x == a) ≡ false
    other = go (x == a) refl

pub meet_at_place : (own : Option ℕ) (xs : List ℕ) (a : ℕ) (k : Option ℕ) → own ≡ Some a → MatchOption k (is_in a xs ≡ false) (λ k. slice_get xs k ≡ Some a) → is_some k ≡ meet (option_to_list own) xs
meet_at_place own xs a None e h = rw (e, h) refl
meet_at_place own xs a (Some k) e h = rw (e, in_at_place xs k a h) refl

-- ---- one more step

all_kept : (xs : List ℕ) → filter (λ a. true) xs ≡ xs
all_kept [] = refl
all_kept (x ∷ xs) = ap (λ (ys : List ℕ). x ∷ ys) (all_kept xs)

pub runs_as_before : (kind : SnapKind) (running : List ℕ) → run_on kind [] running ≡ running
runs_as_before Start running = append-nil running
runs_as_before End running = all_kept running
runs_as_before Instant running = refl
runs_as_before Timed running = refl

-- What runs after a start of an action that didn't run, or after another step, has no action twice.
pub distinct_on : (kind : SnapKind) (own : Option ℕ) (running : List ℕ) → are_distinct running ≡ true → (kind ≡ Start → meet (option_to_list own) running ≡ false) → are_distinct (run_on kind (option_to_list own) running) ≡ true
distinct_on Start None running d h = rw (append-nil running) d
distinct_on Start (Some a) running d h = distinct_more a running (or_false_left (is_in a running) false (h refl)) d
distinct_on End own running d h = distinct_chosen (λ a. not (is_in a (option_to_list own))) running d
distinct_on Instant own running d h = d
distinct_on Timed own running d h = d
