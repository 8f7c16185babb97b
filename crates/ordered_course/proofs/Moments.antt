-- The timed steps of a closed list are those of the task, in order, each at its moment.
use Rattle.std.proofs.Common.{◌≡◌, refl, sym, ap, ap₂, subst, ◌∙◌, ℕ, zero, suc, ◌+◌, ◌<◌, Bool, true, false, ◌&&◌, ◌||◌, ◌==◌, List, [], ◌∷◌, drop, arith}
use Rattle.std.specs.List.{list_any, AllByRecursion}
use Rattle.rational.specs.Rational.{ℚ, ◌<ℚ◌}
use Rattle.rational.proofs.Inequalities.{lt_trans}
use Rattle.basics.proofs.Bools.{and_left, and_right, or_false}
use Rattle.basics.proofs.Naturals.{same_out}
use Rattle.task_types.specs.declared.parts.TaskParts.{TaskParts}
use Rattle.task_types.specs.Tests.{◌=?◌, ◌<?◌}
use Rattle.task_types.specs.Trace.{at}
use Rattle.task_types.specs.WellMade.{are_timed, moments_ascend}
use Rattle.task_types.proofs.Comparisons.{lt_out, eq_out}

-- ---- the moments of a task

first_is : (task : TaskParts) (u : ℚ × ℕ) (us : List (ℚ × ℕ)) (n : ℕ) → are_timed task n (u ∷ us) ≡ true → u.1 ≡ n
first_is task u us n h = same_out u.1 n (and_left _ _ (and_left _ _ h))

rest_is : (task : TaskParts) (u : ℚ × ℕ) (us : List (ℚ × ℕ)) (n : ℕ) → are_timed task n (u ∷ us) ≡ true → are_timed task (n + 1) us ≡ true
rest_is task u us n h = and_right _ _ h

-- snap actions below n have no moment among those numbered from n on
none_below : (task : TaskParts) (us : List (ℚ × ℕ)) (n s : ℕ) (t : ℚ) → are_timed task n us ≡ true → s < n → list_any (λ m. (m.1 == s) && (m.0 =? t)) us ≡ false
none_below task [] n s t h l = refl
none_below task (u ∷ us) n s t h l = go (u.1 == s) refl (none_below task us (n + 1) s t (and_right _ _ h) (omega (arith, l)))
  where
    here : u.1 ≡ n
    here = first_is task u us n h

    go : (b : Bool) → (u.1 == s) ≡ b → list_any (λ m. (m.1 == s) && (m.0 =? t)) us ≡ false → ((b && (u.0 =? t)) || list_any (λ m. (m.1 == s) && (m.0 =? t)) us) ≡ false
    go true e r = absurd (omega (arith, here, same_out u.1 s e, l))
    go false e r = r

-- the numbers rise one by one
number_at : (task : TaskParts) (us : List (ℚ × ℕ)) (n i s : ℕ) → are_timed task n us ≡ true → at us i (λ u. u.1 == s) ≡ true → n + i ≡ s
number_at task [] n i s h e = let c : false ≡ true = e in cc
number_at task (u ∷ us) n zero s h e = let a : u.1 ≡ n = first_is task u us n h in let b : u.1 ≡ s = same_out u.1 s e in omega (arith, a, b)
number_at task (u ∷ us) n (suc i) s h e = let r : n + 1 + i ≡ s = number_at task us (n + 1) i s (and_right _ _ h) e in omega (arith, r)

-- the next one is the one that has a moment
pub moment_is : (task : TaskParts) (us : List (ℚ × ℕ)) (n i s : ℕ) (t : ℚ) → are_timed task n us ≡ true → at us i (λ u. u.1 == s) ≡ true → list_any (λ m. (m.1 == s) && (m.0 =? t)) us ≡ true
    → drop i us ≡ (t, s) ∷ drop (suc i) us
moment_is task [] n i s t h e k = let c : false ≡ true = k in cc
moment_is task (u ∷ us) n zero s t h e k = ap₂ (λ (q : ℚ) (m : ℕ). (q, m) ∷ us) time (same_out u.1 s e)
  where
    none : list_any (λ m. (m.1 == s) && (m.0 =? t)) us ≡ false
    none = let a : u.1 ≡ n = first_is task u us n h in let b : u.1 ≡ s = same_out u.1 s e in none_below task us (n + 1) s t (rest_is task u us n h) (omega (arith, a, b))

    time : u.0 ≡ t
    time = eq_out u.0 t (and_right (u.1 == s) (u.0 =? t) (sym (or_false ((u.1 == s) && (u.0 =? t))) ∙ ap (λ b. ((u.1 == s) && (u.0 =? t)) || b) (sym none) ∙ k))
moment_is task (u ∷ us) n (suc i) s t h e k = moment_is task us (n + 1) i s t (and_right _ _ h) e (go (u.1 == s) refl k)
  where
    later : n + 1 + i ≡ s
    later = number_at task us (n + 1) i s (rest_is task u us n h) e

    here : u.1 ≡ n
    here = first_is task u us n h

    go : (b : Bool) → (u.1 == s) ≡ b → ((b && (u.0 =? t)) || list_any (λ m. (m.1 == s) && (m.0 =? t)) us) ≡ true → list_any (λ m. (m.1 == s) && (m.0 =? t)) us ≡ true
    go true f k = absurd (omega (arith, later, here, same_out u.1 s f))
    go false f k = k

-- moments ascend, so the later ones are above
above : (t : ℚ) (us : List (ℚ × ℕ)) → moments_ascend t us ≡ true → AllByRecursion (λ u. t <ℚ u.0) us
above t [] h = tt
above t (u ∷ us) h = (lt_out t u.0 (and_left _ _ h), higher us (above u.0 us (and_right _ _ h)))
  where
    higher : (vs : List (ℚ × ℕ)) → AllByRecursion (λ v. u.0 <ℚ v.0) vs → AllByRecursion (λ v. t <ℚ v.0) vs
    higher [] a = tt
    higher (v ∷ vs) a = (lt_trans t u.0 v.0 (lt_out t u.0 (and_left (t <? u.0) (moments_ascend u.0 us) h)) a.0, higher vs a.1)

pub later_above : (t : ℚ) (us : List (ℚ × ℕ)) (i : ℕ) (u : ℚ × ℕ) (rest : List (ℚ × ℕ)) → moments_ascend t us ≡ true → drop i us ≡ u ∷ rest → AllByRecursion (λ v. u.0 <ℚ v.0) rest
later_above t us zero u rest h e = above u.0 rest (and_right (t <? u.0) (moments_ascend u.0 rest) (subst (λ l. moments_ascend t l ≡ true) e h))
later_above t [] (suc i) u rest h e = let c : [] ≡ u ∷ rest = e in cc
later_above t (v ∷ us) (suc i) u rest h e = later_above v.0 us i u rest (and_right _ _ h) e
