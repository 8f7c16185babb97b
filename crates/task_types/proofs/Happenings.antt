-- The happenings of a plan are the one ascending list of the times of its steps.
use Rattle.std.proofs.Common.{◌≡◌, refl, sym, subst, ◌∙◌, ℕ, zero, suc, ◌<◌, List, [], ◌∷◌, length, map, arith, inl, inr, ⊎_elim}
use Rattle.std.specs.Prelude.{slice_index_or, ◌⊎◌, Contains}
use Rattle.std.specs.List.{AllByRecursion}
use Rattle.std.specs.declared.cmp.Ordering.{Ordering}
use Rattle.std.specs.declared.cmp.Ordering.TheVariants.{Less, Equal, Greater}
use Rattle.std.specs.Ordering.{MatchOrdering}
use Rattle.rational.specs.Rational.{ℚ, cmp_ℚ, ◌<ℚ◌}
use Rattle.rational.proofs.Comparisons.{cmp_ranks}
use Rattle.rational.proofs.Order.{lt_irrefl}
use Rattle.task_types.specs.declared.parts.TaskParts.{TaskParts}
use Rattle.task_types.specs.Plan.{Plan, steps, ascending, in_place, beside, happenings}
use Rattle.task_types.specs.Laws.{Ascends, HasTimes, OneListOfHappenings}
use Rattle.rational.proofs.Inequalities.{lt_trans}
use Rattle.task_types.proofs.Instants.{ascending-Ascends}

-- x is one of the list
abbrev pub Among : {X : Type 0} → X → List X → Type 0
Among x [] = ⊥
Among x (t ∷ ts) = (x ≡ t) ⊎ Among x ts

pub contained : {X : Type 0} (x : X) (ts : List X) → Among x ts → Contains ts x
contained x [] h = absurd h
contained x (t ∷ ts) (inl e) = (0, omega arith, sym e)
contained x (t ∷ ts) (inr h) = let c : Contains ts x = contained x ts h in (suc c.0, omega (arith, c.1), c.2)

pub among_at : {X : Type 0} (x : X) (ts : List X) (k : ℕ) → k < length ts → slice_index_or ts k x ≡ x → Among x ts
among_at x [] k h e = absurd (omega arith)
among_at x (t ∷ ts) zero h e = inl (sym e)
among_at x (t ∷ ts) (suc k) h e = inr (among_at x ts k (omega arith) e)

pub among : {X : Type 0} (x : X) (ts : List X) → Contains ts x → Among x ts
among x ts c = among_at x ts c.0 c.1 c.2

-- ---- the members of the sorted list

placed-among : (x t : ℚ) (us : List ℚ) → Among x (in_place t us) → (x ≡ t) ⊎ Among x us
placed-among x t [] (inl e) = inl e
placed-among x t [] (inr h) = absurd h
placed-among x t (u ∷ us) h = go (cmp_ℚ t u) (placed-among x t us) h
  where
    go : (o : Ordering) → (Among x (in_place t us) → (x ≡ t) ⊎ Among x us) → Among x (beside o t u us (in_place t us)) → (x ≡ t) ⊎ Among x (u ∷ us)
    go Less r (inl e) = inl e
    go Less r (inr k) = inr k
    go Equal r k = inr k
    go Greater r (inl e) = inr (inl e)
    go Greater r (inr k) = ⊎_elim (λ e. inl e) (λ m. inr (inr m)) (r k)

among-placed : (x t : ℚ) (us : List ℚ) → (x ≡ t) ⊎ Among x us → Among x (in_place t us)
among-placed x t [] h = h
among-placed x t (u ∷ us) h = go (cmp_ℚ t u) (cmp_ranks t u) (among-placed x t us) h
  where
    go : (o : Ordering) → MatchOrdering o (t <ℚ u) (t ≡ u) (u <ℚ t) → ((x ≡ t) ⊎ Among x us → Among x (in_place t us)) → (x ≡ t) ⊎ Among x (u ∷ us) → Among x (beside o t u us (in_place t us))
    go Less m r h = h
    go Equal m r (inl e) = inl (e ∙ m)
    go Equal m r (inr h) = h
    go Greater m r (inl e) = inr (r (inl e))
    go Greater m r (inr (inl e)) = inl e
    go Greater m r (inr (inr h)) = inr (r (inr h))

pub ascending-among : (x : ℚ) (ts : List ℚ) → Among x ts → Among x (ascending ts)
ascending-among x [] h = absurd h
ascending-among x (t ∷ ts) (inl e) = among-placed x t (ascending ts) (inl e)
ascending-among x (t ∷ ts) (inr h) = among-placed x t (ascending ts) (inr (ascending-among x ts h))

pub among-ascending : (x : ℚ) (ts : List ℚ) → Among x (ascending ts) → Among x ts
among-ascending x [] h = absurd h
among-ascending x (t ∷ ts) h = ⊎_elim (λ e. inl e) (λ k. inr (among-ascending x ts k)) (placed-among x t (ascending ts) h)

-- ---- two ascending lists of the same numbers are one

pub below_each : (t x : ℚ) (ts : List ℚ) → AllByRecursion (λ u. t <ℚ u) ts → Among x ts → t <ℚ x
below_each t x [] a h = absurd h
below_each t x (u ∷ us) a (inl e) = subst (λ y. t <ℚ y) (sym e) a.0
below_each t x (u ∷ us) a (inr h) = below_each t x us a.1 h

heads_agree : (t u : ℚ) (ts us : List ℚ) → AllByRecursion (λ v. t <ℚ v) ts → AllByRecursion (λ v. u <ℚ v) us → Among t (u ∷ us) → Among u (t ∷ ts) → t ≡ u
heads_agree t u ts us a b (inl e) k = e
heads_agree t u ts us a b (inr h) (inl e) = sym e
heads_agree t u ts us a b (inr h) (inr k) = absurd (lt_irrefl t (lt_trans t u t (below_each t u ts a k) (below_each u t us b h)))

pub one_ascending : (ts us : List ℚ) → Ascends ts → Ascends us → ((x : ℚ) → Among x ts → Among x us) → ((x : ℚ) → Among x us → Among x ts) → ts ≡ us
one_ascending [] [] a b f g = refl
one_ascending [] (u ∷ us) a b f g = absurd (g u (inl refl))
one_ascending (t ∷ ts) [] a b f g = absurd (f t (inl refl))
one_ascending (t ∷ ts) (u ∷ us) a b f g = joined (heads_agree t u ts us a.0 b.0 (f t (inl refl)) (g u (inl refl)))
    (λ e. one_ascending ts us a.1 b.1 (λ x h. later t u x us e (below_each t x ts a.0 h) (f x (inr h))) (λ x h. later u t x ts (sym e) (below_each u x us b.0 h) (g x (inr h))))
  where
    later : (t u x : ℚ) (us : List ℚ) → t ≡ u → t <ℚ x → Among x (u ∷ us) → Among x us
    later t u x us e l (inl d) = absurd (lt_irrefl x (subst (λ y. y <ℚ x) (e ∙ sym d) l))
    later t u x us e l (inr h) = h

    joined : t ≡ u → (t ≡ u → ts ≡ us) → (t ∷ ts) ≡ (u ∷ us)
    joined e h = rw (e, h e) refl

pub happenings-times : (task : TaskParts) (plan : Plan) → HasTimes (happenings task plan) (map (λ s. s.time) (steps task plan))
unfolding happenings
happenings-times task plan = record {
  ascends = ascending-Ascends (map (λ s. s.time) (steps task plan));
  each = λ x h. contained x (ascending (map (λ s. s.time) (steps task plan))) (ascending-among x (map (λ s. s.time) (steps task plan)) (among x (map (λ s. s.time) (steps task plan)) h));
  no_other = λ x h. contained x (map (λ s. s.time) (steps task plan)) (among-ascending x (map (λ s. s.time) (steps task plan)) (among x (ascending (map (λ s. s.time) (steps task plan))) h));
}

pub one_has_times : (ts us times : List ℚ) → HasTimes ts times → HasTimes us times → ts ≡ us
one_has_times ts us times a b = one_ascending ts us a.ascends b.ascends (λ x h. among x us (b.each x (a.no_other x (contained x ts h)))) (λ x h. among x ts (a.each x (b.no_other x (contained x us h))))

pub one_list : OneListOfHappenings
one_list = record {
  has_times = happenings-times;
  one = λ task plan ts h. one_has_times ts (happenings task plan) (map (λ s. s.time) (steps task plan)) h (happenings-times task plan);
}
