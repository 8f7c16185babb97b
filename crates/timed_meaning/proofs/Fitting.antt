-- A happening whose reckonings are defined leaves numbers within the limit.
use Rattle.std.proofs.Common.{◌≡◌, ap, subst, sym, ℕ, zero, suc, List, [], ◌∷◌, ◌++◌}
use Rattle.std.specs.Prelude.{slice_index_or, slice_set, Result, Ok, Err, OnOk}
use Rattle.exact_lin.specs.declared.faults.FormFault.{FormFault}
use Rattle.std.specs.List.{AllByRecursion, flat_map}
use Rattle.rational.specs.Rational.{ℚ, zeroℚ, ◌+ℚ◌, ◌*ℚ◌}
use Rattle.exact_lin.specs.Reckoning.{wide_limit, Fits}
use Rattle.exact_lin.proofs.Results.{fits-sum}
use Rattle.task_types.specs.declared.conditions.Amount.{Amount}
use Rattle.task_types.specs.declared.parts.TaskParts.{TaskParts}
use Rattle.task_types.specs.State.{State, value}
use Rattle.task_types.specs.Plan.{Step}
use Rattle.task_types.specs.Course.{effect_of}
use Rattle.exact_lin.specs.Reckonings.{Reckoning, IsDefined}
use Rattle.task_types.specs.Reckoned.{amounts_reckoned, amount_reckoned}
use Rattle.basics.proofs.Lists.{each_left, each_right}
use Rattle.timed_meaning.specs.Told.{Defined, Tells, written, raised, raised_at, raised_reckoned, amounts, all_assigns}
use Rattle.timed_meaning.specs.Moves.{Motion, value_at, rate_at, settled_at, settled, settled_reckoned}
use Rattle.timed_meaning.proofs.Amounts.{flat_first}

abbrev pub AllFit : List ℚ → Type 0
AllFit xs = AllByRecursion (Fits wide_limit) xs

fits-set : (xs : List ℚ) (i : ℕ) (v : ℚ) → AllFit xs → Fits wide_limit v → AllFit (slice_set xs i v)
fits-set [] i v h f = tt
fits-set (x ∷ xs) zero v h f = (f, h.1)
fits-set (x ∷ xs) (suc i) v h f = (h.0, fits-set xs i v h.1 f)

pub fits-written : (xs : List ℚ) (es : List (ℕ × ℚ)) → AllFit xs → AllByRecursion (λ e. Fits wide_limit e.1) es → AllFit (written xs es)
fits-written xs [] h f = h
fits-written xs (e ∷ es) h f = fits-written (slice_set xs e.0 e.1) es (fits-set xs e.0 e.1 h f.0) f.1

pub fits-raised : (xs : List ℚ) (es : List (ℕ × ℚ)) → AllFit xs → Defined (raised_reckoned xs es) → AllFit (raised xs es)
fits-raised xs [] h d = h
fits-raised xs (e ∷ es) h d = fits-raised (raised_at xs e) es (fits-set xs e.0 (slice_index_or xs e.0 zeroℚ +ℚ e.1) h (fits-sum wide_limit (slice_index_or xs e.0 zeroℚ) e.1 d.0)) d.1

fits-amounts : (step : Step) (s : State) (cs : List (ℕ × Amount)) (rest : List (ℕ × ℚ)) → Defined (flat_map (λ e. amount_reckoned step s e.1) cs) → AllByRecursion (λ e. Fits wide_limit e.1) rest → AllByRecursion (λ e. Fits wide_limit e.1) (amounts step s cs ++ rest)
fits-amounts step s [] rest d h = h
fits-amounts step s (c ∷ cs) rest d h = (fits-sum wide_limit (value c.1.form s.fluents) (c.1.duration *ℚ step.duration) d.1.1.0, fits-amounts step s cs rest d.1.1.1 h)

pub fits-assigns : (task : TaskParts) (here : List Step) (s : State) → Defined (flat_map (amounts_reckoned task s) here) → AllByRecursion (λ e. Fits wide_limit e.1) (all_assigns task here s)
fits-assigns task [] s d = tt
fits-assigns task (step ∷ here) s d = fits-amounts step s (effect_of task step).assigns (all_assigns task here s)
    (flat_first (λ e. amount_reckoned step s e.1) (effect_of task step).assigns (effect_of task step).increases (each_left (IsDefined wide_limit) (amounts_reckoned task s step) (flat_map (amounts_reckoned task s) here) d))
    (fits-assigns task here s (each_right (IsDefined wide_limit) (amounts_reckoned task s step) (flat_map (amounts_reckoned task s) here) d))

-- and so does a move
pub fits-settled : (e : ℚ) (p : Motion) (ns : List (ℕ × ℚ)) → AllFit p.values → Defined (settled_reckoned e p ns) → AllFit (settled e p ns).values
fits-settled e p [] h d = h
fits-settled e p (n ∷ ns) h d = fits-settled e (settled_at e p n.0) ns (fits-set p.values n.0 (value_at p n.0 +ℚ rate_at p n.0 *ℚ e) h (fits-sum wide_limit (value_at p n.0) (rate_at p n.0 *ℚ e) d.1.0)) d.1.1

pub fits-happened : {A : Type 0} (r : Result A FormFault) (xs from new : List ℚ) (ws es : List (ℕ × ℚ)) → from ≡ written xs ws → AllByRecursion (λ e. Fits wide_limit e.1) ws → Tells r (raised_reckoned from es) (λ _. new ≡ raised from es) → OnOk r (AllFit xs → AllFit new)
fits-happened (Ok u) xs from new ws es e f t = λ h. subst AllFit (sym t.1) (fits-raised from es (subst AllFit (sym e) (fits-written xs ws h f)) t.0)
fits-happened (Err fault) xs from new ws es e f t = tt

pub fits-shifted : {A : Type 0} (r : Result A FormFault) (rs : List Reckoning) (e : ℚ) (p : Motion) (ns : List (ℕ × ℚ)) (now after : List ℚ) → AllFit p.values → Tells r (rs ++ settled_reckoned e p ns) (λ _. record { values = now; rates = after } ≡ settled e p ns) → OnOk r (AllFit now)
fits-shifted (Ok u) rs e p ns now after h t = subst AllFit (sym (ap (λ (m : Motion). m.values) t.1)) (fits-settled e p ns h (each_right (IsDefined wide_limit) rs (settled_reckoned e p ns) t.0))
fits-shifted (Err fault) rs e p ns now after h t = tt
