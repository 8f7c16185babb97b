-- The running lines in the order of their starts are a filter of all lines in that order, so all lines are sorted once.
use Rattle.std.proofs.Common.{◌≡◌, refl, sym, ap, ◌∙◌, Bool, true, false, cond, [], ◌∷◌}
use Rattle.std.specs.List.{AllByRecursion, filter}
use Rattle.rational.specs.Rational.{ℚ, ◌≤ℚ◌}
use Rattle.rational.proofs.Inequalities.{le_trans}
use Rattle.rational.proofs.Order.{lt_le}
use Rattle.task_types.specs.declared.plans.PlanLine.{PlanLine}
use Rattle.task_types.specs.Tests.{◌≤?◌}
use Rattle.task_types.specs.Plan.{Plan}
use Rattle.task_types.specs.Reckoned.{put_by_start, by_start}
use Rattle.task_types.proofs.Comparisons.{le_in, le_out, later_out}

-- starts never fall
abbrev pub Rises : Plan → Type 0
Rises [] = Unit {0}
Rises (l ∷ ls) = AllByRecursion (λ m. l.at ≤ℚ m.at) ls × Rises ls

put-above : (q : ℚ) (l : PlanLine) (ms : Plan) → q ≤ℚ l.at → AllByRecursion (λ m. q ≤ℚ m.at) ms → AllByRecursion (λ m. q ≤ℚ m.at) (put_by_start l ms)
put-above q l [] h a = (h, tt)
put-above q l (m ∷ ms) h a = go (l.at ≤? m.at) (put-above q l ms h a.1)
  where
    go : (b : Bool) → AllByRecursion (λ m. q ≤ℚ m.at) (put_by_start l ms) → AllByRecursion (λ m. q ≤ℚ m.at) (cond b (l ∷ m ∷ ms) (m ∷ put_by_start l ms))
    go true r = (h, a)
    go false r = (a.0, r)

put-rises : (l : PlanLine) (ms : Plan) → Rises ms → Rises (put_by_start l ms)
put-rises l [] h = (tt, tt)
put-rises l (m ∷ ms) h = go (l.at ≤? m.at) refl (put-rises l ms h.1)
  where
    all_after : l.at ≤ℚ m.at → (ns : Plan) → AllByRecursion (λ n. m.at ≤ℚ n.at) ns → AllByRecursion (λ n. l.at ≤ℚ n.at) ns
    all_after k [] a = tt
    all_after k (n ∷ ns) a = (le_trans l.at m.at n.at k a.0, all_after k ns a.1)

    go : (b : Bool) → (l.at ≤? m.at) ≡ b → Rises (put_by_start l ms) → Rises (cond b (l ∷ m ∷ ms) (m ∷ put_by_start l ms))
    go true e r = ((le_out l.at m.at e, all_after (le_out l.at m.at e) ms h.0), h)
    go false e r = (put-above m.at l ms (lt_le m.at l.at (later_out l.at m.at e)) h.0, r)

pub by_start-rises : (ls : Plan) → Rises (by_start ls)
by_start-rises [] = tt
by_start-rises (l ∷ ls) = put-rises l (by_start ls) (by_start-rises ls)

module _ (p : PlanLine → Bool) where
  -- a line that starts no later than all of a list goes to its front
  put-front : (l : PlanLine) (ms : Plan) → AllByRecursion (λ m. l.at ≤ℚ m.at) ms → put_by_start l (filter p ms) ≡ l ∷ filter p ms
  put-front l [] a = refl
  put-front l (m ∷ ms) a = go (p m) (put-front l ms a.1)
    where
      go : (b : Bool) → put_by_start l (filter p ms) ≡ l ∷ filter p ms → put_by_start l (cond b (m ∷ filter p ms) (filter p ms)) ≡ l ∷ cond b (m ∷ filter p ms) (filter p ms)
      go true r = ap (λ c. cond c (l ∷ m ∷ filter p ms) (m ∷ put_by_start l (filter p ms))) (le_in l.at m.at a.0)
      go false r = r

  filter-put : (l : PlanLine) (ms : Plan) → Rises ms → filter p (put_by_start l ms) ≡ cond (p l) (put_by_start l (filter p ms)) (filter p ms)
  filter-put l [] h = refl
  filter-put l (m ∷ ms) h = go (l.at ≤? m.at) refl (filter-put l ms h.1)
    where
      all_after : l.at ≤ℚ m.at → (ns : Plan) → AllByRecursion (λ n. m.at ≤ℚ n.at) ns → AllByRecursion (λ n. l.at ≤ℚ n.at) ns
      all_after k [] a = tt
      all_after k (n ∷ ns) a = (le_trans l.at m.at n.at k a.0, all_after k ns a.1)

      past : (l.at ≤? m.at) ≡ false → (a b : Bool) → cond b (m ∷ cond a (put_by_start l (filter p ms)) (filter p ms)) (cond a (put_by_start l (filter p ms)) (filter p ms)) ≡ cond a (put_by_start l (cond b (m ∷ filter p ms) (filter p ms))) (cond b (m ∷ filter p ms) (filter p ms))
      past e true true = sym (ap (λ c. cond c (l ∷ m ∷ filter p ms) (m ∷ put_by_start l (filter p ms))) e)
      past e true false = refl
      past e false b = refl

      go : (b : Bool) → (l.at ≤? m.at) ≡ b → filter p (put_by_start l ms) ≡ cond (p l) (put_by_start l (filter p ms)) (filter p ms) → filter p (cond b (l ∷ m ∷ ms) (m ∷ put_by_start l ms)) ≡ cond (p l) (put_by_start l (filter p (m ∷ ms))) (filter p (m ∷ ms))
      go true e r = ap (λ ns. cond (p l) ns (filter p (m ∷ ms))) (sym (put-front l (m ∷ ms) (le_out l.at m.at e, all_after (le_out l.at m.at e) ms h.0)))
      go false e r = ap (λ ns. cond (p m) (m ∷ ns) ns) r ∙ past e (p l) (p m)

  pub running-is : (plan : Plan) → by_start (filter p plan) ≡ filter p (by_start plan)
  running-is [] = refl
  running-is (l ∷ ls) = go (p l) ∙ sym (filter-put l (by_start ls) (by_start-rises ls) ∙ ap (λ ns. cond (p l) (put_by_start l ns) ns) (sym (running-is ls)))
    where
      go : (b : Bool) → by_start (cond b (l ∷ filter p ls) (filter p ls)) ≡ cond b (put_by_start l (by_start (filter p ls))) (by_start (filter p ls))
      go true = refl
      go false = refl
