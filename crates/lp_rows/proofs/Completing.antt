-- From the answer of the branch tree to the headline: where the undecided terms of a point are free, its cost is the
-- cost of its times, and where a tree proves that cost, no other times cost less.
use Rattle.std.proofs.Common.{◌≡◌, ℕ, zero, suc, ◌<◌, ◌≤◌, refl, sym, ap, ◌∙◌, subst, Option, Some, None, List, length, arith, ◌⊎◌, ⊎_elim}
use Rattle.std.proofs.lemmas.List.{get_or-set_same, get_or-set_other}
use Rattle.rational.specs.Rational.{ℚ, ◌+ℚ◌, ◌≤ℚ◌}
use Rattle.rational.specs.Lists.{dot}
use Rattle.rational.proofs.Order.{le_antisymm}
use Rattle.cert_core.specs.Programs.{Solves, cost_at}
use Rattle.cert_core.specs.Soft.{Decisions, SoftProgram, ways_of, decision_of, AreDecisions, decide, program_under, IsLawful, IsComplete, AlwaysCosts}
use Rattle.cert_core.proofs.Deciding.{decide-AreDecisions}

here_or_later : (n t : ℕ) → t < suc n → (t < n) ⊎ (t ≡ n)
here_or_later n t h = grind (arith, h)

module _ (p : SoftProgram) (lawful : IsLawful p) (made : Decisions) (x : List ℚ) (legal : AreDecisions p made) (solves : Solves (program_under p made) x)
    (free : (t : ℕ) → t < length p.ways → decision_of made t ≡ None → p.IsFree x t) where
  -- the first n terms are decided, the others as they were, at the same point and base
  pub record Completed (n : ℕ) : Type 0 where
    pub now : Decisions
    pub decisions : AreDecisions p now
    pub solved : Solves (program_under p now) x
    pub base : p.base now ≡ p.base made
    pub done : (t : ℕ) → t < n → (w : ℕ) × (decision_of now t ≡ Some w)
    pub rest : (t : ℕ) → n ≤ t → decision_of now t ≡ decision_of made t

  pub completed : (n : ℕ) → n ≤ length p.ways → Completed n
  completed zero h = record { now = made; decisions = legal; solved = solves; base = refl; done = λ t l. absurd (omega arith); rest = λ t l. refl }
  completed (suc n) h = go (completed n (omega (arith, h)))
    where
      with_way : (c : Completed n) (w : ℕ) → w < ways_of p n → Solves (program_under p (decide c.now n w)) x → p.base (decide c.now n w) ≡ p.base c.now → Completed (suc n)
      with_way c w l s e = record {
        now = decide c.now n w;
        decisions = decide-AreDecisions p c.now n w c.decisions (omega (arith, h)) l;
        solved = s;
        base = e ∙ c.base;
        done = λ t m. ⊎_elim (λ (k : t < n). let d = c.done t k in (d.0, get_or-set_other c.now n t (Some w) None (omega (arith, k)) ∙ d.1))
            (λ (k : t ≡ n). (w, subst (λ (u : ℕ). decision_of (decide c.now n w) u ≡ Some w) (sym k) (get_or-set_same c.now n (Some w) None (omega (arith, h, c.decisions.one_each))))) (here_or_later n t m);
        rest = λ t m. get_or-set_other c.now n t (Some w) None (omega (arith, m)) ∙ c.rest t (omega (arith, m));
      }

      already : (c : Completed n) (w : ℕ) → decision_of c.now n ≡ Some w → Completed (suc n)
      already c w e = record {
        now = c.now;
        decisions = c.decisions;
        solved = c.solved;
        base = c.base;
        done = λ t m. ⊎_elim (λ (k : t < n). c.done t k) (λ (k : t ≡ n). (w, subst (λ (u : ℕ). decision_of c.now u ≡ Some w) (sym k) e)) (here_or_later n t m);
        rest = λ t m. c.rest t (omega (arith, m));
      }

      one : (c : Completed n) (o : Option ℕ) → decision_of c.now n ≡ o → Completed (suc n)
      one c (Some w) e = already c w e
      one c None e = let f = lawful.free_stays c.now n x c.decisions (omega (arith, h)) e c.solved (free n (omega (arith, h)) (sym (c.rest n (omega arith)) ∙ e)) in with_way c f.0 f.1.0 f.1.1 f.1.2

      go : Completed n → Completed (suc n)
      go c = one c (decision_of c.now n) refl

-- What times mean: which are valid, what they cost, and which times a point has.
module _ (p : SoftProgram) (lawful : IsLawful p) (Valid : List ℚ → Type 0) (plan_cost : List ℚ → ℚ) (times_of : List ℚ → List ℚ)
    (bounds : (made : Decisions) (x : List ℚ) → AreDecisions p made → IsComplete p made → Solves (program_under p made) x → Valid (times_of x) × (plan_cost (times_of x) ≤ℚ cost_at (program_under p made) x))
    (reached : (times : List ℚ) → Valid times → (made : Decisions) × (AreDecisions p made × IsComplete p made × ((x : List ℚ) × (Solves (program_under p made) x × (times_of x ≡ times) × (cost_at (program_under p made) x ≡ plan_cost times))))) where
  -- no valid times cost less than what a tree proves
  pub none_cost_less : (q : ℚ) → AlwaysCosts p q → (times : List ℚ) → Valid times → q ≤ℚ plan_cost times
  none_cost_less q always times v = let r = reached times v in subst (λ c. q ≤ℚ c) r.1.2.1.2 (always r.0 r.1.0 r.1.1 r.1.2.0 r.1.2.1.0)

  -- the times of a best point are valid, cost its value, and are least
  pub best_is_least : (made : Decisions) (x : List ℚ) (value : ℚ) → AreDecisions p made → Solves (program_under p made) x → ((t : ℕ) → t < length p.ways → decision_of made t ≡ None → p.IsFree x t)
      → cost_at (program_under p made) x ≡ value → AlwaysCosts p value
      → Valid (times_of x) × (plan_cost (times_of x) ≡ value) × ((other : List ℚ) → Valid other → plan_cost (times_of x) ≤ℚ plan_cost other)
  best_is_least made x value d s free is always =
      let c = completed p lawful made x d s free (length p.ways) (omega arith) in
      let b = bounds c.now x c.decisions (λ t l. c.done t l) c.solved in
      let same : cost_at (program_under p c.now) x ≡ value = ap (λ q. q +ℚ dot p.costs x) c.base ∙ is in
      let e : plan_cost (times_of x) ≡ value = le_antisymm (plan_cost (times_of x)) value (subst (λ q. plan_cost (times_of x) ≤ℚ q) same b.1) (none_cost_less value always (times_of x) b.0) in
      (b.0, e, λ other v. subst (λ q. q ≤ℚ plan_cost other) (sym e) (none_cost_less value always other v))
