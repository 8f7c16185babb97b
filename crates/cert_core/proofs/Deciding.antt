-- Decisions made one after another, and solutions under fewer of them.
use Rattle.std.proofs.Common.{◌≡◌, ℕ, zero, suc, ◌<◌, ◌≢◌, refl, sym, ap, ◌∙◌, subst, Option, Some, None, List, [], ◌∷◌, length, slice_set, arith, ◌⊎◌, ⊎_elim}
use Rattle.std.proofs.lemmas.List.{get_or-set_same, get_or-set_other, length-set, set-get_or}
use Rattle.rational.specs.Rational.{ℚ, ◌≤ℚ◌}
use Rattle.rational.specs.Lists.{dot}
use Rattle.rational.specs.Rows.{Row, Meets, row_at}
use Rattle.rational.proofs.Rows.{Meets-at, at-Meets}
use Rattle.cert_core.specs.Programs.{Solves}
use Rattle.cert_core.specs.Soft.{Among, Decisions, SoftProgram, ways_of, decision_of, AreDecisions, decide, program_under, IsMore, IsLawful}

same_or_not : (s t : ℕ) → (s ≡ t) ⊎ (s ≢ t)
same_or_not s t = grind arith

decision_of-decide : (made : Decisions) (t w : ℕ) → t < length made → decision_of (decide made t w) t ≡ Some w
decision_of-decide made t w h = get_or-set_same made t (Some w) None h

decision_of-decide_other : (made : Decisions) (t w s : ℕ) → s ≢ t → decision_of (decide made t w) s ≡ decision_of made s
decision_of-decide_other made t w s n = get_or-set_other made t s (Some w) None n

some_same : (v w : ℕ) (o : Option ℕ) → o ≡ Some v → o ≡ Some w → v ≡ w
some_same v w o e f = cc

-- a way of an undecided term that is in range may be taken
pub decide-AreDecisions : (p : SoftProgram) (made : Decisions) (t w : ℕ) → AreDecisions p made → t < length p.ways → w < ways_of p t → AreDecisions p (decide made t w)
decide-AreDecisions p made t w d h k = record {
  one_each = length-set made t (Some w) ∙ d.one_each;
  in_range = λ s v e. ⊎_elim
      (λ (q : s ≡ t). let e' : decision_of (decide made t w) t ≡ Some v = subst (λ (x : ℕ). decision_of (decide made t w) x ≡ Some v) q e in
      subst (λ (x : ℕ). v < ways_of p x) (sym q) (subst (λ (x : ℕ). x < ways_of p t) (some_same w v (decision_of (decide made t w) t) (decision_of-decide made t w (omega (arith, d.one_each))) e') k))
      (λ n. d.in_range s v (sym (decision_of-decide_other made t w s n) ∙ e))
      (same_or_not s t);
}

-- a list of decisions that agrees with a way agrees with it once it is taken
pub decide-IsMore : (made full : Decisions) (t w : ℕ) → t < length made → IsMore made full → decision_of full t ≡ Some w → IsMore (decide made t w) full
decide-IsMore made full t w h m e s v f = ⊎_elim
    (λ (q : s ≡ t). let f' : decision_of (decide made t w) t ≡ Some v = subst (λ (x : ℕ). decision_of (decide made t w) x ≡ Some v) q f in
    subst (λ (x : ℕ). decision_of full x ≡ Some v) (sym q) (subst (λ (x : ℕ). decision_of full t ≡ Some x) (some_same w v (decision_of (decide made t w) t) (decision_of-decide made t w h) f') e))
    (λ n. m s v (sym (decision_of-decide_other made t w s n) ∙ f))
    (same_or_not s t)

-- ---- rows that are all among others are met where those are
Meets-fewer : (x : List ℚ) (rows more : List Row) → ((r : Row) → Among r rows → Among r more) → Meets x more → Meets x rows
Meets-fewer x rows more f m = at-Meets x rows (λ i h.
    let a = f (row_at rows i) (i, (h, refl)) in
    subst (λ (r : Row). dot r.factors x ≤ℚ r.bound) a.1.1 (Meets-at x more a.0 a.1.0 m))

-- a solution under more decisions is one under fewer
pub Solves-fewer : (p : SoftProgram) (made more : Decisions) (x : List ℚ) → IsLawful p → AreDecisions p made → AreDecisions p more → IsMore made more → Solves (program_under p more) x → Solves (program_under p made) x
Solves-fewer p made more x l d e m s = record { one_each = s.one_each; nonneg = s.nonneg; meets = Meets-fewer x (p.rows made) (p.rows more) (l.rows_grow made more d e m) s.meets }

set-set : (l : Decisions) (i : ℕ) (a b : Option ℕ) → slice_set (slice_set l i a) i b ≡ slice_set l i b
set-set [] zero a b = refl
set-set [] (suc i) a b = refl
set-set (x ∷ l) zero a b = refl
set-set (x ∷ l) (suc i) a b = ap (λ (xs : Decisions). x ∷ xs) (set-set l i a b)

-- a decision taken back leaves the decisions as they were
pub undecide : (made after : Decisions) (t number w : ℕ) → number ≡ t → decision_of made t ≡ None → after ≡ slice_set made number (Some w) → slice_set after number None ≡ made
undecide made after t number w e n a = subst (λ (m : Decisions). slice_set m number None ≡ made) (sym a)
    (set-set made number (Some w) None ∙ subst (λ (o : Option ℕ). slice_set made number o ≡ made) (subst (λ (k : ℕ). decision_of made k ≡ None) (sym e) n) (set-get_or made number None))
