-- Soft terms added one after the other, each reckoned just before: the same is defined, and the sum is the cost.
use Rattle.std.proofs.Common.{◌≡◌, refl, sym, ap, subst, ◌∙◌, ℕ, ◌+◌, ◌<◌, List, [], ◌∷◌, ◌++◌, length, map, drop, fold, arith}
use Rattle.std.specs.Prelude.{slice_index_or, ◌↔◌, Result, Ok, Err}
use Rattle.std.specs.List.{flat_map}
use Rattle.std.proofs.lemmas.List.{drop_more}
use Rattle.basics.proofs.Lists.{each_left, each_right}
use Rattle.rational.specs.Rational.{ℚ, ◌+ℚ◌, ◌*ℚ◌}
use Rattle.exact_lin.specs.Reckoning.{wide_limit, CanAdd, CanMultiply, Reckons}
use Rattle.exact_lin.specs.Forms.{CanEvaluate, form_at}
use Rattle.exact_lin.specs.Reckonings.{Reckoning, Sum, Product, Value, IsDefined, sums}
use Rattle.exact_lin.specs.declared.scalars.Wide.{Wide}
use Rattle.task_types.specs.declared.costs.Metric.{Metric}
use Rattle.task_types.specs.declared.costs.Soft.{Soft}
use Rattle.task_types.specs.declared.parts.TaskParts.{TaskParts}
use Rattle.task_types.specs.State.{State, value}
use Rattle.task_types.specs.Plan.{Plan}
use Rattle.task_types.specs.Course.{last_state}
use Rattle.task_types.specs.Trace.{Trace, trace}
use Rattle.task_types.specs.Cost.{soft_cost, total_time, cost}
use Rattle.task_types.specs.Reckoned.{soft_reckoned, cost_reckoned}
use Rattle.task_types.proofs.Alike.{fold-total}
use Rattle.timed_meaning.specs.Answers.{Defined}
use Rattle.timed_meaning.proofs.Amounts.{append-in}
use Rattle.metric_cost.specs.Answers.{Amounts}
use Rattle.metric_cost.specs.Terms.{IsWeighed, term_reckoned, terms_reckoned, base_of, base_reckoned}

pub defined_left : (rs ss : List Reckoning) → Defined (rs ++ ss) → Defined rs
defined_left rs ss d = each_left (IsDefined wide_limit) rs ss d

pub defined_right : (rs ss : List Reckoning) → Defined (rs ++ ss) → Defined ss
defined_right rs ss d = each_right (IsDefined wide_limit) rs ss d

module _ (xs : Trace) (last : State) where
  abbrev C : Soft → ℚ
  C s = soft_cost s xs last

  abbrev R : Soft → List Reckoning
  R s = soft_reckoned s xs last

  together : (q : ℚ) (ss : List Soft) → Defined (flat_map R ss) → Defined (sums q (map C ss)) → Defined (terms_reckoned q ss xs last)
  together q [] d e = tt
  together q (s ∷ ss) d e = append-in (term_reckoned q s xs last) (terms_reckoned (q +ℚ C s) ss xs last)
      (append-in (R s) (Sum q (C s) ∷ []) (defined_left (R s) (flat_map R ss) d) (e.0, tt))
      (together (q +ℚ C s) ss (defined_right (R s) (flat_map R ss) d) e.1)

  terms-left : (q : ℚ) (ss : List Soft) → Defined (terms_reckoned q ss xs last) → Defined (flat_map R ss)
  terms-left q [] d = tt
  terms-left q (s ∷ ss) d = append-in (R s) (flat_map R ss)
      (defined_left (R s) (Sum q (C s) ∷ []) (defined_left (term_reckoned q s xs last) (terms_reckoned (q +ℚ C s) ss xs last) d))
      (terms-left (q +ℚ C s) ss (defined_right (term_reckoned q s xs last) (terms_reckoned (q +ℚ C s) ss xs last) d))

  terms-right : (q : ℚ) (ss : List Soft) → Defined (terms_reckoned q ss xs last) → Defined (sums q (map C ss))
  terms-right q [] d = tt
  terms-right q (s ∷ ss) d = (
    (defined_right (R s) (Sum q (C s) ∷ []) (defined_left (term_reckoned q s xs last) (terms_reckoned (q +ℚ C s) ss xs last) d)).0,
    terms-right (q +ℚ C s) ss (defined_right (term_reckoned q s xs last) (terms_reckoned (q +ℚ C s) ss xs last) d),
  )

  -- some terms are added, and the rest is left
  pub record GoesOn (start : ℚ) (all : List Soft) (now : ℚ) (rest : List Soft) : Type 0 where
    pub value : fold (λ q r. q +ℚ r) start (map C all) ≡ fold (λ q r. q +ℚ r) now (map C rest)
    pub onward : Defined (terms_reckoned start all xs last) → Defined (terms_reckoned now rest xs last)
    pub back : Defined (terms_reckoned now rest xs last) → Defined (terms_reckoned start all xs last)

  pub goes_on-begin : (q : ℚ) (ss : List Soft) → GoesOn q ss q ss
  goes_on-begin q ss = record { value = refl; onward = λ d. d; back = λ d. d }

  step : (start now more : ℚ) (all : List Soft) (s : Soft) (rest : List Soft) → Defined (term_reckoned now s xs last) → more ≡ now +ℚ C s → GoesOn start all now (s ∷ rest) → GoesOn start all more rest
  step start now more all s rest d e g = record {
    value = g.value ∙ ap (λ q. fold (λ q r. q +ℚ r) q (map C rest)) (sym e);
    onward = λ h. subst (λ q. Defined (terms_reckoned q rest xs last)) (sym e) (defined_right (term_reckoned now s xs last) (terms_reckoned (now +ℚ C s) rest xs last) (g.onward h));
    back = λ h. g.back (append-in (term_reckoned now s xs last) (terms_reckoned (now +ℚ C s) rest xs last) d (subst (λ q. Defined (terms_reckoned q rest xs last)) e h));
  }

  pub goes_on-more : (start now more : ℚ) (all : List Soft) (i : ℕ) (s : Soft) → i < length all → s ≡ slice_index_or all i s → Defined (term_reckoned now s xs last) → more ≡ now +ℚ C s
      → GoesOn start all now (drop i all) → GoesOn start all more (drop (i + 1) all)
  goes_on-more start now more all i s h e d m g = step start now more all s (drop (i + 1) all) d m
      (subst (λ (rest : List Soft). GoesOn start all now rest) (drop_more all i s h ∙ ap (λ r. r ∷ drop (i + 1) all) (sym e)) g)

  pub goes_on-stop : (start now : ℚ) (all : List Soft) (i : ℕ) (s : Soft) → i < length all → s ≡ slice_index_or all i s → ¬ (Defined (term_reckoned now s xs last)) → GoesOn start all now (drop i all) → ¬ (Defined (terms_reckoned start all xs last))
  goes_on-stop start now all i s h e n g = λ d. n (defined_left (term_reckoned now s xs last) (terms_reckoned (now +ℚ C s) (drop (i + 1) all) xs last)
      (subst (λ (rest : List Soft). Defined (terms_reckoned now rest xs last)) (drop_more all i s h ∙ ap (λ r. r ∷ drop (i + 1) all) (sym e)) (g.onward d)))

  pub goes_on-end : (start now : ℚ) (all : List Soft) → GoesOn start all now [] → Defined (terms_reckoned start all xs last) × (now ≡ fold (λ q r. q +ℚ r) start (map C all))
  goes_on-end start now all g = (g.back tt, sym g.value)

-- ---- the whole cost
module _ (task : TaskParts) (plan : Plan) where
  abbrev xs : Trace
  xs = trace task plan

  abbrev last : State
  last = last_state task plan

  abbrev base : ℚ
  base = base_of task.metric (total_time plan) last.fluents

  abbrev costs : List ℚ
  costs = map (λ s. soft_cost s xs last) task.soft

  abbrev terms : List Reckoning
  terms = flat_map (λ s. soft_reckoned s xs last) task.soft

  abbrev front : List Reckoning
  front = Product task.metric.last (total_time plan) ∷ Value task.metric.fluents last.fluents ∷ terms

  pub cost-reckoned : Defined (base_reckoned task.metric (total_time plan) last.fluents) → Defined (terms_reckoned base task.soft xs last) → Defined (cost_reckoned task plan)
  cost-reckoned b t = append-in front (sums task.metric.constant ((task.metric.last *ℚ total_time plan) ∷ value task.metric.fluents last.fluents ∷ costs))
      (b.0, (b.1.1.0, terms-left xs last base task.soft t))
      (b.1.0, (b.1.1.1.0, terms-right xs last base task.soft t))

  abbrev after : List Reckoning
  after = sums task.metric.constant ((task.metric.last *ℚ total_time plan) ∷ value task.metric.fluents last.fluents ∷ costs)

  pub reckoned-base : Defined (cost_reckoned task plan) → Defined (base_reckoned task.metric (total_time plan) last.fluents)
  reckoned-base d = let f = defined_left front after d in let a = defined_right front after d in (f.0, (a.0, (f.1.0, (a.1.0, tt))))

  pub reckoned-terms : Defined (cost_reckoned task plan) → Defined (terms_reckoned base task.soft xs last)
  reckoned-terms d = together xs last base task.soft (defined_left front after d).1.1 (defined_right front after d).1.1

  cost-is : fold (λ q r. q +ℚ r) base costs ≡ cost task plan
  unfolding cost
  cost-is = fold-total base costs

  pub cost-told : (r : Result ℚ Wide) → Defined (base_reckoned task.metric (total_time plan) last.fluents)
      → Amounts r (terms_reckoned base task.soft xs last) (λ q. q ≡ fold (λ q r. q +ℚ r) base costs) → Amounts r (cost_reckoned task plan) (λ q. q ≡ cost task plan)
  cost-told (Ok q) b a = (cost-reckoned b a.0, a.1 ∙ cost-is)
  cost-told (Err w) b a = λ d. a (reckoned-terms d)

-- what is told of the base by its parts
pub base-told : (m : Metric) (total timed sum form : ℚ) (fluents : ℕ → ℚ) (r : Result ℚ Wide)
    → CanMultiply wide_limit m.last total → timed ≡ m.last *ℚ total
    → CanAdd wide_limit m.constant timed → sum ≡ m.constant +ℚ timed
    → CanEvaluate wide_limit m.fluents fluents → form ≡ form_at m.fluents fluents
    → Reckons (λ (q : ℚ). q) r (CanAdd wide_limit sum form) (sum +ℚ form)
    → Amounts r (base_reckoned m total fluents) (λ q. q ≡ base_of m total fluents)
unfolding value
base-told m total timed sum form fluents r a timed_is b sum_is c form_is h = go r h
  where
    sums_to : sum ≡ m.constant +ℚ m.last *ℚ total
    sums_to = sum_is ∙ ap (λ q. m.constant +ℚ q) timed_is

    both : CanAdd wide_limit sum form → CanAdd wide_limit (m.constant +ℚ m.last *ℚ total) (form_at m.fluents fluents)
    both d = subst (λ q. CanAdd wide_limit q (form_at m.fluents fluents)) sums_to (subst (λ q. CanAdd wide_limit sum q) form_is d)

    apart : CanAdd wide_limit (m.constant +ℚ m.last *ℚ total) (form_at m.fluents fluents) → CanAdd wide_limit sum form
    apart d = subst (λ q. CanAdd wide_limit q form) (sym sums_to) (subst (λ q. CanAdd wide_limit (m.constant +ℚ m.last *ℚ total) q) (sym form_is) d)

    go : (r : Result ℚ Wide) → Reckons (λ (q : ℚ). q) r (CanAdd wide_limit sum form) (sum +ℚ form) → Amounts r (base_reckoned m total fluents) (λ q. q ≡ base_of m total fluents)
    go (Ok q) h = ((a, (subst (λ q. CanAdd wide_limit m.constant q) timed_is b, (c, (both h.0, tt)))), h.1 ∙ ap (λ q. q +ℚ form) sums_to ∙ ap (λ q. m.constant +ℚ m.last *ℚ total +ℚ q) form_is)
    go (Err w) h = λ d. h (apart d.1.1.1.0)

-- ---- one term
pub weighed-told : (weight v : ℚ) (rs : List Reckoning) (value result : Result ℚ Wide) → Amounts value rs (λ q. q ≡ v) → IsWeighed weight value result → Amounts result (rs ++ Product weight v ∷ []) (λ q. q ≡ weight *ℚ v)
weighed-told weight v rs (Ok q) result a w = go result w
  where
    go : (r : Result ℚ Wide) → Amounts r (Product weight q ∷ []) (λ r. r ≡ weight *ℚ q) → Amounts r (rs ++ Product weight v ∷ []) (λ q. q ≡ weight *ℚ v)
    go (Ok r) h = (append-in rs (Product weight v ∷ []) a.0 (subst (λ x. Defined (Product weight x ∷ [])) a.1 h.0), h.1 ∙ ap (λ x. weight *ℚ x) a.1)
    go (Err e) h = λ all. h (subst (λ x. Defined (Product weight x ∷ [])) (sym a.1) (defined_right rs (Product weight v ∷ []) all))
weighed-told weight v rs (Err e) result a w = subst (λ (r : Result ℚ Wide). Amounts r (rs ++ Product weight v ∷ []) (λ q. q ≡ weight *ℚ v)) (sym w) (λ all. a (defined_left rs (Product weight v ∷ []) all))

pub term-told : (q cost v : ℚ) (rs : List Reckoning) (r : Result ℚ Wide) → Defined rs → cost ≡ v → Reckons (λ (q : ℚ). q) r (CanAdd wide_limit q cost) (q +ℚ cost) → Amounts r (rs ++ Sum q v ∷ []) (λ x. x ≡ q +ℚ v)
term-told q cost v rs (Ok x) d e h = (append-in rs (Sum q v ∷ []) d (subst (λ y. Defined (Sum q y ∷ [])) e (h.0, tt)), h.1 ∙ ap (λ y. q +ℚ y) e)
term-told q cost v rs (Err w) d e h = λ all. h (subst (λ y. CanAdd wide_limit q y) (sym e) (defined_right rs (Sum q v ∷ []) all).0)

pub term-stopped : (q v : ℚ) (rs : List Reckoning) → ¬ (Defined rs) → ¬ (Defined (rs ++ Sum q v ∷ []))
term-stopped q v rs n = λ all. n (defined_left rs (Sum q v ∷ []) all)

-- ---- the whole cost from its parts
module _ (task : TaskParts) (plan : Plan) (m : Metric) (total_is : ℚ) (now : State) (e : m ≡ task.metric) (f : total_is ≡ total_time plan) (g : now ≡ last_state task plan) where
  base-moved : Defined (base_reckoned m total_is now.fluents) → Defined (base_reckoned task.metric (total_time plan) (last_state task plan).fluents)
  base-moved b = subst (λ (s : State). Defined (base_reckoned task.metric (total_time plan) s.fluents)) g
      (subst (λ t. Defined (base_reckoned task.metric t now.fluents)) f (subst (λ (m : Metric). Defined (base_reckoned m total_is now.fluents)) e b))

  pub end-stopped : ¬ (Defined (base_reckoned m total_is now.fluents)) → ¬ (Defined (cost_reckoned task plan))
  end-stopped n = λ d. n (subst (λ (m : Metric). Defined (base_reckoned m total_is now.fluents)) (sym e) (subst (λ t. Defined (base_reckoned task.metric t now.fluents)) (sym f)
      (subst (λ (s : State). Defined (base_reckoned task.metric (total_time plan) s.fluents)) (sym g) (reckoned-base task plan d))))

  pub end-told : (sum : ℚ) (softs : List Soft) (r : Result ℚ Wide) → softs ≡ task.soft → Defined (base_reckoned m total_is now.fluents) → sum ≡ base_of m total_is now.fluents
      → Amounts r (terms_reckoned sum softs (trace task plan) now) (λ q. q ≡ fold (λ q r. q +ℚ r) sum (map (λ s. soft_cost s (trace task plan) now) softs))
      → Amounts r (cost_reckoned task plan) (λ q. q ≡ cost task plan)
  end-told sum softs r h b k t = cost-told task plan r (base-moved b)
      (subst (λ x. Amounts r (terms_reckoned x task.soft (trace task plan) (last_state task plan)) (λ q. q ≡ fold (λ q r. q +ℚ r) x (map (λ s. soft_cost s (trace task plan) (last_state task plan)) task.soft))) sums
      (subst (λ (s : State). Amounts r (terms_reckoned sum task.soft (trace task plan) s) (λ q. q ≡ fold (λ q r. q +ℚ r) sum (map (λ x. soft_cost x (trace task plan) s) task.soft))) g
      (subst (λ (ss : List Soft). Amounts r (terms_reckoned sum ss (trace task plan) now) (λ q. q ≡ fold (λ q r. q +ℚ r) sum (map (λ x. soft_cost x (trace task plan) now) ss))) h t)))
    where
      sums : sum ≡ base_of task.metric (total_time plan) (last_state task plan).fluents
      sums = k ∙ ap (λ (m : Metric). base_of m total_is now.fluents) e ∙ ap (λ t. base_of task.metric t now.fluents) f ∙ ap (λ (s : State). base_of task.metric (total_time plan) s.fluents) g
