-- What is reckoned step by step ends at the exact value.
use Rattle.std.proofs.Common.{◌≡◌, refl, sym, ap, ◌∙◌, ℕ, Bool, true, false, cond, not, ◌||◌, List, [], ◌∷◌, ◌++◌, map, fold, Some}
use Rattle.std.specs.Prelude.{if◌then◌else◌, IsTrue}
use Rattle.std.specs.List.{filter, flat_map}
use Rattle.rational.specs.Rational.{ℚ, zeroℚ, ◌+ℚ◌, ◌*ℚ◌, ◌-ℚ◌, neg_ℚ, inverse}
use Rattle.rational.proofs.Field.{ℚ_ring}
use Rattle.rational.proofs.Ring.{law, ◌⊕◌, ◌⊗◌, ◌⊖◌, num, ◌≐◌}
use Rattle.exact_lin.specs.Reckonings.{Reckoning, Sum, Product, outcome, sums}
use Rattle.task_types.specs.declared.costs.LateCost.{LateCost}
use Rattle.task_types.specs.declared.costs.Piece.{Piece}
use Rattle.task_types.specs.declared.parts.TaskParts.{TaskParts}
use Rattle.task_types.specs.declared.plans.PlanLine.{PlanLine}
use Rattle.task_types.specs.Tests.{◌≤?◌, total}
use Rattle.task_types.specs.State.{State, value}
use Rattle.task_types.specs.Plan.{Plan, Step}
use Rattle.task_types.specs.Course.{increased, happen, rates_of, runs_between, rate, moved, last_state}
use Rattle.task_types.specs.Trace.{trace}
use Rattle.task_types.specs.Cost.{cost, late_value, soft_cost, total_time}
use Rattle.task_types.specs.Reckoned.{put_by_start, by_start, assigned_value, rate_reckoned, move_of, late_reckoned, piece_reckoned, soft_reckoned, cost_reckoned}
use Rattle.task_types.specs.Laws.{ends_at, ReckoningsEndAtTheValue}
use Rattle.task_types.proofs.Alike.{fold-total}

-- after some reckonings, others
ends_at-append : (q : ℚ) (xs ys : List Reckoning) → ends_at q (xs ++ ys) ≡ ends_at (ends_at q xs) ys
ends_at-append q [] ys = refl
ends_at-append q (x ∷ xs) ys = ends_at-append (outcome x) xs ys

pub ends_at-sums : (q : ℚ) (rs : List ℚ) → ends_at q (sums q rs) ≡ fold (λ q r. q +ℚ r) q rs
ends_at-sums q [] = refl
ends_at-sums q (r ∷ rs) = ends_at-sums (q +ℚ r) rs

pub total-append : (xs ys : List ℚ) → total (xs ++ ys) ≡ total xs +ℚ total ys
total-append [] ys = law ℚ_ring (total ys ∷ []) (λ t. t ≐ num 0 ⊕ t) refl
total-append (x ∷ xs) ys = ap (λ q. x +ℚ q) (total-append xs ys) ∙ law ℚ_ring (x ∷ total xs ∷ total ys ∷ []) (λ x a b. x ⊕ (a ⊕ b) ≐ (x ⊕ a) ⊕ b) refl

-- the order of the starts changes no sum
total_put : (f : PlanLine → List ℚ) (l : PlanLine) (ms : Plan) → total (flat_map f (put_by_start l ms)) ≡ total (f l) +ℚ total (flat_map f ms)
total_put f l [] = total-append (f l) []
total_put f l (m ∷ ms) = go (l.at ≤? m.at) (total_put f l ms)
  where
    go : (b : Bool) → total (flat_map f (put_by_start l ms)) ≡ total (f l) +ℚ total (flat_map f ms) → total (flat_map f (cond b (l ∷ m ∷ ms) (m ∷ put_by_start l ms))) ≡ total (f l) +ℚ total (flat_map f (m ∷ ms))
    go true e = total-append (f l) (flat_map f (m ∷ ms))
    go false e = total-append (f m) (flat_map f (put_by_start l ms)) ∙ ap (λ q. total (f m) +ℚ q) e
        ∙ law ℚ_ring (total (f m) ∷ total (f l) ∷ total (flat_map f ms) ∷ []) (λ a b c. a ⊕ (b ⊕ c) ≐ b ⊕ (a ⊕ c)) refl
        ∙ ap (λ q. total (f l) +ℚ q) (sym (total-append (f m) (flat_map f ms)))

total_by_start : (f : PlanLine → List ℚ) (ls : Plan) → total (flat_map f (by_start ls)) ≡ total (flat_map f ls)
total_by_start f [] = refl
total_by_start f (l ∷ ls) = total_put f l (by_start ls) ∙ ap (λ q. total (f l) +ℚ q) (total_by_start f ls) ∙ sym (total-append (f l) (flat_map f ls))

effects_end : (task : TaskParts) (here : List Step) (s : State) (f : ℕ) → ends_at (assigned_value task here s f) (sums (assigned_value task here s f) (increased task here s f)) ≡ (happen task here s).fluents f
unfolding happen
effects_end task here s f = ends_at-sums (assigned_value task here s f) (increased task here s f)

rates_end : (task : TaskParts) (plan : Plan) (from to : ℚ) (f : ℕ) → ends_at zeroℚ (rate_reckoned task plan from to f) ≡ rate task plan from to f
unfolding rate
rates_end task plan from to f =
    ends_at-sums zeroℚ (flat_map (λ l. rates_of task l f) (by_start (filter (runs_between from to) plan)))
    ∙ fold-total zeroℚ (flat_map (λ l. rates_of task l f) (by_start (filter (runs_between from to) plan)))
    ∙ law ℚ_ring (total (flat_map (λ l. rates_of task l f) (by_start (filter (runs_between from to) plan))) ∷ []) (λ t. num 0 ⊕ t ≐ t) refl
    ∙ total_by_start (λ l. rates_of task l f) (filter (runs_between from to) plan)

moves_end : (task : TaskParts) (plan : Plan) (from to : ℚ) (s : State) (f : ℕ) → ends_at zeroℚ (move_of task plan from to s f) ≡ (moved task plan from to s).fluents f
unfolding moved
moves_end task plan from to s f = ends_at-append zeroℚ (rate_reckoned task plan from to f) _

late_ends : (c : LateCost) (m : ℚ) → IsTrue (not ((m ≤? c.soft) || (c.hard ≤? m))) → ends_at zeroℚ (late_reckoned c (Some m)) ≡ late_value c (Some m)
late_ends c m h = go (m ≤? c.soft) (c.hard ≤? m) h
  where
    go : (a b : Bool) → not (a || b) ≡ true
        → ends_at zeroℚ (if a || b then [] else (Sum m (neg_ℚ c.soft) ∷ Sum c.hard (neg_ℚ c.soft) ∷ Product c.top (m -ℚ c.soft) ∷ Product (c.top *ℚ (m -ℚ c.soft)) (inverse (c.hard -ℚ c.soft)) ∷ []))
        ≡ (if a then zeroℚ else (if b then c.top else c.top *ℚ (m -ℚ c.soft) *ℚ inverse (c.hard -ℚ c.soft)))
    go true b h = let e : false ≡ true = h in cc
    go false true h = let e : false ≡ true = h in cc
    go false false h = refl

pieces_end : (lower : ℚ) (p : Piece) (m : ℚ) → ends_at zeroℚ (piece_reckoned lower p m) ≡ p.from +ℚ (p.to -ℚ p.from) *ℚ (m -ℚ lower) *ℚ inverse (p.until -ℚ lower)
pieces_end lower p m = law ℚ_ring (p.from ∷ p.to ∷ m ∷ lower ∷ inverse (p.until -ℚ lower) ∷ []) (λ a b m l i. a ⊕ ((b ⊖ a) ⊗ i) ⊗ (m ⊖ l) ≐ a ⊕ ((b ⊖ a) ⊗ (m ⊖ l)) ⊗ i) refl

cost_ends : (task : TaskParts) (plan : Plan) → ends_at zeroℚ (cost_reckoned task plan) ≡ cost task plan
unfolding cost value
cost_ends task plan =
    ends_at-append (value task.metric.fluents (last_state task plan).fluents) (flat_map (λ s. soft_reckoned s (trace task plan) (last_state task plan)) task.soft) _
    ∙ ends_at-sums (task.metric.constant +ℚ task.metric.last *ℚ total_time plan) (value task.metric.fluents (last_state task plan).fluents ∷ costs)
    ∙ fold-total (task.metric.constant +ℚ task.metric.last *ℚ total_time plan +ℚ value task.metric.fluents (last_state task plan).fluents) costs
  where
    costs : List ℚ
    costs = map (λ s. soft_cost s (trace task plan) (last_state task plan)) task.soft

pub reckonings_end : ReckoningsEndAtTheValue
reckonings_end = record {
  amounts = λ step s a. refl;
  effects = effects_end;
  rates = rates_end;
  moves = moves_end;
  time_costs = late_ends;
  pieces = pieces_end;
  costs = cost_ends;
}
