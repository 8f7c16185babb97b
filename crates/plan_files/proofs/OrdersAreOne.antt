-- A text stands for one ordering of a task at most, is refused in one way at most, and not both.
use Rattle.std.proofs.Common.{◌≡◌, refl, sym, ap, subst, ◌∙◌, ℕ, List, [], ◌∷◌, inl, inr, ◌⊎◌, ⊎_elim, Option, Some, None}
use Rattle.std.specs.Option.{option_map, unwrap_or}
use Rattle.basics.specs.Duties.{AllMet, IsFirstUnmet}
use Rattle.basics.proofs.Duties.{AllMet-no_first, first_unmet-one}
use Rattle.task_types.specs.declared.parts.TaskParts.{TaskParts}
use Rattle.task_types.specs.Order.{Order, IsClosedOrdering}
use Rattle.task_types.specs.Plan.{action_of}
use Rattle.ordering.specs.declared.faults.OrderFault.{OrderFault}
use Rattle.ordering.specs.Refusals.{closing_refusal}
use Rattle.ordering.proofs.OpenStarts.{not_closed}
use Rattle.plan_files.specs.declared.faults.LineKind.{LineKind}
use Rattle.plan_files.specs.declared.faults.LineKind.TheVariants as kind
use Rattle.plan_files.specs.Lines.{written_lines}
use Rattle.plan_files.specs.OrderWords.{OrderWords, Acts, Timed, Pair, Orders}
use Rattle.plan_files.specs.OrderFiles.{Put, Step, Puts, snap_for, timed_at, word_duties, Begun, nothing_yet, after, refusal, Takes, HasNoForm, HasWrongWords, IsOutOfOrder, Refuses, Becomes, StopsAt, line_of_fault, IsOrderFile, IsLeftOpen, IsOrderRefusedAt}
use Rattle.plan_files.proofs.LineDuties.{stands-one}
use Rattle.plan_files.proofs.OrdersIn.{orders-one}

abbrev at_line : ℕ → OrderFault → ℕ × LineKind
at_line n f = (n, kind.Order f)

puts-one : (task : TaskParts) (w : OrderWords) (p q : Option Put) → Puts task w p → Puts task w q → p ≡ q
puts-one task (Acts what name args) p q s t =
    let actions : Some s.0 ≡ Some t.0 = sym s.1 ∙ t.1 in
    s.2 ∙ ap (λ (o : Option ℕ). option_map Step (snap_for what (action_of task (unwrap_or o 0)))) actions ∙ sym t.2
puts-one task (Timed moment) p q s t = s.2 ∙ ap (λ x. option_map Step (timed_at task x)) (stands-one moment s.0 t.0 s.1 t.1) ∙ sym t.2
puts-one task (Pair first second) p q s t = s ∙ sym t

module _ (task : TaskParts) (b : Begun) (line : ℕ × List ℕ) where
  takes-one : (p q : Put) → Takes task b line p → Takes task b line q → p ≡ q
  takes-one p q s t =
      let same : Some p ≡ Some q = puts-one task s.words (Some p) (Some q) s.puts (subst (λ (w : OrderWords). Puts task w (Some q)) (orders-one line.1 t.words s.words t.says s.says) t.puts) in
      ap (λ (o : Option Put). unwrap_or o p) same

  none-some : (o : Option OrderFault) (f : OrderFault) → o ≡ None → o ≡ Some f → ⊥
  none-some o f e g = let h : None ≡ Some f = sym e ∙ g in cc

  taken-not_refused : (p : Put) (f : ℕ × LineKind) → Takes task b line p → Refuses task b line f → ⊥
  taken-not_refused p f t (inl r) = r.0 t.words t.says
  taken-not_refused p f t (inr (inl r)) = AllMet-no_first (word_duties task line.0 t.words) f t.met (subst (λ (w : OrderWords). IsFirstUnmet (word_duties task line.0 w) f) (orders-one line.1 r.0 t.words r.1 t.says) r.2)
  taken-not_refused p f t (inr (inr r)) =
      let same : r.put ≡ Some p = puts-one task t.words r.put (Some p) (subst (λ (w : OrderWords). Puts task w r.put) (orders-one line.1 r.words t.words r.says t.says) r.puts) t.puts in
      none-some (refusal task b.order (Some p)) r.fault t.taken (ap (refusal task b.order) (sym same) ∙ r.refused)

  wrong-out : (f g : ℕ × LineKind) → HasWrongWords task line f → IsOutOfOrder task b line g → ⊥
  wrong-out f g r s = AllMet-no_first (word_duties task line.0 s.words) f s.met (subst (λ (w : OrderWords). IsFirstUnmet (word_duties task line.0 w) f) (orders-one line.1 r.0 s.words r.1 s.says) r.2)

  out-one : (f g : ℕ × LineKind) → IsOutOfOrder task b line f → IsOutOfOrder task b line g → f ≡ g
  out-one f g r s =
      let same : s.put ≡ r.put = puts-one task r.words s.put r.put (subst (λ (w : OrderWords). Puts task w s.put) (orders-one line.1 s.words r.words s.says r.says) s.puts) r.puts in
      let faults : Some r.fault ≡ Some s.fault = sym r.refused ∙ ap (refusal task b.order) (sym same) ∙ s.refused in
      r.told ∙ ap (λ (o : Option OrderFault). at_line line.0 (unwrap_or o r.fault)) faults ∙ sym s.told

  refuses-one : (f g : ℕ × LineKind) → Refuses task b line f → Refuses task b line g → f ≡ g
  refuses-one f g (inl r) (inl s) = r.1 ∙ sym s.1
  refuses-one f g (inl r) (inr (inl s)) = absurd (r.0 s.0 s.1)
  refuses-one f g (inl r) (inr (inr s)) = absurd (r.0 s.words s.says)
  refuses-one f g (inr (inl r)) (inl s) = absurd (s.0 r.0 r.1)
  refuses-one f g (inr (inl r)) (inr (inl s)) = first_unmet-one (word_duties task line.0 r.0) f g r.2 (subst (λ (w : OrderWords). IsFirstUnmet (word_duties task line.0 w) g) (orders-one line.1 s.0 r.0 s.1 r.1) s.2)
  refuses-one f g (inr (inl r)) (inr (inr s)) = absurd (wrong-out f g r s)
  refuses-one f g (inr (inr r)) (inl s) = absurd (s.0 r.words r.says)
  refuses-one f g (inr (inr r)) (inr (inl s)) = absurd (wrong-out g f s r)
  refuses-one f g (inr (inr r)) (inr (inr s)) = out-one f g r s

-- ---- all lines
abbrev TextLines : Type 0
TextLines = List (ℕ × List ℕ)

becomes-one : (task : TaskParts) (b : Begun) (lines : TextLines) (e f : Begun) → Becomes task b lines e → Becomes task b lines f → e ≡ f
becomes-one task b [] e f s t = sym s ∙ t
becomes-one task b (line ∷ lines) e f s t =
    becomes-one task (after b line.0 s.0) lines e f s.2 (subst (λ (p : Put). Becomes task (after b line.0 p) lines f) (takes-one task b line t.0 s.0 t.1 s.1) t.2)

becomes-no_stop : (task : TaskParts) (b : Begun) (lines : TextLines) (e : Begun) (f : ℕ × LineKind) → Becomes task b lines e → StopsAt task b lines f → ⊥
becomes-no_stop task b [] e f s t = t
becomes-no_stop task b (line ∷ lines) e f s (inl r) = taken-not_refused task b line s.0 f s.1 r
becomes-no_stop task b (line ∷ lines) e f s (inr t) =
    becomes-no_stop task (after b line.0 s.0) lines e f s.2 (subst (λ (p : Put). StopsAt task (after b line.0 p) lines f) (takes-one task b line t.0 s.0 t.1 s.1) t.2)

stops-one : (task : TaskParts) (b : Begun) (lines : TextLines) (f g : ℕ × LineKind) → StopsAt task b lines f → StopsAt task b lines g → f ≡ g
stops-one task b [] f g s t = absurd s
stops-one task b (line ∷ lines) f g (inl r) (inl s) = refuses-one task b line f g r s
stops-one task b (line ∷ lines) f g (inl r) (inr t) = absurd (taken-not_refused task b line t.0 f t.1 r)
stops-one task b (line ∷ lines) f g (inr s) (inl r) = absurd (taken-not_refused task b line s.0 g s.1 r)
stops-one task b (line ∷ lines) f g (inr s) (inr t) =
    stops-one task (after b line.0 s.0) lines f g s.2 (subst (λ (p : Put). StopsAt task (after b line.0 p) lines g) (takes-one task b line t.0 s.0 t.1 s.1) t.2)

-- ---- whole files
pub orderings-one : (task : TaskParts) (text : List ℕ) (o p : Order) → IsOrderFile task text o → IsOrderFile task text p → o ≡ p
orderings-one task text o p s t = s.order ∙ ap (λ (b : Begun). b.order) (becomes-one task nothing_yet (written_lines text) s.end t.end s.becomes t.becomes) ∙ sym t.order

open-one : (task : TaskParts) (text : List ℕ) (f g : ℕ × LineKind) → IsLeftOpen task text f → IsLeftOpen task text g → f ≡ g
open-one task text f g s t =
    let same = becomes-one task nothing_yet (written_lines text) s.end t.end s.becomes t.becomes in
    let faults : Some s.fault ≡ Some t.fault = sym s.lacks ∙ ap (λ (b : Begun). closing_refusal task b.order) same ∙ t.lacks in
    s.told ∙ ap (λ (b : Begun). at_line (line_of_fault b.lines s.fault) s.fault) same ∙ ap (λ (o : Option OrderFault). at_line (line_of_fault t.end.lines (unwrap_or o s.fault)) (unwrap_or o s.fault)) faults ∙ sym t.told

pub order_refusals-one : (task : TaskParts) (text : List ℕ) (f g : ℕ × LineKind) → IsOrderRefusedAt task text f → IsOrderRefusedAt task text g → f ≡ g
order_refusals-one task text f g (inl s) (inl t) = stops-one task nothing_yet (written_lines text) f g s t
order_refusals-one task text f g (inl s) (inr t) = absurd (becomes-no_stop task nothing_yet (written_lines text) t.end f t.becomes s)
order_refusals-one task text f g (inr s) (inl t) = absurd (becomes-no_stop task nothing_yet (written_lines text) s.end g s.becomes t)
order_refusals-one task text f g (inr s) (inr t) = open-one task text f g s t

pub order_either : (task : TaskParts) (text : List ℕ) (o : Order) (f : ℕ × LineKind) → IsOrderFile task text o → IsOrderRefusedAt task text f → ⊥
order_either task text o f s (inl t) = becomes-no_stop task nothing_yet (written_lines text) s.end f s.becomes t
order_either task text o f s (inr t) =
    let same = becomes-one task nothing_yet (written_lines text) s.end t.end s.becomes t.becomes in
    not_closed task o t.fault (ap (closing_refusal task) (s.order ∙ ap (λ (b : Begun). b.order) same) ∙ t.lacks) s.closed
