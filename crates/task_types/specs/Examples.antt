-- Believed: small tasks, plans and orderings on which the definitions are tried.
-- What they give there is said in the other files of examples.
use Rattle.std.specs.Prelude.{ℕ, Bool, true, false, List, [], ◌∷◌, Some, None, pos, negsuc, codes}
use Rattle.rational.specs.Rational.{ℚ, ratio}
use Rattle.exact_lin.specs.Forms.{LinearForm}
use Rattle.task_types.specs.declared.actions.Action.{Action}
use Rattle.task_types.specs.declared.actions.Bound.{Bound}
use Rattle.task_types.specs.declared.actions.Schema.{Schema}
use Rattle.task_types.specs.declared.actions.Snap.{Snap}
use Rattle.task_types.specs.declared.actions.SnapKind.TheVariants.{Start, End, Instant, Timed}
use Rattle.task_types.specs.declared.conditions.Amount.{Amount}
use Rattle.task_types.specs.declared.conditions.Condition.{Condition}
use Rattle.task_types.specs.declared.conditions.Effect.{Effect}
use Rattle.task_types.specs.declared.constraints.Trail.{Trail}
use Rattle.task_types.specs.declared.constraints.TrailKind.{TrailKind}
use Rattle.task_types.specs.declared.costs.LateCost.{LateCost}
use Rattle.task_types.specs.declared.costs.Metric.{Metric}
use Rattle.task_types.specs.declared.costs.Soft.{Soft}
use Rattle.task_types.specs.declared.formulas.FactTree.{FactTree}
use Rattle.task_types.specs.declared.formulas.FactTree.TheVariants as tree
use Rattle.task_types.specs.declared.parts.Fact.{Fact}
use Rattle.task_types.specs.declared.parts.Fluent.{Fluent}
use Rattle.task_types.specs.declared.parts.Rules.{Rules}
use Rattle.task_types.specs.declared.parts.TaskParts.{TaskParts}
use Rattle.task_types.specs.declared.plans.PlanLine.{PlanLine}
use Rattle.task_types.specs.Plan.{Plan}
use Rattle.task_types.specs.Order.{Order}

-- ---- parts of tasks

abbrev pub n : ℕ → ℚ
n k = ratio (pos k) 1

abbrev pub rules : Rules
rules = record { epsilon = ratio (pos 1) 1000; horizon = n 1000000 }

abbrev pub linear : ℚ → List (ℕ × ℚ) → LinearForm
linear c ts = record { constant = c; terms = ts }

abbrev pub always_true : Condition
always_true = record { literals = []; comparisons = [] }

abbrev pub asks : List LinearForm → Condition
asks forms = record { literals = []; comparisons = forms }

abbrev pub fact_holds : ℕ → Condition
fact_holds f = record { literals = record { fact = f; holds = true } ∷ []; comparisons = [] }

abbrev pub nothing : Effect
nothing = record { adds = []; deletes = []; assigns = []; increases = [] }

abbrev pub makes : ℕ → Effect
makes f = record { adds = f ∷ []; deletes = []; assigns = []; increases = [] }

abbrev pub ends_fact : ℕ → Effect
ends_fact f = record { adds = []; deletes = f ∷ []; assigns = []; increases = [] }

-- a number, in every state
abbrev pub just : ℚ → Amount
just q = record { form = linear q []; duration = n 0 }

abbrev pub raises : ℕ → ℚ → Effect
raises f q = record { adds = []; deletes = []; assigns = []; increases = (f, just q) ∷ [] }

abbrev pub assigns_to : ℕ → ℚ → Effect
assigns_to f q = record { adds = []; deletes = []; assigns = (f, just q) ∷ []; increases = [] }

abbrev pub exactly : ℚ → List Bound
exactly q = record { at_least = true; at_end = false; form = linear q [] } ∷ record { at_least = false; at_end = false; form = linear q [] } ∷ []

abbrev pub durative : List ℕ → ℕ → ℕ → List Bound → Condition → Action
durative name s e bounds over_all = record { name = name; args = []; start = s; end = Some e; bounds = bounds; over_all = over_all }

abbrev pub instant : List ℕ → ℕ → Action
instant name s = record { name = name; args = []; start = s; end = None; bounds = []; over_all = always_true }

abbrev pub schema : List ℕ → Bool → Schema
schema name durative = record { name = name; durative = durative; params = [] }

abbrev pub at_start : ℕ → List (ℕ × ℚ) → Snap
at_start a rates = record { kind = Start; action = Some a; condition = always_true; effect = nothing; rates = rates }

abbrev pub at_end : ℕ → Effect → Snap
at_end a effect = record { kind = End; action = Some a; condition = always_true; effect = effect; rates = [] }

abbrev pub at_once : ℕ → Condition → Effect → Snap
at_once a c effect = record { kind = Instant; action = Some a; condition = c; effect = effect; rates = [] }

abbrev pub at_moment : Effect → Snap
at_moment effect = record { kind = Timed; action = None; condition = always_true; effect = effect; rates = [] }

abbrev pub fluent : List ℕ → ℚ → Fluent
fluent name q = record { name = name; args = []; value = q }

abbrev pub unset : List ℕ → Fact
unset name = record { name = name; args = []; holds = false }

abbrev pub by_time : Metric
by_time = record { constant = n 0; last = n 1; fluents = linear (n 0) [] }

abbrev pub by_meter : Metric
by_meter = record { constant = n 0; last = n 0; fluents = linear (n 0) ((0, n 1) ∷ []) }

abbrev pub no_metric : Metric
no_metric = record { constant = n 0; last = n 0; fluents = linear (n 0) [] }

abbrev pub lasting : ℕ → ℚ → ℚ → ℕ → PlanLine
lasting a t d l = record { action = a; at = t; duration = Some d; line = l }

abbrev pub once : ℕ → ℚ → ℕ → PlanLine
once a t l = record { action = a; at = t; duration = None; line = l }

-- ---- tasks

-- Filling raises the level, q at first, by 2 per unit of time, and it is to be at most 10 all the while; a leak lowers
-- it by 1.
abbrev pub tank : ℚ → TaskParts
tank q = record {
  objects = [];
  schemas = schema (codes "fill") true ∷ schema (codes "leak") true ∷ [];
  facts = [];
  fluents = fluent (codes "level") q ∷ [];
  actions = durative (codes "fill") 0 1 (exactly (n 5)) (asks (linear (n 10) ((0, ratio (negsuc 0) 1) ∷ []) ∷ [])) ∷ durative (codes "leak") 2 3 (exactly (n 5)) always_true ∷ [];
  snaps = at_start 0 ((0, n 2) ∷ []) ∷ at_end 0 nothing ∷ at_start 1 ((0, ratio (negsuc 0) 1) ∷ []) ∷ at_end 1 nothing ∷ [];
  timed = [];
  goal = asks (linear (ratio (negsuc 9) 1) ((0, n 1) ∷ []) ∷ []);
  hard = [];
  soft = [];
  metric = by_time;
}

-- One action sets a fact that another uses.
abbrev pub flags : TaskParts
flags = record {
  objects = [];
  schemas = schema (codes "set") false ∷ schema (codes "use") false ∷ [];
  facts = unset (codes "p") ∷ unset (codes "q") ∷ [];
  fluents = [];
  actions = instant (codes "set") 0 ∷ instant (codes "use") 1 ∷ [];
  snaps = at_once 0 always_true (makes 0) ∷ at_once 1 (fact_holds 0) (makes 1) ∷ [];
  timed = [];
  goal = fact_holds 1;
  hard = [];
  soft = [];
  metric = by_time;
}

abbrev pub adds_and_raises : ℕ → Effect
adds_and_raises f = record { adds = f ∷ []; deletes = []; assigns = []; increases = (0, just (n 2)) ∷ [] }

-- Two actions raise the total cost, which nothing but the metric reads.
abbrev pub meters : TaskParts
meters = record {
  objects = [];
  schemas = schema (codes "a") false ∷ schema (codes "b") false ∷ [];
  facts = unset (codes "pa") ∷ unset (codes "pb") ∷ [];
  fluents = fluent (codes "total-cost") (n 0) ∷ [];
  actions = instant (codes "a") 0 ∷ instant (codes "b") 1 ∷ [];
  snaps = at_once 0 always_true (adds_and_raises 0) ∷ at_once 1 always_true (adds_and_raises 1) ∷ [];
  timed = [];
  goal = record { literals = record { fact = 0; holds = true } ∷ record { fact = 1; holds = true } ∷ []; comparisons = [] };
  hard = [];
  soft = [];
  metric = by_meter;
}

-- An action asks f + g to be at least 5 all the while, both 3 at first; `up` raises f by 2 and `down` lowers g by 2.
abbrev pub pair_watch : TaskParts
pair_watch = record {
  objects = [];
  schemas = schema (codes "hold") true ∷ schema (codes "up") false ∷ schema (codes "down") false ∷ [];
  facts = [];
  fluents = fluent (codes "f") (n 3) ∷ fluent (codes "g") (n 3) ∷ [];
  actions = durative (codes "hold") 0 1 (exactly (n 1)) (asks (linear (ratio (negsuc 4) 1) ((0, n 1) ∷ (1, n 1) ∷ []) ∷ [])) ∷ instant (codes "up") 2 ∷ instant (codes "down") 3 ∷ [];
  snaps = at_start 0 [] ∷ at_end 0 nothing ∷ at_once 1 always_true (raises 0 (n 2)) ∷ at_once 2 always_true (raises 1 (ratio (negsuc 1) 1)) ∷ [];
  timed = [];
  goal = always_true;
  hard = [];
  soft = [];
  metric = by_time;
}

-- A gate is open from 5 to 10, and who passes needs it open all the while.
abbrev pub gate : TaskParts
gate = record {
  objects = [];
  schemas = schema (codes "pass") true ∷ [];
  facts = unset (codes "open") ∷ unset (codes "through") ∷ [];
  fluents = [];
  actions = durative (codes "pass") 0 1 (exactly (n 4)) (fact_holds 0) ∷ [];
  snaps = at_start 0 [] ∷ at_end 0 (makes 1) ∷ at_moment (makes 0) ∷ at_moment (ends_fact 0) ∷ [];
  timed = (n 5, 2) ∷ (n 10, 3) ∷ [];
  goal = fact_holds 1;
  hard = [];
  soft = [];
  metric = by_time;
}

-- Work of duration d makes a fact true; it has soft terms, and costs nothing else.
abbrev pub work : ℚ → List Soft → TaskParts
work d terms = record {
  objects = [];
  schemas = schema (codes "work") true ∷ [];
  facts = unset (codes "done") ∷ [];
  fluents = [];
  actions = durative (codes "work") 0 1 (exactly d) always_true ∷ [];
  snaps = at_start 0 [] ∷ at_end 0 (makes 0) ∷ [];
  timed = [];
  goal = fact_holds 0;
  hard = [];
  soft = terms;
  metric = no_metric;
}

abbrev pub done : FactTree
done = tree.Is (record { fact = 0; holds = true })

-- Charging takes at least 1 and at most the level, 0 at first and rising by 2; the upper bound is read at the end, or
-- else at the start.
abbrev pub charge : Bool → TaskParts
charge late = record {
  objects = [];
  schemas = schema (codes "fill") true ∷ [];
  facts = [];
  fluents = fluent (codes "level") (n 0) ∷ [];
  actions = durative (codes "fill") 0 1 (record { at_least = true; at_end = false; form = linear (n 1) [] } ∷ record { at_least = false; at_end = late; form = linear (n 0) ((0, n 1) ∷ []) } ∷ []) always_true ∷ [];
  snaps = at_start 0 ((0, n 2) ∷ []) ∷ at_end 0 nothing ∷ [];
  timed = [];
  goal = always_true;
  hard = [];
  soft = [];
  metric = by_time;
}

-- An action puts 5 into f, another puts 7 into it; the first also raises f by `more`.
abbrev pub puts : List (ℕ × Amount) → TaskParts
puts more = record {
  objects = [];
  schemas = schema (codes "put") false ∷ schema (codes "set") false ∷ [];
  facts = [];
  fluents = fluent (codes "f") (n 1) ∷ [];
  actions = instant (codes "put") 0 ∷ instant (codes "set") 1 ∷ [];
  snaps = at_once 0 always_true (record { adds = []; deletes = []; assigns = (0, just (n 5)) ∷ []; increases = more }) ∷ at_once 1 always_true (assigns_to 0 (n 7)) ∷ [];
  timed = [];
  goal = always_true;
  hard = [];
  soft = [];
  metric = by_time;
}

-- `flip` needs p, true at first, to be false; `double` deletes and adds q, and doubles r, 1 at first; `more` ends only
-- where q holds, and raises r by its duration.
abbrev pub small : TaskParts
small = record {
  objects = [];
  schemas = schema (codes "flip") false ∷ schema (codes "double") false ∷ schema (codes "more") true ∷ [];
  facts = record { name = codes "p"; args = []; holds = true } ∷ unset (codes "q") ∷ [];
  fluents = fluent (codes "r") (n 1) ∷ [];
  actions = instant (codes "flip") 0 ∷ instant (codes "double") 1 ∷ durative (codes "more") 2 3 [] always_true ∷ [];
  snaps = at_once 0 (record { literals = record { fact = 0; holds = false } ∷ []; comparisons = [] }) (makes 1)
      ∷ at_once 1 always_true (record { adds = 1 ∷ []; deletes = 1 ∷ []; assigns = (0, record { form = linear (n 0) ((0, n 2) ∷ []); duration = n 0 }) ∷ []; increases = [] })
      ∷ at_start 2 []
      ∷ record { kind = End; action = Some 2; condition = fact_holds 1; effect = record { adds = []; deletes = []; assigns = []; increases = (0, record { form = linear (n 0) []; duration = n 1 }) ∷ [] }; rates = [] } ∷ [];
  timed = [];
  goal = always_true;
  hard = [];
  soft = [];
  metric = record { constant = n 3; last = n 0; fluents = linear (n 0) ((0, n 1) ∷ []) };
}

-- Nothing can be done, and p holds from the first.
abbrev pub given : List Soft → TaskParts
given terms = record {
  objects = [];
  schemas = [];
  facts = record { name = codes "p"; args = []; holds = true } ∷ [];
  fluents = [];
  actions = [];
  snaps = [];
  timed = [];
  goal = always_true;
  hard = [];
  soft = terms;
  metric = no_metric;
}

-- a constraint of one formula, which counts with its moment in `within` alone
abbrev pub trail : TrailKind → FactTree → ℚ → Trail
trail kind formula moment = record { kind = kind; first = formula; second = tree.True; moment = moment }

-- a constraint of two formulas
abbrev pub pair_trail : TrailKind → FactTree → FactTree → Trail
pair_trail kind first second = record { kind = kind; first = first; second = second; moment = n 0 }

-- a fact is false
abbrev pub fact_fails : ℕ → FactTree
fact_fails f = tree.Is (record { fact = f; holds = false })

-- a time cost: 0 up to 2, then rising evenly to 8 at 6
abbrev pub late : LateCost
late = record { soft = n 2; hard = n 6; top = n 8 }

-- ---- plans and orderings

abbrev pub fill : Plan
fill = lasting 0 (n 0) (n 5) 1 ∷ []

abbrev pub fill_and_leak : Plan
fill_and_leak = lasting 0 (n 0) (n 5) 1 ∷ lasting 1 (n 0) (n 5) 2 ∷ []

abbrev pub up_then_down : Order
up_then_down = record { steps = 0 ∷ 2 ∷ 3 ∷ 1 ∷ []; extra = [] }

abbrev pub up_then_down_times : List ℚ
up_then_down_times = n 0 ∷ ratio (pos 998) 1000 ∷ ratio (pos 999) 1000 ∷ n 1 ∷ []

abbrev pub up_then_down_plan : Plan
up_then_down_plan = lasting 0 (n 0) (n 1) 1 ∷ once 1 (ratio (pos 998) 1000) 2 ∷ once 2 (ratio (pos 999) 1000) 3 ∷ []

abbrev pub down_then_up_plan : Plan
down_then_up_plan = lasting 0 (n 0) (n 1) 1 ∷ once 2 (ratio (pos 998) 1000) 2 ∷ once 1 (ratio (pos 999) 1000) 3 ∷ []

-- passing the gate from a time on, in line 7 of a text
abbrev pub passing : ℚ → Plan
passing t = lasting 0 t (n 4) 7 ∷ []

-- the gate opens, `pass` starts and ends, the gate closes
abbrev pub through_the_gate : Order
through_the_gate = record { steps = 2 ∷ 0 ∷ 1 ∷ 3 ∷ []; extra = [] }

-- filling starts, the leak starts, filling ends, the leak ends
abbrev pub fill_then_leak : Order
fill_then_leak = record { steps = 0 ∷ 2 ∷ 1 ∷ 3 ∷ []; extra = [] }
