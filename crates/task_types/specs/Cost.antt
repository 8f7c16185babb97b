-- Believed: the cost of a plan.
-- Plan metrics are those of Fox and Long 2003, `is-violated` is that of Gerevini and Long 2005; the time costs are this
-- project's own.
use Rattle.std.specs.Prelude.{Bool, ◌&&◌, if◌then◌else◌, List, [], ◌∷◌, map, Option, Some, None}
use Rattle.std.specs.List.{list_all, flat_map}
use Rattle.rational.specs.Rational.{ℚ, zeroℚ, ◌+ℚ◌, ◌-ℚ◌, ◌*ℚ◌, inverse}
use Rattle.exact_lin.specs.Forms.{LinearForm}
use Rattle.task_types.specs.declared.costs.LateCost.{LateCost}
use Rattle.task_types.specs.declared.costs.Piece.{Piece}
use Rattle.task_types.specs.declared.costs.Soft.{Soft}
use Rattle.task_types.specs.declared.costs.Soft.TheVariants.{Trail, Goal, Late, Pieces}
use Rattle.task_types.specs.declared.formulas.FactTree.{FactTree}
use Rattle.task_types.specs.declared.parts.TaskParts.{TaskParts}
use Rattle.task_types.specs.Tests.{◌≤?◌, total}
use Rattle.task_types.specs.State.{State, value, comparison_holds, tree_holds}
use Rattle.task_types.specs.Plan.{Plan, end_of}
use Rattle.task_types.specs.Course.{last_state}
use Rattle.task_types.specs.Trace.{Trace, trace, met, first_moment}

-- A time cost in three numbers is 0 up to `soft`, rises evenly to `top` at `hard`, and is `top` from there on and where
-- its formula never holds.
abbrev pub late_value : LateCost → Option ℚ → ℚ
late_value c None = c.top
late_value c (Some m) =
    if m ≤? c.soft then zeroℚ
    else (if c.hard ≤? m then c.top else c.top *ℚ (m -ℚ c.soft) *ℚ inverse (c.hard -ℚ c.soft))

-- A piece runs evenly from `from` at the end of the piece before it to `to` at its own end.
abbrev pub piece_value : ℚ → Piece → ℚ → ℚ
piece_value lower p m = p.from +ℚ (p.to -ℚ p.from) *ℚ (m -ℚ lower) *ℚ inverse (p.until -ℚ lower)

-- the value of the first piece that m doesn't pass, and past them all the last `to`
abbrev pub piece_at : ℚ → ℚ → List Piece → ℚ → ℚ
piece_at lower last [] m = last
piece_at lower last (p ∷ ps) m = if m ≤? p.until then piece_value lower p m else piece_at p.until p.to ps m

abbrev pub last_to : ℚ → List Piece → ℚ
last_to other [] = other
last_to other (p ∷ ps) = last_to p.to ps

-- the greater of two numbers
abbrev pub greater : ℚ → ℚ → ℚ
greater q r = if q ≤? r then r else q

-- A time cost in pieces has the value of the piece in which the first moment lies, the first `from` at 0 and before,
-- and the last `to` past them all and where its formula never holds.
abbrev pub pieces_value : List Piece → Option ℚ → ℚ
pieces_value ps None = last_to zeroℚ ps
pieces_value ps (Some m) = piece_at zeroℚ zeroℚ ps (greater zeroℚ m)

-- A goal preference is met where its formula and its comparisons hold in the last state.
abbrev pub goal_met : FactTree → List LinearForm → State → Bool
goal_met formula forms last = tree_holds formula last.facts && list_all (λ form. comparison_holds form last.fluents) forms

-- A preference costs its weight where it is violated; a time cost costs its weight times its value.
abbrev pub soft_cost : Soft → Trace → State → ℚ
soft_cost (Trail c weight) xs last = if met c xs then zeroℚ else weight
soft_cost (Goal formula forms weight) xs last = if goal_met formula forms last then zeroℚ else weight
soft_cost (Late formula c weight) xs last = weight *ℚ late_value c (first_moment formula xs)
soft_cost (Pieces formula ps weight) xs last = weight *ℚ pieces_value ps (first_moment formula xs)

-- the greatest of a list; 0 where it is empty
abbrev pub greatest : List ℚ → ℚ
greatest [] = zeroℚ
greatest (x ∷ []) = x
greatest (x ∷ y ∷ ys) = greater x (greatest (y ∷ ys))

-- The total time is the time of the last plan step, and 0 where there is none.
abbrev pub total_time : Plan → ℚ
total_time plan = greatest (flat_map (λ l. l.at ∷ end_of l ∷ []) plan)

-- The cost is the metric's constant, plus its factor times the total time, plus its form over the fluents of the last
-- state, plus the cost of each soft term.
unfoldable pub cost : TaskParts → Plan → ℚ
cost task plan = task.metric.constant +ℚ task.metric.last *ℚ total_time plan +ℚ value task.metric.fluents (last_state task plan).fluents
    +ℚ total (map (λ s. soft_cost s (trace task plan) (last_state task plan)) task.soft)
