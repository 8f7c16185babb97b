-- Private: a small task on which the tests reckon value forms.
use Rattle.std.specs.Prelude.{[], ◌∷◌, Some, true, false, pos, codes}
use Rattle.rational.specs.Rational.{zeroℚ, whole}
use Rattle.exact_lin.specs.Forms.{constant_form, plus_constant, plus_term}
use Rattle.task_types.specs.declared.actions.Snap.{Snap}
use Rattle.task_types.specs.declared.actions.SnapKind.TheVariants.{Start, End, Instant}
use Rattle.task_types.specs.declared.conditions.Amount.{Amount}
use Rattle.task_types.specs.declared.conditions.Effect.{Effect}
use Rattle.task_types.specs.declared.parts.TaskParts.{TaskParts}
use Rattle.task_types.specs.Examples.{always_true, durative, instant, schema, fluent, no_metric}

-- 7 times the duration
abbrev pub while_filling : Amount
while_filling = record { form = constant_form zeroℚ; duration = whole (pos 7) }

-- the level and 3 times the duration
abbrev pub when_filled : Amount
when_filled = record { form = plus_term (constant_form zeroℚ) 0 (whole (pos 1)); duration = whole (pos 3) }

abbrev pub ten : Amount
ten = record { form = plus_constant (constant_form zeroℚ) (whole (pos 10)); duration = zeroℚ }

abbrev pub works : Amount → Effect
works a = record { adds = []; deletes = []; assigns = []; increases = (1, a) ∷ [] }

abbrev pub levels : Effect
levels = record { adds = []; deletes = []; assigns = (0, ten) ∷ []; increases = [] }

abbrev pub starts : Snap
starts = record { kind = Start; action = Some 0; condition = always_true; effect = works while_filling; rates = (0, whole (pos 2)) ∷ [] }

abbrev pub ends : Snap
ends = record { kind = End; action = Some 0; condition = always_true; effect = works when_filled; rates = [] }

abbrev pub sets : Snap
sets = record { kind = Instant; action = Some 1; condition = always_true; effect = levels; rates = [] }

-- Filling raises the level, 3 at first, by 2 per unit of time; its start and its end each are work. Setting makes the
-- level 10.
abbrev pub filling : TaskParts
filling = record {
  objects = [];
  schemas = schema (codes "fill") true ∷ schema (codes "set") false ∷ [];
  facts = [];
  fluents = fluent (codes "level") (whole (pos 3)) ∷ fluent (codes "work") zeroℚ ∷ [];
  actions = durative (codes "fill") 0 1 [] always_true ∷ instant (codes "set") 2 ∷ [];
  snaps = starts ∷ ends ∷ sets ∷ [];
  timed = [];
  goal = always_true;
  hard = [];
  soft = [];
  metric = no_metric;
}
