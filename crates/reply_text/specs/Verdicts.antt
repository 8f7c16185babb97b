-- Believed: what is said of a plan that was judged.
use Rattle.std.specs.Prelude.{ℕ, List, ◌++◌, codes, decimal}
use Rattle.rational.specs.Rational.{ℚ}
use Rattle.plan_text.specs.Numbers.{number_text}
use Rattle.task_types.specs.declared.plans.Reason.{Reason}
use Rattle.task_types.specs.declared.plans.Reason.TheVariants as reason

-- the plan is valid and costs so much
abbrev pub valid_text : ℚ → List ℕ
valid_text cost = codes "valid cost " ++ number_text cost ++ codes "\n"

-- The plan isn't valid, for this reason first. Lines go by their numbers in the file; constraints are counted from 1.
abbrev pub reason_text : Reason → List ℕ
reason_text (reason.Time line) = codes "invalid time line " ++ decimal line ++ codes "\n"
reason_text (reason.Duration line) = codes "invalid duration line " ++ decimal line ++ codes "\n"
reason_text (reason.Clash line other) =
    codes "invalid clash lines " ++ decimal line ++ codes " " ++ decimal other ++ codes "\n"
reason_text (reason.ClashTimed line moment) =
    codes "invalid clash line " ++ decimal line ++ codes " timed " ++ number_text moment ++ codes "\n"
reason_text (reason.Start line) = codes "invalid at start line " ++ decimal line ++ codes "\n"
reason_text (reason.End line) = codes "invalid at end line " ++ decimal line ++ codes "\n"
reason_text (reason.OverAll line from to) =
    codes "invalid over all line " ++ decimal line
    ++ codes " between " ++ number_text from ++ codes " and " ++ number_text to ++ codes "\n"
reason_text reason.Goal = codes "invalid goal\n"
reason_text (reason.Constraint number) = codes "invalid constraint " ++ decimal number ++ codes "\n"

-- A value passes 128 bits at this happening. Happenings are counted from 0; their number stands for the goal and the cost.
abbrev pub wide_happening : ℕ → List ℕ
wide_happening k = codes "wide happening " ++ decimal k ++ codes "\n"
