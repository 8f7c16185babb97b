-- Believed: the values of fluents before a step, after it and at the end, as one kind of question.
use Rattle.std.specs.Prelude.{ℕ, List}
use Rattle.task_types.specs.declared.parts.TaskParts.{TaskParts}
use Rattle.rate_ledger.specs.declared.whens.When.{When}
use Rattle.rate_ledger.specs.declared.whens.When.TheVariants.{Before, After, AtEnd}
use Rattle.rate_ledger.specs.Sums.{FormSum}
use Rattle.rate_ledger.specs.Entries.{value_before, value_after, value_end}

-- what a fluent has then
abbrev pub value_sum : TaskParts → List ℕ → When → ℕ → FormSum
value_sum task steps (Before k) f = value_before task steps k f
value_sum task steps (After k) f = value_after task steps k f
value_sum task steps AtEnd f = value_end task steps f
