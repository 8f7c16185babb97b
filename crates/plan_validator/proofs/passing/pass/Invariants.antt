use Rattle.std.proofs.Common.{◌≡◌, suc}
use Rattle.exact_lin.specs.Reckoning.{wide_limit}
use Rattle.exact_lin.specs.Reckonings.{AllDefined}
use Rattle.task_types.specs.Plan.{Plan}
use Rattle.task_types.specs.Course.{count}
use Rattle.plan_validator.specs.Passing.{course_to}
use Rattle.plan_validator.specs.Watching.{IsWatching}
use Rattle.plan_validator.proofs.passing.pass.Given as goal

abbrev pub invariant-loop-k : goal.invariant-loop-k
invariant-loop-k l = (plan : Plan) → IsWatching l.task.parts l.rules plan l.fn.watch 0 → suc l.last ≡ count l.task.parts plan
    → IsWatching l.task.parts l.rules plan l.watch l.k × AllDefined wide_limit (course_to l.task.parts l.rules plan l.k)
