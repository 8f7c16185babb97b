use Rattle.std.proofs.Common.{◌&&◌}
use Rattle.task_types.specs.declared.actions.Schema.{Schema}
use Rattle.task_types.specs.WellMade.{arguments_fit}
use Rattle.plan_files.specs.Names.{same_word}
use Rattle.plan_files.proofs.AnyLeft.{AnyLeft}
use Rattle.plan_files.proofs.names.fit_some.Given as goal

abbrev pub invariant-loop-schema : goal.invariant-loop-schema
invariant-loop-schema l = AnyLeft (λ (s : Schema). same_word l.name s.name && arguments_fit l.objects s.params) l.schemas l.schema-index
