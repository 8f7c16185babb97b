use Rattle.std.proofs.Common.{◌≡◌, ◌++◌, take}
use Rattle.std.specs.List.{flat_map}
use Rattle.task_types.specs.Clash.{form_fluents}
use Rattle.task_types.proofs.touches.expressions.push_forms.Given as goal

abbrev pub invariant-loop-form : goal.invariant-loop-form
invariant-loop-form l = l.out ≡ l.fn.out ++ flat_map form_fluents (take l.form-index l.forms)
