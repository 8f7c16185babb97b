use Rattle.std.proofs.Common.{◌≡◌, ◌++◌, map, take}
use Rattle.grounder.specs.ShownGrounding.{ground_of}
use Rattle.grounder.specs.Task.{over_fluents}
use Rattle.grounder.proofs.fluent_forms.push_compared.Given as goal

abbrev pub invariant-loop-form : goal.invariant-loop-form
invariant-loop-form l = l.out ≡ l.fn.out ++ map (over_fluents (ground_of l.grounding)) (take l.form-index l.form-items)
