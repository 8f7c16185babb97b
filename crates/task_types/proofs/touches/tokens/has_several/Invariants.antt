use Rattle.std.proofs.Common.{◌≡◌, ◌==◌, false, map, take}
use Rattle.std.specs.Prelude.{not}
use Rattle.std.specs.List.{list_any}
use Rattle.task_types.proofs.touches.tokens.has_several.Given as goal

abbrev pub invariant-loop-id : goal.invariant-loop-id
invariant-loop-id g l = list_any (λ n. not (n == g.I.Id.number_of l.first)) (map g.I.Id.number_of (take l.id-index l.rest)) ≡ false
