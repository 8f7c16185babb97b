use Rattle.std.proofs.Common.{take, ◌∷◌, []}
use Rattle.pddl_names.proofs.Doubling.{Doubled}
use Rattle.pddl_names.proofs.typed_lists.first_double_of_group.Given as goal

abbrev pub invariant-loop-name : goal.invariant-loop-name
invariant-loop-name l = Doubled (λ n. n ∷ []) l.initial.seen l.seen l.found (take l.name-index l.names)
