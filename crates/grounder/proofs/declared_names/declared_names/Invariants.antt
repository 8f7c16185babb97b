use Rattle.std.proofs.Common.{◌≡◌, [], take}
use Rattle.std.specs.List.{flat_map}
use Rattle.pddl_names.specs.Declarations.{with_new, signature_of}
use Rattle.ground_world.specs.FirstState.{names_of}
use Rattle.grounder.proofs.declared_names.declared_names.Given as goal

abbrev pub invariant-loop-declared : goal.invariant-loop-declared
invariant-loop-declared l = record {
  same : l.found.seen ≡ l.found.list;
  told : l.found.list ≡ with_new [] (flat_map (λ d. names_of (signature_of d)) (take l.declared-index l.declarations));
}
