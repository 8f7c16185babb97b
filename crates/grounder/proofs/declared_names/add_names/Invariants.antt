use Rattle.std.proofs.Common.{◌≡◌, map, take}
use Rattle.pddl_names.specs.Declarations.{with_new}
use Rattle.grounder.proofs.declared_names.add_names.Given as goal

abbrev pub invariant-loop-name : goal.invariant-loop-name
invariant-loop-name l = record {
  same : l.found.seen ≡ l.found.list;
  told : l.found.list ≡ with_new l.fn.found.list (map (λ n. n.bytes) (take l.name-index l.names));
}
