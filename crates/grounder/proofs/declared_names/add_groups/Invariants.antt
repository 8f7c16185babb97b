use Rattle.std.proofs.Common.{◌≡◌, map, take}
use Rattle.std.specs.List.{flat_map}
use Rattle.pddl_names.specs.Declarations.{with_new}
use Rattle.grounder.proofs.declared_names.add_groups.Given as goal

abbrev pub invariant-loop-group : goal.invariant-loop-group
invariant-loop-group l = record {
  same : l.found.seen ≡ l.found.list;
  told : l.found.list ≡ with_new l.fn.found.list (flat_map (λ g. map (λ n. n.bytes) g.names) (take l.group-index l.groups));
}
