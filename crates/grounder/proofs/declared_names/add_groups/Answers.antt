use Rattle.std.proofs.Common.{ap, ◌∙◌, List, map}
use Rattle.std.specs.List.{flat_map}
use Rattle.std.proofs.lemmas.List.{take_all}
use Rattle.pddl_terms.specs.declared.trees.Group.{Group}
use Rattle.pddl_terms.specs.declared.trees.Name.{Name}
use Rattle.pddl_names.specs.Declarations.{with_new}
use Rattle.grounder.proofs.NameSteps.{groups-named}
use Rattle.grounder.proofs.OneByOne.{added_more}
use Rattle.grounder.proofs.declared_names.add_groups.Goals as goal

pub loop-group-preserved : goal.loop-group-preserved
loop-group-preserved c = record {
  same = c.in_ok-add_names.ensures.seen;
  told = added_more c.args.groups.now c.loop-group.group-index c.group-item.result c.loop-group-test.true c.group-item.is
      (λ g. map (λ n. n.bytes) g.names) c.args.found.now.list c.loop-group.found.list c.add_names.new.found.list c.loop-group.invariant.told
      (c.in_ok-add_names.ensures.list ∙ ap (λ (ns : List Name). with_new c.loop-group.found.list (map (λ n. n.bytes) ns)) c.as_slice.ensures);
}

pub returns-clause-list : goal.returns-clause-list
returns-clause-list c =
    c.loop-group.invariant.told
    ∙ ap (λ (gs : List Group). with_new c.args.found.now.list (flat_map (λ g. map (λ n. n.bytes) g.names) gs)) (take_all c.loop-group.group-index c.args.groups.now c.loop-group-test.false)
    ∙ ap (with_new c.args.found.now.list) (groups-named c.args.groups.now)
