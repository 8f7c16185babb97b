use Rattle.std.proofs.Common.{ap, ◌∙◌, [], ◌∷◌}
use Rattle.pddl_names.specs.Declarations.{Text, with_new}
use Rattle.ground_world.proofs.NewNames.{names-next}
use Rattle.grounder.proofs.declared_names.add_names.Goals as goal

pub loop-name-preserved : goal.loop-name-preserved
loop-name-preserved c = record {
  same = c.in_ok-add_name.ensures.seen;
  told = names-next (λ n. n.bytes) c.args.found.now.list c.loop-name.found.list c.add_name.new.found.list c.args.names.now c.loop-name.name-index c.name-item.result
      c.loop-name-test.true c.name-item.is c.loop-name.invariant.told
      (c.in_ok-add_name.ensures.list ∙ ap (λ (n : Text). with_new c.loop-name.found.list (n ∷ [])) c.as_slice.ensures);
}
