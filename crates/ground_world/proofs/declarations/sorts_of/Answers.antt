use Rattle.std.proofs.Common.{sym, ap, ◌∙◌, ◌++◌, map}
use Rattle.pddl_terms.specs.declared.trees.Group.{Group}
use Rattle.pddl_names.specs.Declarations.{type_bytes}
use Rattle.ground_world.proofs.Steps.{parts_more}
use Rattle.ground_world.proofs.declarations.sorts_of.Goals as goal

pub loop-group-preserved : goal.loop-group-preserved
loop-group-preserved c =
    let g = c.group-item.result in
    c.in_ok-push_sorts.ensures ∙ ap (λ l. l ++ map (λ n. type_bytes g.of) g.names) c.loop-group.invariant
    ∙ sym (parts_more (λ (h : Group). map (λ n. type_bytes h.of) h.names) c.args.groups.now c.loop-group.group-index g c.loop-group-test.true c.group-item.is)
