use Rattle.std.proofs.Common.{◌∙◌, sym, ap, ◌++◌, map}
use Rattle.pddl_names.specs.Declarations.{type_bytes}
use Rattle.pddl_names.proofs.Doubling.{grown}
use Rattle.pddl_names.proofs.declarations.sorts_of.Goals as goal

pub loop-group-preserved : goal.loop-group-preserved
loop-group-preserved c =
    c.in_ok-push_sorts.ensures ∙ ap (λ sorts. sorts ++ map (λ n. type_bytes c.group-item.result.of) c.group-item.result.names) c.loop-group.invariant
    ∙ sym (grown (λ g. map (λ n. type_bytes g.of) g.names) _ _ c.group-item.result c.loop-group-test.true c.group-item.is)
