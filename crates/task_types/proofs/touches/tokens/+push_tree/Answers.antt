use Rattle.std.proofs.Common.{◌≡◌, ◌∙◌, ◌++◌, sym, ap, [], arith, append-nil, ⊎_elim}
use Rattle.std.specs.List.{flat_map}
use Rattle.std.proofs.lemmas.Grind.{common_steps}
use Rattle.task_types.specs.Touch.{tree_facts}
use Rattle.task_types.proofs.FormulaFacts.{tree_facts-true, tree_facts-and, tree_facts-or}
use Rattle.task_types.proofs.touches.tokens.+push_tree.Goals as goal

pub returns-in-True : goal.returns-in-True
returns-in-True t c =
    let none : tree_facts c.args.tree.now ≡ [] = ap tree_facts c.in-True.is ∙ tree_facts-true in
    sym (ap (λ l. c.args.out.now ++ l) none ∙ append-nil c.args.out.now)

pub returns-after-loop-part : goal.returns-after-loop-part
returns-after-loop-part t c =
    let those : tree_facts c.args.tree.now ≡ flat_map tree_facts c.in-And.parts = ⊎_elim (λ e. ap tree_facts e ∙ tree_facts-and c.in-And.parts) (λ e. ap tree_facts e ∙ tree_facts-or c.in-And.parts) c.in-And.is in
    grind (arith, common_steps)
