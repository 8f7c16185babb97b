use Rattle.std.proofs.Common.{◌≡◌, ◌∙◌, ap, ◌∷◌, [], ◌++◌, List, ℕ, true}
use Rattle.task_types.specs.Touch.{tree_facts}
use Rattle.task_types.proofs.FormulaFacts.{tree_facts-is}
use Rattle.trajectory.proofs.tests.trail.Goals as goal

pub returns : goal.returns
returns c =
    let first : tree_facts c.fact.result ≡ 0 ∷ [] = ap tree_facts c.fact.ensures ∙ tree_facts-is record { fact = 0; holds = true } in
    let second : tree_facts c.fact-2.result ≡ 1 ∷ [] = ap tree_facts c.fact-2.ensures ∙ tree_facts-is record { fact = 1; holds = true } in
    ap (λ (l : List ℕ). l ++ tree_facts c.fact-2.result) first ∙ ap (λ (l : List ℕ). 0 ∷ l) second
