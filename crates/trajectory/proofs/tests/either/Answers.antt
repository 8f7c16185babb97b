use Rattle.std.proofs.Common.{◌≡◌, refl, ◌∙◌, ap, ◌∷◌, [], ◌++◌, List, ℕ, true}
use Rattle.std.specs.List.{flat_map}
use Rattle.task_types.specs.declared.formulas.FactTree.{FactTree}
use Rattle.task_types.specs.declared.formulas.FactTree.TheVariants as tree
use Rattle.task_types.specs.Touch.{tree_facts}
use Rattle.task_types.proofs.FormulaFacts.{tree_facts-is, tree_facts-not, tree_facts-or}
use Rattle.trajectory.proofs.tests.either.Goals as goal

facts_are : (x y first second : FactTree) (parts : List FactTree) → parts ≡ first ∷ second ∷ [] → first ≡ tree.Not x → x ≡ tree.Is record { fact = 0; holds = true } → second ≡ y → y ≡ tree.Is record { fact = 1; holds = true } → tree_facts (tree.Or parts) ≡ 0 ∷ 1 ∷ []
facts_are x y first second parts e f g h k = tree_facts-or parts ∙ ap (flat_map tree_facts) e ∙ ap (λ (l : List ℕ). l ++ (tree_facts second ++ [])) negated ∙ ap (λ (l : List ℕ). 0 ∷ (l ++ [])) (ap tree_facts (h ∙ k) ∙ tree_facts-is record { fact = 1; holds = true })
  where
    negated : tree_facts first ≡ 0 ∷ []
    negated = ap tree_facts f ∙ tree_facts-not x ∙ ap tree_facts g ∙ tree_facts-is record { fact = 0; holds = true }

pub returns : goal.returns
returns c =
    let whole : c.push-2.new.self ≡ tree.Not c.in_ok-new.field-0 ∷ c.fact-2.result ∷ [] = (c.in_ok-push-2.ensures {u = tt}).ok
    ∙ ap (λ (ps : List FactTree). ps ++ c.fact-2.result ∷ []) ((c.in_ok-push.ensures {u = tt}).ok ∙ ap (λ (ps : List FactTree). ps ++ tree.Not c.in_ok-new.field-0 ∷ []) c.new-parts.ensures) in
    facts_are c.in_ok-new.field-0 c.fact-2.result (tree.Not c.in_ok-new.field-0) c.fact-2.result c.push-2.new.self whole refl ((c.in_ok-new.ensures {u = tt}) ∙ c.fact.ensures) refl c.fact-2.ensures
