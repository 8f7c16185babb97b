use Rattle.std.proofs.Common.{sym, ap, subst, ◌∙◌, refl}
use Rattle.sexpr_text.specs.Forms.{Lexed}
use Rattle.pddl_terms.specs.Shape.{IsFirst}
use Rattle.pddl_problem.specs.Problems.{wrong_problem, problem_told}
use Rattle.pddl_terms.proofs.FileReading.{by_parts, file-tokens, file-shape, file-tree}
use Rattle.pddl_problem.proofs.read.read_shape.Goals as goal

pub returns-in-Err : goal.returns-in-Err
returns-in-Err c = file-tokens _ _ _ _ _ c.in-Err.ensures.fault

pub returns-in-Some : goal.returns-in-Some
returns-in-Some c = file-shape _ _ _ _ _ c.in-Ok.ensures.tokens _ (subst (λ (l : Lexed). IsFirst c.in-Some.place (wrong_problem l)) (by_parts _ _ c.in-Ok.ensures.text) c.in-Some.ensures)

pub returns-in-Ok-problem_tree : goal.returns-in-Ok-problem_tree
returns-in-Ok-problem_tree c = file-tree _ _ _ _ _ c.in-Ok.ensures.tokens (ap wrong_problem (sym (by_parts _ _ c.in-Ok.ensures.text)) ∙ c.in_default.ensures) _
    (c.in-Ok-problem_tree.ensures ∙ ap problem_told (by_parts _ _ c.in-Ok.ensures.text)) refl
