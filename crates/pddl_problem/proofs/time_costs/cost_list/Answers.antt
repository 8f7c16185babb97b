use Rattle.std.proofs.Common.{◌∙◌, ◌+◌, ap}
use Rattle.pddl_terms.specs.Content.{lexeme, content_at}
use Rattle.pddl_terms.specs.Words.{is_left_out}
use Rattle.pddl_problem.specs.TimeCosts.{cost_by}
use Rattle.pddl_terms.proofs.Building.{answered}
use Rattle.pddl_problem.proofs.Building.{cost_list-end, cost_list-list, cost_list-word}
use Rattle.pddl_problem.proofs.time_costs.cost_list.Goals as goal

pub returns-in-End : goal.returns-in-End
returns-in-End c = cost_list-end c.args.place _ _ c.in-End.ensures

pub returns-in-List : goal.returns-in-List
returns-in-List c = cost_list-list c.args.place _ _ _ _ c.in-List.ensures.here

pub returns-in-Word : goal.returns-in-Word
returns-in-Word c = answered _ (ap (λ b. cost_by b c.args.place (lexeme c.args.forms.now.text c.in-Word.word) (content_at c.args.forms.now (c.args.from + 1))) (c.is_left_out-left_out.ensures ∙ ap is_left_out c.word_bytes.ensures) ∙ cost_list-word c.args.place _ _ _ c.in-Word.ensures.here) c.cost_by.ensures
