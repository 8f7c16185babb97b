use Rattle.std.proofs.Common.{◌∙◌, ◌+◌, ap}
use Rattle.pddl_terms.specs.Content.{lexeme, content_at}
use Rattle.pddl_terms.specs.Problems.{init_head}
use Rattle.pddl_problem.specs.Entries.{entry_by}
use Rattle.pddl_terms.proofs.Building.{answered}
use Rattle.pddl_problem.proofs.Building.{entry_list-end, entry_list-list, entry_list-word}
use Rattle.pddl_problem.proofs.entries.entry_list.Goals as goal

pub returns-in-End : goal.returns-in-End
returns-in-End c = entry_list-end c.args.place _ _ c.in-End.ensures

pub returns-in-List : goal.returns-in-List
returns-in-List c = entry_list-list c.args.place _ _ _ _ c.in-List.ensures.here

pub returns-in-Word : goal.returns-in-Word
returns-in-Word c = answered _ (ap (λ b. entry_by b c.args.place (lexeme c.args.forms.now.text c.in-Word.word) (content_at c.args.forms.now (c.args.from + 1))) (c.init_head-head.ensures ∙ ap init_head c.word_bytes.ensures) ∙ entry_list-word c.args.place _ _ _ c.in-Word.ensures.here) c.entry_by.ensures
