use Rattle.std.proofs.Common.{◌∙◌, ◌+◌, ap}
use Rattle.pddl_terms.specs.Content.{content_at}
use Rattle.pddl_terms.specs.Words.{is_left_out}
use Rattle.pddl_domain.specs.Timed.{rate_by}
use Rattle.pddl_terms.proofs.Building.{answered}
use Rattle.pddl_domain.proofs.Building.{rate_list-end, rate_list-list, rate_list-word}
use Rattle.pddl_domain.proofs.timed.rate_list.Goals as goal

pub returns-in-End : goal.returns-in-End
returns-in-End c = rate_list-end c.args.place _ _ c.in-End.ensures

pub returns-in-List : goal.returns-in-List
returns-in-List c = rate_list-list c.args.place _ _ _ _ c.in-List.ensures.here

pub returns-in-Word : goal.returns-in-Word
returns-in-Word c = answered _ (ap (λ b. rate_by b c.args.place (content_at c.args.forms.now (c.args.from + 1))) (c.is_left_out-left_out.ensures ∙ ap is_left_out c.word_bytes.ensures) ∙ rate_list-word c.args.place _ _ _ c.in-Word.ensures.here) c.rate_by.ensures
