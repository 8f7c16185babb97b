use Rattle.std.proofs.Common.{◌∙◌, sym, ap}
use Rattle.pddl_terms.specs.Numbers.{number_value}
use Rattle.pddl_terms.proofs.Building.{number_at-end, number_at-number, number_at-other, number_at-list}
use Rattle.pddl_terms.proofs.numbers.number_at.Goals as goal

pub returns-then-is_number : goal.returns-then-is_number
returns-then-is_number c = c.number_value.ensures ∙ ap number_value c.word_bytes.ensures
    ∙ sym (number_at-number _ _ _ c.in-Word.ensures.here (sym c.is_number.ensures ∙ c.if-is_number.true))

pub returns-else-is_number : goal.returns-else-is_number
returns-else-is_number c = c.of_int.ensures ∙ sym (number_at-other _ _ _ c.in-Word.ensures.here (sym c.is_number.ensures ∙ c.if-is_number.false))

pub returns-in-End : goal.returns-in-End
returns-in-End c = c.of_int-in-End.ensures ∙ sym (number_at-end _ _ c.in-End.ensures)

pub returns-in-List : goal.returns-in-List
returns-in-List c = c.of_int-in-List.ensures ∙ sym (number_at-list _ _ _ _ c.in-List.ensures.here)
