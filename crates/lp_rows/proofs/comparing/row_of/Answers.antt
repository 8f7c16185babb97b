use Rattle.std.proofs.Common.{sym, ap, ◌∙◌}
use Rattle.std.proofs.lemmas.List.{map-id}
use Rattle.rational.specs.Rational.{neg_ℚ}
use Rattle.lp_rows.specs.StepRows.{negated}
use Rattle.lp_rows.proofs.RowParts.{least_row, most_row}
use Rattle.lp_rows.proofs.comparing.row_of.Goals as goal

pub returns-then-at_least : goal.returns-then-at_least
returns-then-at_least c = least_row c.args.form.now c.args.at_least c.args.origin c.in_ok-terms.terms c.constant.result c.if-at_least.true
    (c.in_ok-terms.ensures ∙ ap negated (sym (map-id c.terms.result.now) ∙ c.terms.ensures.value)) c.constant.ensures

pub returns : goal.returns
returns c = most_row c.args.form.now c.args.at_least c.args.origin c.in_ok-terms-2.terms c.neg.result c.if-at_least.false
    (c.in_ok-terms-2.ensures ∙ sym (map-id c.terms-2.result.now) ∙ c.terms-2.ensures.value) (c.neg.ensures ∙ ap neg_ℚ c.constant-2.ensures)
