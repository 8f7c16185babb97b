use Rattle.std.proofs.Common.{◌∙◌, ℕ, ap, sym}
use Rattle.std.specs.List.{list_any}
use Rattle.rational.specs.Rational.{ℚ}
use Rattle.task_types.specs.Sets.{is_in}
use Rattle.task_types.specs.Clash.{written_fluents}
use Rattle.plan_validator.proofs.Meets.{any-map}
use Rattle.plan_validator.proofs.disturbing.form_written.Goals as goal

pub returns : goal.returns
returns c = c.terms_written.ensures ∙ sym (any-map (λ (t : ℕ × ℚ). is_in t.0 (written_fluents c.args.by.now)) (λ t. (t.0, t.1)) c.terms.result.now)
    ∙ ap (list_any (λ (t : ℕ × ℚ). is_in t.0 (written_fluents c.args.by.now))) c.terms.ensures.value
    ∙ sym (any-map (λ x. is_in x (written_fluents c.args.by.now)) (λ (t : ℕ × ℚ). t.0) c.args.form.now.terms)
