-- A form with a duration, as code makes it.
use Rattle.std.proofs.Common.{◌≡◌, subst, ℕ, List, [], ◌∷◌, map, Result, Ok, Err}
use Rattle.rational.specs.Rational.{ℚ}
use Rattle.exact_lin.specs.Forms.{LinearForm}
use Rattle.exact_lin.specs.declared.faults.FormFault.{FormFault}
use Rattle.exact_lin.specs.declared.faults.FormFault.TheVariants.{Wide, Memory}
use Rattle.task_types.specs.declared.parts.TaskParts.{TaskParts}
use Rattle.rate_ledger.specs.Answers.{Gives, Makes}
use Rattle.rate_ledger.specs.Sums.{FormSum, form_of, CanMake}
use Rattle.rate_ledger.specs.Entries.{end_variable, with_duration}
use Rattle.rate_ledger.specs.Moving.{spanned_form, CanSpan}

module _ (task : TaskParts) (steps : List ℕ) (d : ℚ) (sum : FormSum) (can : CanMake sum) where
  abbrev spans : List (ℕ × ℕ) → List (ℕ × ℕ)
  spans owns = map (λ own. (own.0, end_variable task steps own.0 own.1)) owns

  made : (owns : List (ℕ × ℕ)) (r : Result LinearForm FormFault) → Gives r (CanSpan (form_of sum) d (spans owns)) (λ x. x ≡ spanned_form (form_of sum) d (spans owns)) → Makes r (with_duration task steps d owns sum)
  made [] (Ok x) g = (can, g.1)
  made [] (Err Wide) g = λ m. g tt
  made [] (Err Memory) g = tt
  made (own ∷ rest) (Ok x) g = (((can, g.0.0), g.0.1), g.1)
  made (own ∷ rest) (Err Wide) g = λ m. g (m.0.1, m.1)
  made (own ∷ rest) (Err Memory) g = tt

  pub span_made : (owns shown : List (ℕ × ℕ)) (form : LinearForm) (r : Result LinearForm FormFault) → shown ≡ spans owns → form ≡ form_of sum → Gives r (CanSpan form d shown) (λ x. x ≡ spanned_form form d shown) → Makes r (with_duration task steps d owns sum)
  span_made owns shown form r e f g = made owns r
      (subst (λ (v : LinearForm). Gives r (CanSpan v d (spans owns)) (λ x. x ≡ spanned_form v d (spans owns))) f
      (subst (λ ss. Gives r (CanSpan form d ss) (λ x. x ≡ spanned_form form d ss)) e g))
