-- Two right answers of a validation are one.
use Rattle.std.proofs.Common.{◌≡◌, sym, ap, ◌∙◌, ℕ, inl, inr}
use Rattle.std.specs.Prelude.{Result, Ok, Err}
use Rattle.exact_lin.specs.Reckoning.{wide_limit}
use Rattle.exact_lin.specs.Reckonings.{AllDefined, place_duties}
use Rattle.basics.proofs.Duties.{AllMet-no_first, first_unmet-one}
use Rattle.task_types.specs.declared.parts.Rules.{Rules}
use Rattle.task_types.specs.declared.parts.TaskParts.{TaskParts}
use Rattle.task_types.specs.declared.plans.Reason.{Reason}
use Rattle.task_types.specs.Plan.{Plan}
use Rattle.task_types.specs.Reckoned.{whole_course, cost_reckoned}
use Rattle.task_types.specs.Valid.{Valid, IsFirstReason, duties}
use Rattle.task_types.proofs.Duties.{valid-duties}
use Rattle.timed_meaning.specs.declared.faults.MeaningFault.{MeaningFault}
use Rattle.timed_meaning.specs.declared.faults.MeaningFault.TheVariants.{Wide, Memory}
use Rattle.timed_meaning.specs.Answers.{Defined}
use Rattle.plan_validator.specs.declared.verdicts.Verdict.{Verdict}
use Rattle.plan_validator.specs.declared.verdicts.Verdict.TheVariants as verdict
use Rattle.plan_validator.specs.Laws.{IsAnswer}
use Rattle.plan_validator.specs.Verdicts.{IsWideAt, Validates}

module _ (task : TaskParts) (rules : Rules) (plan : Plan) where
  valid_no-reason : (r : Reason) → Valid task rules plan → IsFirstReason task rules plan r → ⊥
  valid_no-reason r v u = AllMet-no_first (duties task rules plan) r ((valid-duties task rules plan v.formed).0 v) u

  abbrev IsDefined : Type 0
  IsDefined = AllDefined wide_limit (whole_course task rules plan)

  -- a valid plan with a cost is nowhere undefined
  valid_no-wide : (k : ℕ) → IsDefined → Defined (cost_reckoned task plan) → IsWideAt task rules plan k → ⊥
  valid_no-wide k d c (inl u) = AllMet-no_first (place_duties wide_limit (whole_course task rules plan)) k d u
  valid_no-wide k d c (inr u) = u.2 c

  -- nor is one with a first reason
  invalid_no-wide : (r : Reason) (k : ℕ) → IsDefined → IsFirstReason task rules plan r → IsWideAt task rules plan k → ⊥
  invalid_no-wide r k d h (inl u) = AllMet-no_first (place_duties wide_limit (whole_course task rules plan)) k d u
  invalid_no-wide r k d h (inr u) = valid_no-reason r u.1 h

  one_place : (j k : ℕ) → IsWideAt task rules plan j → IsWideAt task rules plan k → j ≡ k
  one_place j k (inl u) (inl v) = first_unmet-one (place_duties wide_limit (whole_course task rules plan)) j k u v
  one_place j k (inl u) (inr v) = absurd (AllMet-no_first (place_duties wide_limit (whole_course task rules plan)) j v.0 u)
  one_place j k (inr u) (inl v) = absurd (AllMet-no_first (place_duties wide_limit (whole_course task rules plan)) k u.0 v)
  one_place j k (inr u) (inr v) = u.3 ∙ sym v.3

  abbrev Same : Result Verdict MeaningFault → Result Verdict MeaningFault → Type 0
  Same r s = IsAnswer r → IsAnswer s → Validates r task rules plan → Validates s task rules plan → r ≡ s

  pub one_answer : (r s : Result Verdict MeaningFault) → Same r s
  one_answer (Ok (verdict.Valid c)) (Ok (verdict.Valid d)) a b h k = ap (λ q. Ok (verdict.Valid q)) (h.3 ∙ sym k.3)
  one_answer (Ok (verdict.Valid c)) (Ok (verdict.Invalid r)) a b h k = absurd (valid_no-reason r h.1 k.1)
  one_answer (Ok (verdict.Valid c)) (Err (Wide k)) a b h u = absurd (valid_no-wide k h.0 h.2 u)
  one_answer (Ok (verdict.Valid c)) (Err Memory) a b h k = absurd b
  one_answer (Ok (verdict.Invalid r)) (Ok (verdict.Valid d)) a b h k = absurd (valid_no-reason r k.1 h.1)
  one_answer (Ok (verdict.Invalid r)) (Ok (verdict.Invalid s)) a b h k = ap (λ x. Ok (verdict.Invalid x)) (first_unmet-one (duties task rules plan) r s h.1 k.1)
  one_answer (Ok (verdict.Invalid r)) (Err (Wide k)) a b h u = absurd (invalid_no-wide r k h.0 h.1 u)
  one_answer (Ok (verdict.Invalid r)) (Err Memory) a b h k = absurd b
  one_answer (Err (Wide j)) (Ok (verdict.Valid d)) a b h k = absurd (valid_no-wide j k.0 k.2 h)
  one_answer (Err (Wide j)) (Ok (verdict.Invalid s)) a b h k = absurd (invalid_no-wide s j k.0 k.1 h)
  one_answer (Err (Wide j)) (Err (Wide k)) a b h u = ap (λ n. Err (Wide n)) (one_place j k h u)
  one_answer (Err (Wide j)) (Err Memory) a b h k = absurd b
  one_answer (Err Memory) s a b h k = absurd a
