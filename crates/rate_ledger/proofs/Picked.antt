-- The forms of one fluent, picked from those that a step assigns or adds, are those of its entries.
use Rattle.std.proofs.Common.{◌≡◌, refl, ℕ, Bool, true, false, cond, ◌==◌, List, [], ◌∷◌, map}
use Rattle.std.specs.Prelude.{◌↔◌, if◌then◌else◌}
use Rattle.std.specs.List.{filter, AllByRecursion}
use Rattle.rational.specs.Rational.{oneℚ}
use Rattle.exact_lin.specs.Forms.{LinearForm, plus_scaled}
use Rattle.task_types.specs.declared.conditions.Amount.{Amount}
use Rattle.task_types.specs.Course.{entries_of}
use Rattle.rate_ledger.specs.Sums.{FormSum, PlusScaled, form_of, CanMake}
use Rattle.rate_ledger.specs.Entries.{last_sum, added_up}
use Rattle.rate_ledger.specs.Picking.{last_picked, plus_picked, added_picked, CanAddOne, CanAddPicked}

module _ (f : ℕ) (sum_of : Amount → FormSum) where
  -- each amount with its fluent, as a form
  abbrev pub forms : List (ℕ × Amount) → List (ℕ × LinearForm)
  forms es = map (λ e. (e.0, form_of (sum_of e.1))) es

  abbrev pub sums : List (ℕ × Amount) → List FormSum
  sums es = map sum_of (entries_of f es)

  pub last_is : (other : FormSum) (es : List (ℕ × Amount)) → form_of (last_sum other (map sum_of (entries_of f es))) ≡ last_picked f (form_of other) (map (λ e. (e.0, form_of (sum_of e.1))) es)
  last_is other [] = refl
  last_is other (e ∷ es) = go (e.0 == f) (last_is other es) (last_is (sum_of e.1) es)
    where
      go : (b : Bool) → form_of (last_sum other (map sum_of (entries_of f es))) ≡ last_picked f (form_of other) (map (λ e. (e.0, form_of (sum_of e.1))) es)
          → form_of (last_sum (sum_of e.1) (map sum_of (entries_of f es))) ≡ last_picked f (form_of (sum_of e.1)) (map (λ e. (e.0, form_of (sum_of e.1))) es)
          → form_of (last_sum other (map sum_of (map (λ e. e.1) (cond b (e ∷ filter (λ e. e.0 == f) es) (filter (λ e. e.0 == f) es))))) ≡ last_picked f (if b then form_of (sum_of e.1) else form_of other) (map (λ e. (e.0, form_of (sum_of e.1))) es)
      go true r s = s
      go false r s = r

  pub last_made : (other : FormSum) (es : List (ℕ × Amount)) → AllByRecursion (λ e. CanMake (sum_of e.1)) es → CanMake other → CanMake (last_sum other (map sum_of (entries_of f es)))
  last_made other [] a m = m
  last_made other (e ∷ es) a m = go (e.0 == f) (last_made other es a.1 m) (last_made (sum_of e.1) es a.1 a.0)
    where
      go : (b : Bool) → CanMake (last_sum other (map sum_of (entries_of f es))) → CanMake (last_sum (sum_of e.1) (map sum_of (entries_of f es)))
          → CanMake (last_sum other (map sum_of (map (λ e. e.1) (cond b (e ∷ filter (λ e. e.0 == f) es) (filter (λ e. e.0 == f) es)))))
      go true r s = s
      go false r s = r

  pub added_is : (sum : FormSum) (es : List (ℕ × Amount)) → form_of (added_up sum (map sum_of (entries_of f es))) ≡ added_picked f (form_of sum) (map (λ e. (e.0, form_of (sum_of e.1))) es)
  added_is sum [] = refl
  added_is sum (e ∷ es) = go (e.0 == f) (added_is sum es) (added_is (PlusScaled sum oneℚ (sum_of e.1)) es)
    where
      go : (b : Bool) → form_of (added_up sum (map sum_of (entries_of f es))) ≡ added_picked f (form_of sum) (map (λ e. (e.0, form_of (sum_of e.1))) es)
          → form_of (added_up (PlusScaled sum oneℚ (sum_of e.1)) (map sum_of (entries_of f es))) ≡ added_picked f (plus_scaled (form_of sum) oneℚ (form_of (sum_of e.1))) (map (λ e. (e.0, form_of (sum_of e.1))) es)
          → form_of (added_up sum (map sum_of (map (λ e. e.1) (cond b (e ∷ filter (λ e. e.0 == f) es) (filter (λ e. e.0 == f) es))))) ≡ added_picked f (plus_picked b (form_of sum) (form_of (sum_of e.1))) (map (λ e. (e.0, form_of (sum_of e.1))) es)
      go true r s = s
      go false r s = r

  -- where the amounts can be made, a sum with them can be made exactly where it itself can, and they can be added
  pub added_made : (sum : FormSum) (es : List (ℕ × Amount)) → AllByRecursion (λ e. CanMake (sum_of e.1)) es → CanMake (added_up sum (map sum_of (entries_of f es))) ↔ CanMake sum × CanAddPicked f (form_of sum) (map (λ e. (e.0, form_of (sum_of e.1))) es)
  added_made sum [] a = (λ m. (m, tt), λ m. m.0)
  added_made sum (e ∷ es) a = go (e.0 == f) (added_made sum es a.1) (added_made (PlusScaled sum oneℚ (sum_of e.1)) es a.1)
    where
      go : (b : Bool) → CanMake (added_up sum (map sum_of (entries_of f es))) ↔ CanMake sum × CanAddPicked f (form_of sum) (map (λ e. (e.0, form_of (sum_of e.1))) es)
          → CanMake (added_up (PlusScaled sum oneℚ (sum_of e.1)) (map sum_of (entries_of f es))) ↔ CanMake (PlusScaled sum oneℚ (sum_of e.1)) × CanAddPicked f (plus_scaled (form_of sum) oneℚ (form_of (sum_of e.1))) (map (λ e. (e.0, form_of (sum_of e.1))) es)
          → CanMake (added_up sum (map sum_of (map (λ e. e.1) (cond b (e ∷ filter (λ e. e.0 == f) es) (filter (λ e. e.0 == f) es))))) ↔ CanMake sum × (CanAddOne b (form_of sum) (form_of (sum_of e.1)) × CanAddPicked f (plus_picked b (form_of sum) (form_of (sum_of e.1))) (map (λ e. (e.0, form_of (sum_of e.1))) es))
      go true r s = (λ m. let k = s.0 m in (k.0.0, (k.0.2, k.1)), λ m. s.1 ((m.0, a.0, m.1.0), m.1.1))
      go false r s = (λ m. let k = r.0 m in (k.0, (tt, k.1)), λ m. r.1 (m.0, m.1.1))
