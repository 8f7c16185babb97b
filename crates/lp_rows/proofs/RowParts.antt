-- The row of a form, part by part.
use Rattle.std.proofs.Common.{◌≡◌, refl, sym, ap, ap₂, subst, ◌∙◌, ℕ, Bool, true, false, ◌||◌, List, [], ◌∷◌, map, Result, Ok, Err}
use Rattle.std.specs.Prelude.{if◌then◌else◌}
use Rattle.std.specs.List.{list_any}
use Rattle.rational.specs.Rational.{ℚ, oneℚ, neg_ℚ}
use Rattle.exact_lin.specs.Forms.{LinearForm, Terms}
use Rattle.exact_lin.specs.declared.faults.FormFault.{FormFault}
use Rattle.exact_lin.specs.declared.faults.FormFault.TheVariants.{Wide, Memory}
use Rattle.task_types.specs.declared.actions.SnapKind.{SnapKind}
use Rattle.task_types.specs.declared.actions.SnapKind.TheVariants.{Start, End, Instant, Timed}
use Rattle.rate_ledger.specs.Answers.{Gives, Makes}
use Rattle.rate_ledger.specs.Sums.{FormSum, PlusTerm, form_of, CanMake, put}
use Rattle.lp_rows.specs.declared.origins.Origin.{Origin}
use Rattle.lp_rows.specs.declared.rows.OriginRow.{OriginRow}
use Rattle.lp_rows.specs.StepRows.{negated, sides}
use Rattle.lp_rows.specs.Comparing.{row_of, asked_before, asked_after, asked_sides, CanTakeDuration, less_duration}

abbrev pub made : Origin → Terms → ℚ → OriginRow
made o terms bound = record { terms = terms; bound = bound; origin = o }

pub least_row : (form : LinearForm) (b : Bool) (o : Origin) (terms : Terms) (bound : ℚ) → b ≡ true → terms ≡ negated form.terms → bound ≡ form.constant → made o terms bound ≡ row_of form b o
least_row form b o terms bound e t q = ap₂ (made o) t q ∙ sym (ap (λ b. row_of form b o) e)

pub most_row : (form : LinearForm) (b : Bool) (o : Origin) (terms : Terms) (bound : ℚ) → b ≡ false → terms ≡ form.terms → bound ≡ neg_ℚ form.constant → made o terms bound ≡ row_of form b o
most_row form b o terms bound e t q = ap₂ (made o) t q ∙ sym (ap (λ b. row_of form b o) e)

pub any_first : (p : ℕ → Bool) (ts us : List (ℕ × ℚ)) → ts ≡ us → list_any (λ t. p t.0) ts ≡ list_any p (map (λ t. t.0) us)
any_first p ts us e = same ts ∙ ap (λ vs. list_any p (map (λ t. t.0) vs)) e
  where
    same : (ts : List (ℕ × ℚ)) → list_any (λ t. p t.0) ts ≡ list_any p (map (λ t. t.0) ts)
    same [] = refl
    same (t ∷ ts) = ap (λ b. p t.0 || b) (same ts)

-- ---- bounds of durations

pub bound_made : (r : Result LinearForm FormFault) (values : ℕ → ℕ → FormSum) (b : Bool) (read start end : ℕ) (bound form : LinearForm) (q : ℚ) → q ≡ oneℚ → read ≡ (if b then end else start) → CanMake (put (values read) bound) × (form ≡ form_of (put (values read) bound))
    → Gives r (CanTakeDuration form q start end) (λ x. x ≡ less_duration form q start end) → Makes r (PlusTerm (PlusTerm (put (values (if b then end else start)) bound) end (neg_ℚ oneℚ)) start oneℚ)
bound_made r values b read start end bound form q one e m g = subst (λ k. Makes r (PlusTerm (PlusTerm (put (values k) bound) end (neg_ℚ oneℚ)) start oneℚ)) e
    (told r (subst (λ (f : LinearForm). Gives r (CanTakeDuration f oneℚ start end) (λ x. x ≡ less_duration f oneℚ start end)) m.1 (subst (λ q. Gives r (CanTakeDuration form q start end) (λ x. x ≡ less_duration form q start end)) one g)))
  where
    told : (r : Result LinearForm FormFault) → Gives r (CanTakeDuration (form_of (put (values read) bound)) oneℚ start end) (λ x. x ≡ less_duration (form_of (put (values read) bound)) oneℚ start end) → Makes r (PlusTerm (PlusTerm (put (values read) bound) end (neg_ℚ oneℚ)) start oneℚ)
    told (Ok x) g = (((m.0, g.0.0), g.0.1), g.1)
    told (Err Wide) g = λ k. g (k.0.1, k.1)
    told (Err Memory) g = tt

-- ---- sides

pub sides_are : (kind : SnapKind) (own changed : Bool) → sides kind own changed ≡ asked_sides (asked_before kind own changed) (asked_after kind own changed)
sides_are Start true changed = refl
sides_are End true changed = refl
sides_are Instant true changed = refl
sides_are Timed true changed = refl
sides_are Start false true = refl
sides_are Start false false = refl
sides_are End false true = refl
sides_are End false false = refl
sides_are Instant false true = refl
sides_are Instant false false = refl
sides_are Timed false true = refl
sides_are Timed false false = refl
