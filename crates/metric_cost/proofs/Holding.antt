-- Comparisons reckoned one after the other.
use Rattle.std.proofs.Common.{◌≡◌, refl, sym, ap, subst, ◌∙◌, ℕ, ◌+◌, ◌<◌, Bool, true, false, ◌&&◌, List, [], ◌∷◌, length, map, drop}
use Rattle.std.specs.Prelude.{slice_index_or}
use Rattle.std.specs.List.{list_all}
use Rattle.std.proofs.lemmas.List.{drop_more}
use Rattle.std.proofs.Math.Bool.{and-true}
use Rattle.basics.proofs.Bools.{and_assoc}
use Rattle.rational.specs.Rational.{ℚ}
use Rattle.exact_lin.specs.Forms.{LinearForm}
use Rattle.exact_lin.specs.Reckonings.{Reckoning, Value}
use Rattle.task_types.specs.State.{comparison_holds}
use Rattle.timed_meaning.specs.Answers.{Defined}

abbrev pub reckoned : (ℕ → ℚ) → List LinearForm → List Reckoning
reckoned fluents forms = map (λ e. Value e fluents) forms

abbrev pub hold : (ℕ → ℚ) → List LinearForm → Bool
hold fluents forms = list_all (λ e. comparison_holds e fluents) forms

-- some comparisons are done, and these are left
pub record HoldSoFar (fluents : ℕ → ℚ) (forms : List LinearForm) (all : Bool) (rest : List LinearForm) : Type 0 where
  pub value : (all && hold fluents rest) ≡ hold fluents forms
  pub onward : Defined (reckoned fluents forms) → Defined (reckoned fluents rest)
  pub back : Defined (reckoned fluents rest) → Defined (reckoned fluents forms)

pub hold-begin : (fluents : ℕ → ℚ) (forms : List LinearForm) → HoldSoFar fluents forms true forms
hold-begin fluents forms = record { value = refl; onward = λ d. d; back = λ d. d }

module _ (fluents : ℕ → ℚ) (forms : List LinearForm) (all : Bool) (i : ℕ) (form : LinearForm) (h : i < length forms) (e : form ≡ slice_index_or forms i form) (s : HoldSoFar fluents forms all (drop i forms)) where
  at_form : HoldSoFar fluents forms all (form ∷ drop (i + 1) forms)
  at_form = subst (λ (rest : List LinearForm). HoldSoFar fluents forms all rest) (drop_more forms i form h ∙ ap (λ f. f ∷ drop (i + 1) forms) (sym e)) s

  pub hold-next : (holds : Bool) → Defined (Value form fluents ∷ []) → holds ≡ comparison_holds form fluents → HoldSoFar fluents forms (all && holds) (drop (i + 1) forms)
  hold-next holds d f = record {
    value = and_assoc all holds (hold fluents (drop (i + 1) forms)) ∙ ap (λ b. all && (b && hold fluents (drop (i + 1) forms))) f ∙ at_form.value;
    onward = λ g. (at_form.onward g).1;
    back = λ g. at_form.back (d.0, g);
  }

  pub hold-stop : ¬ (Defined (Value form fluents ∷ [])) → ¬ (Defined (reckoned fluents forms))
  hold-stop n = λ d. n ((at_form.onward d).0, tt)

pub hold-end : (fluents : ℕ → ℚ) (forms : List LinearForm) (all : Bool) → HoldSoFar fluents forms all [] → Defined (reckoned fluents forms) × (all ≡ hold fluents forms)
hold-end fluents forms all s = (s.back tt, sym (and-true all) ∙ s.value)
