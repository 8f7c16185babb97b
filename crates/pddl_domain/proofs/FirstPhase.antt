-- That what is found is an offence of the first phase that has any.
use Rattle.std.proofs.Common.{◌≡◌, refl, ap, ◌∙◌, List, [], ◌∷◌, All, Option, Some, None, arith}
use Rattle.std.proofs.lemmas.List.Elements.{All-cons, All-head, All-tail}
use Rattle.pddl_names.specs.declared.offences.Offence.{Offence}
use Rattle.pddl_names.specs.Offences.{offence, least}
use Rattle.pddl_names.proofs.Firsts.{least_is_first, none_empty}
use Rattle.pddl_domain.specs.Phases.{or_later, first_of_phases}
use Rattle.pddl_domain.specs.Laws.{IsOfFirstPhase, FirstPhaseCounts}

IsRight : List Offence → Type 0
IsRight p = p ≡ []

none_wrong : All IsRight []
none_wrong k d h = absurd (omega arith)

in_first : (p : List Offence) (ps : List (List Offence)) (o : Offence) → least p ≡ Some o → IsOfFirstPhase (p ∷ ps) o
unfolding IsRight
in_first p ps o e = record { before = []; phase = p; later = ps; whole = refl; right = none_wrong; first = (least_is_first p o).some e }

behind_right : (p : List Offence) (ps : List (List Offence)) (o : Offence) → p ≡ [] → IsOfFirstPhase ps o → IsOfFirstPhase (p ∷ ps) o
behind_right p ps o e f = record {
  before = p ∷ f.before;
  phase = f.phase;
  later = f.later;
  whole = ap (λ t. p ∷ t) f.whole;
  right = All-cons (λ (q : List Offence). q ≡ []) p f.before e f.right;
  first = f.first;
}

step : (p : List Offence) (ps : List (List Offence)) (o : Offence) (r : Option Offence) → least p ≡ r → (first_of_phases ps ≡ Some o → IsOfFirstPhase ps o)
    → or_later r (first_of_phases ps) ≡ Some o → IsOfFirstPhase (p ∷ ps) o
step p ps o None e more f = behind_right p ps o (none_empty p e) (more f)
step p ps o (Some x) e more f = let same : x ≡ o = cc in in_first p ps o (e ∙ ap Some same)

first_phase : (phases : List (List Offence)) (o : Offence) → first_of_phases phases ≡ Some o → IsOfFirstPhase phases o
first_phase [] o e = absurd (cc)
first_phase (p ∷ ps) o e = step p ps o (least p) refl (first_phase ps o) e

step_none : (p : List Offence) (ps : List (List Offence)) (r : Option Offence) → least p ≡ r → (first_of_phases ps ≡ None → All (λ (q : List Offence). q ≡ []) ps)
    → ◌≡◌ {A = Option Offence} (or_later r (first_of_phases ps)) None → All (λ (q : List Offence). q ≡ []) (p ∷ ps)
step_none p ps None e more f = All-cons (λ (q : List Offence). q ≡ []) p ps (none_empty p e) (more f)
step_none p ps (Some x) e more f = absurd (cc)

all_right : (phases : List (List Offence)) → first_of_phases phases ≡ None → All (λ (q : List Offence). q ≡ []) phases
unfolding IsRight
all_right [] e = none_wrong
all_right (p ∷ ps) e = step_none p ps (least p) refl (all_right ps) e

none_found : (phases : List (List Offence)) → All (λ (q : List Offence). q ≡ []) phases → first_of_phases phases ≡ None
none_found [] h = refl
none_found (p ∷ ps) h = ap (λ q. or_later (least q) (first_of_phases ps)) (All-head (λ (q : List Offence). q ≡ []) p ps h)
    ∙ none_found ps (All-tail (λ (q : List Offence). q ≡ []) p ps h)

pub first_phase_counts : (phases : List (List Offence)) (o : Offence) → FirstPhaseCounts phases o
first_phase_counts phases o = record { some = first_phase phases o; none = (all_right phases, none_found phases) }
