-- What a predicate or function with its terms is asked in each phase, and terms against types place by place.
use Rattle.std.proofs.Common.{◌≡◌, sym, ap, ◌∙◌, ℕ, Bool, List, [], ◌∷◌, Option, Some, None, is_some, if◌then◌else◌, arith, length}
use Rattle.std.specs.List.{flat_map}
use Rattle.std.specs.Option.{option_map_or}
use Rattle.pddl_terms.specs.declared.faults.Kind.TheVariants as kind
use Rattle.pddl_terms.specs.declared.trees.Name.{Name}
use Rattle.pddl_terms.specs.declared.trees.Term.{Term}
use Rattle.pddl_names.specs.declared.offences.Offence.{Offence}
use Rattle.pddl_names.specs.declared.offences.Phase.{Phase}
use Rattle.pddl_names.specs.declared.offences.Phase.TheVariants as phase
use Rattle.pddl_names.specs.declared.declarations.Tables.{Tables}
use Rattle.pddl_names.specs.Declarations.{Text, Typed, Signature, value_of}
use Rattle.pddl_names.specs.Offences.{offence, earlier, least}
use Rattle.pddl_names.specs.Fitting.{fits}
use Rattle.pddl_names.specs.Calls.{undeclared, term_at, term_sort, term_offences, misfits, sorts_offences, call_offences}
use Rattle.pddl_names.proofs.Least.{earlier-none, earlier-assoc, least-append, least-both}

module _ (w : Tables) (scope : List Typed) where
  module _ (declared : List Signature) (at : ℕ) (n : Name) (terms : List Term) where
    pub call-names : (p : Phase) (known : Bool) (own rest result : Option Offence) → p ≡ phase.Names → known ≡ is_some (value_of declared n.bytes)
        → own ≡ least (undeclared known n) → rest ≡ least (flat_map (term_offences w scope) terms) → result ≡ earlier own rest → result ≡ least (call_offences p w declared scope at n terms)
    unfolding call_offences
    call-names p known own rest result e k o r f =
        f ∙ least-both own rest (undeclared (is_some (value_of declared n.bytes)) n) (flat_map (term_offences w scope) terms) (o ∙ ap (λ b. least (undeclared b n)) k) r ∙ ap (λ q. least (call_offences q w declared scope at n terms)) (sym e)

    pub call-unknown : (p : Phase) → p ≡ phase.Types → ◌≡◌ {A = Option (List Text)} None (value_of declared n.bytes) → ◌≡◌ {A = Option Offence} None (least (call_offences p w declared scope at n terms))
    unfolding call_offences
    call-unknown p e k = ap (λ o. least (option_map_or (sorts_offences w scope at terms) o [])) k ∙ ap (λ q. least (call_offences q w declared scope at n terms)) (sym e)

    pub call-types : (p : Phase) (sorts : List Text) (result : Option Offence) → p ≡ phase.Types → Some sorts ≡ value_of declared n.bytes
        → result ≡ least (sorts_offences w scope at terms sorts) → result ≡ least (call_offences p w declared scope at n terms)
    unfolding call_offences
    call-types p sorts result e k r = r ∙ ap (λ o. least (option_map_or (sorts_offences w scope at terms) o [])) k ∙ ap (λ q. least (call_offences q w declared scope at n terms)) (sym e)

  misfit_of : Term → Text → List Offence
  misfit_of t s = if fits w.types (term_sort w scope t) s then [] else offence kind.Sort (term_at t) ∷ []

  pub misfits-next : (ts more : List Term) (t : Term) (ss rest : List Text) (s : Text) (fit : Bool) (found next own : Option Offence) (all : Option Offence)
      → ts ≡ t ∷ more → ss ≡ s ∷ rest → fit ≡ fits w.types (term_sort w scope t) s → own ≡ least (if fit then [] else offence kind.Sort (term_at t) ∷ []) → next ≡ earlier found own
      → earlier found (least (misfits w scope ts ss)) ≡ all → earlier next (least (misfits w scope more rest)) ≡ all
  unfolding misfits
  misfits-next ts more t ss rest s fit found next own all e h f o n j =
      ap (λ a. earlier a (least (misfits w scope more rest))) (n ∙ ap (earlier found) (o ∙ ap (λ b. least (if b then [] else offence kind.Sort (term_at t) ∷ [])) f))
      ∙ earlier-assoc found _ (least (misfits w scope more rest))
      ∙ ap (earlier found) (sym (least-append (if fits w.types (term_sort w scope t) s then [] else offence kind.Sort (term_at t) ∷ []) (misfits w scope more rest)))
      ∙ ap (λ l. earlier found (least (misfits w scope l (s ∷ rest)))) (sym e) ∙ ap (λ l. earlier found (least (misfits w scope ts l))) (sym h) ∙ j

  pub misfits-end : (ts : List Term) (ss : List Text) (found : Option Offence) (all : Option Offence) → length ts ≡ 0 → earlier found (least (misfits w scope ts ss)) ≡ all → found ≡ all
  unfolding misfits
  misfits-end [] ss found all h j = sym (earlier-none found) ∙ j
  misfits-end (t ∷ ts) ss found all h j = absurd (omega arith)

  pub misfits-unasked : (ts more : List Term) (t : Term) (ss : List Text) (found : Option Offence) (all : Option Offence) → ts ≡ t ∷ more → length ss ≡ 0 → earlier found (least (misfits w scope ts ss)) ≡ all → found ≡ all
  unfolding misfits
  misfits-unasked ts more t [] found all e h j = sym (earlier-none found) ∙ ap (λ l. earlier found (least (misfits w scope l []))) (sym e) ∙ j
  misfits-unasked ts more t (s ∷ ss) found all e h j = absurd (omega arith)
