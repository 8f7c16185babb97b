-- What follows where nothing is wrong with a domain.
use Rattle.std.proofs.Common.{◌≡◌, refl, sym, ap, ◌∙◌, ℕ, Bool, true, false, ◌||◌, List, [], ◌∷◌, ◌++◌, map, All, Option, Some, None, is_some, if◌then◌else◌, nat_eq, length, append_assoc, append-nil, arith}
use Rattle.std.specs.List.{flat_map}
use Rattle.std.specs.Option.{option_map_or}
use Rattle.std.specs.Str.{bytes_eq}
use Rattle.std.proofs.lemmas.Bool.{eqb-true}
use Rattle.std.proofs.lemmas.List.{map-append}
use Rattle.basics.proofs.Bools.{or_false_right}
use Rattle.std.proofs.lemmas.List.Elements.{All-head, All-tail}
use Rattle.pddl_terms.specs.declared.faults.Kind.TheVariants as kind
use Rattle.pddl_terms.specs.declared.faults.PddlFault.{PddlFault}
use Rattle.pddl_terms.specs.declared.faults.PddlFault.TheVariants.{At}
use Rattle.pddl_terms.specs.declared.files.Declared.{Declared}
use Rattle.pddl_terms.specs.declared.files.Declared.TheVariants as declared
use Rattle.pddl_terms.specs.declared.files.ActionDef.{ActionDef}
use Rattle.pddl_terms.specs.declared.files.Domain.{Domain}
use Rattle.pddl_terms.specs.declared.trees.Group.{Group}
use Rattle.pddl_terms.specs.declared.trees.Name.{Name}
use Rattle.pddl_terms.specs.declared.trees.Term.{Term}
use Rattle.pddl_names.specs.declared.declarations.Tables.{Tables}
use Rattle.pddl_names.specs.declared.offences.Offence.{Offence}
use Rattle.pddl_names.specs.declared.offences.Phase.TheVariants.{Names, Types}
use Rattle.pddl_names.specs.Offences.{offence}
use Rattle.pddl_names.specs.Declarations.{Text, Typed, Signature, object_word, typed_of, typed, type_bytes, signatures, among, value_of, with_new, with_firsts}
use Rattle.pddl_names.specs.Calls.{undeclared, doubles, names_of, types_offences, term_offences, term_sort, term_at, misfits, sorts_offences, call_offences}
use Rattle.pddl_names.specs.Files.{declared_names, texts_of, listed_offences, all_declared_offences, declared_offences, all_action_offences, action_offences, constraints_offences, domain_tables, name_offences, type_offences_of}
use Rattle.pddl_names.specs.Fitting.{fits}
use Rattle.pddl_forms.specs.Forms.{domain_forms}
use Rattle.pddl_forms.specs.Limits.{domain_limits}
use Rattle.pddl_domain.specs.Phases.{refusal_for}
use Rattle.pddl_domain.specs.Readings.{domain_offence, IsDomain}
use Rattle.pddl_domain.proofs.FirstPhase.{first_phase_counts}
use Rattle.pddl_domain.specs.Accepted.{HasNoOffence, DeclaresOnce, BindsOnce, TermsFit, IsWellCalled}

-- where two lists together are empty, so is each
pub both_empty : {A : Type 0} (xs ys : List A) → xs ++ ys ≡ [] → (xs ≡ []) × (ys ≡ [])
both_empty [] ys e = (refl, e)
both_empty (x ∷ xs) ys e = let t : x ∷ (xs ++ ys) ≡ [] = e in absurd cc

-- ---- a domain in which no phase finds anything

pub nothing_found : (o : Option Offence) → refusal_for o ≡ None → o ≡ None
nothing_found None e = refl
nothing_found (Some o) e = let t : ◌≡◌ {A = Option PddlFault} (Some (At o.kind o.place)) None = e in absurd cc

abbrev IsRight : List Offence → Type 0
IsRight phase = phase ≡ []

pub has_no_offence : (text : List ℕ) (d : Domain) → IsDomain text d → HasNoOffence d
unfolding domain_offence
has_no_offence text d f =
    let forms_on : List (List Offence) = domain_forms d ∷ domain_limits d ∷ [] in
    let types_on : List (List Offence) = type_offences_of d ∷ forms_on in
    let all : All IsRight (name_offences d ∷ types_on) =
    (first_phase_counts (name_offences d ∷ types_on) (offence kind.Name 0)).none.0 (nothing_found (domain_offence d) f.right) in
    let behind_names : All IsRight types_on = All-tail IsRight (name_offences d) types_on all in
    let behind_types : All IsRight forms_on = All-tail IsRight (type_offences_of d) forms_on behind_names in
    record {
      names = All-head IsRight (name_offences d) types_on all;
      types = All-head IsRight (type_offences_of d) forms_on behind_names;
      forms = All-head IsRight (domain_forms d) (domain_limits d ∷ []) behind_types;
      limits = All-head IsRight (domain_limits d) [] (All-tail IsRight (domain_forms d) (domain_limits d ∷ []) behind_types);
    }

-- ---- names that are declared once

is_new : (seen : List Text) (n : Name) (b : Bool) → among seen n.bytes ≡ b → (if b then offence kind.Double n.at ∷ [] else []) ≡ [] → among seen n.bytes ≡ false
is_new seen n false h e = h
is_new seen n true h e = let t : offence kind.Double n.at ∷ [] ≡ [] = e in absurd cc

-- the first name is new, and the others are apart from it and from those before
pub record BeginsNew (seen : List Text) (n : Name) (more : List Name) : Type 0 where
  pub new : among seen n.bytes ≡ false
  pub others : doubles (seen ++ n.bytes ∷ []) more ≡ []

begins_new : (seen : List Text) (n : Name) (more : List Name) → doubles seen (n ∷ more) ≡ [] → BeginsNew seen n more
begins_new seen n more e =
    let parts = both_empty (if among seen n.bytes then offence kind.Double n.at ∷ [] else []) (doubles (with_new seen (n.bytes ∷ [])) more) e in
    let new = is_new seen n (among seen n.bytes) refl parts.0 in
    record { new = new; others = sym (ap (λ b. doubles (if b then seen else seen ++ n.bytes ∷ []) more) new) ∙ parts.1 }

pub all_new : (seen : List Text) (names : List Name) → doubles seen names ≡ [] → with_new seen (texts_of names) ≡ seen ++ texts_of names
all_new seen [] e = sym (append-nil seen)
all_new seen (n ∷ more) e =
    let b = begins_new seen n more e in
    ap (λ t. with_new (if t then seen else seen ++ n.bytes ∷ []) (texts_of more)) b.new
    ∙ all_new (seen ++ n.bytes ∷ []) more b.others ∙ append_assoc seen (n.bytes ∷ []) (texts_of more)

-- names that are apart from more are apart from fewer
pub fewer_seen : (s : Text) (seen : List Text) (names : List Name) → doubles (s ∷ seen) names ≡ [] → doubles seen names ≡ []
fewer_seen s seen [] e = refl
fewer_seen s seen (n ∷ more) e =
    let b = begins_new (s ∷ seen) n more e in
    let rest = fewer_seen s (seen ++ n.bytes ∷ []) more b.others in
    let new : among seen n.bytes ≡ false = or_false_right (bytes_eq n.bytes s) (among seen n.bytes) b.new in
    ap (λ t. (if t then offence kind.Double n.at ∷ [] else []) ++ doubles (if t then seen else seen ++ n.bytes ∷ []) more) new ∙ rest

module _ {V : Type 0} where
  abbrev keys : List (Text × V) → List Text
  keys es = map (λ e. e.0) es

  value_by : (v : V) (o : Option V) (b c : Bool) → is_some o ≡ c → is_some (if b then Some v else o) ≡ (b || c)
  value_by v o true c h = refl
  value_by v o false c h = h

  has_value : (es : List (Text × V)) (n : Text) → is_some (value_of es n) ≡ among (keys es) n
  has_value [] n = refl
  has_value (e ∷ es) n = value_by e.1 (value_of es n) (bytes_eq n e.0) (among (keys es) n) (has_value es n)

  -- declarations whose names are new are all first ones
  pub all_first : (before es : List (Text × V)) (names : List Name) → texts_of names ≡ keys es → doubles (keys before) names ≡ [] → with_firsts before es ≡ before ++ es
  all_first before [] names same e = sym (append-nil before)
  all_first before (x ∷ es) [] same e = let t : [] ≡ x.0 ∷ keys es = same in absurd cc
  all_first before (x ∷ es) (n ∷ more) same e =
      let here : n.bytes ≡ x.0 = cc in
      let later : texts_of more ≡ keys es = cc in
      let b = begins_new (keys before) n more e in
      let new : is_some (value_of before x.0) ≡ false = has_value before x.0 ∙ ap (among (keys before)) (sym here) ∙ b.new in
      let seen : keys before ++ n.bytes ∷ [] ≡ keys (before ++ x ∷ []) = ap (λ t. keys before ++ t ∷ []) here ∙ sym (map-append (λ e. e.0) before (x ∷ [])) in
      ap (λ t. with_firsts (if t then before else before ++ x ∷ []) es) new
      ∙ all_first (before ++ x ∷ []) es more later (ap (λ l. doubles l more) (sym seen) ∙ b.others) ∙ append_assoc before (x ∷ []) es

names_alone : (g : Group) (ns : List Name) → texts_of ns ≡ keys (map {B = Typed} (λ n. (n.bytes, type_bytes g.of)) ns)
names_alone g [] = refl
names_alone g (n ∷ ns) = ap (λ l. n.bytes ∷ l) (names_alone g ns)

typed_names : (groups : List Group) → texts_of (names_of groups) ≡ keys (typed groups)
typed_names [] = refl
typed_names (g ∷ gs) =
    map-append (λ n. n.bytes) g.names (names_of gs)
    ∙ ap (λ l. l ++ texts_of (names_of gs)) (names_alone g g.names) ∙ ap (λ l. keys (typed_of g) ++ l) (typed_names gs)
    ∙ sym (map-append (λ e. e.0) (typed_of g) (typed gs))

signature_names : (ds : List Declared) → texts_of (declared_names ds) ≡ keys (signatures ds)
signature_names [] = refl
signature_names (declared.Named at n parameters ∷ ds) = ap (λ l. n.bytes ∷ l) (signature_names ds)
signature_names (declared.LeftOut at ∷ ds) = signature_names ds

pub names_of_actions : (actions : List ActionDef) → texts_of (flat_map (λ a. a.name ∷ []) actions) ≡ map (λ a. a.name.bytes) actions
names_of_actions [] = refl
names_of_actions (a ∷ actions) = ap (λ l. a.name.bytes ∷ l) (names_of_actions actions)

pub typed_once : (groups : List Group) → doubles [] (names_of groups) ≡ [] → with_firsts [] (typed groups) ≡ typed groups
typed_once groups e = all_first [] (typed groups) (names_of groups) (typed_names groups) e

signed_once : (ds : List Declared) → doubles [] (declared_names ds) ≡ [] → with_firsts [] (signatures ds) ≡ signatures ds
signed_once ds e = all_first [] (signatures ds) (declared_names ds) (signature_names ds) e

-- ---- a whole domain

module _ (d : Domain) (e : name_offences d ≡ []) where
  abbrev kinds : List Offence
  kinds = listed_offences Names (domain_tables d) (object_word ∷ []) d.types ++ listed_offences Names (domain_tables d) [] d.constants

  abbrev symbols : List Offence
  symbols = all_declared_offences Names (domain_tables d) d.predicates ++ all_declared_offences Names (domain_tables d) d.functions

  abbrev rules : List Offence
  rules = constraints_offences Names (domain_tables d) d.constraints ++ all_action_offences Names (domain_tables d) d.actions

  both : (kinds ++ symbols ≡ []) × (rules ≡ [])
  both = both_empty (kinds ++ symbols) rules e

  front : (kinds ≡ []) × (symbols ≡ [])
  front = both_empty kinds symbols both.0

  types_apart : doubles (object_word ∷ []) (names_of d.types) ≡ []
  types_apart = (both_empty (types_offences (domain_tables d) d.types) (doubles (object_word ∷ []) (names_of d.types)) (both_empty (listed_offences Names (domain_tables d) (object_word ∷ []) d.types) (listed_offences Names (domain_tables d) [] d.constants) front.0).0).1

  constants_apart : doubles [] (names_of d.constants) ≡ []
  constants_apart = (both_empty (types_offences (domain_tables d) d.constants) (doubles [] (names_of d.constants)) (both_empty (listed_offences Names (domain_tables d) (object_word ∷ []) d.types) (listed_offences Names (domain_tables d) [] d.constants) front.0).1).1

  declared_apart : (ds : List Declared) → all_declared_offences Names (domain_tables d) ds ≡ [] → doubles [] (declared_names ds) ≡ []
  declared_apart ds h = (both_empty (flat_map (declared_offences Names (domain_tables d)) ds) (doubles [] (declared_names ds)) h).1

  symbols_apart : (all_declared_offences Names (domain_tables d) d.predicates ≡ []) × (all_declared_offences Names (domain_tables d) d.functions ≡ [])
  symbols_apart = both_empty (all_declared_offences Names (domain_tables d) d.predicates) (all_declared_offences Names (domain_tables d) d.functions) front.1

  actions_apart : doubles [] (flat_map (λ a. a.name ∷ []) d.actions) ≡ []
  actions_apart = (both_empty (flat_map (action_offences Names (domain_tables d)) d.actions) (doubles [] (flat_map (λ a. a.name ∷ []) d.actions)) (both_empty (constraints_offences Names (domain_tables d) d.constraints) (all_action_offences Names (domain_tables d) d.actions) both.1).1).1

  pub declares_once : DeclaresOnce d
  declares_once = record {
    types = typed_once d.types (fewer_seen object_word [] (names_of d.types) types_apart);
    constants = typed_once d.constants constants_apart;
    predicates = signed_once d.predicates (declared_apart d.predicates symbols_apart.0);
    functions = signed_once d.functions (declared_apart d.functions symbols_apart.1);
    actions = ap (with_new []) (sym (names_of_actions d.actions)) ∙ all_new [] (flat_map (λ a. a.name ∷ []) d.actions) actions_apart ∙ names_of_actions d.actions;
  }

-- ---- variables, and terms that fit

pub binds_once : (w : Tables) (groups : List Group) → types_offences w groups ++ doubles [] (names_of groups) ≡ [] → BindsOnce w groups
binds_once w groups e = let parts = both_empty (types_offences w groups) (doubles [] (names_of groups)) e in
    record { variables = typed_once groups parts.1; types = parts.0 }

module _ (w : Tables) (scope : List Typed) where
  fits_first : (t : Term) (s : Text) (b : Bool) → fits w.types (term_sort w scope t) s ≡ b → (if b then [] else offence kind.Sort (term_at t) ∷ []) ≡ [] → fits w.types (term_sort w scope t) s ≡ true
  fits_first t s true h e = h
  fits_first t s false h e = let x : offence kind.Sort (term_at t) ∷ [] ≡ [] = e in absurd cc

  all_fit : (terms : List Term) (sorts : List Text) → flat_map (term_offences w scope) terms ≡ [] → length terms ≡ length sorts → misfits w scope terms sorts ≡ [] → TermsFit w scope terms sorts
  unfolding misfits
  all_fit [] [] known many e = tt
  all_fit [] (s ∷ sorts) known many e = absurd (omega (arith, many))
  all_fit (t ∷ terms) [] known many e = absurd (omega (arith, many))
  all_fit (t ∷ terms) (s ∷ sorts) known many e =
      let here = both_empty (term_offences w scope t) (flat_map (term_offences w scope) terms) known in
      let fit = both_empty (if fits w.types (term_sort w scope t) s then [] else offence kind.Sort (term_at t) ∷ []) (misfits w scope terms sorts) e in
      let rest : length terms ≡ length sorts = omega (arith, many) in
      (here.0, fits_first t s (fits w.types (term_sort w scope t) s) refl fit.0, all_fit terms sorts here.1 rest fit.1)

  sorts_fit : (at : ℕ) (terms : List Term) (sorts : List Text) (b : Bool) → nat_eq (length terms) (length sorts) ≡ b → flat_map (term_offences w scope) terms ≡ []
      → (if b then misfits w scope terms sorts else offence kind.Arity at ∷ []) ≡ [] → TermsFit w scope terms sorts
  sorts_fit at terms sorts true h known e = all_fit terms sorts known (eqb-true (length terms) (length sorts) h) e
  sorts_fit at terms sorts false h known e = let x : offence kind.Arity at ∷ [] ≡ [] = e in absurd cc

  called : (declared : List Signature) (at : ℕ) (n : Name) (terms : List Term) (r : Option (List Text)) → value_of declared n.bytes ≡ r → undeclared (is_some r) n ≡ []
      → flat_map (term_offences w scope) terms ≡ [] → option_map_or (sorts_offences w scope at terms) r [] ≡ [] → IsWellCalled w declared scope n.bytes terms
  called declared at n terms None h u known e = let x : offence kind.Name n.at ∷ [] ≡ [] = u in absurd cc
  called declared at n terms (Some sorts) h u known e =
      record { sorts = sorts; is_declared = h; terms_fit = sorts_fit at terms sorts (nat_eq (length terms) (length sorts)) refl known e }

  pub well_called : (declared : List Signature) (at : ℕ) (n : Name) (terms : List Term) → call_offences Names w declared scope at n terms ≡ [] → call_offences Types w declared scope at n terms ≡ []
      → IsWellCalled w declared scope n.bytes terms
  unfolding call_offences
  well_called declared at n terms e f =
      let parts = both_empty (undeclared (is_some (value_of declared n.bytes)) n) (flat_map (term_offences w scope) terms) e in
      called declared at n terms (value_of declared n.bytes) refl parts.0 parts.1 f
