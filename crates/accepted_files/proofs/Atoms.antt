-- Where the phases of names, types and forms find no offence in an atom or a fluent, its ground atom is a binding of what
-- it names.
use Rattle.std.proofs.Common.{◌≡◌, ◌⊎◌, inl, inr, refl, sym, ap, subst, ◌∙◌, ℕ, ◌==◌, Bool, true, false, not, nat_eq, if◌then◌else◌, List, [], ◌∷◌, ◌++◌, map, length, Option, Some, None, is_some, arith}
use Rattle.std.proofs.lemmas.Option.{same_Some}
use Rattle.std.specs.Prelude.{unwrap_or}
use Rattle.std.specs.List.{AllByRecursion as Each, list_any, flat_map}
use Rattle.std.specs.Option.{option_map_or}
use Rattle.std.specs.Str.{bytes_eq}
use Rattle.std.proofs.lemmas.Bool.Decides.{nat_tests}
use Rattle.std.proofs.lemmas.Bool.{or_cases}
use Rattle.basics.proofs.Bools.{not_true, and_in}
use Rattle.basics.proofs.Lists.{each_append, all_out, nothing_left, nothing_right, nothing_each, each_map}
use Rattle.task_types.specs.WellMade.{arguments_fit}
use Rattle.pddl_terms.specs.declared.files.Domain.{Domain}
use Rattle.pddl_terms.specs.declared.files.Problem.{Problem}
use Rattle.pddl_terms.specs.declared.trees.Atom.{Atom}
use Rattle.pddl_terms.specs.declared.trees.Group.{Group}
use Rattle.pddl_terms.specs.declared.trees.Name.{Name}
use Rattle.pddl_terms.specs.declared.trees.Term.{Term}
use Rattle.pddl_terms.specs.declared.trees.Term.TheVariants as term
use Rattle.pddl_terms.specs.declared.trees.TypeName.{TypeName}
use Rattle.pddl_terms.specs.declared.trees.TypeName.TheVariants as type
use Rattle.pddl_terms.specs.declared.faults.Kind.TheVariants as kind
use Rattle.pddl_names.specs.declared.declarations.Tables.{Tables}
use Rattle.pddl_names.specs.declared.offences.Phase.TheVariants.{Names, Types}
use Rattle.pddl_names.specs.Declarations.{Text, Typed, Signature, object_word, typed, typed_of, type_bytes, value_of, with_first, with_firsts, declared_types}
use Rattle.pddl_names.specs.Fitting.{is_nothing, fits}
use Rattle.pddl_names.specs.Offences.{offence}
use Rattle.pddl_names.specs.Calls.{undeclared, doubles, names_of, is_type, type_offences, types_offences, variables_offences, bind, term_offences, term_sort, term_at, misfits, sorts_offences, call_offences, atom_offences, fluent_offences}
use Rattle.pddl_names.specs.Files.{domain_tables, problem_tables}
use Rattle.pddl_names.proofs.Ways.{same_text}
use Rattle.pddl_names.proofs.Doubling.{with_firsts-append}
use Rattle.pddl_forms.specs.TypedLists as forms
use Rattle.ground_world.specs.World.{Env, columns, variable_names, place_in, bound, term_object, ground_atom, ground_fluent}
use Rattle.ground_world.specs.Bindings.{choices, paired, bindings}
use Rattle.ground_world.specs.FirstState.{types_of, objects_of, signatures_of, world}
use Rattle.grounder.specs.Accepted.{is_binding}
use Rattle.grounder.proofs.Each.{each_weaker}
use Rattle.grounder.proofs.Choosing.{choices-fit}
use Rattle.grounder.proofs.Columns.{value-given}
use Rattle.accepted_files.specs.Clean.{TypesAreNamed}
use Rattle.accepted_files.proofs.Variables.{Fit, Agrees, agrees-empty, agrees-bound, firsts-keep}
use Rattle.accepted_files.proofs.Places.{declared-fits, fits-onward, declared-binds}

-- ---- what is left of an offence that isn't there

known : (b : Bool) (n : Name) → undeclared b n ≡ [] → b ≡ true
known true n e = refl
known false n e = let t : offence kind.Name n.at ∷ [] ≡ [] = e in cc

fitting_terms : (b : Bool) (at : ℕ) → (if b then [] else offence kind.Sort at ∷ []) ≡ [] → b ≡ true
fitting_terms true at e = refl
fitting_terms false at e = let t : offence kind.Sort at ∷ [] ≡ [] = e in cc

-- ---- types that have names

-- no variable's type is left out
abbrev pub HaveTypes : List Typed → Type 0
HaveTypes scope = Each (λ e. is_nothing e.1 ≡ false) scope

value-each : (P : Text → Type 0) (es : List Typed) (n s : Text) → Each (λ e. P e.1) es → value_of es n ≡ Some s → P s
value-each P [] n s h v = cc
value-each P (e ∷ es) n s h v = by (bytes_eq n e.0) refl (value-each P es n s h.1)
  where
    by : (b : Bool) → bytes_eq n e.0 ≡ b → (value_of es n ≡ Some s → P s) → P s
    by true k onward = subst P (same_Some e.1 s (sym (ap (λ b. if b then Some e.1 else value_of es n) k) ∙ v)) h.0
    by false k onward = onward (sym (ap (λ b. if b then Some e.1 else value_of es n) k) ∙ v)

firsts-each : (P : Typed → Type 0) (es more : List Typed) → Each P es → Each P more → Each P (with_firsts es more)
firsts-each P es [] h k = h
firsts-each P es (e ∷ more) h k = firsts-each P (with_first es e) more (by (is_some (value_of es e.0))) k.1
  where
    by : (b : Bool) → Each P (if b then es else es ++ (e ∷ []))
    by true = h
    by false = each_append P es (e ∷ []) h (k.0, tt)

-- what a domain or a problem declares, as the world has it
pub record Knows (d : Domain) (p : Problem) (w : Tables) : Type 0 where
  pub types : w.types ≡ types_of d
  pub objects : (n s : Text) → value_of w.objects n ≡ Some s → value_of (objects_of d p) n ≡ Some s
  pub predicates : w.predicates ≡ signatures_of d.predicates
  pub functions : w.functions ≡ signatures_of d.functions

pub domain-knows : (d : Domain) (p : Problem) → Knows d p (domain_tables d)
domain-knows d p = record {
  types = refl;
  objects = λ n s h. ap (λ (es : List Typed). value_of es n) (with_firsts-append [] (typed d.constants) (typed p.objects)) ∙ firsts-keep (with_firsts [] (typed d.constants)) (typed p.objects) n s h;
  predicates = refl;
  functions = refl;
}

pub problem-knows : (d : Domain) (p : Problem) → Knows d p (problem_tables d p)
problem-knows d p = record {
  types = refl;
  objects = λ n s h. ap (λ (es : List Typed). value_of es n) (with_firsts-append [] (typed d.constants) (typed p.objects)) ∙ h;
  predicates = refl;
  functions = refl;
}

module _ (d : Domain) (p : Problem) (named : TypesAreNamed d) (w : Tables) (knows : Knows d p w) where
  type_named : (t : TypeName) → type_offences w t ≡ [] → forms.type_offences t ≡ [] → is_nothing (type_bytes t) ≡ false
  type_named type.Object e f = refl
  type_named (type.Named n) e f = by (or_cases (bytes_eq n.bytes object_word) (is_some (value_of w.types n.bytes)) (known (is_type w n.bytes) n e))
    where
      all : Each (λ e. is_nothing e.0 ≡ false) (types_of d)
      all = firsts-each (λ e. is_nothing e.0 ≡ false) [] (declared_types d) tt
          (each_weaker (λ e. not (is_nothing e.0) ≡ true) (λ e. is_nothing e.0 ≡ false) (λ e h. not_true (is_nothing e.0) h) (declared_types d) (all_out (λ e. not (is_nothing e.0)) (declared_types d) named))

      by : (bytes_eq n.bytes object_word ≡ true) ⊎ (is_some (value_of w.types n.bytes) ≡ true) → is_nothing n.bytes ≡ false
      by (inl h) = ap is_nothing (same_text n.bytes object_word h)
      by (inr h) = value-given (λ t. is_nothing t ≡ false) (types_of d) n.bytes (sym (ap (λ (es : List Typed). is_some (value_of es n.bytes)) knows.types) ∙ h) all
  type_named (type.LeftOut at) e f = let t : offence kind.LeftOut at ∷ [] ≡ [] = f in cc

  pub groups-typed : (groups : List Group) → types_offences w groups ≡ [] → forms.typed_offences groups ≡ [] → HaveTypes (typed groups)
  groups-typed [] e f = tt
  groups-typed (g ∷ gs) e f = each_append (λ x. is_nothing x.1 ≡ false) (typed_of g) (typed gs) (own g.names)
      (groups-typed gs (nothing_right (type_offences w g.of) (types_offences w gs) e) (nothing_right (forms.group_offences g) (forms.typed_offences gs) f))
    where
      has : is_nothing (type_bytes g.of) ≡ false
      has = type_named g.of (nothing_left (type_offences w g.of) (types_offences w gs) e) (nothing_left (forms.group_offences g) (forms.typed_offences gs) f)

      own : (ns : List Name) → HaveTypes (map {B = Typed} (λ n. (n.bytes, type_bytes g.of)) ns)
      own [] = tt
      own (n ∷ ns) = (has, own ns)

  -- ---- variables in scope

  -- each variable in scope has a type, and stands for an object that fits it
  pub record Binds (env : Env) (scope : List Typed) : Type 0 where
    pub agrees : Agrees (world d p).fitting env scope
    pub typed : HaveTypes scope

  pub binds-nothing : Binds [] []
  binds-nothing = record { agrees = agrees-empty (world d p).fitting []; typed = tt }

  pub bound-inside : (env : Env) (scope : List Typed) (groups : List Group) → variables_offences Names w groups ≡ [] → forms.typed_offences groups ≡ [] → Binds env scope
      → Each (λ e. Binds e (bind groups scope)) (bindings (world d p) env groups)
  bound-inside env scope groups e f b = each_map (λ e. Binds e (bind groups scope)) (λ os. env ++ paired (variable_names groups) os) (choices (columns (world d p) groups))
      (each_weaker (λ os. arguments_fit os (columns (world d p) groups) ≡ true) (λ os. Binds (env ++ paired (variable_names groups) os) (bind groups scope))
      (λ os h. record { agrees = agrees-bound (world d p).fitting groups scope os env apart h b.agrees; typed = both }) (choices (columns (world d p) groups)) (choices-fit (columns (world d p) groups)))
    where
      apart : doubles [] (names_of groups) ≡ []
      apart = nothing_right (types_offences w groups) (doubles [] (names_of groups)) e

      both : HaveTypes (bind groups scope)
      both = each_append (λ x. is_nothing x.1 ≡ false) (with_firsts [] (typed groups)) scope
          (firsts-each (λ x. is_nothing x.1 ≡ false) [] (typed groups) tt (groups-typed groups (nothing_left (types_offences w groups) (doubles [] (names_of groups)) e) f)) b.typed

  -- ---- terms

  module _ (env : Env) (scope : List Typed) (b : Binds env scope) where
    object_fit : (n : Name) (s : Text) (o : Option Text) → value_of w.objects n.bytes ≡ o → is_some o ≡ true → fits w.types (unwrap_or o []) s ≡ true → Fit (world d p).fitting s (place_in (world d p).objects n.bytes)
    unfolding world
    object_fit n s None e k f = cc
    object_fit n s (Some u) e k f = declared-fits (types_of d) (objects_of d p) n.bytes u s (knows.objects n.bytes u e) (ap (λ types. fits types u s) (sym knows.types) ∙ f)

    variable_fit : (n : Name) (s : Text) (o : Option Text) → value_of scope n.bytes ≡ o → is_some o ≡ true → fits w.types (unwrap_or o []) s ≡ true → Fit (world d p).fitting s (bound env n.bytes)
    unfolding world
    variable_fit n s None e k f = cc
    variable_fit n s (Some u) e k f = fits-onward (types_of d) (objects_of d p) u s (bound env n.bytes)
        (value-each (λ t. is_nothing t ≡ false) scope n.bytes u b.typed e) (ap (λ types. fits types u s) (sym knows.types) ∙ f) (b.agrees n.bytes u e)

    term_fit : (t : Term) (s : Text) → term_offences w scope t ≡ [] → fits w.types (term_sort w scope t) s ≡ true → Fit (world d p).fitting s (term_object (world d p) env t)
    term_fit (term.Object n) s e f = object_fit n s (value_of w.objects n.bytes) refl (known (is_some (value_of w.objects n.bytes)) n e) f
    term_fit (term.Variable n) s e f = variable_fit n s (value_of scope n.bytes) refl (known (is_some (value_of scope n.bytes)) n e) f

    terms_fit : (ts : List Term) (ss : List Text) → length ts ≡ length ss → Each (λ t. term_offences w scope t ≡ []) ts → misfits w scope ts ss ≡ []
        → arguments_fit (map (term_object (world d p) env) ts) (map (world d p).fitting ss) ≡ true
    unfolding misfits
    terms_fit [] [] l e m = refl
    terms_fit [] (s ∷ ss) l e m = absurd (omega arith)
    terms_fit (t ∷ ts) [] l e m = absurd (omega arith)
    terms_fit (t ∷ ts) (s ∷ ss) l e m =
        let own : fits w.types (term_sort w scope t) s ≡ true = fitting_terms (fits w.types (term_sort w scope t) s) (term_at t)
        (nothing_left (if fits w.types (term_sort w scope t) s then [] else offence kind.Sort (term_at t) ∷ []) (misfits w scope ts ss) m) in
        and_in (list_any (λ x. x == term_object (world d p) env t) ((world d p).fitting s)) (arguments_fit (map (term_object (world d p) env) ts) (map (world d p).fitting ss))
        (term_fit t s e.0 own)
        (terms_fit ts ss (omega arith) e.1 (nothing_right (if fits w.types (term_sort w scope t) s then [] else offence kind.Sort (term_at t) ∷ []) (misfits w scope ts ss) m))

    as_many : (ts : List Term) (ss : List Text) (at : ℕ) → Each (λ t. term_offences w scope t ≡ []) ts → sorts_offences w scope at ts ss ≡ []
        → arguments_fit (map (term_object (world d p) env) ts) (map (world d p).fitting ss) ≡ true
    as_many ts ss at e m = by (nat_eq (length ts) (length ss)) refl m
      where
        by : (c : Bool) → nat_eq (length ts) (length ss) ≡ c → (if c then misfits w scope ts ss else offence kind.Arity at ∷ []) ≡ [] → arguments_fit (map (term_object (world d p) env) ts) (map (world d p).fitting ss) ≡ true
        by true k n = terms_fit ts ss (grind (arith, nat_tests, k)) e n
        by false k n = let t : offence kind.Arity at ∷ [] ≡ [] = n in cc

    -- ---- calls

    abbrev Called : List Signature → Name → List Term → Type 0
    Called declared n ts = (sorts : List Text) × ((value_of declared n.bytes ≡ Some sorts) × (arguments_fit (map (term_object (world d p) env) ts) (map (world d p).fitting sorts) ≡ true))

    called : (declared : List Signature) (at : ℕ) (n : Name) (ts : List Term) → call_offences Names w declared scope at n ts ≡ [] → call_offences Types w declared scope at n ts ≡ [] → Called declared n ts
    unfolding call_offences
    called declared at n ts e f = by (value_of declared n.bytes) refl (known (is_some (value_of declared n.bytes)) n (nothing_left (undeclared (is_some (value_of declared n.bytes)) n) (flat_map (term_offences w scope) ts) e)) f
      where
        terms : Each (λ t. term_offences w scope t ≡ []) ts
        terms = nothing_each (term_offences w scope) ts (nothing_right (undeclared (is_some (value_of declared n.bytes)) n) (flat_map (term_offences w scope) ts) e)

        by : (o : Option (List Text)) → value_of declared n.bytes ≡ o → is_some o ≡ true → option_map_or (sorts_offences w scope at ts) o [] ≡ [] → Called declared n ts
        by None k s m = cc
        by (Some sorts) k s m = (sorts, (k, as_many ts sorts at terms m))

    pub atom-binds : (a : Atom) → atom_offences Names w scope a ≡ [] → atom_offences Types w scope a ≡ [] → is_binding (world d p) d.predicates (ground_atom (world d p) env a) ≡ true
    unfolding world
    atom-binds a e f = let c = called w.predicates a.at a.name a.terms e f in
        declared-binds (world d p) (signatures_of d.predicates) a.name.bytes c.0 (map (term_object (world d p) env) a.terms) (sym (ap (λ (es : List Signature). value_of es a.name.bytes) knows.predicates) ∙ c.1.0) c.1.1

    pub fluent-binds : (a : Atom) → fluent_offences Names w scope a ≡ [] → fluent_offences Types w scope a ≡ [] → is_binding (world d p) d.functions (ground_fluent (world d p) env a) ≡ true
    unfolding world
    fluent-binds a e f = let c = called w.functions a.at a.name a.terms e f in
        declared-binds (world d p) (signatures_of d.functions) a.name.bytes c.0 (map (term_object (world d p) env) a.terms) (sym (ap (λ (es : List Signature). value_of es a.name.bytes) knows.functions) ∙ c.1.0) c.1.1
