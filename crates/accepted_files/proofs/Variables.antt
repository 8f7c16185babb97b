-- Under a binding that agrees with the types in scope each variable stands for an object that fits its type; a list of
-- variables, no two of them the same, keeps it so under each choice of objects that fit.
use Rattle.std.proofs.Common.{◌≡◌, refl, sym, ap, ap₂, subst, append-nil, append_assoc, is_some, ◌∙◌, ℕ, ◌==◌, Bool, true, false, not, ◌&&◌, ◌||◌, if◌then◌else◌, List, [], ◌∷◌, ◌++◌, map, Some}
use Rattle.std.proofs.lemmas.Option.{same_Some}
use Rattle.std.specs.List.{list_any}
use Rattle.std.specs.Str.{bytes_eq}
use Rattle.std.proofs.lemmas.List.{map-append}
use Rattle.std.proofs.lemmas.List.Folds.{list_any-append}
use Rattle.basics.proofs.Bools.{not_true, and_left, and_right, and_in, or_false, or_false_left, or_false_right, or_left}
use Rattle.basics.proofs.Lists.{any_left, any_right, nothing_left, nothing_right}
use Rattle.task_types.specs.WellMade.{arguments_fit}
use Rattle.pddl_terms.specs.declared.trees.Group.{Group}
use Rattle.pddl_terms.specs.declared.trees.Name.{Name}
use Rattle.pddl_terms.specs.declared.faults.Kind.TheVariants as kind
use Rattle.pddl_names.specs.Declarations.{Text, Typed, typed, typed_of, type_bytes, sorts_of, among, value_of, with_new, with_first, with_firsts}
use Rattle.pddl_names.specs.Calls.{doubles, names_of, bind}
use Rattle.pddl_names.specs.Offences.{offence}
use Rattle.pddl_names.proofs.Ways.{same_text, text_itself, other_text}
use Rattle.pddl_names.proofs.Tabled.{value_of-there}
use Rattle.ground_world.specs.World.{Env, object_at, bound}
use Rattle.ground_world.specs.Bindings.{paired}

-- ---- names, each once

abbrev pub names_in : List Typed → List Text
names_in es = map {B = Text} (λ e. e.0) es

abbrev pub sorts_in : List Typed → List Text
sorts_in es = map {B = Text} (λ e. e.1) es

-- no two of them are the same
abbrev pub are_apart : List Text → Bool
are_apart [] = true
are_apart (n ∷ ns) = not (among ns n) && are_apart ns

-- ---- a binding, pair by pair

object_at-append : (found : ℕ) (a b : Env) (name : Text) → object_at found (a ++ b) name ≡ object_at (object_at found a name) b name
object_at-append found [] b name = refl
object_at-append found (x ∷ a) b name = object_at-append (if bytes_eq x.0 name then x.1 else found) a b name

kept : (es : List Typed) (os : List ℕ) (o : ℕ) (name : Text) → among (names_in es) name ≡ false → object_at o (paired (names_in es) os) name ≡ o
kept [] os o name h = refl
kept (e ∷ es) [] o name h = refl
kept (e ∷ es) (q ∷ os) o name h =
    ap (λ b. object_at (if b then q else o) (paired (names_in es) os) name) (other_text name e.0 (or_false_left (bytes_eq name e.0) (among (names_in es) name) h))
    ∙ kept es os o name (or_false_right (bytes_eq name e.0) (among (names_in es) name) h)

module _ (fitting : Text → List ℕ) where
  -- the object is one of those that fit the type
  abbrev pub Fit : Text → ℕ → Type 0
  Fit s o = list_any (λ x. x == o) (fitting s) ≡ true

  -- each variable in scope stands for an object that fits its type
  abbrev pub Agrees : Env → List Typed → Type 0
  Agrees env scope = (name s : Text) → value_of scope name ≡ Some s → Fit s (bound env name)

  pub agrees-empty : (env : Env) → Agrees env []
  agrees-empty env name s h = cc

  chosen : (es scope : List Typed) (os : List ℕ) (found : ℕ) (name s : Text) → are_apart (names_in es) ≡ true → arguments_fit os (map fitting (sorts_in es)) ≡ true
      → value_of (es ++ scope) name ≡ Some s → (value_of scope name ≡ Some s → Fit s found) → Fit s (object_at found (paired (names_in es) os) name)
  chosen [] scope os found name s a f v outer = outer v
  chosen (e ∷ es) scope [] found name s a f v outer = cc
  chosen (e ∷ es) scope (o ∷ os) found name s a f v outer = by (bytes_eq name e.0) refl (chosen es scope os found name s (and_right (not (among (names_in es) e.0)) (are_apart (names_in es)) a) rest)
    where
      first : list_any (λ x. x == o) (fitting e.1) ≡ true
      first = and_left (list_any (λ x. x == o) (fitting e.1)) (arguments_fit os (map fitting (sorts_in es))) f

      rest : arguments_fit os (map fitting (sorts_in es)) ≡ true
      rest = and_right (list_any (λ x. x == o) (fitting e.1)) (arguments_fit os (map fitting (sorts_in es))) f

      fresh : among (names_in es) e.0 ≡ false
      fresh = not_true (among (names_in es) e.0) (and_left (not (among (names_in es) e.0)) (are_apart (names_in es)) a)

      by : (b : Bool) → bytes_eq name e.0 ≡ b → (value_of (es ++ scope) name ≡ Some s → (value_of scope name ≡ Some s → Fit s found) → Fit s (object_at found (paired (names_in es) os) name))
          → Fit s (object_at (if bytes_eq e.0 name then o else found) (paired (names_in es) os) name)
      by true h onward =
          let is : Some e.1 ≡ Some s = sym (ap (λ b. if b then Some e.1 else value_of (es ++ scope) name) h) ∙ v in
          let same : e.1 ≡ s = same_Some e.1 s is in
          let here : bytes_eq e.0 name ≡ true = ap (λ n. bytes_eq e.0 n) (same_text name e.0 h) ∙ text_itself e.0 in
          let gone : among (names_in es) name ≡ false = ap (among (names_in es)) (same_text name e.0 h) ∙ fresh in
          let stays : object_at (if bytes_eq e.0 name then o else found) (paired (names_in es) os) name ≡ o =
          ap (λ b. object_at (if b then o else found) (paired (names_in es) os) name) here ∙ kept es os o name gone in
          subst (λ x. Fit s x) (sym stays) (subst (λ t. Fit t o) same first)
      by false h onward =
          let later : value_of (es ++ scope) name ≡ Some s = sym (ap (λ b. if b then Some e.1 else value_of (es ++ scope) name) h) ∙ v in
          let there : bytes_eq e.0 name ≡ false = other_text name e.0 h in
          subst (λ b. Fit s (object_at (if b then o else found) (paired (names_in es) os) name)) (sym there)
          (onward later outer)

  -- the variables of a list with the objects that were chosen for them, inside a scope
  pub agrees-inside : (es scope : List Typed) (os : List ℕ) (env : Env) → are_apart (names_in es) ≡ true → arguments_fit os (map fitting (sorts_in es)) ≡ true
      → Agrees env scope → Agrees (env ++ paired (names_in es) os) (es ++ scope)
  agrees-inside es scope os env a f outer name s v =
      subst (λ o. Fit s o) (sym (object_at-append 0 env (paired (names_in es) os) name)) (chosen es scope os (bound env name) name s a f v (outer name s))

-- ---- what the phase of names leaves of a list of variables

not_double : (b : Bool) (at : ℕ) → (if b then offence kind.Double at ∷ [] else []) ≡ [] → b ≡ false
not_double true at e = let t : offence kind.Double at ∷ [] ≡ [] = e in cc
not_double false at e = refl

module _ (n : Name) (more : List Name) (seen : List Text) (clean : doubles seen (n ∷ more) ≡ []) where
  head_new : among seen n.bytes ≡ false
  head_new = not_double (among seen n.bytes) n.at (nothing_left (if among seen n.bytes then offence kind.Double n.at ∷ [] else []) (doubles (with_new seen (n.bytes ∷ [])) more) clean)

  tail_new : doubles (seen ++ (n.bytes ∷ [])) more ≡ []
  tail_new = ap (λ b. doubles (if b then seen else seen ++ (n.bytes ∷ [])) more) (sym head_new)
      ∙ nothing_right (if among seen n.bytes then offence kind.Double n.at ∷ [] else []) (doubles (with_new seen (n.bytes ∷ [])) more) clean

abbrev texts_of : List Name → List Text
texts_of ns = map (λ n. n.bytes) ns

-- what was seen before isn't among them
fresh : (seen : List Text) (ns : List Name) (x : Text) → doubles seen ns ≡ [] → among seen x ≡ true → among (texts_of ns) x ≡ false
fresh seen [] x clean h = refl
fresh seen (n ∷ ns) x clean h = by (bytes_eq x n.bytes) refl (fresh (seen ++ (n.bytes ∷ [])) ns x (tail_new n ns seen clean) (any_left (bytes_eq x) seen (n.bytes ∷ []) h))
  where
    by : (b : Bool) → bytes_eq x n.bytes ≡ b → among (texts_of ns) x ≡ false → (b || among (texts_of ns) x) ≡ false
    by true e later = let c : true ≡ false = sym h ∙ ap (among seen) (same_text x n.bytes e) ∙ head_new n ns seen clean in cc
    by false e later = later

pub apart-clean : (seen : List Text) (ns : List Name) → doubles seen ns ≡ [] → are_apart (texts_of ns) ≡ true
apart-clean seen [] clean = refl
apart-clean seen (n ∷ ns) clean = and_in (not (among (texts_of ns) n.bytes)) (are_apart (texts_of ns))
    (ap not (fresh (seen ++ (n.bytes ∷ [])) ns n.bytes (tail_new n ns seen clean) (any_right (bytes_eq n.bytes) seen (n.bytes ∷ []) (or_left (bytes_eq n.bytes n.bytes) false (text_itself n.bytes)))))
    (apart-clean (seen ++ (n.bytes ∷ [])) ns (tail_new n ns seen clean))

-- ---- a typed list, name by name

pub names-typed : (groups : List Group) → names_in (typed groups) ≡ texts_of (names_of groups)
names-typed [] = refl
names-typed (g ∷ gs) =
    map-append (λ (e : Typed). e.0) (typed_of g) (typed gs)
    ∙ ap₂ (λ (x y : List Text). x ++ y) (own g.names) (names-typed gs)
    ∙ sym (map-append (λ (n : Name). n.bytes) g.names (names_of gs))
  where
    own : (ns : List Name) → names_in (map {B = Typed} (λ n. (n.bytes, type_bytes g.of)) ns) ≡ texts_of ns
    own [] = refl
    own (n ∷ ns) = ap (λ (l : List Text). n.bytes ∷ l) (own ns)

pub sorts-typed : (groups : List Group) → sorts_in (typed groups) ≡ sorts_of groups
sorts-typed [] = refl
sorts-typed (g ∷ gs) =
    map-append (λ (e : Typed). e.1) (typed_of g) (typed gs)
    ∙ ap₂ (λ (x y : List Text). x ++ y) (own g.names) (sorts-typed gs)
  where
    own : (ns : List Name) → sorts_in (map {B = Typed} (λ n. (n.bytes, type_bytes g.of)) ns) ≡ map (λ n. type_bytes g.of) ns
    own [] = refl
    own (n ∷ ns) = ap (λ (l : List Text). type_bytes g.of ∷ l) (own ns)

-- ---- first declarations

pub is_some-among : {V : Type 0} (es : List (Text × V)) (n : Text) → is_some (value_of es n) ≡ among (map {B = Text} (λ e. e.0) es) n
is_some-among [] n = refl
is_some-among {V} (e ∷ es) n = by (bytes_eq n e.0) (is_some-among {V = V} es n)
  where
    by : (b : Bool) → is_some (value_of es n) ≡ among (map {B = Text} (λ x. x.0) es) n → is_some (if b then Some e.1 else value_of es n) ≡ (b || among (map {B = Text} (λ x. x.0) es) n)
    by true later = refl
    by false later = later

-- names that are apart are all first
firsts-apart : (before es : List Typed) → ((n : Text) → among (names_in before) n ≡ true → among (names_in es) n ≡ false) → are_apart (names_in es) ≡ true → with_firsts before es ≡ before ++ es
firsts-apart before [] new a = sym (append-nil before)
firsts-apart before (e ∷ es) new a =
    ap (λ b. with_firsts (if b then before else before ++ (e ∷ [])) es) (is_some-among before e.0 ∙ absent)
    ∙ firsts-apart (before ++ (e ∷ [])) es later (and_right (not (among (names_in es) e.0)) (are_apart (names_in es)) a)
    ∙ append_assoc before (e ∷ []) es
  where
    absent : among (names_in before) e.0 ≡ false
    absent = by (among (names_in before) e.0) refl
      where
        by : (b : Bool) → among (names_in before) e.0 ≡ b → b ≡ false
        by true h = let c : true ≡ false = sym (or_left (bytes_eq e.0 e.0) (among (names_in es) e.0) (text_itself e.0)) ∙ new e.0 h in cc
        by false h = refl

    later : (n : Text) → among (names_in (before ++ (e ∷ []))) n ≡ true → among (names_in es) n ≡ false
    later n h = by (among (names_in before) n) refl
      where
        split : (among (names_in before) n || (bytes_eq n e.0 || false)) ≡ true
        split = sym (ap (λ l. among l n) (map-append (λ (x : Typed). x.0) before (e ∷ [])) ∙ list_any-append (bytes_eq n) (names_in before) (e.0 ∷ [])) ∙ h

        by : (b : Bool) → among (names_in before) n ≡ b → among (names_in es) n ≡ false
        by true k = or_false_right (bytes_eq n e.0) (among (names_in es) n) (new n k)
        by false k =
            let here : bytes_eq n e.0 ≡ true = sym (or_false (bytes_eq n e.0)) ∙ sym (ap (λ b. b || (bytes_eq n e.0 || false)) k) ∙ split in
            ap (among (names_in es)) (same_text n e.0 here) ∙ not_true (among (names_in es) e.0) (and_left (not (among (names_in es) e.0)) (are_apart (names_in es)) a)

pub firsts-all : (es : List Typed) → are_apart (names_in es) ≡ true → with_firsts [] es ≡ es
firsts-all es a = firsts-apart [] es (λ n h. let c : false ≡ true = h in cc) a

-- what is declared stays so where more is declared
pub firsts-keep : {V : Type 0} (es more : List (Text × V)) (n : Text) (v : V) → value_of es n ≡ Some v → value_of (with_firsts es more) n ≡ Some v
firsts-keep es [] n v h = h
firsts-keep {V} es (e ∷ more) n v h = firsts-keep (with_first es e) more n v (by (is_some (value_of es e.0)))
  where
    by : (b : Bool) → value_of (if b then es else es ++ (e ∷ [])) n ≡ Some v
    by true = h
    by false = sym (value_of-there es (e ∷ []) n v (sym h))

-- ---- a list of variables in a scope

module _ (fitting : Text → List ℕ) where
  -- under each choice of objects that fit
  pub agrees-bound : (groups : List Group) (scope : List Typed) (os : List ℕ) (env : Env) → doubles [] (names_of groups) ≡ []
      → arguments_fit os (map fitting (sorts_of groups)) ≡ true → Agrees fitting env scope → Agrees fitting (env ++ paired (names_in (typed groups)) os) (bind groups scope)
  agrees-bound groups scope os env clean f outer =
      subst (λ es. Agrees fitting (env ++ paired (names_in (typed groups)) os) (es ++ scope)) (sym (firsts-all (typed groups) apart))
      (agrees-inside fitting (typed groups) scope os env apart (ap (λ l. arguments_fit os (map fitting l)) (sorts-typed groups) ∙ f) outer)
    where
      apart : are_apart (names_in (typed groups)) ≡ true
      apart = ap are_apart (names-typed groups) ∙ apart-clean [] (names_of groups) clean
