-- Where declared names stand among the objects and among all bindings of a predicate or a function.
use Rattle.std.proofs.Common.{◌≡◌, refl, sym, ap, subst, ◌∙◌, ℕ, ◌+◌, ◌==◌, Bool, true, false, not, ◌||◌, if◌then◌else◌, cond, List, [], ◌∷◌, ◌++◌, map, Some, arith}
use Rattle.std.proofs.lemmas.Option.{same_Some}
use Rattle.std.specs.List.{list_any, flat_map, filter, enumerate_from, position_or_len}
use Rattle.std.specs.Str.{bytes_eq}
use Rattle.basics.proofs.Bools.{and_left, and_right, or_left, or_right}
use Rattle.basics.proofs.Naturals.{same_itself, same_out}
use Rattle.basics.proofs.Lists.{any_left, any_right}
use Rattle.task_types.specs.WellMade.{arguments_fit}
use Rattle.pddl_names.specs.Declarations.{Text, Typed, Signature, among, value_of}
use Rattle.pddl_names.specs.Fitting.{fits, is_nothing}
use Rattle.pddl_names.proofs.Orders.{fits_in_order}
use Rattle.pddl_names.proofs.Ways.{same_text, text_itself}
use Rattle.ground_world.specs.World.{World}
use Rattle.ground_world.specs.Bindings.{choices}
use Rattle.ground_world.specs.FirstState.{places_fitting}
use Rattle.grounder.proofs.Columns.{bound_to}
use Rattle.accepted_files.proofs.Variables.{names_in}

-- ---- objects

abbrev numbers : List (ℕ × Typed) → List ℕ
numbers es = map (λ x. x.0) es

still_there : (b : Bool) (e : ℕ × Typed) (rest : List (ℕ × Typed)) (m : ℕ) → list_any (λ x. x == m) (numbers rest) ≡ true → list_any (λ x. x == m) (numbers (cond b (e ∷ rest) rest)) ≡ true
still_there true e rest m h = or_right (e.0 == m) (list_any (λ x. x == m) (numbers rest)) h
still_there false e rest m h = h

-- an object fits each type that its own fits
object_fits : (types : List Typed) (t : Text) (objects : List Typed) (k m : ℕ) (n s : Text) → value_of objects n ≡ Some s → fits types s t ≡ true
    → m ≡ k + position_or_len (bytes_eq n) (names_in objects) → list_any (λ x. x == m) (numbers (filter (λ x. fits types x.1.1 t) (enumerate_from k objects))) ≡ true
object_fits types t [] k m n s v f e = cc
object_fits types t (o ∷ os) k m n s v f e = by (bytes_eq n o.0) refl (λ later place. object_fits types t os (k + 1) m n s later f place)
  where
    rest : List (ℕ × Typed)
    rest = filter (λ x. fits types x.1.1 t) (enumerate_from (k + 1) os)

    by : (b : Bool) → bytes_eq n o.0 ≡ b → (value_of os n ≡ Some s → m ≡ (k + 1) + position_or_len (bytes_eq n) (names_in os) → list_any (λ x. x == m) (numbers rest) ≡ true)
        → list_any (λ x. x == m) (numbers (cond (fits types o.1 t) ((k, o) ∷ rest) rest)) ≡ true
    by true h onward =
        let own : o.1 ≡ s = same_Some o.1 s (sym (ap (λ b. if b then Some o.1 else value_of os n) h) ∙ v) in
        let keeps : fits types o.1 t ≡ true = ap (λ u. fits types u t) own ∙ f in
        let first : position_or_len (bytes_eq n) (names_in (o ∷ os)) ≡ 0 = ap (λ b. cond (not b) (1 + position_or_len (bytes_eq n) (names_in os)) 0) h in
        let place : k ≡ m = (let z : k ≡ k + 0 = omega arith in z ∙ ap (λ i. k + i) (sym first) ∙ sym e) in
        subst (λ b. list_any (λ x. x == m) (numbers (cond b ((k, o) ∷ rest) rest)) ≡ true) (sym keeps)
        (or_left (k == m) (list_any (λ x. x == m) (numbers rest)) (ap (λ i. i == m) place ∙ same_itself m))
    by false h onward =
        let later : value_of os n ≡ Some s = sym (ap (λ b. if b then Some o.1 else value_of os n) h) ∙ v in
        let next : position_or_len (bytes_eq n) (names_in (o ∷ os)) ≡ 1 + position_or_len (bytes_eq n) (names_in os) = ap (λ b. cond (not b) (1 + position_or_len (bytes_eq n) (names_in os)) 0) h in
        let place : m ≡ (k + 1) + position_or_len (bytes_eq n) (names_in os) = omega arith in
        still_there (fits types o.1 t) (k, o) rest m (onward later place)

pub declared-fits : (types objects : List Typed) (n s t : Text) → value_of objects n ≡ Some s → fits types s t ≡ true
    → list_any (λ x. x == position_or_len (bytes_eq n) (names_in objects)) (places_fitting types objects t) ≡ true
declared-fits types objects n s t v f = object_fits types t objects 0 (position_or_len (bytes_eq n) (names_in objects)) n s v f (let z : position_or_len (bytes_eq n) (names_in objects) ≡ 0 + position_or_len (bytes_eq n) (names_in objects) = omega arith in z)

weaker_filter : (q r : ℕ × Typed → Bool) → ((x : ℕ × Typed) → q x ≡ true → r x ≡ true) → (es : List (ℕ × Typed)) (m : ℕ)
    → list_any (λ x. x == m) (numbers (filter q es)) ≡ true → list_any (λ x. x == m) (numbers (filter r es)) ≡ true
weaker_filter q r w [] m h = h
weaker_filter q r w (e ∷ es) m h = by (q e) refl (r e) refl (weaker_filter q r w es m)
  where
    by : (b : Bool) → q e ≡ b → (c : Bool) → r e ≡ c → (list_any (λ x. x == m) (numbers (filter q es)) ≡ true → list_any (λ x. x == m) (numbers (filter r es)) ≡ true) → list_any (λ x. x == m) (numbers (cond c (e ∷ filter r es) (filter r es))) ≡ true
    by true k true l onward = both (e.0 == m) refl
      where
        kept : ((e.0 == m) || list_any (λ x. x == m) (numbers (filter q es))) ≡ true
        kept = sym (ap (λ b. list_any (λ x. x == m) (numbers (cond b (e ∷ filter q es) (filter q es)))) k) ∙ h

        both : (b : Bool) → (e.0 == m) ≡ b → ((e.0 == m) || list_any (λ x. x == m) (numbers (filter r es))) ≡ true
        both true s = or_left (e.0 == m) (list_any (λ x. x == m) (numbers (filter r es))) s
        both false s = or_right (e.0 == m) (list_any (λ x. x == m) (numbers (filter r es))) (onward (sym (ap (λ b. b || list_any (λ x. x == m) (numbers (filter q es))) s) ∙ kept))
    by true k false l onward = let c : true ≡ false = sym (w e k) ∙ l in cc
    by false k c l onward = still_there c e (filter r es) m (onward (sym (ap (λ b. list_any (λ x. x == m) (numbers (cond b (e ∷ filter q es) (filter q es)))) k) ∙ h))

-- what fits a type fits each type that this type fits
pub fits-onward : (types objects : List Typed) (s t : Text) (o : ℕ) → is_nothing s ≡ false → fits types s t ≡ true
    → list_any (λ x. x == o) (places_fitting types objects s) ≡ true → list_any (λ x. x == o) (places_fitting types objects t) ≡ true
fits-onward types objects s t o n f h =
    weaker_filter (λ x. fits types x.1.1 s) (λ x. fits types x.1.1 t) (λ x k. (fits_in_order types x.1.1 s t).onward n k f) (enumerate_from 0 objects) o h

-- ---- bindings

with_head : (o : ℕ) (os : List ℕ) (zs : List (List ℕ)) → among zs os ≡ true → among (map (λ rest. o ∷ rest) zs) (o ∷ os) ≡ true
with_head o os [] h = h
with_head o os (z ∷ zs) h = by (bytes_eq os z) refl (with_head o os zs)
  where
    by : (b : Bool) → bytes_eq os z ≡ b → (among zs os ≡ true → among (map (λ rest. o ∷ rest) zs) (o ∷ os) ≡ true) → (bytes_eq (o ∷ os) (o ∷ z) || among (map (λ rest. o ∷ rest) zs) (o ∷ os)) ≡ true
    by true k onward = or_left (bytes_eq (o ∷ os) (o ∷ z)) (among (map (λ rest. o ∷ rest) zs) (o ∷ os)) (ap (λ l. bytes_eq (o ∷ os) (o ∷ l)) (sym (same_text os z k)) ∙ text_itself (o ∷ os))
    by false k onward = or_right (bytes_eq (o ∷ os) (o ∷ z)) (among (map (λ rest. o ∷ rest) zs) (o ∷ os)) (onward (sym (ap (λ b. b || among zs os) k) ∙ h))

from_column : (cs : List (List ℕ)) (os : List ℕ) (o : ℕ) → among (choices cs) os ≡ true → (xs : List ℕ) → list_any (λ x. x == o) xs ≡ true
    → among (flat_map (λ x. map (λ more. x ∷ more) (choices cs)) xs) (o ∷ os) ≡ true
from_column cs os o rest [] k = k
from_column cs os o rest (x ∷ xs) k = by (x == o) refl (from_column cs os o rest xs)
  where
    own : List (List ℕ)
    own = map (λ more. x ∷ more) (choices cs)

    others : List (List ℕ)
    others = flat_map (λ y. map (λ more. y ∷ more) (choices cs)) xs

    by : (b : Bool) → (x == o) ≡ b → (list_any (λ y. y == o) xs ≡ true → among others (o ∷ os) ≡ true) → among (own ++ others) (o ∷ os) ≡ true
    by true e onward = any_left (bytes_eq (o ∷ os)) own others (subst (λ y. among (map (λ more. y ∷ more) (choices cs)) (o ∷ os) ≡ true) (sym (same_out x o e)) (with_head o os (choices cs) rest))
    by false e onward = any_right (bytes_eq (o ∷ os)) own others (onward (sym (ap (λ b. b || list_any (λ y. y == o) xs) e) ∙ k))

-- objects that fit the columns are among the choices
pub chosen-found : (cs : List (List ℕ)) (os : List ℕ) → arguments_fit os cs ≡ true → among (choices cs) os ≡ true
chosen-found [] [] h = or_left (bytes_eq [] []) false (text_itself [])
chosen-found [] (o ∷ os) h = cc
chosen-found (c ∷ cs) [] h = cc
chosen-found (c ∷ cs) (o ∷ os) h = from_column cs os o (chosen-found cs os (and_right (list_any (λ x. x == o) c) (arguments_fit os cs) h)) c (and_left (list_any (λ x. x == o) c) (arguments_fit os cs) h)

binding_found : (w : World) (sigs : List Signature) (k m : ℕ) (n : Text) (sorts : List Text) (os : List ℕ) → value_of sigs n ≡ Some sorts
    → arguments_fit os (map w.fitting sorts) ≡ true → m ≡ k + position_or_len (bytes_eq n) (map {B = Text} (λ e. e.0) sigs)
    → among (flat_map (bound_to w) (filter (λ x. true) (enumerate_from k sigs))) (m ∷ os) ≡ true
binding_found w [] k m n sorts os v f e = cc
binding_found w (g ∷ gs) k m n sorts os v f e = by (bytes_eq n g.0) refl (λ later place. binding_found w gs (k + 1) m n sorts os later f place)
  where
    names : List Text
    names = map {B = Text} (λ x. x.0) gs

    others : List (List ℕ)
    others = flat_map (bound_to w) (filter (λ x. true) (enumerate_from (k + 1) gs))

    by : (b : Bool) → bytes_eq n g.0 ≡ b → (value_of gs n ≡ Some sorts → m ≡ (k + 1) + position_or_len (bytes_eq n) names → among others (m ∷ os) ≡ true) → among (bound_to w (k, g) ++ others) (m ∷ os) ≡ true
    by true h onward =
        let own : g.1 ≡ sorts = same_Some g.1 sorts (sym (ap (λ b. if b then Some g.1 else value_of gs n) h) ∙ v) in
        let first : position_or_len (bytes_eq n) (g.0 ∷ names) ≡ 0 = ap (λ b. cond (not b) (1 + position_or_len (bytes_eq n) names) 0) h in
        let place : m ≡ k = (let z : k + 0 ≡ k = omega arith in e ∙ ap (λ i. k + i) first ∙ z) in
        let fit : arguments_fit os (map w.fitting g.1) ≡ true = ap (λ l. arguments_fit os (map w.fitting l)) own ∙ f in
        any_left (bytes_eq (m ∷ os)) (bound_to w (k, g)) others
        (subst (λ i. among (bound_to w (k, g)) (i ∷ os) ≡ true) (sym place) (with_head k os (choices (map w.fitting g.1)) (chosen-found (map w.fitting g.1) os fit)))
    by false h onward =
        let later : value_of gs n ≡ Some sorts = sym (ap (λ b. if b then Some g.1 else value_of gs n) h) ∙ v in
        let next : position_or_len (bytes_eq n) (g.0 ∷ names) ≡ 1 + position_or_len (bytes_eq n) names = ap (λ b. cond (not b) (1 + position_or_len (bytes_eq n) names) 0) h in
        let place : m ≡ (k + 1) + position_or_len (bytes_eq n) names = omega arith in
        any_right (bytes_eq (m ∷ os)) (bound_to w (k, g)) others (onward later place)

-- a declared predicate or function, with objects that fit the types of its parameters, is a binding of it
pub declared-binds : (w : World) (sigs : List Signature) (n : Text) (sorts : List Text) (os : List ℕ) → value_of sigs n ≡ Some sorts → arguments_fit os (map w.fitting sorts) ≡ true
    → among (flat_map (bound_to w) (filter (λ x. true) (enumerate_from 0 sigs))) (position_or_len (bytes_eq n) (map {B = Text} (λ e. e.0) sigs) ∷ os) ≡ true
declared-binds w sigs n sorts os v f = binding_found w sigs 0 (position_or_len (bytes_eq n) (map {B = Text} (λ e. e.0) sigs)) n sorts os v f
    (let z : position_or_len (bytes_eq n) (map {B = Text} (λ e. e.0) sigs) ≡ 0 + position_or_len (bytes_eq n) (map {B = Text} (λ e. e.0) sigs) = omega arith in z)
