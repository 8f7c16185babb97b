-- That the least offence of a list is its first.
use Rattle.std.proofs.Common.{◌≡◌, refl, sym, ap, subst, ℕ, ◌≤◌, ◌<◌, Bool, true, false, List, [], ◌∷◌, All, Option, Some, None, if◌then◌else◌, arith, nat_le}
use Rattle.std.proofs.lemmas.List.Elements.{All-cons}
use Rattle.std.proofs.lemmas.Bool.Decides.{nat_tests}
use Rattle.pddl_names.specs.declared.offences.Offence.{Offence}
use Rattle.pddl_names.specs.Offences.{earlier, least}
use Rattle.pddl_names.specs.Laws.{IsFirst, LeastIsFirst}

some_earlier : (x : Offence) (r : Option Offence) → ◌≡◌ {A = Option Offence} (earlier (Some x) r) None → (A : Type 0) → A
some_earlier x None h A = absurd (cc)
some_earlier x (Some y) h A = by (nat_le x.place y.place) h
  where
    by : (b : Bool) → ◌≡◌ {A = Option Offence} (if b then Some x else Some y) None → A
    by true h = absurd (cc)
    by false h = absurd (cc)

pub none_empty : (os : List Offence) → least os ≡ None → os ≡ []
none_empty [] h = refl
none_empty (x ∷ xs) h = some_earlier x (least xs) h (x ∷ xs ≡ [])

all_none : (n : ℕ) → All (λ (x : Offence). n < x.place) []
all_none n k d h = absurd (omega arith)

at_first : (x : Offence) (xs : List Offence) → All (λ y. x.place ≤ y.place) xs → IsFirst (x ∷ xs) x
at_first x xs h = record {
  before = [];
  behind = xs;
  whole = refl;
  all = All-cons (λ y. x.place ≤ y.place) x xs (omega arith) h;
  apart = all_none x.place;
}

behind_first : (x y : Offence) (xs : List Offence) → y.place < x.place → IsFirst xs y → IsFirst (x ∷ xs) y
behind_first x y xs l f = record {
  before = x ∷ f.before;
  behind = f.behind;
  whole = ap (λ t. x ∷ t) f.whole;
  all = All-cons (λ z. y.place ≤ z.place) x xs (omega arith) f.all;
  apart = All-cons (λ z. y.place < z.place) x f.before l f.apart;
}

none_behind : (x : Offence) (xs : List Offence) → xs ≡ [] → All (λ y. x.place ≤ y.place) xs
none_behind x xs e = subst (λ l. All (λ y. x.place ≤ y.place) l) (sym e) (λ k d h. absurd (omega arith))

step_by : (x y o : Offence) (xs : List Offence) (b : Bool) → nat_le x.place y.place ≡ b → IsFirst xs y → (if b then Some x else Some y) ≡ Some o → IsFirst (x ∷ xs) o
step_by x y o xs true h f e =
    let same : x ≡ o = cc in
    let below : x.place ≤ y.place = grind (arith, nat_tests) in
    subst (λ z. IsFirst (x ∷ xs) z) same (at_first x xs (λ k d l. let m = f.all k d l in omega arith))
step_by x y o xs false h f e =
    let same : y ≡ o = cc in
    let below : y.place < x.place = grind (arith, nat_tests) in
    subst (λ z. IsFirst (x ∷ xs) z) same (behind_first x y xs below f)

step : (x o : Offence) (xs : List Offence) (r : Option Offence) → least xs ≡ r → ((y : Offence) → r ≡ Some y → IsFirst xs y) → earlier (Some x) r ≡ Some o → IsFirst (x ∷ xs) o
step x o xs None h f e = let same : x ≡ o = cc in subst (λ z. IsFirst (x ∷ xs) z) same (at_first x xs (none_behind x xs (none_empty xs h)))
step x o xs (Some y) h f e = step_by x y o xs (nat_le x.place y.place) refl (f y refl) e

first_of : (os : List Offence) (o : Offence) → least os ≡ Some o → IsFirst os o
first_of [] o h = absurd (cc)
first_of (x ∷ xs) o h = step x o xs (least xs) refl (λ y e. first_of xs y e) h

pub least_is_first : (os : List Offence) (o : Offence) → LeastIsFirst os o
least_is_first os o = record { some = first_of os o; none = (none_empty os, λ e. ap least e) }
