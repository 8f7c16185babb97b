-- The first duty that isn't met, kind by kind, and of duties that are met alike.
use Rattle.std.proofs.Common.{◌≡◌, ◌∙◌, Bool, true, List, [], ◌∷◌, ◌++◌, Option, Some, None, inl, inr}
use Rattle.std.specs.Prelude.{◌↔◌, ◌⊎◌}
use Rattle.std.specs.List.{AllByRecursion}
use Rattle.std.specs.Option.{option_map}
use Rattle.basics.specs.Duties.{Duty, AllMet, IsFirstUnmet}
use Rattle.basics.proofs.Duties.{AllMet-append, IsFirstUnmet-left, IsFirstUnmet-right}
use Rattle.plan_validator.specs.Firsts.{Place, Note}
use Rattle.plan_validator.proofs.Noting.{Precedes, Says, Placed, AreAscending, duties_at, all-met, first-unmet}
use Rattle.plan_validator.specs.Judged.{Judged, first_of}

-- duties with the same faults that are met alike
abbrev pub Alike : {F : Type 0} → List (Duty F) → List (Duty F) → Type 0
Alike [] [] = Unit {0}
Alike [] (e ∷ es) = ⊥
Alike (d ∷ ds) [] = ⊥
Alike (d ∷ ds) (e ∷ es) = ((d.fault ≡ e.fault) × (d.Met ↔ e.Met)) × Alike ds es

pub Alike-append : {F : Type 0} (ds es fs gs : List (Duty F)) → Alike ds es → Alike fs gs → Alike (ds ++ fs) (es ++ gs)
Alike-append [] [] fs gs h k = k
Alike-append [] (e ∷ es) fs gs h k = absurd h
Alike-append (d ∷ ds) [] fs gs h k = absurd h
Alike-append (d ∷ ds) (e ∷ es) fs gs h k = (h.0, Alike-append ds es fs gs h.1 k)

Alike-met : {F : Type 0} (ds es : List (Duty F)) → Alike ds es → AllMet es → AllMet ds
Alike-met [] [] h m = tt
Alike-met [] (e ∷ es) h m = absurd h
Alike-met (d ∷ ds) [] h m = absurd h
Alike-met (d ∷ ds) (e ∷ es) h m = (h.0.1.1 m.0, Alike-met ds es h.1 m.1)

Alike-first : {F : Type 0} (ds es : List (Duty F)) (f : F) → Alike ds es → IsFirstUnmet es f → IsFirstUnmet ds f
Alike-first [] [] f h u = absurd u
Alike-first [] (e ∷ es) f h u = absurd h
Alike-first (d ∷ ds) [] f h u = absurd h
Alike-first (d ∷ ds) (e ∷ es) f h (inl u) = inl ((λ m. u.0 (h.0.1.0 m)), h.0.0 ∙ u.1)
Alike-first (d ∷ ds) (e ∷ es) f h (inr u) = inr (h.0.1.1 u.0, Alike-first ds es f h.1 u.1)

pub Judged-alike : {F : Type 0} (ds es : List (Duty F)) (o : Option F) → Alike ds es → Judged es o → Judged ds o
Judged-alike ds es None h j = Alike-met ds es h j
Judged-alike ds es (Some f) h j = Alike-first ds es f h j

-- one kind of duties behind another
pub Judged-both : {F : Type 0} (ds es : List (Duty F)) (o p : Option F) → Judged ds o → (AllMet ds → Judged es p) → Judged (ds ++ es) (first_of o p)
Judged-both ds es None None j k = AllMet-append ds es j (k j)
Judged-both ds es None (Some f) j k = IsFirstUnmet-right ds es f j (k j)
Judged-both ds es (Some g) p j k = IsFirstUnmet-left ds es g j

-- ---- what was noted

-- Notes tell of tests at places where, whatever places are chosen, the notes there are met exactly where the tests are.
abbrev pub Agree : {X : Type 0} → (X → Bool) → List (Placed X) → List Note → Type 1
Agree test es notes = (Q : Place → Type 0) → AllByRecursion (λ n. Q n.0 → n.1 ≡ true) notes ↔ AllByRecursion (λ e. Q e.place → test e.item ≡ true) es

unasked : {X : Type 0} (P : X → Type 0) (xs : List X) → AllByRecursion (λ x. Unit {0} → P x) xs → AllByRecursion P xs
unasked P [] h = tt
unasked P (x ∷ xs) h = (h.0 tt, unasked P xs h.1)

asked : {X : Type 0} (P : X → Type 0) (xs : List X) → AllByRecursion P xs → AllByRecursion (λ x. Unit {0} → P x) xs
asked P [] h = tt
asked P (x ∷ xs) h = ((λ u. h.0), asked P xs h.1)

module _ {X F : Type 0} (reason : X → F) (test : X → Bool) (es : List (Placed X)) (ascends : AreAscending es) (notes : List Note) (agree : Agree test es notes) where
  pub Judged-noted : (named : Place → F) → ((m : Place) → AllByRecursion (λ e. e.place ≡ m → reason e.item ≡ named m) es) → (o : Option Place) → Says None notes o → Judged (duties_at reason test es) (option_map named o)
  Judged-noted named n None s = all-met reason test es (unasked (λ e. test e.item ≡ true) es ((agree (λ p. Unit {0})).0 (asked (λ n. n.1 ≡ true) notes s.1)))
  Judged-noted named n (Some m) s = first-unmet reason test m (named m) es ascends (n m) ((agree (λ p. Precedes p m)).0 s.1)
      (λ all. unmet s.2 ((agree (λ p. p ≡ m)).1 all))
    where
      unmet : ((None ≡ Some m) ⊎ (¬ AllByRecursion (λ n. n.0 ≡ m → n.1 ≡ true) notes)) → AllByRecursion (λ n. n.0 ≡ m → n.1 ≡ true) notes → ⊥
      unmet (inl e) all = cc
      unmet (inr h) all = h all
