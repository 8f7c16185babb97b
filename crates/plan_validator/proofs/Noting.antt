-- The least of the places noted, and the first of the duties of those places that isn't met.
use Rattle.std.proofs.Common.{◌≡◌, refl, sym, ap, subst, ◌∙◌, ℕ, ◌<◌, Bool, true, false, ◌&&◌, ◌||◌, if◌then◌else◌, List, [], ◌∷◌, map, Option, Some, None, inl, inr, arith}
use Rattle.std.specs.Prelude.{◌⊎◌, ◌==◌, nat_lt, fold}
use Rattle.std.specs.List.{AllByRecursion}
use native.Mathlib.Decide.{dec_lt}
use Rattle.basics.specs.Duties.{Duty, duty, AllMet, IsFirstUnmet}
use Rattle.basics.proofs.Naturals.{same_out, same_in, lt_in, lt_out}
use Rattle.plan_validator.specs.Firsts.{Place, Note, comes_before, lesser, noted, all_noted}

-- ---- the order of places

abbrev pub Precedes : Place → Place → Type 0
Precedes p q = (p.0 < q.0) ⊎ ((p.0 ≡ q.0) × (p.1 < q.1))

pub precedes_out : (p q : Place) → comes_before p q ≡ true → Precedes p q
precedes_out p q h = go (nat_lt p.0 q.0) (p.0 == q.0) (nat_lt p.1 q.1) refl refl refl h
  where
    go : (a b c : Bool) → nat_lt p.0 q.0 ≡ a → (p.0 == q.0) ≡ b → nat_lt p.1 q.1 ≡ c → (a || (b && c)) ≡ true → Precedes p q
    go true b c e f g h = inl (lt_out p.0 q.0 e)
    go false true true e f g h = inr (same_out p.0 q.0 f, lt_out p.1 q.1 g)
    go false true false e f g h = let x : false ≡ true = h in cc
    go false false c e f g h = let x : false ≡ true = h in cc

pub precedes_in : (p q : Place) → Precedes p q → comes_before p q ≡ true
precedes_in p q (inl h) = ap (λ b. b || (p.0 == q.0 && nat_lt p.1 q.1)) (lt_in p.0 q.0 h)
precedes_in p q (inr h) = or_in (nat_lt p.0 q.0) (p.0 == q.0) (nat_lt p.1 q.1) (same_in p.0 q.0 h.0) (lt_in p.1 q.1 h.1)
  where
    or_in : (a b c : Bool) → b ≡ true → c ≡ true → (a || (b && c)) ≡ true
    or_in true b c e f = refl
    or_in false b c e f = rw (e, f) refl

pub precedes-itself : (p : Place) → Precedes p p → ⊥
precedes-itself p (inl h) = omega (arith, h)
precedes-itself p (inr h) = omega (arith, h.1)

precedes-precedes : (p q r : Place) → Precedes p q → Precedes q r → Precedes p r
precedes-precedes p q r (inl h) (inl k) = inl (omega (arith, h, k))
precedes-precedes p q r (inl h) (inr k) = inl (omega (arith, h, k.0))
precedes-precedes p q r (inr h) (inl k) = inl (omega (arith, h.0, k))
precedes-precedes p q r (inr h) (inr k) = inr (h.0 ∙ k.0, omega (arith, h.1, k.1))

-- of two places one precedes the other, or they are one
pub data Compared (p q : Place) : Type 0 where
  before : Precedes p q → Compared p q
  same : p ≡ q → Compared p q
  after : Precedes q p → Compared p q

pub compared : (p q : Place) → Compared p q
compared p q = elim (dec_lt p.0 q.0) [
  | yes a ↦ before (inl a)
  | no a ↦ elim (dec_lt q.0 p.0) [
    | yes b ↦ after (inl b)
    | no b ↦ elim (dec_lt p.1 q.1) [
      | yes c ↦ before (inr (let e : p.0 ≡ q.0 = omega (arith, a, b) in e, c))
      | no c ↦ elim (dec_lt q.1 p.1) [
        | yes d ↦ after (inr (let e : q.0 ≡ p.0 = omega (arith, a, b) in e, d))
        | no d ↦ same (both (let e : p.0 ≡ q.0 = omega (arith, a, b) in e) (let e : p.1 ≡ q.1 = omega (arith, c, d) in e))
      ]
    ]
  ]
]
  where
    both : p.0 ≡ q.0 → p.1 ≡ q.1 → p ≡ q
    both e f = ap (λ (a : ℕ). let r : Place = (a, p.1) in r) e ∙ ap (λ (b : ℕ). let r : Place = (q.0, b) in r) f

-- ---- the least of what was noted

-- a place noted before, if there is one, doesn't precede m
abbrev NotBefore : Option Place → Place → Type 0
NotBefore None m = Unit {0}
NotBefore (Some q) m = ¬ Precedes q m

-- What the least place tells of the notes: none where all are met; else all that precede it are met, and it is that of
-- before or one of its own isn't met.
abbrev pub Says : Option Place → List Note → Option Place → Type 0
Says o notes None = (o ≡ None) × AllByRecursion (λ n. n.1 ≡ true) notes
Says o notes (Some m) = NotBefore o m × AllByRecursion (λ n. Precedes n.0 m → n.1 ≡ true) notes × ((o ≡ Some m) ⊎ (¬ AllByRecursion (λ n. n.0 ≡ m → n.1 ≡ true) notes))

passed-on : (o : Option Place) (n : Note) (ns : List Note) (p : Option Place) → n.1 ≡ true → Says o ns p → Says o (n ∷ ns) p
passed-on o n ns None e s = (s.0, (e, s.1))
passed-on o n ns (Some m) e s = (s.0, ((λ _. e), s.1), third s.2)
  where
    third : ((o ≡ Some m) ⊎ (¬ AllByRecursion (λ n. n.0 ≡ m → n.1 ≡ true) ns)) → (o ≡ Some m) ⊎ (¬ AllByRecursion (λ n. n.0 ≡ m → n.1 ≡ true) (n ∷ ns))
    third (inl f) = inl f
    third (inr h) = inr (λ all. h all.1)

-- a failed note is kept, where none noted before is as low
noted-here : (o : Option Place) (n : Note) (ns : List Note) (p : Option Place) → ((m : Place) → ¬ Precedes n.0 m → NotBefore o m) → n.1 ≡ false → Says (Some n.0) ns p → Says o (n ∷ ns) p
noted-here o n ns None low e s = let x : Some n.0 ≡ None = s.0 in cc
noted-here o n ns (Some m) low e s = (low m s.0, ((λ h. absurd (s.0 h)), s.1), third s.2)
  where
    third : ((Some n.0 ≡ Some m) ⊎ (¬ AllByRecursion (λ n. n.0 ≡ m → n.1 ≡ true) ns)) → (o ≡ Some m) ⊎ (¬ AllByRecursion (λ n. n.0 ≡ m → n.1 ≡ true) (n ∷ ns))
    third (inl f) = inr (λ all. let t : n.1 ≡ true = all.0 (inside n.0 m f) in let x : false ≡ true = sym e ∙ t in cc)
      where
        inside : (p q : Place) → Some p ≡ Some q → p ≡ q
        inside p q f = ap (λ (o : Option Place). got o p) f
          where
            got : Option Place → Place → Place
            got None d = d
            got (Some x) d = x
    third (inr h) = inr (λ all. h all.1)

-- it is dropped, where one noted before is as low
noted-before : (q : Place) (n : Note) (ns : List Note) (p : Option Place) → ¬ Precedes n.0 q → n.1 ≡ false → Says (Some q) ns p → Says (Some q) (n ∷ ns) p
noted-before q n ns None high e s = let x : Some q ≡ None = s.0 in cc
noted-before q n ns (Some m) high e s = (s.0, ((λ h. absurd (not_low h (compared q m))), s.1), third s.2)
  where
    not_low : Precedes n.0 m → Compared q m → ⊥
    not_low h (before k) = s.0 k
    not_low h (same k) = high (subst (λ (r : Place). Precedes n.0 r) (sym k) h)
    not_low h (after k) = high (precedes-precedes n.0 m q h k)

    third : ((Some q ≡ Some m) ⊎ (¬ AllByRecursion (λ n. n.0 ≡ m → n.1 ≡ true) ns)) → (Some q ≡ Some m) ⊎ (¬ AllByRecursion (λ n. n.0 ≡ m → n.1 ≡ true) (n ∷ ns))
    third (inl f) = inl f
    third (inr h) = inr (λ all. h all.1)

pub least-says : (o : Option Place) (notes : List Note) → Says o notes (all_noted o notes)
least-says None [] = (refl, tt)
least-says (Some m) [] = (precedes-itself m, tt, inl refl)
least-says o (n ∷ ns) = go n.1 refl (λ (q : Option Place). least-says q ns)
  where
    kept : (o : Option Place) → n.1 ≡ false → ((q : Option Place) → Says q ns (fold noted q ns)) → Says o (n ∷ ns) (fold noted (Some (lesser o n.0)) ns)
    kept None e r = noted-here None n ns (fold noted (Some n.0) ns) (λ m k. tt) e (r (Some n.0))
    kept (Some q) e r = low (comes_before n.0 q) refl
      where
        low : (b : Bool) → comes_before n.0 q ≡ b → Says (Some q) (n ∷ ns) (fold noted (Some (if b then n.0 else q)) ns)
        low true f = noted-here (Some q) n ns (fold noted (Some n.0) ns) (λ m k h. k (precedes-precedes n.0 q m (precedes_out n.0 q f) h)) e (r (Some n.0))
        low false f = noted-before q n ns (fold noted (Some q) ns) (λ h. let x : false ≡ true = sym f ∙ precedes_in n.0 q h in cc) e (r (Some q))

    go : (b : Bool) → n.1 ≡ b → ((q : Option Place) → Says q ns (fold noted q ns)) → Says o (n ∷ ns) (fold noted (if b then o else Some (lesser o n.0)) ns)
    go true e r = passed-on o n ns (fold noted o ns) e (r o)
    go false e r = kept o e r

-- ---- the first duty that isn't met, of duties at ascending places

-- an element, the place of its duty, and whether that is met
pub record Placed (X : Type 0) : Type 0 where
  pub place : Place
  pub item : X

abbrev pub AreAscending : {X : Type 0} → List (Placed X) → Type 0
AreAscending [] = Unit {0}
AreAscending (e ∷ es) = AllByRecursion (λ d. Precedes e.place d.place) es × AreAscending es

module _ {X F : Type 0} (reason : X → F) (test : X → Bool) where
  abbrev pub duties_at : List (Placed X) → List (Duty F)
  duties_at es = map (λ e. duty (reason e.item) (test e.item)) es

  pub all-met : (es : List (Placed X)) → AllByRecursion (λ e. test e.item ≡ true) es → AllMet (duties_at es)
  all-met [] h = tt
  all-met (e ∷ es) h = (h.0, all-met es h.1)

  module _ (m : Place) (r : F) where
    none-there : (p : Place) → ¬ Precedes p m → (es : List (Placed X)) → AllByRecursion (λ d. Precedes p d.place) es → AllByRecursion (λ d. d.place ≡ m → test d.item ≡ true) es
    none-there p k [] h = tt
    none-there p k (e ∷ es) h = ((λ q. absurd (k (subst (λ (x : Place). Precedes p x) q h.0))), none-there p k es h.1)

    pub first-unmet : (es : List (Placed X)) → AreAscending es → AllByRecursion (λ e. e.place ≡ m → reason e.item ≡ r) es
        → AllByRecursion (λ e. Precedes e.place m → test e.item ≡ true) es → (¬ AllByRecursion (λ e. e.place ≡ m → test e.item ≡ true) es) → IsFirstUnmet (duties_at es) r
    first-unmet [] a n b h = absurd (h tt)
    first-unmet (e ∷ es) a n b h = go (compared e.place m) (λ (k : ¬ AllByRecursion (λ e. e.place ≡ m → test e.item ≡ true) es). first-unmet es a.1 n.1 b.1 k)
      where
        -- a duty at the place itself, behind which there is none
        at_place : e.place ≡ m → (t : Bool) → test e.item ≡ t → IsFirstUnmet (duties_at (e ∷ es)) r
        at_place q true f = absurd (h ((λ _. f), none-there e.place (λ k. precedes-itself m (subst (λ (x : Place). Precedes x m) q k)) es a.0))
        at_place q false f = inl ((λ t. let x : false ≡ true = sym f ∙ t in cc), n.0 q)

        go : Compared e.place m → ((¬ AllByRecursion (λ e. e.place ≡ m → test e.item ≡ true) es) → IsFirstUnmet (duties_at es) r) → IsFirstUnmet (duties_at (e ∷ es)) r
        go (before k) s = inr (b.0 k, s (λ all. h ((λ _. b.0 k), all)))
        go (same q) s = at_place q (test e.item) refl
        go (after k) s = absurd (h ((λ q. absurd (precedes-itself m (subst (λ (x : Place). Precedes m x) q k))), none-there e.place (λ j. precedes-itself m (precedes-precedes m e.place m k j)) es a.0))
