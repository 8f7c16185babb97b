-- Edits of lists of ids and scalars, by the terms that these show.
use Rattle.std.proofs.Common.{◌≡◌, ◌≢◌, ℕ, suc, ◌+◌, ◌<◌, ◌≤◌, sym, ◌∙◌, ap, ap₂, subst, arith, List, ◌∷◌, ◌++◌, length, take, drop, get_or, add-one, true, false, Bool, if◌then◌else◌}
use Rattle.std.specs.Prelude.{Result, Ok, Err, OnOk, IsErrOf}
use Rattle.std.specs.List.{insert, remove, slice_set}
use Rattle.std.proofs.lemmas.List.{map-append, length-map, take-map, drop-map, set_split, get_or-map}
use Rattle.rational.specs.Rational.{ℚ, zeroℚ, ◌+ℚ◌}
use Rattle.exact_lin.specs.Forms.{Terms, shown, AscendFrom, is_zero, with_term, increased, place_in, IsGap, IsTerm}
use Rattle.exact_lin.proofs.Places.{place-within, increased-at_term, increased-at_gap, coefficient-at_gap}

pub with_term-some : (v : ℕ) (c : ℚ) (ts : Terms) → is_zero c ≡ false → with_term v c ts ≡ (v, c) ∷ ts
with_term-some v c ts e = ap (λ (b : Bool). if b then ts else ((v, c) ∷ ts)) e

pub with_term-none : (v : ℕ) (c : ℚ) (ts : Terms) → is_zero c ≡ true → with_term v c ts ≡ ts
with_term-none v c ts e = ap (λ (b : Bool). if b then ts else ((v, c) ∷ ts)) e

module _ {V S : Type 0} (number : V → ℕ) (value : S → ℚ) (old : List (V × S)) (p : ℕ) where
  abbrev show : V × S → ℕ × ℚ
  show y = (number y.0, value y.1)

  front : shown number value (take p old) ≡ take p (shown number value old)
  front = sym (take-map show p old)

  back : (n : ℕ) → shown number value (drop n old) ≡ drop n (shown number value old)
  back n = sym (drop-map show n old)

  pub shown-insert : (x : V × S) → is_zero (value x.1) ≡ false → shown number value (insert old p x) ≡ take p (shown number value old) ++ with_term (number x.0) (value x.1) (drop p (shown number value old))
  shown-insert x e = map-append show (take p old) (x ∷ drop p old) ∙ ap₂ (λ (us vs : Terms). us ++ show x ∷ vs) front (back p)
      ∙ ap (λ (us : Terms). take p (shown number value old) ++ us) (sym (with_term-some (number x.0) (value x.1) (drop p (shown number value old)) e))

  pub shown-set : (x : V × S) → p < length old → is_zero (value x.1) ≡ false → shown number value (slice_set old p x) ≡ take p (shown number value old) ++ with_term (number x.0) (value x.1) (drop (p + 1) (shown number value old))
  shown-set x h e = ap (shown number value) (set_split old p x h) ∙ map-append show (take p old) (x ∷ drop (suc p) old) ∙ ap₂ (λ (us vs : Terms). us ++ show x ∷ vs) front (back (suc p) ∙ ap (λ (n : ℕ). drop n (shown number value old)) (sym (add-one p)))
      ∙ ap (λ (us : Terms). take p (shown number value old) ++ us) (sym (with_term-some (number x.0) (value x.1) (drop (p + 1) (shown number value old)) e))

  pub shown-remove : (v : ℕ) (c : ℚ) → is_zero c ≡ true → shown number value (remove old p) ≡ take p (shown number value old) ++ with_term v c (drop (p + 1) (shown number value old))
  shown-remove v c e = map-append show (take p old) (drop (suc p) old) ∙ ap₂ (λ (us vs : Terms). us ++ vs) front (back (suc p) ∙ ap (λ (n : ℕ). drop n (shown number value old)) (sym (add-one p)))
      ∙ ap (λ (us : Terms). take p (shown number value old) ++ us) (sym (with_term-none v c (drop (p + 1) (shown number value old)) e))

  module _ (v : ℕ) (at : p ≡ place_in (shown number value old) v) where
    pub term-there : (x : V × S) → p < length old → x ≡ get_or old p x → number x.0 ≡ v → IsTerm (shown number value old) v p (value x.1)
    term-there x h is here = subst (λ (n : ℕ). IsTerm (shown number value old) v n (value x.1)) (sym at) (record {
      bound = within;
      found = (increased-at_term v zeroℚ (show x) (shown number value old) within reads here).1;
      increased_there = λ c. subst (λ (n : ℕ). increased (shown number value old) v c ≡ take place ts ++ with_term v (value x.1 +ℚ c) (drop n ts)) (sym (add-one place)) (increased-at_term v c (show x) (shown number value old) within reads here).0;
    })
      where
        ts : Terms
        ts = shown number value old

        place : ℕ
        place = place_in (shown number value old) v

        within : place_in (shown number value old) v < length (shown number value old)
        within = omega (arith, length-map old show, at, h)

        reads : get_or (shown number value old) (place_in (shown number value old) v) (show x) ≡ show x
        reads = ap (λ (n : ℕ). get_or (shown number value old) n (show x)) (sym at) ∙ get_or-map show old p x (show x) h ∙ ap show (sym is)

    gap-at : AscendFrom 0 (shown number value old) → ((x : ℕ × ℚ) → place_in (shown number value old) v < length (shown number value old) → get_or (shown number value old) (place_in (shown number value old) v) x ≡ x → x.0 ≢ v) → IsGap (shown number value old) v p
    gap-at a none = subst (λ (n : ℕ). IsGap (shown number value old) v n) (sym at) (record {
      bound = place-within (shown number value old) v;
      nothing = coefficient-at_gap 0 v (shown number value old) a none;
      increased_there = λ c. increased-at_gap v c (shown number value old) none;
    })

    pub gap-end : AscendFrom 0 (shown number value old) → length old ≤ p → IsGap (shown number value old) v p
    gap-end a h = gap-at a (λ x within _. absurd (omega (arith, length-map old show, at, h, within)))

    pub gap-there : AscendFrom 0 (shown number value old) → (x : V × S) → p < length old → x ≡ get_or old p x → number x.0 ≢ v → IsGap (shown number value old) v p
    gap-there a x h is other = gap-at a (λ y within reads here. other (ap (λ (z : ℕ × ℚ). z.0) (ap show is ∙ sym (get_or-map show old p x y h) ∙ ap (λ (n : ℕ). get_or (shown number value old) n y) at ∙ reads) ∙ here))

-- what holds anyway holds after an Ok
pub OnOk-always : {T E : Type 0} (r : Result T E) (P : Type 0) → P → OnOk r P
OnOk-always (Ok x) P p = p
OnOk-always (Err e) P p = tt

pub OnOk-equal : {T E A : Type 0} (r : Result T E) (x y z : A) → y ≡ z → OnOk r (x ≡ y) → OnOk r (x ≡ z)
OnOk-equal (Ok w) x y z e f = f ∙ e
OnOk-equal (Err w) x y z e f = tt

-- a fault is the same fault in another result
error_of : {T E : Type 0} → Result T E → E → E
error_of (Ok x) d = d
error_of (Err e) d = e

pub IsErrOf-other : {T U E : Type 0} (a b : E) → IsErrOf {T = T} (Err a) b → IsErrOf {T = U} (Err a) b
unfolding error_of
IsErrOf-other {T} {U} {E} a b e = ap (λ (x : E). Err x) (ap (λ (r : Result T E). error_of r a) e)
