-- Values that a loop writes at the places of their variables.
use Rattle.std.proofs.Common.{◌≡◌, ℕ, zero, suc, ◌+◌, ◌<◌, ◌≤◌, Bool, true, false, nat_eq, List, [], ◌∷◌, length, map, take, refl, sym, ap, ap₂, subst, ◌∙◌, set, ◌-◌, ⊎_elim, arith}
use Rattle.rational.specs.Lists.{at}
use Rattle.std.specs.Prelude.{IsTrue, if◌then◌else◌}
use Rattle.std.specs.List.{range_with_len}
use Rattle.std.proofs.lemmas.List.{length-map, same_lists, get_or_default, map-set, get_or-set_same, get_or-set_other}
use Rattle.std.proofs.lemmas.List.FromFn.{length-range_with_len, get_or-map-range_with_len}
use Rattle.rational.specs.Rational.{ℚ, zeroℚ}
use Rattle.exact_lin.specs.Ids.{nat-decide}
use Rattle.lp_tableau.specs.Places.{variable_at}
use Rattle.lp_tableau.specs.Assignments.{look_up}
use Rattle.lp_tableau.specs.Lookups.{AreLookedUp}
use Rattle.lp_tableau.proofs.Assigning.{choose-equal, choose-different}
use Rattle.lp_tableau.proofs.Solving.{same_or_not}

swap-if : (a b : Bool) (x y z : ℚ) → (IsTrue a → IsTrue b → ⊥) → (if a then x else (if b then y else z)) ≡ (if b then y else (if a then x else z))
swap-if true true x y z n = absurd (n refl refl)
swap-if true false x y z n = refl
swap-if false true x y z n = refl
swap-if false false x y z n = refl

-- one more name, which is not among those before
look_up-more : (names : List ℕ) (us : List ℚ) (k v : ℕ) → k < length names → length names ≤ length us
    → ((i l : ℕ) → i < length names → l < length names → variable_at names i ≡ variable_at names l → i ≡ l)
    → look_up (take (suc k) names) us zeroℚ v ≡ (if nat_eq (variable_at names k) v then at us k else look_up (take k names) us zeroℚ v)
look_up-more [] us k v h l f = absurd (omega (arith, h))
look_up-more (name ∷ names) [] k v h l f = absurd (omega (arith, l))
look_up-more (name ∷ names) (u ∷ us) zero v h l f = refl
look_up-more (name ∷ names) (u ∷ us) (suc k) v h l f =
    ap (λ z. if nat_eq name v then u else z) (look_up-more names us k v (omega (arith, h)) (omega (arith, l)) (λ i m a b q. let s : suc i ≡ suc m = f (suc i) (suc m) (omega (arith, a)) (omega (arith, b)) q in omega (arith, s)))
    ∙ swap-if (nat_eq name v) (nat_eq (variable_at names k) v) u (at us k) (look_up (take k names) us zeroℚ v)
    (λ s t. let q : 0 ≡ suc k = f 0 (suc k) (omega arith) h ((nat-decide name v).0 s ∙ sym ((nat-decide (variable_at names k) v).0 t)) in absurd (omega (arith, q)))

module _ {S : Type 0} (value : S → ℚ) where
  -- where all are 0 nothing has been written
  pub AreLookedUp-begin : (start : ℕ) (us : List ℚ) (out : List S) → ((w : ℕ) → w < length out → at (map value out) w ≡ zeroℚ) → AreLookedUp value start [] us out
  AreLookedUp-begin start us out f = f

  abbrev pub IsPut : ℕ → ℕ → ℚ → List S → List S → Type 0
  IsPut start variable u old new = (w : ℕ) → w < length old → at (map value new) w ≡ (if nat_eq variable (start + w) then u else at (map value old) w)

  -- one more variable's value is written
  pub AreLookedUp-next : (start : ℕ) (names : List ℕ) (us : List ℚ) (k : ℕ) (variable : ℕ) (u : ℚ) (old new : List S) → k < length names → length names ≤ length us
      → ((i l : ℕ) → i < length names → l < length names → variable_at names i ≡ variable_at names l → i ≡ l)
      → variable ≡ variable_at names k → u ≡ at us k → length new ≡ length old → IsPut start variable u old new
      → AreLookedUp value start (take k names) us old → AreLookedUp value start (take (suc k) names) us new
  AreLookedUp-next start names us k variable u old new h l f e g s p a w b =
      p w (omega (arith, b, s))
      ∙ ap₂ (λ (n : ℕ) (z : ℚ). if nat_eq n (start + w) then z else at (map value old) w) e g
      ∙ ap (λ z. if nat_eq (variable_at names k) (start + w) then at us k else z) (a w (omega (arith, b, s)))
      ∙ sym (look_up-more names us k (start + w) h l f)

  pub AreLookedUp-all : (start : ℕ) (names : List ℕ) (us : List ℚ) (n : ℕ) (out : List S) → length out ≡ n → AreLookedUp value start names us out → map value out ≡ map (look_up names us zeroℚ) (range_with_len start n)
  AreLookedUp-all start names us n out h a = same_lists (map value out) (map (look_up names us zeroℚ) (range_with_len start n)) (length-map out value ∙ h ∙ sym (length-map (range_with_len start n) (look_up names us zeroℚ) ∙ length-range_with_len start n))
      (λ w d l. get_or_default (map value out) w d zeroℚ l ∙ a w (omega (arith, l, length-map out value)) ∙ sym (get_or-map-range_with_len (look_up names us zeroℚ) start n w (start + w) d (omega (arith, l, h, length-map out value)) refl))

  -- the place of a variable is written, and no other
  pub put-is : (start variable : ℕ) (v : S) (out : List S) → start ≤ variable → variable - start < length out → IsPut start variable (value v) out (set out (variable - start) v)
  put-is start variable v out h l = λ w b. ap (λ (u : List ℚ). at u w) (map-set value out (variable - start) v) ∙ ⊎_elim
      (λ (q : w ≡ variable - start). subst (λ (n : ℕ). at (set (map value out) (variable - start) (value v)) n ≡ value v) (sym q) (get_or-set_same (map value out) (variable - start) (value v) zeroℚ (omega (arith, l, length-map out value)))
      ∙ sym (choose-equal (nat_eq variable (start + w)) (value v) (at (map value out) w) ((nat-decide variable (start + w)).1 (let e : variable ≡ start + w = omega (arith, q, h) in e))))
      (λ n. get_or-set_other (map value out) (variable - start) w (value v) zeroℚ n
      ∙ sym (choose-different (nat_eq variable (start + w)) (value v) (at (map value out) w) (λ t. n (let e : w ≡ variable - start = omega (arith, (nat-decide variable (start + w)).0 t) in e))))
      (same_or_not w (variable - start))
