-- The variable of least number among those that a row names, found term by term.
use Rattle.std.proofs.Common.{◌≡◌, ℕ, zero, suc, ◌+◌, ◌<◌, ◌≤◌, ◌⊎◌, ⊎_elim, List, [], ◌∷◌, ◌++◌, length, Option, Some, None, refl, sym, ap, subst, ◌∙◌, take, get_or, arith}
use Rattle.std.specs.Prelude.{IfSome}
use Rattle.std.proofs.lemmas.List.{take_more}
use Rattle.rational.specs.Rational.{ℚ, zeroℚ, ◌<ℚ◌}
use Rattle.rational.proofs.Order.{lt_irrefl}
use Rattle.exact_lin.specs.Forms.{Terms, AscendFrom, Covers, coefficient}
use Rattle.exact_lin.proofs.MergeTerms.{coefficient-here, coefficient-later}
use Rattle.lp_tableau.specs.Places.{IsFirst, FindsFirst, IsLesser}
use Rattle.lp_tableau.proofs.Firsts.{Chosen, IsLesser-itself, IsLesser-through}
use Rattle.lp_tableau.proofs.Solving.{same_or_not}
use Rattle.lp_sparse.specs.declared.rules.Direction.{Direction}
use Rattle.lp_sparse.specs.declared.rules.Direction.TheVariants.{Down, Up}
use Rattle.lp_sparse.specs.Directions.{HasDirection, Points}
use Rattle.lp_sparse.proofs.Coefficients.{coefficient-front, coefficient-back, coefficient-past}

module _ (P Q : ℕ → Type 0) (xs : List ℕ) (n : ℕ) where
  -- the same places pass
  pub FindsFirst-same : (best : Option ℕ) → ((k : ℕ) → k < n → Q k → P k) → ((k : ℕ) → k < n → P k → Q k) → FindsFirst P (IsLesser xs) n best → FindsFirst Q (IsLesser xs) n best
  FindsFirst-same None out in_ f = λ k l q. f k l (out k l q)
  FindsFirst-same (Some b) out in_ f = record { below = f.below; passes = in_ b f.below f.passes; first = λ k l q. f.first k l (out k l q) }

  -- one more place passes
  pub FindsFirst-add : (best : Option ℕ) (p r : ℕ) → p < n → Q p → ((k : ℕ) → k < n → ¬ (k ≡ p) → Q k → P k) → ((k : ℕ) → k < n → P k → Q k) → Chosen (IsLesser xs) best p r → FindsFirst P (IsLesser xs) n best → FindsFirst Q (IsLesser xs) n (Some r)
  FindsFirst-add None p r h q out in_ c f = subst (λ (x : ℕ). IsFirst Q (IsLesser xs) n x) (sym c)
      (record { below = h; passes = q; first = λ k l w. ⊎_elim (λ (e : k ≡ p). subst (IsLesser xs p) (sym e) (IsLesser-itself xs p)) (λ m. absurd (f k l (out k l m w))) (same_or_not k p) })
  FindsFirst-add (Some b) p r h q out in_ c f = ⊎_elim
      (λ w. subst (λ (x : ℕ). IsFirst Q (IsLesser xs) n x) (sym w.0) (record { below = f.below; passes = in_ b f.below f.passes; first = λ k l z. ⊎_elim (λ (e : k ≡ p). subst (IsLesser xs b) (sym e) w.1) (λ m. f.first k l (out k l m z)) (same_or_not k p) }))
      (λ w. subst (λ (x : ℕ). IsFirst Q (IsLesser xs) n x) (sym w.0) (record { below = h; passes = q; first = λ k l z. ⊎_elim (λ (e : k ≡ p). subst (IsLesser xs p) (sym e) (IsLesser-itself xs p)) (λ m. IsLesser-through xs p b k w.1 (f.first k l (out k l m z))) (same_or_not k p) }))
      c

pub FindsFirst-within : (P : ℕ → Type 0) (xs : List ℕ) (n : ℕ) (best : Option ℕ) → FindsFirst P (IsLesser xs) n best → IfSome best (λ b. b < n)
FindsFirst-within P xs n None f = tt
FindsFirst-within P xs n (Some b) f = f.below

nothing-points : (wanted : Direction) → ¬ HasDirection wanted zeroℚ
nothing-points Down h = lt_irrefl zeroℚ h
nothing-points Up h = lt_irrefl zeroℚ h

-- without terms no place passes
pub points-begin : (wanted : Direction) (xs : List ℕ) (n : ℕ) → FindsFirst (Points wanted []) (IsLesser xs) n None
points-begin wanted xs n = λ k l h. nothing-points wanted h

-- the terms before one of a row have lesser columns
terms-before : (low : ℕ) (ts : Terms) (e : ℕ) (d : ℕ × ℚ) → AscendFrom low ts → e < length ts → Covers (get_or ts e d).0 (take e ts) × ¬ ((get_or ts e d).1 ≡ zeroℚ) × (low ≤ (get_or ts e d).0)
terms-before low [] e d a h = absurd (omega arith)
terms-before low (t ∷ ts) zero d a h = (tt, a.1, a.0)
terms-before low (t ∷ ts) (suc e) d a h = let r = terms-before (t.0 + 1) ts e d a.2 (omega (arith, h)) in ((omega (arith, r.2), r.0), r.1, omega (arith, r.2, a.0))

module _ (wanted : Direction) (xs : List ℕ) (n : ℕ) (all : Terms) (e : ℕ) (t : ℕ × ℚ) (ascends : AscendFrom 0 all) (in_range : e < length all) (is : get_or all e t ≡ t) where
  before : Covers t.0 (take e all) × ¬ (t.1 ≡ zeroℚ)
  before = let r = terms-before 0 all e t ascends in_range in (subst (λ (u : ℕ × ℚ). Covers u.0 (take e all)) is r.0, subst (λ (u : ℕ × ℚ). ¬ (u.1 ≡ zeroℚ)) is r.1)

  more : take (e + 1) all ≡ take e all ++ t ∷ []
  more = take_more all e t in_range ∙ ap (λ (u : ℕ × ℚ). take e all ++ u ∷ []) is

  more-here : coefficient (take (e + 1) all) t.0 ≡ t.1
  more-here = ap (λ (ts : Terms). coefficient ts t.0) more ∙ coefficient-back t.0 t.0 (take e all) (t ∷ []) (omega arith) before.0 ∙ coefficient-here t.0 t [] refl

  more-other : (k : ℕ) → ¬ (k ≡ t.0) → coefficient (take (e + 1) all) k ≡ coefficient (take e all) k
  more-other k m = ap (λ (ts : Terms). coefficient ts k) more ∙ ⊎_elim
      (λ (l : k < t.0). let s : t.0 ≤ t.0 = omega arith in coefficient-front t.0 k (take e all) (t ∷ []) l (s, before.1, tt))
      (λ (l : t.0 < k). coefficient-back t.0 k (take e all) (t ∷ []) (omega (arith, l)) before.0 ∙ coefficient-later k t [] l ∙ sym (coefficient-past t.0 k (take e all) (omega (arith, l)) before.0))
      (apart k t.0 m)
    where
      apart : (k m : ℕ) → ¬ (k ≡ m) → (k < m) ⊎ (m < k)
      apart k m n = grind arith

  not-before : ¬ Points wanted (take e all) t.0
  not-before h = nothing-points wanted (subst (HasDirection wanted) (coefficient-past t.0 t.0 (take e all) (omega arith) before.0) h)

  into : (k : ℕ) → k < n → Points wanted (take e all) k → Points wanted (take (e + 1) all) k
  into k l h = ⊎_elim
      (λ (q : k ≡ t.0). absurd (not-before (subst (Points wanted (take e all)) q h)))
      (λ m. subst (HasDirection wanted) (sym (more-other k m)) h)
      (same_or_not k t.0)

  pub points-take : (best : Option ℕ) (r : ℕ) → t.0 < n → HasDirection wanted t.1 → Chosen (IsLesser xs) best t.0 r → FindsFirst (Points wanted (take e all)) (IsLesser xs) n best → FindsFirst (Points wanted (take (e + 1) all)) (IsLesser xs) n (Some r)
  points-take best r l h c f = FindsFirst-add (Points wanted (take e all)) (Points wanted (take (e + 1) all)) xs n best t.0 r l (subst (HasDirection wanted) (sym more-here) h) (λ k _ m q. subst (HasDirection wanted) (more-other k m) q) into c f

  pub points-skip : (best : Option ℕ) → (t.0 < n → ¬ HasDirection wanted t.1) → FindsFirst (Points wanted (take e all)) (IsLesser xs) n best → FindsFirst (Points wanted (take (e + 1) all)) (IsLesser xs) n best
  points-skip best h f = FindsFirst-same (Points wanted (take e all)) (Points wanted (take (e + 1) all)) xs n best
      (λ k l q. ⊎_elim (λ (w : k ≡ t.0). absurd (h (subst (λ (m : ℕ). m < n) w l) (subst (HasDirection wanted) (ap (coefficient (take (e + 1) all)) w ∙ more-here) q))) (λ m. subst (HasDirection wanted) (more-other k m) q) (same_or_not k t.0))
      into f
