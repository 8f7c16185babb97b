-- The least of some ratios, found row by row.
use Rattle.std.proofs.Common.{◌≡◌, ℕ, ◌+◌, ◌<◌, ◌≤◌, ◌⊎◌, inl, inr, ⊎_elim, List, [], ◌∷◌, Option, Some, None, refl, sym, subst, ap, ◌∙◌, arith}
use Rattle.std.specs.Prelude.{MatchOption, IfSome}
use Rattle.std.specs.Option.{option_map}
use Rattle.rational.specs.Rational.{ℚ, zeroℚ, neg_ℚ, ◌<ℚ◌}
use Rattle.rational.proofs.Ring.{minus, num, ◌≺◌, ◌≐◌}
use Rattle.rational.proofs.Order.{ℚ_ordered}
use Rattle.rational.proofs.Inequalities.{lt_trans}
use Rattle.rational.proofs.Solve.{contradiction}
use Rattle.lp_tableau.specs.Places.{FindsFirst, IsLesser}
use Rattle.lp_tableau.specs.Dictionaries.{Dictionary}
use Rattle.lp_tableau.specs.Chains.{IsFalling, IsTighter, CanRatio, ratio_of}
use Rattle.lp_tableau.proofs.Writing.{last_or_before}
use Rattle.lp_tableau.proofs.Firsts.{FindsFirst-skip, FindsFirst-take, Chosen}

pub neg-not_zero : (a b : ℚ) → a <ℚ zeroℚ → b ≡ neg_ℚ a → ¬ (b ≡ zeroℚ)
neg-not_zero a b h e z = contradiction ℚ_ordered (a ∷ b ∷ []) (λ a b. a ≺ num 0 ∷ b ≐ minus a ∷ b ≐ num 0 ∷ []) (h, (e, (z, tt))) refl

module _ (d : Dictionary) (j : ℕ) where
  IsTighter-itself : (i : ℕ) → IsTighter d j i i
  IsTighter-itself i = inr (refl, omega arith)

  IsTighter-through : (i k l : ℕ) → IsTighter d j i k → IsTighter d j k l → IsTighter d j i l
  IsTighter-through i k l h m = ⊎_elim
      (λ a. ⊎_elim (λ b. inl (lt_trans _ _ _ a b)) (λ b. inl (subst (λ z. ratio_of d j i <ℚ z) b.0 a)) m)
      (λ a. ⊎_elim (λ b. inl (subst (λ z. z <ℚ ratio_of d j l) (sym a.0) b)) (λ b. inr (a.0 ∙ b.0, omega (arith, a.1, b.1))) m)
      h

  module _ {S : Type 0} (value : S → ℚ) (limit : ℕ) where
    -- the best of the first n rows with its ratio, each of their ratios being defined
    pub record AreTightest (best : Option (ℕ × S)) (n : ℕ) : Type 0 where
      pub first : FindsFirst (IsFalling d j) (IsTighter d j) n (option_map (λ b. b.0) best)
      pub ratio : IfSome best (λ b. value b.1 ≡ ratio_of d j b.0)
      pub defined : (i : ℕ) → i < n → IsFalling d j i → CanRatio limit d j i

    pub AreTightest-begin : AreTightest None 0
    AreTightest-begin = record { first = λ i h. absurd (omega arith); ratio = tt; defined = λ i h. absurd (omega arith) }

    pub AreTightest-skip : (best : Option (ℕ × S)) (n : ℕ) → ¬ IsFalling d j n → AreTightest best n → AreTightest best (n + 1)
    AreTightest-skip best n h a = record {
      first = FindsFirst-skip (IsFalling d j) (IsTighter d j) (option_map (λ b. b.0) best) n h a.first;
      ratio = a.ratio;
      defined = λ i l f. ⊎_elim (λ (e : i ≡ n). absurd (h (subst (IsFalling d j) e f))) (λ m. a.defined i m f) (last_or_before i n l);
    }

    abbrev pub Better : List ℕ → Option (ℕ × S) → ℕ → S → ℕ × S → Type 0
    Better variables best i ratio r = MatchOption best (r ≡ (i, ratio)) (λ b.
        ((r ≡ b) × ((value b.1 <ℚ value ratio) ⊎ ((value b.1 ≡ value ratio) × IsLesser variables b.0 i)))
        ⊎ ((r ≡ (i, ratio)) × ((value ratio <ℚ value b.1) ⊎ ((value ratio ≡ value b.1) × IsLesser variables i b.0))))

    tighter_place : (best : Option (ℕ × S)) (i : ℕ) (ratio : S) (r : ℕ × S) → value ratio ≡ ratio_of d j i → IfSome best (λ b. value b.1 ≡ ratio_of d j b.0)
        → Better d.basic best i ratio r → Chosen (IsTighter d j) (option_map (λ b. b.0) best) i r.0 × (value r.1 ≡ ratio_of d j r.0)
    tighter_place None i ratio r e f c = (ap (λ x. x.0) c, ap (λ x. value x.1) c ∙ e ∙ ap (λ x. ratio_of d j x.0) (sym c))
    tighter_place (Some b) i ratio r e f c = ⊎_elim
        (λ w. (inl (ap (λ x. x.0) w.0, ⊎_elim (λ l. inl (subst (λ z. z <ℚ ratio_of d j i) f (subst (λ z. value b.1 <ℚ z) e l))) (λ q. inr (sym f ∙ q.0 ∙ e, q.1)) w.1), ap (λ x. value x.1) w.0 ∙ f ∙ ap (λ x. ratio_of d j x.0) (sym w.0)))
        (λ w. (inr (ap (λ x. x.0) w.0, ⊎_elim (λ l. inl (subst (λ z. z <ℚ ratio_of d j b.0) e (subst (λ z. value ratio <ℚ z) f l))) (λ q. inr (sym e ∙ q.0 ∙ f, q.1)) w.1), ap (λ x. value x.1) w.0 ∙ e ∙ ap (λ x. ratio_of d j x.0) (sym w.0)))
        c

    pub AreTightest-take : (best : Option (ℕ × S)) (n : ℕ) (ratio : S) (r : ℕ × S) → IsFalling d j n → CanRatio limit d j n × (value ratio ≡ ratio_of d j n) → Better d.basic best n ratio r → AreTightest best n → AreTightest (Some r) (n + 1)
    AreTightest-take best n ratio r h e c a = let t = tighter_place best n ratio r e.1 a.ratio c in record {
      first = FindsFirst-take (IsFalling d j) (IsTighter d j) IsTighter-itself IsTighter-through (option_map (λ b. b.0) best) n r.0 h t.0 a.first;
      ratio = t.1;
      defined = λ i l f. ⊎_elim (λ (q : i ≡ n). subst (CanRatio limit d j) (sym q) e.0) (λ m. a.defined i m f) (last_or_before i n l);
    }

    pub AreTightest-below : (best : Option (ℕ × S)) (n m : ℕ) → n ≤ m → AreTightest best n → IfSome best (λ b. b.0 < m)
    AreTightest-below None n m h a = tt
    AreTightest-below (Some b) n m h a = omega (arith, h, a.first.below)
