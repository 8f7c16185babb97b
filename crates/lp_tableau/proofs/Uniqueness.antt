-- The chain is one, and wider numbers follow it as far as narrower ones do.
use Rattle.std.proofs.Common.{◌≡◌, ℕ, zero, suc, ◌<◌, ◌≤◌, ◌⊎◌, inl, inr, ⊎_elim, List, length, refl, sym, ap, subst, ◌∙◌, [], ◌∷◌, arith}
use Rattle.rational.specs.Lists.{at}
use Rattle.rational.specs.Rational.{ℚ, zeroℚ, ◌*ℚ◌, neg_ℚ, inverse, ◌<ℚ◌}
use Rattle.rational.proofs.Ring.{◌≺◌, ◌≐◌}
use Rattle.rational.proofs.Order.{ℚ_ordered}
use Rattle.rational.proofs.Solve.{contradiction}
use Rattle.exact_lin.specs.Reckoning.{narrow_limit, wide_limit}
use Rattle.exact_lin.specs.Limits.{CanAdd-larger, CanMultiply-larger, narrow-below_wide}
use Rattle.exact_lin.specs.Reckonings.{AreDefined, product_sum}
use Rattle.lp_tableau.specs.declared.outcome.Outcome.{Outcome}
use Rattle.lp_tableau.specs.declared.outcome.Outcome.TheVariants.{Optimal, Infeasible, Spent, Wide}
use Rattle.lp_tableau.specs.Places.{IsFirst, IsLesser}
use Rattle.lp_tableau.specs.Dictionaries.{Dictionary, row_of, constant_of, entry_of}
use Rattle.lp_tableau.specs.Pivots.{pivoted, solved, cleared, CanPivot, CanReplace}
use Rattle.lp_tableau.specs.Chains.{Chooses, Steps, Leads, HasEnded, IsUndefined, LeavesTightest, IsTighter, ratio_of, CanCompare, PivotsFirst, PivotsSecond, EndsOptimal, EndsInfeasible}
use Rattle.lp_tableau.specs.Meanings.{IsDictionary}
use Rattle.lp_tableau.specs.Outcomes.{IsOutcome}
use Rattle.lp_tableau.specs.Laws.{NarrowPivotsAreWide, NarrowChainsAreWide, ChoicesAreOne, OutcomesAreOne}
use Rattle.lp_tableau.proofs.Choices.{IsDictionary-chain}
use Rattle.lp_tableau.proofs.Turning.{LeavesFirst-one, Chooses-not_ended, EntersSecond-not_ended}

-- ---- widths
module _ (limit larger : ℕ) (h : limit ≤ larger) where
  product_sum-larger : (s y a : ℚ) → AreDefined limit (product_sum s y a) → AreDefined larger (product_sum s y a)
  product_sum-larger s y a c = (CanMultiply-larger limit larger h y a c.0, (CanAdd-larger limit larger h s (y *ℚ a) c.1.0, tt))

  CanReplace-larger : (solution : List ℚ) (j : ℕ) (row : List ℚ) → CanReplace limit solution j row → CanReplace larger solution j row
  CanReplace-larger solution j row c k l = product_sum-larger (at (cleared row j) k) (at row j) (at solution k) (c k l)

  pub CanPivot-larger : (d : Dictionary) (i j : ℕ) → CanPivot limit d i j → CanPivot larger d i j
  CanPivot-larger d i j c = record {
    leaving = λ k l. CanMultiply-larger limit larger h (neg_ℚ (inverse (at (row_of d i) j))) (at (row_of d i) k) (c.leaving k l);
    all = record { others = λ k l n. CanReplace-larger (solved (row_of d i) j) j (row_of d k) (c.all.others k l n); cost = CanReplace-larger (solved (row_of d i) j) j d.cost c.all.cost };
  }

  Chooses-larger : (d : Dictionary) (i j : ℕ) → Chooses limit d i j → Chooses larger d i j
  Chooses-larger d i j c = ⊎_elim (λ a. inl a) (λ a. inr (a.0, λ k l f. CanMultiply-larger limit larger h (constant_of d k) (inverse (neg_ℚ (entry_of d k j))) (a.1 k l f))) c

  pub Leads-larger : (d : Dictionary) (n : ℕ) (e : Dictionary) → Leads limit d n e → Leads larger d n e
  Leads-larger d zero e l = l
  Leads-larger d (suc n) e l = (l.0, Leads-larger d n l.0 l.1, record { leaving = l.2.leaving; entering = l.2.entering; chosen = Chooses-larger l.0 l.2.leaving l.2.entering l.2.chosen; defined = CanPivot-larger l.0 l.2.leaving l.2.entering l.2.defined; gives = l.2.gives })

pub narrow_pivots-wide : NarrowPivotsAreWide
narrow_pivots-wide = CanPivot-larger narrow_limit wide_limit narrow-below_wide

pub narrow_chains-wide : NarrowChainsAreWide
narrow_chains-wide = Leads-larger narrow_limit wide_limit narrow-below_wide

-- ---- one pivot
module _ (limit : ℕ) (d : Dictionary) (is : IsDictionary d) where
  least_nonbasic-one : (P : ℕ → Type 0) (j l : ℕ) → IsFirst P (IsLesser d.nonbasic) (length d.nonbasic) j → IsFirst P (IsLesser d.nonbasic) (length d.nonbasic) l → j ≡ l
  least_nonbasic-one P j l a b = is.numbered.nonbasic j l a.below b.below (omega (arith, a.first l b.below b.passes, b.first j a.below a.passes))

  IsTighter-one : (j i k : ℕ) → IsTighter d j i k → IsTighter d j k i → (IsLesser d.basic i k) × (IsLesser d.basic k i)
  IsTighter-one j i k a b = ⊎_elim
      (λ s. ⊎_elim (λ t. absurd (contradiction ℚ_ordered (ratio_of d j i ∷ ratio_of d j k ∷ []) (λ p q. p ≺ q ∷ q ≺ p ∷ []) (s, (t, tt)) refl))
      (λ t. absurd (contradiction ℚ_ordered (ratio_of d j i ∷ ratio_of d j k ∷ []) (λ p q. p ≺ q ∷ q ≐ p ∷ []) (s, (t.0, tt)) refl)) b)
      (λ s. ⊎_elim (λ t. absurd (contradiction ℚ_ordered (ratio_of d j i ∷ ratio_of d j k ∷ []) (λ p q. p ≐ q ∷ q ≺ p ∷ []) (s.0, (t, tt)) refl))
      (λ t. (s.1, t.1)) b)
      a

  tightest-one : (j i k : ℕ) → LeavesTightest d j i → LeavesTightest d j k → i ≡ k
  tightest-one j i k a b = let w = IsTighter-one j i k (a.first k b.below b.passes) (b.first i a.below a.passes) in is.numbered.basic i k a.below b.below (omega (arith, w.0, w.1))

  firsts-one : (i j k l : ℕ) → PivotsFirst d i j → PivotsFirst d k l → (i ≡ k) × (j ≡ l)
  firsts-one i j k l a b = let q : i ≡ k = LeavesFirst-one d i k is a.leaves b.leaves in
      (q, least_nonbasic-one _ j l (subst (λ (m : ℕ). IsFirst (λ c. zeroℚ <ℚ entry_of d m c) (IsLesser d.nonbasic) (length d.nonbasic) j) q a.enters) b.enters)

  seconds-one : (i j k l : ℕ) → PivotsSecond d i j → PivotsSecond d k l → (i ≡ k) × (j ≡ l)
  seconds-one i j k l a b = let q : j ≡ l = least_nonbasic-one _ j l a.enters.enters b.enters.enters in (tightest-one l i k (subst (λ (m : ℕ). LeavesTightest d m i) q a.leaves) b.leaves, q)

  pub Chooses-one : (i j k l : ℕ) → Chooses limit d i j → Chooses limit d k l → (i ≡ k) × (j ≡ l)
  Chooses-one i j k l a b = ⊎_elim
      (λ s. ⊎_elim (λ t. firsts-one i j k l s t) (λ t. absurd (t.0.enters.feasible i s.leaves.below s.leaves.passes)) b)
      (λ s. ⊎_elim (λ t. absurd (s.0.enters.feasible k t.leaves.below t.leaves.passes)) (λ t. seconds-one i j k l s.0 t.0) b)
      a

  pub Steps-one : (e f : Dictionary) → Steps limit d e → Steps limit d f → e ≡ f
  Steps-one e f a b = let w = Chooses-one a.leaving a.entering b.leaving b.entering a.chosen b.chosen in
      a.gives ∙ ap (λ (i : ℕ). pivoted d i a.entering) w.0 ∙ ap (λ (j : ℕ). pivoted d b.leaving j) w.1 ∙ sym b.gives

  -- where the chain has ended or its next pivot is undefined, no step follows
  HasEnded-stuck : (e : Dictionary) → HasEnded d → ¬ Steps limit d e
  HasEnded-stuck e h s = Chooses-not_ended limit d s.leaving s.entering is s.chosen h

  IsUndefined-stuck : (e : Dictionary) → IsUndefined limit d → ¬ Steps limit d e
  IsUndefined-stuck e u s = ⊎_elim
      (λ a. ⊎_elim (λ t. a.1.feasible s.leaving t.leaves.below t.leaves.passes) (λ t. a.2 (subst (λ (m : ℕ). CanCompare limit d m) (least_nonbasic-one _ s.entering a.0 t.0.enters.enters a.1.enters) t.1)) s.chosen)
      (λ a. let w = Chooses-one s.leaving s.entering a.0 a.1 s.chosen a.2 in a.3 (subst (λ (m : ℕ). CanPivot limit d m a.1) w.0 (subst (λ (m : ℕ). CanPivot limit d s.leaving m) w.1 s.defined)))
      u

  IsUndefined-not_ended : IsUndefined limit d → ¬ HasEnded d
  IsUndefined-not_ended u h = ⊎_elim (λ a. EntersSecond-not_ended d a.0 a.1 h) (λ a. Chooses-not_ended limit d a.0 a.1 is a.2 h) u

pub choices-one : ChoicesAreOne
choices-one limit d i j k l is a b = Chooses-one limit d is i j k l a b

-- ---- one chain
module _ (limit : ℕ) (d : Dictionary) (is : IsDictionary d) where
  Leads-one : (n : ℕ) (e f : Dictionary) → Leads limit d n e → Leads limit d n f → e ≡ f
  Leads-one zero e f a b = a ∙ sym b
  Leads-one (suc n) e f a b = Steps-one limit a.0 (IsDictionary-chain limit d n a.0 a.1 is) e f a.2 (subst (λ (g : Dictionary). Steps limit g f) (sym (Leads-one n a.0 b.0 a.1 b.1)) b.2)

  -- a longer chain passes through each place before its end, and goes on from there
  passes : (m : ℕ) (f : Dictionary) (n : ℕ) → n < m → Leads limit d m f → (e : Dictionary) × (g : Dictionary) × Leads limit d n e × Steps limit e g
  passes zero f n h l = absurd (omega arith)
  passes (suc m) f n h l = ⊎_elim (λ (q : n ≡ m). (l.0, f, subst (λ (k : ℕ). Leads limit d k l.0) (sym q) l.1, l.2)) (λ b. passes m l.0 n b l.1) (last n m h)
    where
      last : (n m : ℕ) → n < suc m → (n ≡ m) ⊎ (n < m)
      last n m h = grind arith

  -- no chain is longer than one that is stuck
  stuck-longest : (n : ℕ) (e : Dictionary) (m : ℕ) (f : Dictionary) → Leads limit d n e → ((g : Dictionary) → ¬ Steps limit e g) → Leads limit d m f → m ≤ n
  stuck-longest n e m f a s b = not_below n m (λ h. let w = passes m f n h b in s w.1 (subst (λ (x : Dictionary). Steps limit x w.1) (Leads-one n w.0 e w.2 a) w.3))
    where
      not_below : (n m : ℕ) → ¬ (n < m) → m ≤ n
      not_below n m h = grind arith

  both_stuck : (n : ℕ) (e : Dictionary) (m : ℕ) (f : Dictionary) → Leads limit d n e → ((g : Dictionary) → ¬ Steps limit e g) → Leads limit d m f → ((g : Dictionary) → ¬ Steps limit f g) → (n ≡ m) × (e ≡ f)
  both_stuck n e m f a s b t =
      let q : n ≡ m = omega (arith, stuck-longest n e m f a s b, stuck-longest m f n e b t a) in
      (q, Leads-one m e f (subst (λ (k : ℕ). Leads limit d k e) q a) b)

  reached : (n : ℕ) (e : Dictionary) → Leads limit d n e → IsDictionary e
  reached n e l = IsDictionary-chain limit d n e l is

  ended : (n : ℕ) (e : Dictionary) → Leads limit d n e → HasEnded e → (g : Dictionary) → ¬ Steps limit e g
  ended n e l h g = HasEnded-stuck limit e (reached n e l) g h

  undefined : (n : ℕ) (e : Dictionary) → Leads limit d n e → IsUndefined limit e → (g : Dictionary) → ¬ Steps limit e g
  undefined n e l h g = IsUndefined-stuck limit e (reached n e l) g h

  ended_twice : (n : ℕ) (e : Dictionary) (m : ℕ) (f : Dictionary) → Leads limit d n e → HasEnded e → Leads limit d m f → HasEnded f → e ≡ f
  ended_twice n e m f a h b k = (both_stuck n e m f a (ended n e a h) b (ended m f b k)).1

  ended_not_undefined : (n : ℕ) (e : Dictionary) (m : ℕ) (f : Dictionary) → Leads limit d n e → HasEnded e → Leads limit d m f → IsUndefined limit f → ⊥
  ended_not_undefined n e m f a h b u = let w = both_stuck n e m f a (ended n e a h) b (undefined m f b u) in IsUndefined-not_ended limit f (reached m f b) u (subst HasEnded w.1 h)

  ended_not_spent : (n : ℕ) (e : Dictionary) (m : ℕ) (f : Dictionary) → n ≤ m → Leads limit d n e → HasEnded e → Leads limit d m f → ¬ HasEnded f → ⊥
  ended_not_spent n e m f l a h b s =
      let q : n ≡ m = omega (arith, l, stuck-longest n e m f a (ended n e a h) b) in
      s (subst HasEnded (Leads-one m e f (subst (λ (k : ℕ). Leads limit d k e) q a) b) h)

  undefined_not_spent : (n : ℕ) (e : Dictionary) (m : ℕ) (f : Dictionary) → n < m → Leads limit d n e → IsUndefined limit e → Leads limit d m f → ⊥
  undefined_not_spent n e m f l a u b = absurd (omega (arith, l, stuck-longest n e m f a (undefined n e a u) b))

  optimal_not_infeasible : (n : ℕ) (e : Dictionary) (m : ℕ) (f : Dictionary) → Leads limit d n e → EndsOptimal e → Leads limit d m f → (i : ℕ) × EndsInfeasible f i → ⊥
  optimal_not_infeasible n e m f a o b h =
      let q : e ≡ f = ended_twice n e m f a (inl o) b (inr h) in
      (subst EndsOptimal q o).feasible h.0 h.1.leaves.below h.1.leaves.passes

  pub outcome-one : (budget : ℕ) (e f : Dictionary) (r s : Outcome) → IsOutcome limit d budget e r → IsOutcome limit d budget f s → (e ≡ f) × (r ≡ s)
  outcome-one budget e f Optimal Optimal a b = (ended_twice a.0.0 e b.0.0 f a.0.2 (inl a.1) b.0.2 (inl b.1), refl)
  outcome-one budget e f Optimal Infeasible a b = absurd (optimal_not_infeasible a.0.0 e b.0.0 f a.0.2 a.1 b.0.2 b.1)
  outcome-one budget e f Optimal (Spent m) a b = absurd (ended_not_spent a.0.0 e m f (omega (arith, a.0.1, b.0)) a.0.2 (inl a.1) b.1 b.2)
  outcome-one budget e f Optimal (Wide m) a b = absurd (ended_not_undefined a.0.0 e m f a.0.2 (inl a.1) b.1 b.2)
  outcome-one budget e f Infeasible Optimal a b = absurd (optimal_not_infeasible b.0.0 f a.0.0 e b.0.2 b.1 a.0.2 a.1)
  outcome-one budget e f Infeasible Infeasible a b = (ended_twice a.0.0 e b.0.0 f a.0.2 (inr a.1) b.0.2 (inr b.1), refl)
  outcome-one budget e f Infeasible (Spent m) a b = absurd (ended_not_spent a.0.0 e m f (omega (arith, a.0.1, b.0)) a.0.2 (inr a.1) b.1 b.2)
  outcome-one budget e f Infeasible (Wide m) a b = absurd (ended_not_undefined a.0.0 e m f a.0.2 (inr a.1) b.1 b.2)
  outcome-one budget e f (Spent n) Optimal a b = absurd (ended_not_spent b.0.0 f n e (omega (arith, b.0.1, a.0)) b.0.2 (inl b.1) a.1 a.2)
  outcome-one budget e f (Spent n) Infeasible a b = absurd (ended_not_spent b.0.0 f n e (omega (arith, b.0.1, a.0)) b.0.2 (inr b.1) a.1 a.2)
  outcome-one budget e f (Spent n) (Spent m) a b = (Leads-one m e f (subst (λ (k : ℕ). Leads limit d k e) (a.0 ∙ sym b.0) a.1) b.1, ap Spent (a.0 ∙ sym b.0))
  outcome-one budget e f (Spent n) (Wide m) a b = absurd (undefined_not_spent m f n e (omega (arith, b.0, a.0)) b.1 b.2 a.1)
  outcome-one budget e f (Wide n) Optimal a b = absurd (ended_not_undefined b.0.0 f n e b.0.2 (inl b.1) a.1 a.2)
  outcome-one budget e f (Wide n) Infeasible a b = absurd (ended_not_undefined b.0.0 f n e b.0.2 (inr b.1) a.1 a.2)
  outcome-one budget e f (Wide n) (Spent m) a b = absurd (undefined_not_spent n e m f (omega (arith, a.0, b.0)) a.1 a.2 b.1)
  outcome-one budget e f (Wide n) (Wide m) a b = let w = both_stuck n e m f a.1 (undefined n e a.1 a.2) b.1 (undefined m f b.1 b.2) in (w.1, ap Wide w.0)

pub outcomes-one : OutcomesAreOne
outcomes-one limit d budget e f r s is a b = outcome-one limit d is budget e f r s a b
