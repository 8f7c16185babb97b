-- Equations of a dictionary as multipliers of the program's rows.
use Rattle.std.proofs.Common.{◌≡◌, ℕ, zero, suc, ◌+◌, ◌<◌, ◌≤◌, List, [], ◌∷◌, ◌++◌, length, map, refl, sym, ap, ap₂, subst, ◌∙◌, set, arith}
use Rattle.std.specs.List.{AllByRecursion, range_with_len}
use Rattle.std.proofs.lemmas.List.{length-map, length-set, length-replicate, get_or-map}
use Rattle.std.proofs.lemmas.List.FromFn.{length-range_with_len}
use Rattle.rational.specs.Rational.{ℚ, zeroℚ, oneℚ, ◌+ℚ◌, ◌*ℚ◌, ◌-ℚ◌, neg_ℚ, ◌≤ℚ◌}
use Rattle.rational.specs.Lists.{dot, add_list, scale_list, Nonneg, at}
use Rattle.rational.specs.Rows.{Row, sum_rows, row_at}
use Rattle.rational.proofs.Ring.{law, combine, minus, ◌⊕◌, ◌⊗◌, ◌⊖◌, ◌≐◌, ◌≼◌, ◌≺◌, num}
use Rattle.rational.proofs.Field.{ℚ_ring}
use Rattle.rational.proofs.Order.{ℚ_ordered}
use Rattle.rational.proofs.Rows.{length-sum_rows}
use Rattle.rational.proofs.Lists.{at-Nonneg, length-add_list_within, dot-add, dot-scale, at-add_list}
use Rattle.rational.proofs.Inequalities.{le_refl, not_lt_le}
use Rattle.rational.proofs.Solve.{◌⊢◌, linear}
use Rattle.cert_core.specs.Programs.{Program, named_rows, combination, Ascends, AreMultipliers, ProvesCost, ProvesEmpty}
use Rattle.cert_core.specs.Programs.{IsEven as IsEvenProgram}
use Rattle.lp_tableau.specs.Places.{variable_at}
use Rattle.lp_tableau.specs.Dictionaries.{Dictionary, initial, row_of, constant_of, basic_of, value_of}
use Rattle.lp_tableau.specs.Chains.{EndsOptimal, EndsInfeasible}
use Rattle.lp_tableau.specs.Meanings.{Holds, IsDictionary, StandsFor}
use Rattle.lp_tableau.specs.Assignments.{look_up}
use Rattle.lp_tableau.specs.Multipliers.{numbered, beside_slacks, dual_of, farkas_of}
use Rattle.lp_tableau.proofs.Rays.{zeros}
use Rattle.lp_tableau.proofs.Assigning.{assigned, Holds-assigned, values-assigned, look_up-nonneg}
use Rattle.lp_tableau.proofs.Initial.{first_values, dot-negated, cost-is, slack-is, IsEven-initial, AreNumbered-initial}
use Rattle.lp_tableau.proofs.Reindexing.{sum_over, sum_over-names, sum_over-split}

-- ---- linear functions that agree everywhere have the same factors
dot-of_zeros : (u : List ℚ) (n : ℕ) → dot u (zeros n) ≡ zeroℚ
dot-of_zeros [] n = refl
dot-of_zeros (a ∷ u) zero = refl
dot-of_zeros (a ∷ u) (suc n) = ap (λ z. a *ℚ zeroℚ +ℚ z) (dot-of_zeros u n) ∙ law ℚ_ring (a ∷ []) (λ a. a ⊗ num 0 ⊕ num 0 ≐ num 0) refl

dot-of_one : (u : List ℚ) (n k : ℕ) → k < n → dot u (set (zeros n) k oneℚ) ≡ at u k
dot-of_one [] n k h = refl
dot-of_one (a ∷ u) zero k h = absurd (omega arith)
dot-of_one (a ∷ u) (suc n) zero h = ap (λ z. a *ℚ oneℚ +ℚ z) (dot-of_zeros u n) ∙ law ℚ_ring (a ∷ []) (λ a. a ⊗ num 1 ⊕ num 0 ≐ a) refl
dot-of_one (a ∷ u) (suc n) (suc k) h = ap (λ z. a *ℚ zeroℚ +ℚ z) (dot-of_one u n k (omega arith)) ∙ law ℚ_ring (a ∷ at u k ∷ []) (λ a b. a ⊗ num 0 ⊕ b ≐ b) refl

module _ (base k bound : ℚ) (c l f : List ℚ) (n : ℕ) (same : (v : List ℚ) → length v ≡ n → base +ℚ dot c v ≡ k +ℚ dot l v +ℚ (bound -ℚ dot f v)) where
  same-constant : base -ℚ bound ≡ k
  same-constant = combine ℚ_ring (base ∷ k ∷ bound ∷ dot c (zeros n) ∷ dot l (zeros n) ∷ dot f (zeros n) ∷ [])
      (λ q k b c l f. record { from = (num 1, q ⊕ c ≐ k ⊕ l ⊕ (b ⊖ f)) ∷ (minus (num 1), c ≐ num 0) ∷ (num 1, l ≐ num 0) ∷ (minus (num 1), f ≐ num 0) ∷ []; goal = q ⊖ b ≐ k })
      (same (zeros n) (length-replicate n zeroℚ), (dot-of_zeros c n, (dot-of_zeros l n, (dot-of_zeros f n, tt)))) refl

  same-factor : (i : ℕ) → i < n → at c i +ℚ at f i ≡ at l i
  same-factor i h = combine ℚ_ring (base ∷ k ∷ bound ∷ at c i ∷ at l i ∷ at f i ∷ [])
      (λ q k b c l f. record { from = (num 1, q ⊕ c ≐ k ⊕ l ⊕ (b ⊖ f)) ∷ (minus (num 1), q ⊖ b ≐ k) ∷ []; goal = c ⊕ f ≐ l }) (
        ap (λ z. base +ℚ z) (sym (dot-of_one c n i h)) ∙ same (set (zeros n) i oneℚ) (length-set (zeros n) i oneℚ ∙ length-replicate n zeroℚ)
            ∙ ap₂ (λ s t. k +ℚ s +ℚ (bound -ℚ t)) (dot-of_one l n i h) (dot-of_one f n i h),
        (same-constant, tt),
      ) refl

-- ---- multipliers of all rows in order
numbered-multipliers : (start : ℕ) (ys : List ℚ) → map (λ (y : ℕ × ℚ). y.1) (numbered start ys) ≡ ys
numbered-multipliers start [] = refl
numbered-multipliers start (y ∷ ys) = ap (λ (u : List ℚ). y ∷ u) (numbered-multipliers (start + 1) ys)

row_at-next : (rows : List Row) (row : Row) (ys : List ℚ) (start : ℕ) → named_rows (row ∷ rows) (numbered (start + 1) ys) ≡ named_rows rows (numbered start ys)
row_at-next rows row [] start = refl
row_at-next rows row (y ∷ ys) start = ap₂ ◌∷◌ (ap (row_at (row ∷ rows)) (let e : start + 1 ≡ suc start = omega arith in e)) (row_at-next rows row ys (start + 1))

numbered-rows : (rows : List Row) (ys : List ℚ) → length ys ≡ length rows → named_rows rows (numbered 0 ys) ≡ rows
numbered-rows [] [] h = refl
numbered-rows [] (y ∷ ys) h = absurd (omega (arith, h))
numbered-rows (row ∷ rows) [] h = absurd (omega (arith, h))
numbered-rows (row ∷ rows) (y ∷ ys) h = ap (λ (u : List Row). row ∷ u) (row_at-next rows row ys 0 ∙ numbered-rows rows ys (omega (arith, h)))

combination-numbered : (rows : List Row) (ys : List ℚ) → length ys ≡ length rows → combination rows (numbered 0 ys) ≡ sum_rows ys rows
unfolding combination
combination-numbered rows ys h = ap₂ sum_rows (numbered-multipliers 0 ys) (numbered-rows rows ys h)

Ascends-numbered : (count start : ℕ) (ys : List ℚ) → start + length ys ≤ count → Ascends count start (numbered start ys)
Ascends-numbered count start [] h = tt
Ascends-numbered count start (y ∷ ys) h = ((omega arith, omega arith), Ascends-numbered count (start + 1) ys (omega arith))

numbered-nonneg : (start : ℕ) (ys : List ℚ) → ((k : ℕ) → k < length ys → zeroℚ ≤ℚ at ys k) → AllByRecursion (λ (y : ℕ × ℚ). zeroℚ ≤ℚ y.1) (numbered start ys)
numbered-nonneg start [] f = tt
numbered-nonneg start (y ∷ ys) f = (f 0 (omega arith), numbered-nonneg (start + 1) ys (λ k h. f (suc k) (omega arith)))

-- the slacks' sum is the rows' sum: bounds less factors
dot-slacks : (ys : List ℚ) (rows : List Row) (x : ℕ → ℚ) (a : ℕ) (v : List ℚ) → length ys ≡ length rows → ((i : ℕ) → i < length rows → x (a + i) ≡ neg_ℚ (dot (row_at rows i).factors v) +ℚ (row_at rows i).bound)
    → dot ys (map x (range_with_len a (length rows))) ≡ (sum_rows ys rows).bound -ℚ dot (sum_rows ys rows).factors v
dot-slacks [] [] x a v h f = law ℚ_ring [] (num 0 ≐ num 0 ⊖ num 0) refl
dot-slacks [] (row ∷ rows) x a v h f = absurd (omega (arith, h))
dot-slacks (y ∷ ys) [] x a v h f = absurd (omega (arith, h))
dot-slacks (y ∷ ys) (row ∷ rows) x a v h f =
    ap₂ (λ s t. y *ℚ s +ℚ t) (ap x (let e : a ≡ a + 0 = omega arith in e) ∙ f 0 (omega arith)) (dot-slacks ys rows x (a + 1) v (omega (arith, h)) (λ i l. ap x (let e : a + 1 + i ≡ a + suc i = omega arith in e) ∙ f (suc i) (omega arith)))
    ∙ combine ℚ_ring (y ∷ dot row.factors v ∷ row.bound ∷ (sum_rows ys rows).bound ∷ dot (sum_rows ys rows).factors v ∷ dot (add_list (scale_list y row.factors) (sum_rows ys rows).factors) v ∷ [])
    (λ y d b r s all. record { from = (num 1, all ≐ y ⊗ d ⊕ s) ∷ []; goal = y ⊗ (minus d ⊕ b) ⊕ (r ⊖ s) ≐ (y ⊗ b ⊕ r) ⊖ all })
    (dot-add (scale_list y row.factors) (sum_rows ys rows).factors v ∙ ap (λ z. z +ℚ dot (sum_rows ys rows).factors v) (dot-scale y row.factors v), tt) refl

-- ---- what an equation with factors from 0 on proves
module _ (p : Program) (even : IsEvenProgram p) (names : List ℕ) (us : List ℚ) (base k : ℚ) (c : List ℚ)
    (long : length names ≤ length us) (in_range : (i : ℕ) → i < length names → variable_at names i < length p.costs + length p.rows)
    (once : (i l : ℕ) → i < length names → l < length names → variable_at names i ≡ variable_at names l → i ≡ l)
    (says : (x : ℕ → ℚ) (z : ℚ) → Holds (initial p) x z → base +ℚ dot c (first_values p even x) ≡ k +ℚ dot us (map x names)) where
  abbrev pub multipliers : List ℚ
  multipliers = map (look_up names us zeroℚ) (range_with_len (length p.costs) (length p.rows))

  abbrev factors : List ℚ
  factors = map (look_up names us zeroℚ) (range_with_len 0 (length p.costs))

  multipliers-length : length multipliers ≡ length p.rows
  multipliers-length = length-map (range_with_len (length p.costs) (length p.rows)) (look_up names us zeroℚ) ∙ length-range_with_len (length p.costs) (length p.rows)

  module _ (v : List ℚ) (fits : length v ≡ length p.costs) where
    point : ℕ → ℚ
    point = assigned (initial p) v

    fits-initial : length v ≡ length (initial p).nonbasic
    fits-initial = fits ∙ sym (length-range_with_len 0 (length p.costs))

    holds : Holds (initial p) (assigned (initial p) v) (dot (initial p).cost (v ++ oneℚ ∷ []))
    holds = Holds-assigned (initial p) (IsEven-initial p even) (AreNumbered-initial p even) v fits-initial

    values : first_values p even (assigned (initial p) v) ≡ v
    values = values-assigned (initial p) (IsEven-initial p even) (AreNumbered-initial p even) v fits-initial

    slacks : dot multipliers (map (assigned (initial p) v) (range_with_len (length p.costs) (length p.rows))) ≡ (sum_rows multipliers p.rows).bound -ℚ dot (sum_rows multipliers p.rows).factors v
    slacks = dot-slacks multipliers p.rows (assigned (initial p) v) (length p.costs) v multipliers-length
        (λ i l. slack-is p even (assigned (initial p) v) (dot (initial p).cost (v ++ oneℚ ∷ [])) holds i l ∙ ap (λ (w : List ℚ). neg_ℚ (dot (row_at p.rows i).factors w) +ℚ (row_at p.rows i).bound) values)

    identity : base +ℚ dot c v ≡ k +ℚ dot factors v +ℚ ((sum_rows multipliers p.rows).bound -ℚ dot (sum_rows multipliers p.rows).factors v)
    identity = ap (λ (w : List ℚ). base +ℚ dot c w) (sym values) ∙ says (assigned (initial p) v) (dot (initial p).cost (v ++ oneℚ ∷ [])) holds
        ∙ ap (λ z. k +ℚ z) (sym (sum_over-names names us (length p.costs + length p.rows) (assigned (initial p) v) long in_range once)
        ∙ sum_over-split 0 (length p.costs) (length p.rows) (look_up names us zeroℚ) (assigned (initial p) v)
        ∙ ap₂ (λ s t. s +ℚ t) (ap (dot factors) values) (ap (λ (a : ℕ). sum_over a (length p.rows) (look_up names us zeroℚ) (assigned (initial p) v)) (let e : 0 + length p.costs ≡ length p.costs = omega arith in e) ∙ slacks))
        ∙ law ℚ_ring (k ∷ dot factors v ∷ (sum_rows multipliers p.rows).bound ∷ dot (sum_rows multipliers p.rows).factors v ∷ []) (λ k l b f. k ⊕ (l ⊕ (b ⊖ f)) ≐ k ⊕ l ⊕ (b ⊖ f)) refl

  pub constant-proves : base -ℚ (combination p.rows (numbered 0 multipliers)).bound ≡ k
  constant-proves = ap (λ (r : Row). base -ℚ r.bound) (combination-numbered p.rows multipliers multipliers-length)
      ∙ same-constant base k (sum_rows multipliers p.rows).bound c factors (sum_rows multipliers p.rows).factors (length p.costs) identity

  module _ (short : length c ≤ length p.costs) (nonneg : (i : ℕ) → i < length names → zeroℚ ≤ℚ at us i) where
    pub columns-prove : Nonneg (add_list c (combination p.rows (numbered 0 multipliers)).factors)
    columns-prove = subst (λ (r : Row). Nonneg (add_list c r.factors)) (sym (combination-numbered p.rows multipliers multipliers-length))
        (at-Nonneg (add_list c (sum_rows multipliers p.rows).factors) (λ i h.
        let l : length (add_list c (sum_rows multipliers p.rows).factors) ≤ length p.costs = length-add_list_within c (sum_rows multipliers p.rows).factors (length p.costs) short (length-sum_rows (length p.costs) multipliers p.rows even.even) in
        let b : i < length p.costs = omega (arith, h, l) in
        subst (λ z. zeroℚ ≤ℚ z) (sym (at-add_list c (sum_rows multipliers p.rows).factors i ∙ same-factor base k (sum_rows multipliers p.rows).bound c factors (sum_rows multipliers p.rows).factors (length p.costs) identity i b
        ∙ get_or-map (look_up names us zeroℚ) (range_with_len 0 (length p.costs)) i 0 zeroℚ (omega (arith, b, length-range_with_len 0 (length p.costs)))))
        (look_up-nonneg names us zeroℚ _ nonneg (le_refl zeroℚ))))

    pub multipliers-prove : AreMultipliers p (numbered 0 multipliers)
    multipliers-prove = record {
      ascending = Ascends-numbered (length p.rows) 0 multipliers (omega (arith, multipliers-length));
      nonneg = numbered-nonneg 0 multipliers (λ i h. subst (λ z. zeroℚ ≤ℚ z)
          (sym (get_or-map (look_up names us zeroℚ) (range_with_len (length p.costs) (length p.rows)) i 0 zeroℚ (omega (arith, h, length-map (range_with_len (length p.costs) (length p.rows)) (look_up names us zeroℚ)))))
          (look_up-nonneg names us zeroℚ _ nonneg (le_refl zeroℚ)));
    }

-- ---- the rows of an ended chain
-- what a row says, its constant apart
dot-last : (row v : List ℚ) → length row ≡ length v + 1 → dot row (v ++ oneℚ ∷ []) ≡ dot row v +ℚ at row (length v)
dot-last [] v h = absurd (omega (arith, h))
dot-last (a ∷ []) [] h = law ℚ_ring (a ∷ []) (λ a. a ⊗ num 1 ⊕ num 0 ≐ num 0 ⊕ a) refl
dot-last (a ∷ b ∷ row) [] h = absurd (omega (arith, h))
dot-last (a ∷ row) (c ∷ v) h = ap (λ z. a *ℚ c +ℚ z) (dot-last row v (omega (arith, h))) ∙ law ℚ_ring (a ∷ c ∷ dot row v ∷ at row (length v) ∷ []) (λ a c s b. a ⊗ c ⊕ (s ⊕ b) ≐ a ⊗ c ⊕ s ⊕ b) refl

says-row : (d : Dictionary) (row : List ℚ) (x : ℕ → ℚ) → length row ≡ length d.nonbasic + 1 → dot row (map x d.nonbasic ++ oneℚ ∷ []) ≡ dot row (map x d.nonbasic) +ℚ at row (length d.nonbasic)
says-row d row x h = dot-last row (map x d.nonbasic) (h ∙ ap (λ (n : ℕ). n + 1) (sym (length-map d.nonbasic x))) ∙ ap (λ (n : ℕ). dot row (map x d.nonbasic) +ℚ at row n) (length-map d.nonbasic x)

same-slacks : (p : Program) (d : Dictionary) (names : List ℕ) (us : List ℚ) → StandsFor p d → beside_slacks d names us ≡ map (look_up names us zeroℚ) (range_with_len (length p.costs) (length p.rows))
same-slacks p d names us f = ap₂ (λ (n m : ℕ). map (look_up names us zeroℚ) (range_with_len n m)) f.variables f.rows

-- the dual row proves that each solution costs at least the value
pub dual-proves : (p : Program) (d : Dictionary) → IsDictionary d → EndsOptimal d → StandsFor p d → ProvesCost p (numbered 0 (dual_of d)) (value_of d)
dual-proves p d is o f = subst (λ (ys : List ℚ). ProvesCost p (numbered 0 ys) (value_of d)) (sym (same-slacks p d d.nonbasic d.cost f)) (record {
  multipliers = multipliers-prove p f.even d.nonbasic d.cost p.base (value_of d) p.costs long in_range is.numbered.nonbasic says (omega arith) nonneg;
  columns = columns-prove p f.even d.nonbasic d.cost p.base (value_of d) p.costs long in_range is.numbered.nonbasic says (omega arith) nonneg;
  constant = subst (λ z. value_of d ≤ℚ z) (sym (constant-proves p f.even d.nonbasic d.cost p.base (value_of d) p.costs long in_range is.numbered.nonbasic says)) (le_refl (value_of d));
})
  where
    long : length d.nonbasic ≤ length d.cost
    long = omega (arith, is.even.cost)

    in_range : (i : ℕ) → i < length d.nonbasic → variable_at d.nonbasic i < length p.costs + length p.rows
    in_range i h = omega (arith, is.numbered.nonbasic_range i h, f.variables, f.rows)

    says : (x : ℕ → ℚ) (z : ℚ) → Holds (initial p) x z → p.base +ℚ dot p.costs (first_values p f.even x) ≡ value_of d +ℚ dot d.cost (map x d.nonbasic)
    says x z h = sym (cost-is p f.even x z h) ∙ ((f.solutions x z).1 h).cost ∙ says-row d d.cost x is.even.cost ∙ law ℚ_ring (dot d.cost (map x d.nonbasic) ∷ value_of d ∷ []) (λ s b. s ⊕ b ≐ b ⊕ s) refl

    nonneg : (i : ℕ) → i < length d.nonbasic → zeroℚ ≤ℚ at d.cost i
    nonneg i h = not_lt_le zeroℚ (at d.cost i) (o.cheapest i h)

-- the Farkas row proves that no point solves the program
module _ (p : Program) (d : Dictionary) (i : ℕ) (is : IsDictionary d) (o : EndsInfeasible d i) (f : StandsFor p d) where
  abbrev names : List ℕ
  names = basic_of d i ∷ d.nonbasic

  abbrev us : List ℚ
  us = oneℚ ∷ map neg_ℚ (row_of d i)

  width : length (row_of d i) ≡ length d.nonbasic + 1
  width = is.even.rows i [] o.leaves.below

  long : length names ≤ length us
  long = omega (arith, width, length-map (row_of d i) neg_ℚ)

  in_range : (k : ℕ) → k < length names → variable_at names k < length p.costs + length p.rows
  in_range zero h = omega (arith, is.numbered.basic_range i o.leaves.below, f.variables, f.rows)
  in_range (suc k) h = omega (arith, is.numbered.nonbasic_range k (omega (arith, h)), f.variables, f.rows)

  once : (k l : ℕ) → k < length names → l < length names → variable_at names k ≡ variable_at names l → k ≡ l
  once zero zero h m e = refl
  once zero (suc l) h m e = absurd (is.numbered.apart i l o.leaves.below (omega (arith, m)) e)
  once (suc k) zero h m e = absurd (is.numbered.apart i k o.leaves.below (omega (arith, h)) (sym e))
  once (suc k) (suc l) h m e = ap suc (is.numbered.nonbasic k l (omega (arith, h)) (omega (arith, m)) e)

  says : (x : ℕ → ℚ) (z : ℚ) → Holds (initial p) x z → zeroℚ +ℚ dot [] (first_values p f.even x) ≡ neg_ℚ (constant_of d i) +ℚ dot us (map x names)
  says x z h = combine ℚ_ring (x (basic_of d i) ∷ dot (row_of d i) (map x d.nonbasic) ∷ constant_of d i ∷ dot (map neg_ℚ (row_of d i)) (map x d.nonbasic) ∷ [])
      (λ y s b t. record { from = (minus (num 1), y ≐ s ⊕ b) ∷ (minus (num 1), t ≐ minus s) ∷ []; goal = num 0 ⊕ num 0 ≐ minus b ⊕ (num 1 ⊗ y ⊕ t) })
      (((f.solutions x z).1 h).rows i o.leaves.below ∙ says-row d (row_of d i) x width, (dot-negated (row_of d i) (map x d.nonbasic), tt)) refl

  nonneg : (k : ℕ) → k < length names → zeroℚ ≤ℚ at us k
  nonneg zero h = linear ℚ_ordered [] ([] ⊢ num 0 ≼ num 1) tt refl
  nonneg (suc k) h = subst (λ z. zeroℚ ≤ℚ z) (sym (get_or-map neg_ℚ (row_of d i) k zeroℚ zeroℚ (omega (arith, h, width))))
      (linear ℚ_ordered (at (row_of d i) k ∷ []) (λ a. (a ≼ num 0 ∷ []) ⊢ num 0 ≼ minus a) (not_lt_le (at (row_of d i) k) zeroℚ (o.stuck k (omega (arith, h))), tt) refl)

  pub farkas-proves : ProvesEmpty p (numbered 0 (farkas_of d i))
  farkas-proves = subst (λ (ys : List ℚ). ProvesEmpty p (numbered 0 ys)) (sym (same-slacks p d names us f)) (record {
    multipliers = multipliers-prove p f.even names us zeroℚ (neg_ℚ (constant_of d i)) [] long in_range once says (omega arith) nonneg;
    columns = columns-prove p f.even names us zeroℚ (neg_ℚ (constant_of d i)) [] long in_range once says (omega arith) nonneg;
    constant = linear ℚ_ordered ((combination p.rows (numbered 0 (map (look_up names us zeroℚ) (range_with_len (length p.costs) (length p.rows))))).bound ∷ constant_of d i ∷ []) (λ b k. (num 0 ⊖ b ≐ minus k ∷ k ≺ num 0 ∷ []) ⊢ b ≺ num 0)
        (constant-proves p f.even names us zeroℚ (neg_ℚ (constant_of d i)) [] long in_range once says, (o.leaves.passes, tt)) refl;
  })
