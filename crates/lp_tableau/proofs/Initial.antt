-- The first dictionary of a program says what the program says.
use Rattle.std.proofs.Common.{◌≡◌, ℕ, ◌+◌, ◌<◌, List, [], ◌∷◌, ◌++◌, length, map, refl, sym, ap, subst, ◌∙◌, get_or, arith}
use Rattle.std.specs.Prelude.{Vec}
use Rattle.std.specs.List.{range_with_len}
use Rattle.std.proofs.lemmas.List.{length-map, get_or-map, length-append, places}
use Rattle.std.proofs.lemmas.List.FromFn.{length-range_with_len, get_or-range_with_len}
use Rattle.rational.specs.Rational.{ℚ, oneℚ, ◌+ℚ◌, ◌*ℚ◌, neg_ℚ, ◌≤ℚ◌}
use Rattle.rational.specs.Lists.{dot, Nonneg}
use Rattle.rational.specs.Rows.{Row, row_at, no_row}
use Rattle.rational.proofs.Ring.{law, minus, ◌⊕◌, ◌⊗◌, ◌≐◌, ◌≼◌, num}
use Rattle.rational.proofs.Field.{ℚ_ring}
use Rattle.rational.proofs.Order.{ℚ_ordered}
use Rattle.rational.proofs.Solve.{◌⊢◌, linear}
use Rattle.cert_core.specs.Programs.{Program, Solves, cost_at, CostsAtLeast}
use Rattle.cert_core.specs.Programs.{IsEven as IsEvenProgram}
use Rattle.rational.proofs.Rows.{at-Meets, row_at-length}
use Rattle.lp_tableau.specs.declared.tableau.Tableau.{Tableau}
use Rattle.lp_tableau.specs.Dictionaries.{IsEven, initial, slack_row, basic_of, nonbasic_of}
use Rattle.lp_tableau.specs.Meanings.{Holds, IsNonneg, AreNumbered, IsDictionary, StandsFor}
use Rattle.lp_tableau.specs.RowLists.{HaveWidth}
use Rattle.lp_tableau.specs.Tableaus.{AreEven, dictionary_of}

-- the code's rows are even where the dictionary's are
pub AreEven-from : {S : Type 0} (value : S → ℚ) (t : Tableau S) → IsEven (dictionary_of value t) → AreEven t
AreEven-from {S} value t e = record {
  rows = λ k d h. sym (length-map (get_or t.rows.items k d).items value) ∙ ap length (sym (get_or-map (λ row. map value row.items) t.rows.items k d [] h)) ∙ e.rows k [] (omega (arith, h, length-map t.rows.items (λ row. map value row.items)));
  cost = sym (length-map t.cost.items value) ∙ e.cost;
  basic = e.basic ∙ length-map t.rows.items (λ row. map value row.items);
}

length-slack_row : (r : Row) → length (slack_row r) ≡ length r.factors + 1
length-slack_row r = length-append (map neg_ℚ r.factors) (r.bound ∷ []) ∙ ap (λ (n : ℕ). n + 1) (length-map r.factors neg_ℚ)

slack_row-at : (rows : List Row) (i : ℕ) (e : List ℚ) → i < length rows → get_or (map slack_row rows) i e ≡ slack_row (row_at rows i)
slack_row-at rows i e h = get_or-map slack_row rows i no_row e h

-- the constant stands beside a 1
dot-with_one : (u v : List ℚ) (b : ℚ) → length u ≡ length v → dot (u ++ b ∷ []) (v ++ oneℚ ∷ []) ≡ dot u v +ℚ b
dot-with_one [] [] b h = law ℚ_ring (b ∷ []) (λ b. b ⊗ num 1 ⊕ num 0 ≐ num 0 ⊕ b) refl
dot-with_one [] (c ∷ v) b h = absurd (omega (arith, h))
dot-with_one (a ∷ u) [] b h = absurd (omega (arith, h))
dot-with_one (a ∷ u) (c ∷ v) b h = ap (λ z. a *ℚ c +ℚ z) (dot-with_one u v b (omega (arith, h))) ∙ law ℚ_ring (a ∷ c ∷ b ∷ dot u v ∷ []) (λ a c b s. a ⊗ c ⊕ (s ⊕ b) ≐ a ⊗ c ⊕ s ⊕ b) refl

pub dot-negated : (u v : List ℚ) → dot (map neg_ℚ u) v ≡ neg_ℚ (dot u v)
dot-negated [] v = law ℚ_ring [] (num 0 ≐ minus (num 0)) refl
dot-negated (a ∷ u) [] = law ℚ_ring [] (num 0 ≐ minus (num 0)) refl
dot-negated (a ∷ u) (c ∷ v) = ap (λ z. neg_ℚ a *ℚ c +ℚ z) (dot-negated u v) ∙ law ℚ_ring (a ∷ c ∷ dot u v ∷ []) (λ a c s. minus a ⊗ c ⊕ minus s ≐ minus (a ⊗ c ⊕ s)) refl

map-nonneg : (x : ℕ → ℚ) (vs : List ℕ) → IsNonneg x → Nonneg (map x vs)
map-nonneg x [] h = tt
map-nonneg x (v ∷ vs) h = (h v, map-nonneg x vs h)

module _ (p : Program) (even : IsEvenProgram p) where
  nonbasic-length : length (initial p).nonbasic ≡ length p.costs
  nonbasic-length = length-range_with_len 0 (length p.costs)

  rows-length : length (initial p).rows ≡ length p.rows
  rows-length = length-map p.rows slack_row

  pub IsEven-initial : IsEven (initial p)
  IsEven-initial = record {
    rows = λ k d h. ap length (slack_row-at p.rows k d (omega (arith, rows-length))) ∙ length-slack_row (row_at p.rows k) ∙ ap (λ (n : ℕ). n + 1) (row_at-length (length p.costs) p.rows k (omega (arith, rows-length)) even.even ∙ sym nonbasic-length);
    cost = length-append p.costs (p.base ∷ []) ∙ ap (λ (n : ℕ). n + 1) (sym nonbasic-length);
    basic = length-range_with_len (length p.costs) (length p.rows) ∙ sym rows-length;
  }

  basic-is : (i : ℕ) → i < length (initial p).rows → basic_of (initial p) i ≡ length p.costs + i
  basic-is i h = get_or-range_with_len (length p.costs) (length p.rows) i 0 (omega (arith, rows-length))

  nonbasic-is : (j : ℕ) → j < length (initial p).nonbasic → nonbasic_of (initial p) j ≡ j
  nonbasic-is j h = get_or-range_with_len 0 (length p.costs) j 0 (omega (arith, nonbasic-length)) ∙ (let e : 0 + j ≡ j = omega arith in e)

  pub AreNumbered-initial : AreNumbered (initial p)
  AreNumbered-initial = record {
    basic = λ i k h l e. omega (arith, e, basic-is i h, basic-is k l);
    nonbasic = λ j k h l e. omega (arith, e, nonbasic-is j h, nonbasic-is k l);
    apart = λ i j h l e. let e2 : length p.costs + i ≡ j = sym (basic-is i h) ∙ e ∙ nonbasic-is j l in absurd (omega (arith, e2, l, nonbasic-length));
    basic_range = λ i h. omega (arith, basic-is i h, h, nonbasic-length);
    nonbasic_range = λ j h. omega (arith, nonbasic-is j h, h);
  }

  -- the first variables' values of a point
  abbrev pub first_values : (ℕ → ℚ) → List ℚ
  first_values x = map x (range_with_len 0 (length p.costs))

  first_values-length : (x : ℕ → ℚ) → length (first_values x) ≡ length p.costs
  first_values-length x = length-map (range_with_len 0 (length p.costs)) x ∙ length-range_with_len 0 (length p.costs)

  module _ (x : ℕ → ℚ) (z : ℚ) (h : Holds (initial p) x z) where
    -- a slack is the bound less the row's sum
    pub slack-is : (i : ℕ) → i < length p.rows → x (length p.costs + i) ≡ neg_ℚ (dot (row_at p.rows i).factors (first_values x)) +ℚ (row_at p.rows i).bound
    slack-is i l = ap x (sym (basic-is i (omega (arith, rows-length)))) ∙ h.rows i (omega (arith, rows-length)) ∙ ap (λ u. dot u (first_values x ++ oneℚ ∷ [])) (slack_row-at p.rows i [] l)
        ∙ dot-with_one (map neg_ℚ (row_at p.rows i).factors) (first_values x) (row_at p.rows i).bound (length-map (row_at p.rows i).factors neg_ℚ ∙ row_at-length (length p.costs) p.rows i l even.even ∙ sym (first_values-length x))
        ∙ ap (λ w. w +ℚ (row_at p.rows i).bound) (dot-negated (row_at p.rows i).factors (first_values x))

    -- the cost is that of the program
    pub cost-is : z ≡ cost_at p (first_values x)
    cost-is = h.cost ∙ dot-with_one p.costs (first_values x) p.base (sym (first_values-length x)) ∙ law ℚ_ring (dot p.costs (first_values x) ∷ p.base ∷ []) (λ s b. s ⊕ b ≐ b ⊕ s) refl

    -- a point from 0 on that meets the equations solves the program
    pub initial-solves : IsNonneg x → Solves p (first_values x)
    initial-solves n = record {
      one_each = first_values-length x;
      nonneg = map-nonneg x (range_with_len 0 (length p.costs)) n;
      meets = at-Meets (first_values x) p.rows (λ i l. linear ℚ_ordered (x (length p.costs + i) ∷ dot (row_at p.rows i).factors (first_values x) ∷ (row_at p.rows i).bound ∷ [])
          (λ s d b. (num 0 ≼ s ∷ s ≐ minus d ⊕ b ∷ []) ⊢ d ≼ b) (n (length p.costs + i), (slack-is i l, tt)) refl);
    }

  pub IsDictionary-initial : (q : ℚ) × CostsAtLeast p q → IsDictionary (initial p)
  IsDictionary-initial b = record {
    even = IsEven-initial;
    numbered = AreNumbered-initial;
    limited = (b.0, λ x z h n. subst (λ w. b.0 ≤ℚ w) (sym (cost-is x z h)) (b.1 (first_values x) (initial-solves x z h n)));
  }

  pub StandsFor-initial : StandsFor p (initial p)
  StandsFor-initial = record { even = even; variables = nonbasic-length; rows = rows-length; solutions = λ x z. (λ h. h, λ h. h) }

-- room of the same widths
pub HaveWidth-push : {S Z : Type 0} (n : ℕ) (rows : List (Vec S Z)) (row : Vec S Z) → HaveWidth n rows → length row.items ≡ n → HaveWidth n (rows ++ row ∷ [])
HaveWidth-push n rows row h e = λ k d l. grind (arith, h, e, places)
