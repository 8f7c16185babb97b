-- A point from values of the nonbasic variables: each basic variable gets what its row says.
use Rattle.std.proofs.Common.{◌≡◌, ℕ, zero, suc, ◌<◌, ◌≤◌, Bool, true, false, nat_eq, List, [], ◌∷◌, ◌++◌, length, map, refl, sym, ap, subst, ◌∙◌, arith}
use Rattle.std.specs.Prelude.{IsTrue, if◌then◌else◌}
use Rattle.std.proofs.lemmas.Bool.{false≢true}
use Rattle.std.proofs.lemmas.List.{length-map, get_or-map, same_lists, get_or_default}
use Rattle.rational.specs.Rational.{ℚ, zeroℚ, oneℚ, ◌≤ℚ◌}
use Rattle.rational.specs.Lists.{dot, at}
use Rattle.rational.proofs.Inequalities.{le_refl}
use Rattle.exact_lin.specs.Ids.{nat-decide}
use Rattle.lp_tableau.specs.Places.{variable_at}
use Rattle.lp_tableau.specs.Dictionaries.{Dictionary, IsEven, row_of, basic_of, nonbasic_of}
use Rattle.lp_tableau.specs.Meanings.{Holds, IsNonneg, AreNumbered}
use Rattle.lp_tableau.specs.Assignments.{look_up}

-- ---- numbers beside names
pub choose-equal : (b : Bool) (x y : ℚ) → IsTrue b → (if b then x else y) ≡ x
choose-equal true x y t = refl
choose-equal false x y t = absurd (false≢true t)

pub choose-different : (b : Bool) (x y : ℚ) → ¬ IsTrue b → (if b then x else y) ≡ y
choose-different true x y n = absurd (n refl)
choose-different false x y n = refl

choose-nonneg : (b : Bool) (x y : ℚ) → zeroℚ ≤ℚ x → zeroℚ ≤ℚ y → zeroℚ ≤ℚ (if b then x else y)
choose-nonneg true x y h k = h
choose-nonneg false x y h k = k

-- a name that is not among the names
pub look_up-past : (names : List ℕ) (us : List ℚ) (other : ℚ) (v : ℕ) → ((i : ℕ) → i < length names → ¬ (variable_at names i ≡ v)) → look_up names us other v ≡ other
look_up-past [] us other v f = refl
look_up-past (name ∷ names) [] other v f = refl
look_up-past (name ∷ names) (u ∷ us) other v f = choose-different (nat_eq name v) u (look_up names us other v) (λ t. f 0 (omega arith) ((nat-decide name v).0 t)) ∙ look_up-past names us other v (λ i h. f (suc i) (omega arith))

-- the name at a place, where each name stands once
pub look_up-at : (names : List ℕ) (us : List ℚ) (other : ℚ) (k : ℕ) → length names ≤ length us → k < length names
    → ((i l : ℕ) → i < length names → l < length names → variable_at names i ≡ variable_at names l → i ≡ l) → look_up names us other (variable_at names k) ≡ at us k
look_up-at [] us other k e h f = absurd (omega arith)
look_up-at (name ∷ names) [] other k e h f = absurd (omega (arith, e))
look_up-at (name ∷ names) (u ∷ us) other zero e h f = choose-equal (nat_eq name name) u (look_up names us other name) ((nat-decide name name).1 refl)
look_up-at (name ∷ names) (u ∷ us) other (suc k) e h f =
    choose-different (nat_eq name (variable_at names k)) u (look_up names us other (variable_at names k)) (λ t. let q : 0 ≡ suc k = f 0 (suc k) (omega arith) h ((nat-decide name (variable_at names k)).0 t) in absurd (omega (arith, q)))
    ∙ look_up-at names us other k (omega arith) (omega arith) (λ i l a b q. let s : suc i ≡ suc l = f (suc i) (suc l) (omega arith) (omega arith) q in omega (arith, s))

pub look_up-nonneg : (names : List ℕ) (us : List ℚ) (other : ℚ) (v : ℕ) → ((k : ℕ) → k < length names → zeroℚ ≤ℚ at us k) → zeroℚ ≤ℚ other → zeroℚ ≤ℚ look_up names us other v
look_up-nonneg [] us other v h o = o
look_up-nonneg (name ∷ names) [] other v h o = o
look_up-nonneg (name ∷ names) (u ∷ us) other v h o = choose-nonneg (nat_eq name v) u (look_up names us other v) (h 0 (omega arith)) (look_up-nonneg names us other v (λ k l. h (suc k) (omega arith)) o)

-- ---- the point
-- what each row says, where the nonbasic variables have the values u
abbrev pub row_values : Dictionary → List ℚ → List ℚ
row_values d u = map (λ row. dot row (u ++ oneℚ ∷ [])) d.rows

abbrev pub assigned : Dictionary → List ℚ → ℕ → ℚ
assigned d u v = look_up d.basic (row_values d u) (look_up d.nonbasic u zeroℚ v) v

module _ (d : Dictionary) (even : IsEven d) (numbered : AreNumbered d) (u : List ℚ) (fits : length u ≡ length d.nonbasic) where
  assigned-nonbasic : (j : ℕ) → j < length d.nonbasic → assigned d u (nonbasic_of d j) ≡ at u j
  assigned-nonbasic j h = look_up-past d.basic (row_values d u) (look_up d.nonbasic u zeroℚ (nonbasic_of d j)) (nonbasic_of d j) (λ i l e. numbered.apart i j (omega (arith, even.basic)) h e)
      ∙ look_up-at d.nonbasic u zeroℚ j (omega (arith, fits)) h numbered.nonbasic

  pub values-assigned : map (assigned d u) d.nonbasic ≡ u
  values-assigned = same_lists (map (assigned d u) d.nonbasic) u (length-map d.nonbasic (assigned d u) ∙ sym fits)
      (λ k e h. get_or-map (assigned d u) d.nonbasic k 0 e (omega (arith, length-map d.nonbasic (assigned d u))) ∙ assigned-nonbasic k (omega (arith, length-map d.nonbasic (assigned d u))) ∙ get_or_default u k zeroℚ e (omega (arith, fits, length-map d.nonbasic (assigned d u))))

  assigned-basic : (i : ℕ) → i < length d.rows → assigned d u (basic_of d i) ≡ dot (row_of d i) (u ++ oneℚ ∷ [])
  assigned-basic i h = look_up-at d.basic (row_values d u) (look_up d.nonbasic u zeroℚ (basic_of d i)) i (omega (arith, length-map d.rows (λ row. dot row (u ++ oneℚ ∷ [])), even.basic)) (omega (arith, even.basic))
      (λ k l a b e. numbered.basic k l (omega (arith, even.basic)) (omega (arith, even.basic)) e)
      ∙ get_or-map (λ row. dot row (u ++ oneℚ ∷ [])) d.rows i [] zeroℚ h

  -- the point meets the equations
  pub Holds-assigned : Holds d (assigned d u) (dot d.cost (u ++ oneℚ ∷ []))
  Holds-assigned = record {
    rows = λ i h. assigned-basic i h ∙ ap (λ w. dot (row_of d i) (w ++ oneℚ ∷ [])) (sym values-assigned);
    cost = ap (λ w. dot d.cost (w ++ oneℚ ∷ [])) (sym values-assigned);
  }

  -- and is at least 0 where the values and what the rows say are
  pub assigned-nonneg : ((j : ℕ) → j < length d.nonbasic → zeroℚ ≤ℚ at u j) → ((i : ℕ) → i < length d.rows → zeroℚ ≤ℚ dot (row_of d i) (u ++ oneℚ ∷ [])) → IsNonneg (assigned d u)
  assigned-nonneg h f v = look_up-nonneg d.basic (row_values d u) (look_up d.nonbasic u zeroℚ v) v
      (λ k l. subst (λ z. zeroℚ ≤ℚ z) (sym (get_or-map (λ row. dot row (u ++ oneℚ ∷ [])) d.rows k [] zeroℚ (omega (arith, l, even.basic)))) (f k (omega (arith, l, even.basic))))
      (look_up-nonneg d.nonbasic u zeroℚ v h (le_refl zeroℚ))
