-- The form that an expression is reckoned as has the expression's exact value.
use Rattle.std.proofs.Common.{◌≡◌, refl, sym, ap, ap₂, subst, ◌∙◌, ℕ, arith, Bool, true, false, not, nat_le, List, [], ◌∷◌, ◌++◌, map, length, Option, Some, None, is_some, if◌then◌else◌, pos}
use Rattle.std.proofs.lemmas.Bool.Decides.{nat_tests}
use Rattle.std.proofs.lemmas.Option.{same_Some}
use Rattle.rational.specs.Rational.{ℚ, zeroℚ, whole, ◌+ℚ◌, ◌*ℚ◌, ◌-ℚ◌, neg_ℚ, inverse}
use Rattle.rational.proofs.Field.{add_comm, zero_add, neg_is_times, ℚ_ring}
use Rattle.rational.proofs.Ring.{law, num, ◌⊕◌, ◌⊗◌, ◌≐◌}
use Rattle.exact_lin.specs.Forms.{LinearForm, Terms, form_at, terms_at, constant_form, plus_scaled, is_zero}
use Rattle.exact_lin.proofs.FormLaws.{form_at-plus_scaled}
use Rattle.pddl_terms.specs.declared.trees.ExprTree.{ExprTree, ind-ExprTree, map-ExprTree, roll-ExprTree}
use Rattle.pddl_terms.specs.declared.trees.ExprTree.TheOpen.{ExprTree-F}
use Rattle.pddl_terms.specs.declared.trees.ExprTree.TheVariants as expr
use Rattle.ground_world.specs.declared.operations.Flaw.TheVariants.{ZeroDivisor}
use Rattle.ground_world.specs.World.{World, Env, either, GroundAtom, ground_fluent, symbol, number_in}
use Rattle.ground_world.specs.Expressions.{Unknowns, Reckoned, added, then_form, scaled, sum_forms, has_terms, product_form, product_forms, all_values, operated, unknown, one_by_one, minus_one, minus_form, quotient_form, divided, own_unknown, preference_unknown, cost_unknown, fluent_form, reckoned}
use Rattle.ground_world.specs.Exact.{fluent_value, sum_of, product_of, exact, ReckonedIsExact}
use Rattle.ground_world.proofs.Walks as walk

-- ---- optional values

none-not : {A B : Type 0} (a : A) → None ≡ Some a → B
none-not a e = let P : Bool → Type 0 = λ b. elim b [ true ↦ ⊥ | false ↦ Unit {0} ] in absurd (subst P (ap is_some e) tt)

if-some : {A : Type 0} (b : Bool) (a h : A) → (if b then Some a else None) ≡ Some h → a ≡ h
if-some true a h e = same_Some a h e
if-some false a h e = none-not h e

either-some : {A B : Type 0} (o : Option A) (k : A → Option B) (h : B) → either None k o ≡ Some h
    → (a : A) × (o ≡ Some a) × (k a ≡ Some h)
either-some None k h e = none-not h e
either-some (Some a) k h e = (a, refl, e)

then-some : (o : Option LinearForm) (k : LinearForm → Option LinearForm) (h : LinearForm) → then_form o k ≡ Some h
    → (g : LinearForm) × (o ≡ Some g) × (k g ≡ Some h)
then-some None k h e = none-not h e
then-some (Some g) k h e = (g, refl, e)

-- ---- forms

module _ (x : ℕ → ℚ) where
  abbrev at : LinearForm → ℚ
  at f = form_at f x

  constant-exact : (q : ℚ) → at (constant_form q) ≡ q
  constant-exact q = add_comm q zeroℚ ∙ zero_add q

  unknown-exact : (v : ℕ) → at (unknown v) ≡ x v
  unknown-exact v = law ℚ_ring (x v ∷ []) (λ z. num 0 ⊕ (num 1 ⊗ z ⊕ num 0) ≐ z) refl

  added-exact : (f : LinearForm) (y : ℚ) (g h : LinearForm) → added f y g ≡ Some h → at h ≡ at f +ℚ y *ℚ at g
  added-exact f y g h e = sym (ap at (if-some _ (plus_scaled f y g) h e)) ∙ form_at-plus_scaled f y g x

  scaled-exact : (y : ℚ) (f h : LinearForm) → scaled y f ≡ Some h → at h ≡ y *ℚ at f
  scaled-exact y f h e =
      added-exact (constant_form zeroℚ) y f h e
      ∙ law ℚ_ring (y ∷ at f ∷ []) (λ a b. (num 0 ⊕ num 0) ⊕ a ⊗ b ≐ a ⊗ b) refl

  sum-exact : (f : LinearForm) (gs : List LinearForm) (h : LinearForm) → sum_forms f gs ≡ Some h → at h ≡ at f +ℚ sum_of (map at gs)
  sum-exact f [] h e = sym (ap at (same_Some f h e)) ∙ law ℚ_ring (at f ∷ []) (λ a. a ≐ a ⊕ num 0) refl
  sum-exact f (g ∷ gs) h e =
      let s = then-some (added f (whole (pos 1)) g) (λ k. sum_forms k gs) h e in
      sum-exact s.0 gs h s.2 ∙ ap (λ q. q +ℚ sum_of (map at gs)) (added-exact f (whole (pos 1)) g s.0 s.1)
      ∙ law ℚ_ring (at f ∷ at g ∷ sum_of (map at gs) ∷ []) (λ a b c. (a ⊕ num 1 ⊗ b) ⊕ c ≐ a ⊕ (b ⊕ c)) refl

  number-exact : (c : ℚ) (ts : Terms) → not (nat_le (length ts) 0) ≡ false → c +ℚ terms_at ts x ≡ c
  number-exact c [] e = add_comm c zeroℚ ∙ zero_add c
  number-exact c (t ∷ ts) e = absurd (grind (arith, nat_tests))

  product-exact : (f g h : LinearForm) → product_form f g ≡ Some h → at h ≡ at f *ℚ at g
  product-exact f g h e = by (has_terms g) (has_terms f) refl refl e
    where
      by : (b c : Bool) → has_terms g ≡ b → has_terms f ≡ c
          → (if b then (if c then None else scaled f.constant g) else scaled g.constant f) ≡ Some h → at h ≡ at f *ℚ at g
      by true true p q k = none-not h k
      by true false p q k = scaled-exact f.constant g h k ∙ ap (λ z. z *ℚ at g) (sym (number-exact f.constant f.terms q))
      by false c p q k =
          scaled-exact g.constant f h k ∙ law ℚ_ring (g.constant ∷ at f ∷ []) (λ a b. a ⊗ b ≐ b ⊗ a) refl
          ∙ ap (λ z. at f *ℚ z) (sym (number-exact g.constant g.terms p))

  products-exact : (f : LinearForm) (gs : List LinearForm) (h : LinearForm) → product_forms f gs ≡ Some h
      → at h ≡ at f *ℚ product_of (map at gs)
  products-exact f [] h e = sym (ap at (same_Some f h e)) ∙ law ℚ_ring (at f ∷ []) (λ a. a ≐ a ⊗ num 1) refl
  products-exact f (g ∷ gs) h e =
      let s = then-some (product_form f g) (λ k. product_forms k gs) h e in
      products-exact s.0 gs h s.2 ∙ ap (λ q. q *ℚ product_of (map at gs)) (product-exact f g s.0 s.1)
      ∙ law ℚ_ring (at f ∷ at g ∷ product_of (map at gs) ∷ []) (λ a b c. (a ⊗ b) ⊗ c ≐ a ⊗ (b ⊗ c)) refl

  sums-exact : (fs : List LinearForm) (h : LinearForm) → one_by_one sum_forms fs ≡ Some h → at h ≡ sum_of (map at fs)
  sums-exact [] h e = none-not h e
  sums-exact (f ∷ fs) h e = sum-exact f fs h e

  whole_products-exact : (fs : List LinearForm) (h : LinearForm) → one_by_one product_forms fs ≡ Some h
      → at h ≡ product_of (map at fs)
  whole_products-exact [] h e = none-not h e
  whole_products-exact (f ∷ fs) h e = products-exact f fs h e

  negative-exact : (f h : LinearForm) → minus_form (f ∷ []) ≡ Some h → at h ≡ neg_ℚ (at f)
  negative-exact f h e = scaled-exact minus_one f h e ∙ sym (neg_is_times (at f))

  difference-exact : (f g h : LinearForm) → minus_form (f ∷ g ∷ []) ≡ Some h → at h ≡ at f -ℚ at g
  difference-exact f g h e = added-exact f minus_one g h e ∙ ap (λ q. at f +ℚ q) (sym (neg_is_times (at g)))

  quotient-exact : (f g h : LinearForm) → quotient_form (f ∷ g ∷ []) ≡ Some h → at h ≡ at f *ℚ inverse (at g)
  quotient-exact f g h e = by (has_terms g) refl e
    where
      by : (b : Bool) → has_terms g ≡ b → (if b then None else scaled (inverse g.constant) f) ≡ Some h → at h ≡ at f *ℚ inverse (at g)
      by true p k = none-not h k
      by false p k =
          scaled-exact (inverse g.constant) f h k
          ∙ law ℚ_ring (inverse g.constant ∷ at f ∷ []) (λ a b. a ⊗ b ≐ b ⊗ a) refl
          ∙ ap (λ z. at f *ℚ inverse z) (sym (number-exact g.constant g.terms p))

-- ---- expressions

-- what holds of each expression where it holds of its parts, holds of every expression
pub each_expression : (P : ExprTree → Type 0)
    → ((e : ExprTree-F ((t : ExprTree) × P t)) → P (roll-ExprTree (map-ExprTree ((t : ExprTree) × P t) ExprTree (λ p. p.0) e)))
    → (t : ExprTree) → P t
each_expression P layer = ind-ExprTree P (λ x y is. subst (λ z. P (roll-ExprTree z)) is (layer y))

module _ (w : World) (us : Unknowns) (env : Env) (x : ℕ → ℚ) where
  abbrev IsExact : ExprTree → Type 0
  IsExact e = (f : LinearForm) → (reckoned w us env e).value ≡ Some f → form_at f x ≡ exact w us env x e

  leaf : (e : ExprTree) (g : LinearForm) (q : ℚ) → (reckoned w us env e).value ≡ Some g → form_at g x ≡ q → exact w us env x e ≡ q → IsExact e
  leaf e g q v k i f h = ap (λ (j : LinearForm). form_at j x) (same_Some f g (sym h ∙ v)) ∙ k ∙ sym i

  fluent-exact : (a : GroundAtom) → form_at (fluent_form w a) x ≡ fluent_value w x a
  fluent-exact a = by (w.is_static_function (symbol a))
    where
      by : (b : Bool)
          → form_at (if b then constant_form (either zeroℚ (λ q. q) (w.value_of a)) else unknown (number_in w.fluents a)) x
          ≡ (if b then either zeroℚ (λ q. q) (w.value_of a) else x (number_in w.fluents a))
      by true = constant-exact x (either zeroℚ (λ q. q) (w.value_of a))
      by false = unknown-exact x (number_in w.fluents a)

  -- the values of several parts
  all-exact : (es : List ((t : ExprTree) × IsExact t)) (fs : List LinearForm)
      → all_values (map (reckoned w us env) (map (λ e. e.0) es)) ≡ Some fs
      → map (λ (f : LinearForm). form_at f x) fs ≡ map (exact w us env x) (map (λ e. e.0) es)
  all-exact [] fs h = sym (ap (map (λ (f : LinearForm). form_at f x)) (same_Some [] fs h))
  all-exact (e ∷ es) fs h =
      let s = either-some ((reckoned w us env e.0).value) (λ f. either None (λ gs. Some (f ∷ gs)) (all_values (map (reckoned w us env) (map (λ p. p.0) es)))) fs h in
      let t = either-some (all_values (map (reckoned w us env) (map (λ p. p.0) es))) (λ gs. Some (s.0 ∷ gs)) fs s.2 in
      sym (ap (map (λ (f : LinearForm). form_at f x)) (same_Some (s.0 ∷ t.0) fs t.2)) ∙ ap₂ (λ q qs. q ∷ qs) (e.1 s.0 s.1) (all-exact es t.0 t.1)

  -- an operation on several parts, whose exact value is that of the operation on numbers
  list-exact : (at : ℕ) (operation : List LinearForm → Option LinearForm) (total : List ℚ → ℚ)
      → ((fs : List LinearForm) (h : LinearForm) → operation fs ≡ Some h → form_at h x ≡ total (map (λ (f : LinearForm). form_at f x) fs))
      → (es : List ((t : ExprTree) × IsExact t)) (h : LinearForm)
      → (operated at operation (map (reckoned w us env) (map (λ e. e.0) es))).value ≡ Some h
      → form_at h x ≡ total (map (exact w us env x) (map (λ e. e.0) es))
  list-exact at operation total good es h k =
      let s = either-some (all_values (map (reckoned w us env) (map (λ e. e.0) es))) operation h k in
      good s.0 h s.2 ∙ ap total (all-exact es s.0 s.1)

  negative_part-exact : (l : ExprTree) → IsExact l → (h : LinearForm) (at : ℕ)
      → (operated at minus_form (reckoned w us env l ∷ [])).value ≡ Some h → form_at h x ≡ neg_ℚ (exact w us env x l)
  negative_part-exact l il h at k =
      let s = either-some (all_values (reckoned w us env l ∷ [])) minus_form h k in
      let t = either-some ((reckoned w us env l).value) (λ f. either None (λ gs. Some (f ∷ gs)) (Some [])) s.0 s.1 in
      negative-exact x t.0 h (ap minus_form (same_Some (t.0 ∷ []) s.0 t.2) ∙ s.2) ∙ ap neg_ℚ (il t.0 t.1)

  -- an operation on two parts
  two-exact : (at : ℕ) (operation : List LinearForm → Option LinearForm) (total : ℚ → ℚ → ℚ)
      → ((f g h : LinearForm) → operation (f ∷ g ∷ []) ≡ Some h → form_at h x ≡ total (form_at f x) (form_at g x))
      → (l r : ExprTree) → IsExact l → IsExact r → (h : LinearForm)
      → (operated at operation (reckoned w us env l ∷ reckoned w us env r ∷ [])).value ≡ Some h
      → form_at h x ≡ total (exact w us env x l) (exact w us env x r)
  two-exact at operation total good l r il ir h k =
      let s = either-some (all_values (reckoned w us env l ∷ reckoned w us env r ∷ [])) operation h k in
      let t = either-some ((reckoned w us env l).value) (λ f. either None (λ gs. Some (f ∷ gs)) (all_values (reckoned w us env r ∷ []))) s.0 s.1 in
      let u = either-some (all_values (reckoned w us env r ∷ [])) (λ gs. Some (t.0 ∷ gs)) s.0 t.2 in
      let v = either-some ((reckoned w us env r).value) (λ f. either None (λ gs. Some (f ∷ gs)) (Some [])) u.0 u.1 in
      good t.0 v.0 h (ap (λ gs. operation (t.0 ∷ gs)) (same_Some (v.0 ∷ []) u.0 v.2) ∙ ap operation (same_Some (t.0 ∷ u.0) s.0 u.2) ∙ s.2)
      ∙ ap₂ total (il t.0 t.1) (ir v.0 v.1)

  quotients-exact : (at : ℕ) (l r : ExprTree) → IsExact l → IsExact r → (h : LinearForm)
      → (divided at (reckoned w us env l) (reckoned w us env r)).value ≡ Some h
      → form_at h x ≡ exact w us env x l *ℚ inverse (exact w us env x r)
  quotients-exact at l r il ir h k = by (either false (λ (g : LinearForm). is_zero g.constant) (reckoned w us env r).value) k
    where
      by : (b : Bool)
          → (let rest : Reckoned = if b then record { place = at; value = None; flaws = (reckoned w us env l).flaws ++ (reckoned w us env r).flaws ++ (ZeroDivisor (reckoned w us env r).place ∷ []) }
          else operated at quotient_form (reckoned w us env l ∷ reckoned w us env r ∷ []) in rest.value ≡ Some h)
          → form_at h x ≡ exact w us env x l *ℚ inverse (exact w us env x r)
      by true k = none-not h k
      by false k = two-exact at quotient_form (λ p q. p *ℚ inverse q) (λ f g h e. quotient-exact x f g h e) l r il ir h k

  pub exact-reckoned : (e : ExprTree) → IsExact e
  exact-reckoned = each_expression IsExact layer
    where
      layer : (y : ExprTree-F ((t : ExprTree) × IsExact t)) → IsExact (roll-ExprTree (map-ExprTree ((t : ExprTree) × IsExact t) ExprTree (λ p. p.0) y))
      layer (ExprTree-F.Number at q) = subst IsExact (sym (expr.rolls-Number at q))
          (leaf (expr.Number at q) (constant_form q) (q)
          (ap (λ (r : Reckoned). r.value) (walk.reckoned-Number w us env at q)) (constant-exact x q) (walk.exact-Number w us env x at q))
      layer (ExprTree-F.Fluent a) = subst IsExact (sym (expr.rolls-Fluent a))
          (leaf (expr.Fluent a) (fluent_form w (ground_fluent w env a)) (fluent_value w x (ground_fluent w env a))
          (ap (λ (r : Reckoned). r.value) (walk.reckoned-Fluent w us env a)) (fluent-exact (ground_fluent w env a)) (walk.exact-Fluent w us env x a))
      layer (ExprTree-F.Duration at) = subst IsExact (sym (expr.rolls-Duration at))
          (leaf (expr.Duration at) (unknown (own_unknown w)) (x (own_unknown w))
          (ap (λ (r : Reckoned). r.value) (walk.reckoned-Duration w us env at)) (unknown-exact x (own_unknown w)) (walk.exact-Duration w us env x at))
      layer (ExprTree-F.Sum at es) = let ts = map {B = ExprTree} (λ e. e.0) es in subst IsExact (sym (expr.rolls-Sum at ts))
          (λ h k. list-exact at (one_by_one sum_forms) sum_of (sums-exact x) es h (sym (ap (λ (r : Reckoned). r.value) (walk.reckoned-Sum w us env at ts)) ∙ k)
          ∙ sym (walk.exact-Sum w us env x at ts))
      layer (ExprTree-F.Product at es) = let ts = map {B = ExprTree} (λ e. e.0) es in subst IsExact (sym (expr.rolls-Product at ts))
          (λ h k. list-exact at (one_by_one product_forms) product_of (whole_products-exact x) es h (sym (ap (λ (r : Reckoned). r.value) (walk.reckoned-Product w us env at ts)) ∙ k)
          ∙ sym (walk.exact-Product w us env x at ts))
      layer (ExprTree-F.Negative at l) = subst IsExact (sym (expr.rolls-Negative at l.0))
          (λ h k. negative_part-exact l.0 l.1 h at (sym (ap (λ (r : Reckoned). r.value) (walk.reckoned-Negative w us env at l.0)) ∙ k)
          ∙ sym (walk.exact-Negative w us env x at l.0))
      layer (ExprTree-F.Difference at l r) = subst IsExact (sym (expr.rolls-Difference at l.0 r.0))
          (λ h k. two-exact at minus_form (λ p q. p -ℚ q) (difference-exact x) l.0 r.0 l.1 r.1 h
          (sym (ap (λ (r : Reckoned). r.value) (walk.reckoned-Difference w us env at l.0 r.0)) ∙ k)
          ∙ sym (walk.exact-Difference w us env x at l.0 r.0))
      layer (ExprTree-F.Quotient at l r) = subst IsExact (sym (expr.rolls-Quotient at l.0 r.0))
          (λ h k. quotients-exact at l.0 r.0 l.1 r.1 h
          (sym (ap (λ (r : Reckoned). r.value) (walk.reckoned-Quotient w us env at l.0 r.0)) ∙ k)
          ∙ sym (walk.exact-Quotient w us env x at l.0 r.0))
      layer (ExprTree-F.LeftOut at) = subst IsExact (sym (expr.rolls-LeftOut at))
          (λ h k. none-not h (sym (ap (λ (r : Reckoned). r.value) (walk.reckoned-LeftOut w us env at)) ∙ k))
      layer (ExprTree-F.TotalTime at) = subst IsExact (sym (expr.rolls-TotalTime at))
          (leaf (expr.TotalTime at) (unknown (own_unknown w)) (x (own_unknown w))
          (ap (λ (r : Reckoned). r.value) (walk.reckoned-TotalTime w us env at)) (unknown-exact x (own_unknown w)) (walk.exact-TotalTime w us env x at))
      layer (ExprTree-F.Violated at n) = subst IsExact (sym (expr.rolls-Violated at n))
          (leaf (expr.Violated at n) (unknown (preference_unknown w us n.bytes)) (x (preference_unknown w us n.bytes))
          (ap (λ (r : Reckoned). r.value) (walk.reckoned-Violated w us env at n)) (unknown-exact x (preference_unknown w us n.bytes)) (walk.exact-Violated w us env x at n))
      layer (ExprTree-F.TimeCost at n) = subst IsExact (sym (expr.rolls-TimeCost at n))
          (leaf (expr.TimeCost at n) (unknown (cost_unknown w us n.bytes)) (x (cost_unknown w us n.bytes))
          (ap (λ (r : Reckoned). r.value) (walk.reckoned-TimeCost w us env at n)) (unknown-exact x (cost_unknown w us n.bytes)) (walk.exact-TimeCost w us env x at n))

pub reckoned-exact : ReckonedIsExact
reckoned-exact w us env e f x = exact-reckoned w us env x e f
