-- The forms of reckoned expressions ascend, and those of the task have fluents of the task alone.
use Rattle.std.proofs.Common.{◌≡◌, refl, sym, subst, ℕ, ◌+◌, ◌<◌, ◌≤◌, arith, Bool, true, false, ◌&&◌, nat_lt, List, [], ◌∷◌, ◌++◌, map, cond, length, Option, Some, None, pos}
use Rattle.std.specs.Prelude.{if◌then◌else◌}
use Rattle.std.specs.List.{AllByRecursion as Each, filter}
use Rattle.std.proofs.lemmas.List.{length-map}
use Rattle.basics.proofs.Bools.{and_in}
use Rattle.basics.proofs.Naturals.{lt_out, le_in}
use Rattle.basics.proofs.Lists.{all_in, each_map}
use Rattle.std.proofs.lemmas.Int.{ints}
use Rattle.rational.specs.Rational.{ℚ, zeroℚ, whole, inverse, ◌*ℚ◌, ◌<ℚ◌}
use Rattle.rational.proofs.Order.{lt_irrefl}
use Rattle.rational.proofs.Inequalities.{whole_lt}
use Rattle.exact_lin.specs.Forms.{LinearForm, Terms, AscendFrom, IsForm, constant_form, plus_scaled, is_zero}
use Rattle.exact_lin.proofs.FormLaws.{AscendFrom-lower, AscendFrom-increased_by}
use Rattle.task_types.specs.WellMade.{are_below}
use Rattle.pddl_terms.specs.declared.trees.Comparison.{Comparison}
use Rattle.pddl_terms.specs.declared.trees.Comparison.TheVariants.{Equal, AtMost, AtLeast, Below, Above}
use Rattle.pddl_terms.specs.declared.trees.ExprTree.{ExprTree}
use Rattle.pddl_terms.specs.declared.trees.ExprTree.TheVariants as expr
use Rattle.ground_world.specs.declared.operations.Flaw.TheVariants.{ZeroDivisor}
use Rattle.ground_world.specs.World.{World, Env, either, GroundAtom, ground_fluent, symbol, number_in}
use Rattle.ground_world.specs.Expressions.{Unknowns, Reckoned, reckoned, added, then_form, scaled, sum_forms, has_terms, product_form, product_forms, all_values, operated, divided, unknown, one_by_one, minus_one, minus_form, quotient_form, own_unknown, preference_unknown, cost_unknown, can_add_terms, can_multiply, can_add, fluent_form, form_or_zero, negative}
use Rattle.ground_world.specs.Conditions.{Test, difference_form, difference, forms_of, test_forms}
use Rattle.ground_world.proofs.Walks as walks
use Rattle.grounder.proofs.Inductions.{each_expression}

-- ---- how many terms there are

pub ascending-few : (n low : ℕ) (ts : Terms) → low ≤ n → AscendFrom low ts → Each (λ t. nat_lt t.0 n ≡ true) ts → low + length ts ≤ n
ascending-few n low [] l a h = omega arith
ascending-few n low (t ∷ ts) l a h =
    let k : t.0 < n = lt_out t.0 n h.0 in
    let b : low ≤ t.0 = a.0 in
    let ih : t.0 + 1 + length ts ≤ n = ascending-few n (t.0 + 1) ts (omega arith) a.2 h.1 in
    omega arith

ascending-filter : (q : ℕ × ℚ → Bool) (low : ℕ) (ts : Terms) → AscendFrom low ts → AscendFrom low (filter q ts)
ascending-filter q low [] a = tt
ascending-filter q low (t ∷ ts) a = by (q t) (ascending-filter q (t.0 + 1) ts a.2)
  where
    by : (b : Bool) → AscendFrom (t.0 + 1) (filter q ts) → AscendFrom low (cond b (t ∷ filter q ts) (filter q ts))
    by true k = (a.0, a.1, k)
    by false k = let b : low ≤ t.0 = a.0 in AscendFrom-lower low (t.0 + 1) (filter q ts) (omega arith) k

filter-passing : (q : ℕ × ℚ → Bool) (ts : Terms) → Each (λ t. q t ≡ true) (filter q ts)
filter-passing q [] = tt
filter-passing q (t ∷ ts) = by (q t) refl (filter-passing q ts)
  where
    by : (b : Bool) → q t ≡ b → Each (λ t. q t ≡ true) (filter q ts) → Each (λ t. q t ≡ true) (cond b (t ∷ filter q ts) (filter q ts))
    by true e k = (e, k)
    by false e k = k

-- the terms below n of a form
pub cut-fits : (n : ℕ) (ts : Terms) → n ≤ 1048576 → AscendFrom 0 ts → are_below n (map (λ t. t.0) (filter (λ t. nat_lt t.0 n) ts)) ≡ true
cut-fits n ts l a = and_in _ _ (le_in (length (map (λ t. t.0) kept)) 1048576 short) (all_in (λ v. nat_lt v n) (map (λ t. t.0) kept) (each_map (λ v. nat_lt v n ≡ true) (λ t. t.0) kept below))
  where
    kept : Terms
    kept = filter (λ t. nat_lt t.0 n) ts

    below : Each (λ t. nat_lt t.0 n ≡ true) kept
    below = filter-passing (λ t. nat_lt t.0 n) ts

    short : length (map (λ t. t.0) kept) ≤ 1048576
    short = let e : length (map (λ t. t.0) kept) ≡ length kept = length-map kept (λ t. t.0) in
        let f : 0 + length kept ≤ n = ascending-few n 0 kept (omega arith) (ascending-filter (λ t. nat_lt t.0 n) 0 ts a) below in omega arith

-- ---- forms ascend

abbrev pub IfForm : Option LinearForm → Type 0
IfForm None = Unit {0}
IfForm (Some f) = IsForm f

abbrev pub IfForms : Option (List LinearForm) → Type 0
IfForms None = Unit {0}
IfForms (Some fs) = Each IsForm fs

plus-ascends : (f : LinearForm) (y : ℚ) (g : LinearForm) → IsForm f → IsForm (plus_scaled f y g)
plus-ascends f y g a = AscendFrom-increased_by y g.terms f.terms a

added-ascends : (f : LinearForm) (y : ℚ) (g : LinearForm) → IsForm f → IfForm (added f y g)
added-ascends f y g a = by (can_add_terms f.terms y g.terms && can_multiply y g.constant && can_add f.constant (y *ℚ g.constant))
  where
    by : (b : Bool) → IfForm (if b then Some (plus_scaled f y g) else None)
    by true = plus-ascends f y g a
    by false = tt

scaled-ascends : (y : ℚ) (f : LinearForm) → IfForm (scaled y f)
scaled-ascends y f = added-ascends (constant_form zeroℚ) y f tt

then-ascends : (o : Option LinearForm) (k : LinearForm → Option LinearForm) → IfForm o → ((h : LinearForm) → IsForm h → IfForm (k h)) → IfForm (then_form o k)
then-ascends None k a h = tt
then-ascends (Some f) k a h = h f a

sum-ascends : (f : LinearForm) (gs : List LinearForm) → IsForm f → IfForm (sum_forms f gs)
sum-ascends f [] a = a
sum-ascends f (g ∷ gs) a = then-ascends (added f (whole (pos 1)) g) (λ h. sum_forms h gs) (added-ascends f (whole (pos 1)) g a) (λ h b. sum-ascends h gs b)

product-ascends : (f g : LinearForm) → IfForm (product_form f g)
product-ascends f g = by (has_terms g) (has_terms f)
  where
    by : (b c : Bool) → IfForm (if b then (if c then None else scaled f.constant g) else scaled g.constant f)
    by true true = tt
    by true false = scaled-ascends f.constant g
    by false c = scaled-ascends g.constant f

products-ascend : (f : LinearForm) (gs : List LinearForm) → IsForm f → IfForm (product_forms f gs)
products-ascend f [] a = a
products-ascend f (g ∷ gs) a = then-ascends (product_form f g) (λ h. product_forms h gs) (product-ascends f g) (λ h b. products-ascend h gs b)

one_by_one-ascends : (k : LinearForm → List LinearForm → Option LinearForm) → ((f : LinearForm) (gs : List LinearForm) → IsForm f → IfForm (k f gs))
    → (fs : List LinearForm) → Each IsForm fs → IfForm (one_by_one k fs)
one_by_one-ascends k h [] a = tt
one_by_one-ascends k h (f ∷ fs) a = h f fs a.0

minus-ascends : (fs : List LinearForm) → Each IsForm fs → IfForm (minus_form fs)
minus-ascends [] a = tt
minus-ascends (f ∷ []) a = scaled-ascends minus_one f
minus-ascends (f ∷ g ∷ []) a = added-ascends f minus_one g a.0
minus-ascends (f ∷ g ∷ h ∷ fs) a = tt

quotient-ascends : (fs : List LinearForm) → Each IsForm fs → IfForm (quotient_form fs)
quotient-ascends [] a = tt
quotient-ascends (f ∷ []) a = tt
quotient-ascends (f ∷ g ∷ []) a = by (has_terms g)
  where
    by : (b : Bool) → IfForm (if b then None else scaled (inverse g.constant) f)
    by true = tt
    by false = scaled-ascends (inverse g.constant) f
quotient-ascends (f ∷ g ∷ h ∷ fs) a = tt

difference-ascends : (o : Comparison) (fs : List LinearForm) → Each IsForm fs → IfForm (difference_form o fs)
difference-ascends Equal fs a = minus-ascends fs a
difference-ascends AtLeast fs a = minus-ascends fs a
difference-ascends Below fs a = minus-ascends fs a
difference-ascends Above fs a = minus-ascends fs a
difference-ascends AtMost [] a = tt
difference-ascends AtMost (f ∷ []) a = tt
difference-ascends AtMost (f ∷ g ∷ []) a = added-ascends g minus_one f a.1.0
difference-ascends AtMost (f ∷ g ∷ h ∷ fs) a = tt

-- ---- values

one_more : (v : Option LinearForm) (o : Option (List LinearForm)) → IfForm v → IfForms o → IfForms (either None (λ f. either None (λ fs. Some (f ∷ fs)) o) v)
one_more None o a b = tt
one_more (Some f) None a b = tt
one_more (Some f) (Some fs) a b = (a, b)

values-ascend : (rs : List Reckoned) → Each (λ r. IfForm r.value) rs → IfForms (all_values rs)
values-ascend [] h = tt
values-ascend (r ∷ rs) h = one_more r.value (all_values rs) h.0 (values-ascend rs h.1)

applied-ascends : (operation : List LinearForm → Option LinearForm) → ((fs : List LinearForm) → Each IsForm fs → IfForm (operation fs)) → (o : Option (List LinearForm)) → IfForms o → IfForm (either None operation o)
applied-ascends operation h None a = tt
applied-ascends operation h (Some fs) a = h fs a

operated-ascends : (p : ℕ) (operation : List LinearForm → Option LinearForm) → ((fs : List LinearForm) → Each IsForm fs → IfForm (operation fs))
    → (rs : List Reckoned) → Each (λ r. IfForm r.value) rs → IfForm (operated p operation rs).value
operated-ascends p operation h rs a = applied-ascends operation h (all_values rs) (values-ascend rs a)

divided-ascends : (p : ℕ) (r s : Reckoned) → IfForm r.value → IfForm s.value → IfForm (divided p r s).value
divided-ascends p r s a b = by (either false (λ g. is_zero g.constant) s.value)
  where
    by : (z : Bool) → IfForm (if z then record { place = p; value = None; flaws = r.flaws ++ s.flaws ++ (ZeroDivisor s.place ∷ []) } else operated p quotient_form (r ∷ s ∷ [])).value
    by true = tt
    by false = operated-ascends p quotient_form quotient-ascends (r ∷ s ∷ []) (a, (b, tt))

one_nonzero : ¬ (whole (pos 1) ≡ zeroℚ)
one_nonzero e = lt_irrefl zeroℚ (subst (λ x. zeroℚ <ℚ x) e (whole_lt (pos 0) (pos 1) (omega (arith, ints))))

pub unknown-ascends : (v : ℕ) → IsForm (unknown v)
unknown-ascends v = (omega arith, one_nonzero, tt)

module _ (w : World) (us : Unknowns) (env : Env) where
  fluent-ascends : (f : GroundAtom) → IsForm (fluent_form w f)
  fluent-ascends f = by (w.is_static_function (symbol f))
    where
      by : (b : Bool) → IsForm (if b then constant_form (either zeroℚ (λ q. q) (w.value_of f)) else unknown (number_in w.fluents f))
      by true = tt
      by false = unknown-ascends (number_in w.fluents f)

  abbrev Ascends : ExprTree → Type 0
  Ascends e = IfForm (reckoned w us env e).value

  from : (e : ExprTree) (r : Reckoned) → reckoned w us env e ≡ r → IfForm r.value → Ascends e
  from e r h a = subst (λ (x : Reckoned). IfForm x.value) (sym h) a

  pub reckoned-ascends : (e : ExprTree) → Ascends e
  reckoned-ascends = each_expression Ascends
      (λ a b. from (expr.Number a b) _ (walks.reckoned-Number w us env a b) tt)
      (λ a. from (expr.Fluent a) _ (walks.reckoned-Fluent w us env a) (fluent-ascends (ground_fluent w env a)))
      (λ a. from (expr.Duration a) _ (walks.reckoned-Duration w us env a) (unknown-ascends (own_unknown w)))
      (λ a b h. from (expr.Sum a b) _ (walks.reckoned-Sum w us env a b) (operated-ascends a (one_by_one sum_forms) (one_by_one-ascends sum_forms sum-ascends) (map (λ c. reckoned w us env c) b) (each_map (λ r. IfForm r.value) (λ c. reckoned w us env c) b h)))
      (λ a b h. from (expr.Product a b) _ (walks.reckoned-Product w us env a b) (operated-ascends a (one_by_one product_forms) (one_by_one-ascends product_forms products-ascend) (map (λ c. reckoned w us env c) b) (each_map (λ r. IfForm r.value) (λ c. reckoned w us env c) b h)))
      (λ a b h. from (expr.Negative a b) _ (walks.reckoned-Negative w us env a b) (operated-ascends a minus_form minus-ascends (reckoned w us env b ∷ []) (h, tt)))
      (λ a b c h k. from (expr.Difference a b c) _ (walks.reckoned-Difference w us env a b c) (operated-ascends a minus_form minus-ascends (reckoned w us env b ∷ reckoned w us env c ∷ []) (h, (k, tt))))
      (λ a b c h k. from (expr.Quotient a b c) _ (walks.reckoned-Quotient w us env a b c) (divided-ascends a (reckoned w us env b) (reckoned w us env c) h k))
      (λ a. from (expr.LeftOut a) _ (walks.reckoned-LeftOut w us env a) tt)
      (λ a. from (expr.TotalTime a) _ (walks.reckoned-TotalTime w us env a) (unknown-ascends (own_unknown w)))
      (λ a b. from (expr.Violated a b) _ (walks.reckoned-Violated w us env a b) (unknown-ascends (preference_unknown w us b.bytes)))
      (λ a b. from (expr.TimeCost a b) _ (walks.reckoned-TimeCost w us env a b) (unknown-ascends (cost_unknown w us b.bytes)))

  pub form-ascends : (e : ExprTree) → IsForm (form_or_zero (reckoned w us env e))
  form-ascends e = by (reckoned w us env e).value (reckoned-ascends e)
    where
      by : (o : Option LinearForm) → IfForm o → IsForm (either (constant_form zeroℚ) (λ f. f) o)
      by None a = tt
      by (Some f) a = a

pub negative-ascends : (f : LinearForm) → IsForm (negative f)
negative-ascends f = plus-ascends (constant_form zeroℚ) minus_one f tt

pub tests-ascend : (w : World) (us : Unknowns) (t : Test) → Each IsForm (test_forms w us t)
tests-ascend w us t = by t.order (form_or_zero (difference w us t))
    (or_zero (difference w us t).value (operated-ascends t.place (difference_form t.order) (difference-ascends t.order) (reckoned w us t.env t.left ∷ reckoned w us t.env t.right ∷ [])
    (reckoned-ascends w us t.env t.left, (reckoned-ascends w us t.env t.right, tt))))
  where
    or_zero : (o : Option LinearForm) → IfForm o → IsForm (either (constant_form zeroℚ) (λ f. f) o)
    or_zero None a = tt
    or_zero (Some f) a = a

    by : (o : Comparison) (d : LinearForm) → IsForm d → Each IsForm (forms_of o d)
    by Equal d a = (a, (negative-ascends d, tt))
    by AtMost d a = (a, tt)
    by AtLeast d a = (a, tt)
    by Below d a = tt
    by Above d a = tt
