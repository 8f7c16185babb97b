-- The unknowns of the form that an expression is reckoned as are unknowns that it names.
use Rattle.std.proofs.Common.{◌≡◌, sym, subst, ℕ, Bool, true, false, ◌&&◌, List, [], ◌∷◌, ◌++◌, map, Option, Some, None, pos}
use Rattle.std.specs.Prelude.{if◌then◌else◌}
use Rattle.std.specs.List.{AllByRecursion as Each}
use Rattle.std.specs.Ordering.{nat_cmp, match_ordering}
use Rattle.std.specs.declared.cmp.Ordering.{Ordering}
use Rattle.std.specs.declared.cmp.Ordering.TheVariants.{Less, Equal, Greater}
use Rattle.basics.proofs.Lists.{each_map}
use Rattle.rational.specs.Rational.{ℚ, zeroℚ, whole, inverse, ◌+ℚ◌, ◌*ℚ◌}
use Rattle.exact_lin.specs.Forms.{LinearForm, Terms, constant_form, with_term, increased, increased_by, plus_scaled, is_zero}
use Rattle.pddl_terms.specs.declared.trees.Atom.{Atom}
use Rattle.pddl_terms.specs.declared.trees.ExprTree.{ExprTree}
use Rattle.pddl_terms.specs.declared.trees.ExprTree.TheVariants as expr
use Rattle.pddl_terms.specs.declared.trees.Name.{Name}
use Rattle.ground_world.specs.declared.operations.Flaw.TheVariants.{ZeroDivisor}
use Rattle.ground_world.specs.World.{World, Env, either, ground_fluent}
use Rattle.ground_world.specs.Expressions.{Unknowns, Reckoned, reckoned, added, then_form, scaled, sum_forms, has_terms, product_form, product_forms, all_values, operated, divided, one_by_one, minus_one, minus_form, quotient_form, own_unknown, preference_unknown, cost_unknown, can_add_terms, can_multiply, can_add, fluent_form, negative}
use Rattle.ground_world.proofs.Walks as walks

each_applied : {X : Type 0} (T P : X → Type 0) (xs : List X) → Each (λ x. T x → P x) xs → Each T xs → Each P xs
each_applied T P [] h k = tt
each_applied T P (x ∷ xs) h k = (h.0 k.0, each_applied T P xs h.1 k.1)

module _ (Q : ℕ → Type 0) where
  abbrev InTerms : Terms → Type 0
  InTerms ts = Each (λ t. Q t.0) ts

  -- each unknown of the form is such
  abbrev pub Within : LinearForm → Type 0
  Within f = InTerms f.terms

  abbrev pub IfWithin : Option LinearForm → Type 0
  IfWithin None = Unit {0}
  IfWithin (Some f) = Within f

  abbrev IfAllWithin : Option (List LinearForm) → Type 0
  IfAllWithin None = Unit {0}
  IfAllWithin (Some fs) = Each Within fs

  -- ---- sums and products

  with_term-within : (v : ℕ) (c : ℚ) (ts : Terms) → Q v → InTerms ts → InTerms (with_term v c ts)
  with_term-within v c ts q h = by (is_zero c)
    where
      by : (b : Bool) → InTerms (if b then ts else ((v, c) ∷ ts))
      by true = h
      by false = (q, h)

  increased-within : (ts : Terms) (v : ℕ) (c : ℚ) → InTerms ts → Q v → InTerms (increased ts v c)
  increased-within [] v c h q = with_term-within v c [] q tt
  increased-within (t ∷ ts) v c h q = by (nat_cmp t.0 v) (increased-within ts v c h.1 q)
    where
      by : (o : Ordering) → InTerms (increased ts v c) → InTerms (match_ordering o (t ∷ increased ts v c) (with_term v (t.1 +ℚ c) ts) (with_term v c (t ∷ ts)))
      by Less rest = (h.0, rest)
      by Equal rest = with_term-within v (t.1 +ℚ c) ts q h.1
      by Greater rest = with_term-within v c (t ∷ ts) q h

  increased_by-within : (ts : Terms) (y : ℚ) (us : Terms) → InTerms ts → InTerms us → InTerms (increased_by ts y us)
  increased_by-within ts y [] h k = h
  increased_by-within ts y (u ∷ us) h k = increased_by-within (increased ts u.0 (y *ℚ u.1)) y us (increased-within ts u.0 (y *ℚ u.1) h k.0) k.1

  added-within : (f : LinearForm) (y : ℚ) (g : LinearForm) → Within f → Within g → IfWithin (added f y g)
  added-within f y g h k = by (can_add_terms f.terms y g.terms && can_multiply y g.constant && can_add f.constant (y *ℚ g.constant))
    where
      by : (b : Bool) → IfWithin (if b then Some (plus_scaled f y g) else None)
      by true = increased_by-within f.terms y g.terms h k
      by false = tt

  scaled-within : (y : ℚ) (f : LinearForm) → Within f → IfWithin (scaled y f)
  scaled-within y f h = added-within (constant_form zeroℚ) y f tt h

  pub negative-within : (f : LinearForm) → Within f → Within (negative f)
  negative-within f h = increased_by-within [] minus_one f.terms tt h

  then-within : (o : Option LinearForm) (k : LinearForm → Option LinearForm) → IfWithin o → ((h : LinearForm) → Within h → IfWithin (k h)) → IfWithin (then_form o k)
  then-within None k a h = tt
  then-within (Some f) k a h = h f a

  sum-within : (f : LinearForm) (gs : List LinearForm) → Within f → Each Within gs → IfWithin (sum_forms f gs)
  sum-within f [] a b = a
  sum-within f (g ∷ gs) a b = then-within (added f (whole (pos 1)) g) (λ h. sum_forms h gs) (added-within f (whole (pos 1)) g a b.0) (λ h c. sum-within h gs c b.1)

  product-within : (f g : LinearForm) → Within f → Within g → IfWithin (product_form f g)
  product-within f g a b = by (has_terms g) (has_terms f)
    where
      by : (c e : Bool) → IfWithin (if c then (if e then None else scaled f.constant g) else scaled g.constant f)
      by true true = tt
      by true false = scaled-within f.constant g b
      by false e = scaled-within g.constant f a

  products-within : (f : LinearForm) (gs : List LinearForm) → Within f → Each Within gs → IfWithin (product_forms f gs)
  products-within f [] a b = a
  products-within f (g ∷ gs) a b = then-within (product_form f g) (λ h. product_forms h gs) (product-within f g a b.0) (λ h c. products-within h gs c b.1)

  one_by_one-within : (k : LinearForm → List LinearForm → Option LinearForm) → ((f : LinearForm) (gs : List LinearForm) → Within f → Each Within gs → IfWithin (k f gs))
      → (fs : List LinearForm) → Each Within fs → IfWithin (one_by_one k fs)
  one_by_one-within k h [] a = tt
  one_by_one-within k h (f ∷ fs) a = h f fs a.0 a.1

  minus-within : (fs : List LinearForm) → Each Within fs → IfWithin (minus_form fs)
  minus-within [] a = tt
  minus-within (f ∷ []) a = scaled-within minus_one f a.0
  minus-within (f ∷ g ∷ []) a = added-within f minus_one g a.0 a.1.0
  minus-within (f ∷ g ∷ h ∷ fs) a = tt

  quotient-within : (fs : List LinearForm) → Each Within fs → IfWithin (quotient_form fs)
  quotient-within [] a = tt
  quotient-within (f ∷ []) a = tt
  quotient-within (f ∷ g ∷ []) a = by (has_terms g)
    where
      by : (b : Bool) → IfWithin (if b then None else scaled (inverse g.constant) f)
      by true = tt
      by false = scaled-within (inverse g.constant) f a.0
  quotient-within (f ∷ g ∷ h ∷ fs) a = tt

  -- ---- values

  one_more : (v : Option LinearForm) (o : Option (List LinearForm)) → IfWithin v → IfAllWithin o → IfAllWithin (either None (λ f. either None (λ fs. Some (f ∷ fs)) o) v)
  one_more None o a b = tt
  one_more (Some f) None a b = tt
  one_more (Some f) (Some fs) a b = (a, b)

  values-within : (rs : List Reckoned) → Each (λ r. IfWithin r.value) rs → IfAllWithin (all_values rs)
  values-within [] h = tt
  values-within (r ∷ rs) h = one_more r.value (all_values rs) h.0 (values-within rs h.1)

  applied-within : (operation : List LinearForm → Option LinearForm) → ((fs : List LinearForm) → Each Within fs → IfWithin (operation fs)) → (o : Option (List LinearForm)) → IfAllWithin o → IfWithin (either None operation o)
  applied-within operation h None a = tt
  applied-within operation h (Some fs) a = h fs a

  operated-within : (p : ℕ) (operation : List LinearForm → Option LinearForm) → ((fs : List LinearForm) → Each Within fs → IfWithin (operation fs))
      → (rs : List Reckoned) → Each (λ r. IfWithin r.value) rs → IfWithin (operated p operation rs).value
  operated-within p operation h rs a = applied-within operation h (all_values rs) (values-within rs a)

  divided-within : (p : ℕ) (r s : Reckoned) → IfWithin r.value → IfWithin s.value → IfWithin (divided p r s).value
  divided-within p r s a b = by (either false (λ g. is_zero g.constant) s.value)
    where
      by : (z : Bool) → IfWithin (if z then record { place = p; value = None; flaws = r.flaws ++ s.flaws ++ (ZeroDivisor s.place ∷ []) } else operated p quotient_form (r ∷ s ∷ [])).value
      by true = tt
      by false = operated-within p quotient_form quotient-within (r ∷ s ∷ []) (a, (b, tt))

  -- ---- what is told of an expression is told of its parts, and of the unknowns that it names
  module _ (w : World) (us : Unknowns) (env : Env) (T : ExprTree → Type 0) where
    abbrev Value : ExprTree → Type 0
    Value e = IfWithin (reckoned w us env e).value

    abbrev pub Told : ExprTree → Type 0
    Told e = T e → Value e

    from : (e : ExprTree) (r : Reckoned) → reckoned w us env e ≡ r → IfWithin r.value → Value e
    from e r h a = subst (λ (x : Reckoned). IfWithin x.value) (sym h) a

    all-within : (es : List ExprTree) → Each Told es → Each T es → Each (λ r. IfWithin r.value) (map (λ c. reckoned w us env c) es)
    all-within es h k = each_map (λ r. IfWithin r.value) (λ c. reckoned w us env c) es (each_applied T Value es h k)

    pub told-number : (a : ℕ) (b : ℚ) → Told (expr.Number a b)
    told-number a b t = from (expr.Number a b) _ (walks.reckoned-Number w us env a b) tt

    pub told-fluent : (a : Atom) → (T (expr.Fluent a) → Within (fluent_form w (ground_fluent w env a))) → Told (expr.Fluent a)
    told-fluent a f t = from (expr.Fluent a) _ (walks.reckoned-Fluent w us env a) (f t)

    pub told-sum : (a : ℕ) (b : List ExprTree) → (T (expr.Sum a b) → Each T b) → Each Told b → Told (expr.Sum a b)
    told-sum a b f h t = from (expr.Sum a b) _ (walks.reckoned-Sum w us env a b) (operated-within a (one_by_one sum_forms) (one_by_one-within sum_forms sum-within) (map (λ c. reckoned w us env c) b) (all-within b h (f t)))

    pub told-product : (a : ℕ) (b : List ExprTree) → (T (expr.Product a b) → Each T b) → Each Told b → Told (expr.Product a b)
    told-product a b f h t = from (expr.Product a b) _ (walks.reckoned-Product w us env a b) (operated-within a (one_by_one product_forms) (one_by_one-within product_forms products-within) (map (λ c. reckoned w us env c) b) (all-within b h (f t)))

    pub told-negative : (a : ℕ) (b : ExprTree) → (T (expr.Negative a b) → T b) → Told b → Told (expr.Negative a b)
    told-negative a b f h t = from (expr.Negative a b) _ (walks.reckoned-Negative w us env a b) (operated-within a minus_form minus-within (reckoned w us env b ∷ []) (h (f t), tt))

    pub told-difference : (a : ℕ) (b c : ExprTree) → (T (expr.Difference a b c) → T b × T c) → Told b → Told c → Told (expr.Difference a b c)
    told-difference a b c f h k t = from (expr.Difference a b c) _ (walks.reckoned-Difference w us env a b c) (operated-within a minus_form minus-within (reckoned w us env b ∷ reckoned w us env c ∷ []) (h (f t).0, (k (f t).1, tt)))

    pub told-quotient : (a : ℕ) (b c : ExprTree) → (T (expr.Quotient a b c) → T b × T c) → Told b → Told c → Told (expr.Quotient a b c)
    told-quotient a b c f h k t = from (expr.Quotient a b c) _ (walks.reckoned-Quotient w us env a b c) (divided-within a (reckoned w us env b) (reckoned w us env c) (h (f t).0) (k (f t).1))

    pub told-left_out : (a : ℕ) → Told (expr.LeftOut a)
    told-left_out a t = from (expr.LeftOut a) _ (walks.reckoned-LeftOut w us env a) tt

    pub told-total_time : (a : ℕ) → (T (expr.TotalTime a) → Q (own_unknown w)) → Told (expr.TotalTime a)
    told-total_time a f t = from (expr.TotalTime a) _ (walks.reckoned-TotalTime w us env a) (f t, tt)

    pub told-violated : (a : ℕ) (b : Name) → (T (expr.Violated a b) → Q (preference_unknown w us b.bytes)) → Told (expr.Violated a b)
    told-violated a b f t = from (expr.Violated a b) _ (walks.reckoned-Violated w us env a b) (f t, tt)

    pub told-time_cost : (a : ℕ) (b : Name) → (T (expr.TimeCost a b) → Q (cost_unknown w us b.bytes)) → Told (expr.TimeCost a b)
    told-time_cost a b f t = from (expr.TimeCost a b) _ (walks.reckoned-TimeCost w us env a b) (f t, tt)
