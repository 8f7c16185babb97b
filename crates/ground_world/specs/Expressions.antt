-- Believed: how an expression is reckoned: from the inside out, operands from left to right, as a constant and
-- coefficients, in fractions of 128 bits; and where it has no value.
use Rattle.std.specs.Prelude.{ℕ, ◌+◌, ◌*◌, Bool, true, false, ◌&&◌, not, nat_le, if◌then◌else◌, List, [], ◌∷◌, ◌++◌, length, Option, Some, None, pos, negsuc}
use Rattle.std.specs.List.{flat_map}
use lib.IntN.{nat_abs}
use Rattle.rational.specs.Rational.{ℚ, zeroℚ, whole, ◌*ℚ◌, inverse}
use Rattle.exact_lin.specs.Reckoning.{wide_limit, product_numerator, product_denominator, left_term, right_term, both_terms, sum_denominator}
use Rattle.exact_lin.specs.Forms.{LinearForm, Terms, coefficient, constant_form, plus_scaled, is_zero}
use Rattle.pddl_terms.specs.declared.trees.ExprTree.{ExprTree, fold-ExprTree}
use Rattle.pddl_terms.specs.declared.trees.ExprTree.TheOpen.{ExprTree-F}
use Rattle.pddl_names.specs.Declarations.{Text}
use Rattle.ground_world.specs.declared.operations.Flaw.{Flaw}
use Rattle.ground_world.specs.declared.operations.Flaw.TheVariants.{TooWide, ZeroDivisor}
use Rattle.ground_world.specs.World.{either, World, Env, GroundAtom, place_in, ground_fluent, symbol, number_in}

-- ---- sums and products of forms, where they are defined

-- the product of two fractions is defined: no part of it is past the limit
unfoldable pub can_multiply : ℚ → ℚ → Bool
can_multiply q r = nat_le (nat_abs (product_numerator q.num q.den r.num r.den)) wide_limit
    && nat_le (product_denominator q.num q.den r.num r.den) wide_limit

-- the sum of two fractions is defined
unfoldable pub can_add : ℚ → ℚ → Bool
can_add q r = nat_le (nat_abs (left_term q.num q.den r.num r.den)) wide_limit
    && nat_le (nat_abs (right_term q.num q.den r.num r.den)) wide_limit
    && nat_le (nat_abs (both_terms q.num q.den r.num r.den)) wide_limit
    && nat_le (sum_denominator q.num q.den r.num r.den) wide_limit

abbrev pub can_add_terms : Terms → ℚ → Terms → Bool
can_add_terms ts y [] = true
can_add_terms ts y (u ∷ us) = can_multiply y u.1 && can_add (coefficient ts u.0) (y *ℚ u.1) && can_add_terms ts y us

-- f and y times g, added coefficient by coefficient, where each product and each sum is defined
abbrev pub added : LinearForm → ℚ → LinearForm → Option LinearForm
added f y g = if can_add_terms f.terms y g.terms && can_multiply y g.constant && can_add f.constant (y *ℚ g.constant)
    then Some (plus_scaled f y g) else None

abbrev pub then_form : Option LinearForm → (LinearForm → Option LinearForm) → Option LinearForm
then_form None f = None
then_form (Some g) f = f g

abbrev pub scaled : ℚ → LinearForm → Option LinearForm
scaled y f = added (constant_form zeroℚ) y f

abbrev pub sum_forms : LinearForm → List LinearForm → Option LinearForm
sum_forms f [] = Some f
sum_forms f (g ∷ gs) = then_form (added f (whole (pos 1)) g) (λ h. sum_forms h gs)

abbrev pub has_terms : LinearForm → Bool
has_terms f = not (nat_le (length f.terms) 0)

-- one of two factors is a number
abbrev pub product_form : LinearForm → LinearForm → Option LinearForm
product_form f g = if has_terms g then (if has_terms f then None else scaled f.constant g) else scaled g.constant f

abbrev pub product_forms : LinearForm → List LinearForm → Option LinearForm
product_forms f [] = Some f
product_forms f (g ∷ gs) = then_form (product_form f g) (λ h. product_forms h gs)

-- ---- what is reckoned of an expression

-- where an expression begins, its value where it has one, and its flaws in the order of the reckoning
pub record Reckoned : Type 0 where
  pub place : ℕ
  pub value : Option LinearForm
  pub flaws : List Flaw

abbrev pub all_values : List Reckoned → Option (List LinearForm)
all_values [] = Some []
all_values (r ∷ rs) = either None (λ f. either None (λ fs. Some (f ∷ fs)) (all_values rs)) r.value

abbrev pub own_flaw : {A : Type 0} → ℕ → Option A → List Flaw
own_flaw p None = TooWide p ∷ []
own_flaw p (Some f) = []

-- A list has the value that its operation gives to those of its operands, where they have values.
abbrev pub operated : ℕ → (List LinearForm → Option LinearForm) → List Reckoned → Reckoned
operated p operation parts = record {
  place = p;
  value = either None operation (all_values parts);
  flaws = flat_map (λ r. r.flaws) parts ++ either [] (λ fs. own_flaw p (operation fs)) (all_values parts);
}

abbrev pub valued : ℕ → LinearForm → Reckoned
valued p f = record { place = p; value = Some f; flaws = [] }

-- the form of one unknown
abbrev pub unknown : ℕ → LinearForm
unknown v = record { constant = zeroℚ; terms = (v, whole (pos 1)) ∷ [] }

abbrev pub one_by_one : (LinearForm → List LinearForm → Option LinearForm) → List LinearForm → Option LinearForm
one_by_one f [] = None
one_by_one f (x ∷ xs) = f x xs

abbrev pub minus_one : ℚ
minus_one = whole (negsuc 0)

abbrev pub minus_form : List LinearForm → Option LinearForm
minus_form (f ∷ g ∷ []) = added f minus_one g
minus_form (f ∷ []) = scaled minus_one f
minus_form _ = None

abbrev pub quotient_form : List LinearForm → Option LinearForm
quotient_form (f ∷ g ∷ []) = if has_terms g then None else scaled (inverse g.constant) f
quotient_form _ = None

-- A quotient by 0 has no value and a flaw of its own; any other is the product with the reciprocal.
abbrev pub divided : ℕ → Reckoned → Reckoned → Reckoned
divided p r s = if either false (λ g. is_zero g.constant) s.value
    then record { place = p; value = None; flaws = r.flaws ++ s.flaws ++ (ZeroDivisor s.place ∷ []) }
    else operated p quotient_form (r ∷ s ∷ [])

-- ---- unknowns

-- The unknowns of a form are the fluents by their numbers; then `?duration` or `total-time`; then, in a metric, the
-- names of preferences and of time costs by turns.
pub record Unknowns : Type 0 where
  pub preferences : List Text
  pub costs : List Text

abbrev pub own_unknown : World → ℕ
own_unknown w = length w.fluents

abbrev pub preference_unknown : World → Unknowns → Text → ℕ
preference_unknown w us n = own_unknown w + 1 + 2 * place_in us.preferences n

abbrev pub cost_unknown : World → Unknowns → Text → ℕ
cost_unknown w us n = own_unknown w + 2 + 2 * place_in us.costs n

-- A fluent of a static function is its value, any other an unknown.
abbrev pub fluent_form : World → GroundAtom → LinearForm
fluent_form w f = if w.is_static_function (symbol f) then constant_form (either zeroℚ (λ q. q) (w.value_of f))
    else unknown (number_in w.fluents f)

abbrev pub reckoned_layer : World → Unknowns → Env → ExprTree-F Reckoned → Reckoned
reckoned_layer w us env (ExprTree-F.Number at q) = valued at (constant_form q)
reckoned_layer w us env (ExprTree-F.Fluent a) = valued a.at (fluent_form w (ground_fluent w env a))
reckoned_layer w us env (ExprTree-F.Duration at) = valued at (unknown (own_unknown w))
reckoned_layer w us env (ExprTree-F.Sum at parts) = operated at (one_by_one sum_forms) parts
reckoned_layer w us env (ExprTree-F.Product at parts) = operated at (one_by_one product_forms) parts
reckoned_layer w us env (ExprTree-F.Negative at r) = operated at minus_form (r ∷ [])
reckoned_layer w us env (ExprTree-F.Difference at r s) = operated at minus_form (r ∷ s ∷ [])
reckoned_layer w us env (ExprTree-F.Quotient at r s) = divided at r s
reckoned_layer w us env (ExprTree-F.LeftOut at) = record { place = at; value = None; flaws = [] }
reckoned_layer w us env (ExprTree-F.TotalTime at) = valued at (unknown (own_unknown w))
reckoned_layer w us env (ExprTree-F.Violated at n) = valued at (unknown (preference_unknown w us n.bytes))
reckoned_layer w us env (ExprTree-F.TimeCost at n) = valued at (unknown (cost_unknown w us n.bytes))

-- An expression is reckoned from its parts up.
unfoldable pub reckoned : World → Unknowns → Env → ExprTree → Reckoned
reckoned w us env e = fold-ExprTree Reckoned (reckoned_layer w us env) e

-- ---- the fluents that an expression mentions, each with its place

abbrev pub mentioned_layer : World → Env → ExprTree-F (List (ℕ × GroundAtom)) → List (ℕ × GroundAtom)
mentioned_layer w env (ExprTree-F.Fluent a) = (a.at, ground_fluent w env a) ∷ []
mentioned_layer w env (ExprTree-F.Sum at parts) = flat_map (λ part. part) parts
mentioned_layer w env (ExprTree-F.Product at parts) = flat_map (λ part. part) parts
mentioned_layer w env (ExprTree-F.Negative at r) = r
mentioned_layer w env (ExprTree-F.Difference at r s) = r ++ s
mentioned_layer w env (ExprTree-F.Quotient at r s) = r ++ s
mentioned_layer w env _ = []

unfoldable pub mentioned : World → Env → ExprTree → List (ℕ × GroundAtom)
mentioned w env e = fold-ExprTree (List (ℕ × GroundAtom)) (mentioned_layer w env) e

-- ---- what is made of the values

-- the form that an expression comes to; 0 where it has no value
abbrev pub form_or_zero : Reckoned → LinearForm
form_or_zero r = either (constant_form zeroℚ) (λ f. f) r.value

abbrev pub negative : LinearForm → LinearForm
negative f = plus_scaled (constant_form zeroℚ) minus_one f

-- The undefined reckonings that count are those before the first divisor of value 0.
abbrev pub wide_places : List Flaw → List ℕ
wide_places [] = []
wide_places (TooWide p ∷ flaws) = p ∷ wide_places flaws
wide_places (ZeroDivisor p ∷ flaws) = []

abbrev pub zero_divisors : List Flaw → List ℕ
zero_divisors [] = []
zero_divisors (TooWide p ∷ flaws) = zero_divisors flaws
zero_divisors (ZeroDivisor p ∷ flaws) = p ∷ zero_divisors flaws
