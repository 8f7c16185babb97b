-- The tests of sums and products say where these are defined.
use Rattle.std.proofs.Common.{◌≡◌, refl, ap, ℕ, ◌≤◌, arith, Bool, true, false, ◌&&◌, nat_le, [], ◌∷◌, Some, None, if◌then◌else◌}
use Rattle.std.proofs.lemmas.Bool.Decides.{nat_tests}
use lib.IntN.{nat_abs}
use Rattle.rational.specs.Rational.{ℚ, ◌*ℚ◌}
use Rattle.exact_lin.specs.Reckoning.{wide_limit, CanAdd, CanMultiply, product_numerator, product_denominator, left_term, right_term, both_terms, sum_denominator}
use Rattle.exact_lin.specs.Forms.{LinearForm, Terms, coefficient, plus_scaled, CanAddTerms, CanAddScaled}
use Rattle.ground_world.specs.Expressions.{can_multiply, can_add, can_add_terms, added}

two-to : (a b m : ℕ) → a ≤ m → b ≤ m → (nat_le a m && nat_le b m) ≡ true
two-to a b m h k = grind (arith, nat_tests)

two-from : (a b m : ℕ) → (nat_le a m && nat_le b m) ≡ true → (a ≤ m) × (b ≤ m)
two-from a b m e = grind (arith, nat_tests)

four-to : (a b c d m : ℕ) → a ≤ m → b ≤ m → c ≤ m → d ≤ m → (nat_le a m && nat_le b m && nat_le c m && nat_le d m) ≡ true
four-to a b c d m h k l n = grind (arith, nat_tests)

four-from : (a b c d m : ℕ) → (nat_le a m && nat_le b m && nat_le c m && nat_le d m) ≡ true → (a ≤ m) × (b ≤ m) × (c ≤ m) × (d ≤ m)
four-from a b c d m e = grind (arith, nat_tests)

pub multiply-to : (q r : ℚ) → CanMultiply wide_limit q r → can_multiply q r ≡ true
unfolding can_multiply
multiply-to q r h = two-to (nat_abs (product_numerator q.num q.den r.num r.den)) (product_denominator q.num q.den r.num r.den) wide_limit h.numerator h.denominator

pub multiply-from : (q r : ℚ) → can_multiply q r ≡ true → CanMultiply wide_limit q r
unfolding can_multiply
multiply-from q r e = let h = two-from (nat_abs (product_numerator q.num q.den r.num r.den)) (product_denominator q.num q.den r.num r.den) wide_limit e in record { numerator = h.0; denominator = h.1 }

pub add-to : (q r : ℚ) → CanAdd wide_limit q r → can_add q r ≡ true
unfolding can_add
add-to q r h = four-to (nat_abs (left_term q.num q.den r.num r.den)) (nat_abs (right_term q.num q.den r.num r.den)) (nat_abs (both_terms q.num q.den r.num r.den)) (sum_denominator q.num q.den r.num r.den) wide_limit h.left h.right h.both h.denominator

pub add-from : (q r : ℚ) → can_add q r ≡ true → CanAdd wide_limit q r
unfolding can_add
add-from q r e = let h = four-from (nat_abs (left_term q.num q.den r.num r.den)) (nat_abs (right_term q.num q.den r.num r.den)) (nat_abs (both_terms q.num q.den r.num r.den)) (sum_denominator q.num q.den r.num r.den) wide_limit e in record { left = h.0; right = h.1; both = h.2; denominator = h.3 }

three-to : (a b c : Bool) → a ≡ true → b ≡ true → c ≡ true → (a && b && c) ≡ true
three-to a b c h k l = grind (arith, nat_tests)

three-from : (a b c : Bool) → (a && b && c) ≡ true → (a ≡ true) × (b ≡ true) × (c ≡ true)
three-from true true true e = (refl, refl, refl)
three-from true true false e = (refl, refl, e)
three-from true false c e = absurd (cc)
three-from false b c e = absurd (cc)

terms-to : (ts : Terms) (y : ℚ) (us : Terms) → CanAddTerms wide_limit ts y us → can_add_terms ts y us ≡ true
terms-to ts y [] h = refl
terms-to ts y (u ∷ us) h = three-to (can_multiply y u.1) (can_add (coefficient ts u.0) (y *ℚ u.1)) (can_add_terms ts y us) (multiply-to y u.1 h.0) (add-to (coefficient ts u.0) (y *ℚ u.1) h.1) (terms-to ts y us h.2)

terms-from : (ts : Terms) (y : ℚ) (us : Terms) → can_add_terms ts y us ≡ true → CanAddTerms wide_limit ts y us
terms-from ts y [] e = tt
terms-from ts y (u ∷ us) e =
    let h = three-from (can_multiply y u.1) (can_add (coefficient ts u.0) (y *ℚ u.1)) (can_add_terms ts y us) e in
    (multiply-from y u.1 h.0, add-from (coefficient ts u.0) (y *ℚ u.1) h.1, terms-from ts y us h.2)

pub added-defined : (f : LinearForm) (y : ℚ) (g : LinearForm) → CanAddScaled wide_limit f y g → added f y g ≡ Some (plus_scaled f y g)
added-defined f y g h =
    ap (λ b. if b then Some (plus_scaled f y g) else None) (three-to (can_add_terms f.terms y g.terms) (can_multiply y g.constant) (can_add f.constant (y *ℚ g.constant)) (terms-to f.terms y g.terms h.terms) (multiply-to y g.constant h.product) (add-to f.constant (y *ℚ g.constant) h.constant))

pub added-wide : (f : LinearForm) (y : ℚ) (g : LinearForm) → ¬ (CanAddScaled wide_limit f y g) → added f y g ≡ None
added-wide f y g refused = by (can_add_terms f.terms y g.terms && can_multiply y g.constant && can_add f.constant (y *ℚ g.constant)) refl
  where
    by : (b : Bool) → (can_add_terms f.terms y g.terms && can_multiply y g.constant && can_add f.constant (y *ℚ g.constant)) ≡ b → added f y g ≡ None
    by true e =
        let h = three-from (can_add_terms f.terms y g.terms) (can_multiply y g.constant) (can_add f.constant (y *ℚ g.constant)) e in
        absurd (refused (record { terms = terms-from f.terms y g.terms h.0; product = multiply-from y g.constant h.1; constant = add-from f.constant (y *ℚ g.constant) h.2 }))
    by false e = ap (λ b. if b then Some (plus_scaled f y g) else None) e
