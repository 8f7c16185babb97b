-- Reckonings are defined or not, in parts and place by place.
use Rattle.std.proofs.Common.{◌≡◌, ◌⊎◌, inl, inr, ⊎_elim, ℕ, ◌≤◌, List, [], ◌∷◌, ◌++◌, refl, arith}
use Rattle.rational.specs.Rational.{ℚ, ◌+ℚ◌, ◌*ℚ◌}
use Rattle.basics.specs.Duties.{AllDecided}
use Rattle.basics.proofs.Duties.{met_or_first_unmet}
use Rattle.basics.proofs.Lists.{each_append, each_left, each_right, each_decided}
use Rattle.exact_lin.specs.Reckoning.{CanAdd, CanMultiply}
use Rattle.exact_lin.specs.Forms.{Terms, CanSumTerms}
use Rattle.exact_lin.specs.Reckonings.{Reckoning, Sum, Product, Value, IsDefined, AreDefined, product_sum, product_sums, sum_of_products, place_duties, AllDefined, IsFirstUndefined}

-- ---- a reckoning is defined or isn't
at_most_or_not : (m n : ℕ) → (m ≤ n) ⊎ (¬ (m ≤ n))
at_most_or_not m n = grind arith

pub sum-decided : (limit : ℕ) (q r : ℚ) → CanAdd limit q r ⊎ (¬ CanAdd limit q r)
sum-decided limit q r = ⊎_elim
    (λ a. ⊎_elim
    (λ b. ⊎_elim
    (λ c. ⊎_elim (λ d. inl (record { left = a; right = b; both = c; denominator = d })) (λ n. inr (λ h. n h.denominator)) (at_most_or_not _ limit))
    (λ n. inr (λ h. n h.both)) (at_most_or_not _ limit))
    (λ n. inr (λ h. n h.right)) (at_most_or_not _ limit))
    (λ n. inr (λ h. n h.left)) (at_most_or_not _ limit)

pub product-decided : (limit : ℕ) (q r : ℚ) → CanMultiply limit q r ⊎ (¬ CanMultiply limit q r)
product-decided limit q r = ⊎_elim
    (λ a. ⊎_elim (λ b. inl (record { numerator = a; denominator = b })) (λ n. inr (λ h. n h.denominator)) (at_most_or_not _ limit))
    (λ n. inr (λ h. n h.numerator)) (at_most_or_not _ limit)

pub terms-decided : (limit : ℕ) (sum : ℚ) (ts : Terms) (x : ℕ → ℚ) → CanSumTerms limit sum ts x ⊎ (¬ CanSumTerms limit sum ts x)
terms-decided limit sum [] x = inl tt
terms-decided limit sum (t ∷ ts) x = ⊎_elim
    (λ a. ⊎_elim
    (λ b. ⊎_elim (λ c. inl (a, b, c)) (λ n. inr (λ h. n h.2)) (terms-decided limit (sum +ℚ t.1 *ℚ x t.0) ts x))
    (λ n. inr (λ h. n h.1)) (sum-decided limit sum (t.1 *ℚ x t.0)))
    (λ n. inr (λ h. n h.0)) (product-decided limit t.1 (x t.0))

pub IsDefined-decided : (limit : ℕ) (r : Reckoning) → IsDefined limit r ⊎ (¬ IsDefined limit r)
IsDefined-decided limit (Sum q r) = sum-decided limit q r
IsDefined-decided limit (Product q r) = product-decided limit q r
IsDefined-decided limit (Value form point) = terms-decided limit form.constant form.terms point

pub AreDefined-decided : (limit : ℕ) (rs : List Reckoning) → AreDefined limit rs ⊎ (¬ AreDefined limit rs)
AreDefined-decided limit rs = each_decided (IsDefined limit) (IsDefined-decided limit) rs

-- ---- reckonings in parts
pub AreDefined-append : (limit : ℕ) (rs ss : List Reckoning) → AreDefined limit rs → AreDefined limit ss → AreDefined limit (rs ++ ss)
AreDefined-append limit rs ss h k = each_append (IsDefined limit) rs ss h k

pub AreDefined-left : (limit : ℕ) (rs ss : List Reckoning) → AreDefined limit (rs ++ ss) → AreDefined limit rs
AreDefined-left limit rs ss h = each_left (IsDefined limit) rs ss h

pub AreDefined-right : (limit : ℕ) (rs ss : List Reckoning) → AreDefined limit (rs ++ ss) → AreDefined limit ss
AreDefined-right limit rs ss h = each_right (IsDefined limit) rs ss h

-- ---- a sum of products, done in part: what is left of it

-- the sum of `all` from `start` goes on as that of `rest` from `now`
pub record GoesOn (limit : ℕ) (start : ℚ) (all : List (ℚ × ℚ)) (now : ℚ) (rest : List (ℚ × ℚ)) : Type 0 where
  pub value : sum_of_products start all ≡ sum_of_products now rest
  pub onward : AreDefined limit (product_sums start all) → AreDefined limit (product_sums now rest)
  pub back : AreDefined limit (product_sums now rest) → AreDefined limit (product_sums start all)

pub GoesOn-begin : (limit : ℕ) (start : ℚ) (all : List (ℚ × ℚ)) → GoesOn limit start all start all
GoesOn-begin limit start all = record { value = refl; onward = λ h. h; back = λ h. h }

-- the next product is added
pub GoesOn-next : (limit : ℕ) (start : ℚ) (all : List (ℚ × ℚ)) (now y a : ℚ) (rest : List (ℚ × ℚ)) → GoesOn limit start all now ((y, a) ∷ rest) → AreDefined limit (product_sum now y a)
    → GoesOn limit start all (now +ℚ y *ℚ a) rest
GoesOn-next limit start all now y a rest g d = record {
  value = g.value;
  onward = λ h. (g.onward h).1.1;
  back = λ h. g.back (d.0, (d.1.0, h));
}

-- or it isn't defined, and then all is not
pub GoesOn-stop : (limit : ℕ) (start : ℚ) (all : List (ℚ × ℚ)) (now y a : ℚ) (rest : List (ℚ × ℚ)) → GoesOn limit start all now ((y, a) ∷ rest) → ¬ AreDefined limit (product_sum now y a)
    → ¬ AreDefined limit (product_sums start all)
GoesOn-stop limit start all now y a rest g n = λ h. let d = g.onward h in n (d.0, (d.1.0, tt))

-- ---- places
pub places-decided : {P : Type 0} (limit : ℕ) (places : List (P × List Reckoning)) → AllDecided (place_duties limit places)
places-decided limit [] = tt
places-decided limit (p ∷ ps) = (AreDefined-decided limit p.1, places-decided limit ps)

pub all_or_first_undefined : {P : Type 0} (limit : ℕ) (places : List (P × List Reckoning)) → AllDefined limit places ⊎ ((p : P) × IsFirstUndefined limit places p)
all_or_first_undefined limit places = met_or_first_unmet (place_duties limit places) (places-decided limit places)
