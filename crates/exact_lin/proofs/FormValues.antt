-- The value of a form, summed term by term.
use Rattle.std.proofs.Common.{◌≡◌, ℕ, ◌<◌, sym, ◌∙◌, ap, subst, List, [], ◌∷◌, length, map, get_or}
use Rattle.std.proofs.lemmas.List.{get_or-map}
use Rattle.rational.specs.Rational.{ℚ, zeroℚ, ◌+ℚ◌, ◌*ℚ◌}
use Rattle.rational.proofs.Field.{add_assoc, add_comm, zero_add}
use Rattle.exact_lin.specs.Forms.{Terms, Covers, terms_at, values_of, CanSumTerms}
use Rattle.exact_lin.specs.Reckonings.{AreDefined, product_sum}

-- a sum on its way: what is left adds up to the whole, and is defined exactly where the whole is
pub record Summing (limit size : ℕ) (x : ℕ → ℚ) (start : ℚ) (all : Terms) (sum : ℚ) (left : Terms) : Type 0 where
  pub value : sum +ℚ terms_at left x ≡ start +ℚ terms_at all x
  pub covered : Covers size left
  pub enough : CanSumTerms limit sum left x → CanSumTerms limit start all x
  pub needed : CanSumTerms limit start all x → CanSumTerms limit sum left x

pub advance : (limit size : ℕ) (x : ℕ → ℚ) (start : ℚ) (all : Terms) (sum next c value : ℚ) (n : ℕ) (ts : Terms)
    → value ≡ x n → AreDefined limit (product_sum sum c value) → next ≡ sum +ℚ c *ℚ value
    → Summing limit size x start all sum ((n, c) ∷ ts) → Summing limit size x start all next ts
advance limit size x start all sum next c value n ts here defined then s = record {
  value = ap (λ q. q +ℚ terms_at ts x) next-is ∙ add_assoc sum (c *ℚ x n) (terms_at ts x) ∙ s.value;
  covered = s.covered.1;
  enough = λ h. s.enough (there.0, there.1.0, subst (λ (q : ℚ). CanSumTerms limit q ts x) next-is h);
  needed = λ h. subst (λ (q : ℚ). CanSumTerms limit q ts x) (sym next-is) (s.needed h).2;
}
  where
    there : AreDefined limit (product_sum sum c (x n))
    there = subst (λ (q : ℚ). AreDefined limit (product_sum sum c q)) here defined

    next-is : next ≡ sum +ℚ c *ℚ x n
    next-is = then ∙ ap (λ q. sum +ℚ c *ℚ q) here

-- where the next step is not defined, the whole is not
pub stopped : (limit size : ℕ) (x : ℕ → ℚ) (start : ℚ) (all : Terms) (sum c value : ℚ) (n : ℕ) (ts : Terms) → value ≡ x n → ¬ AreDefined limit (product_sum sum c value)
    → Summing limit size x start all sum ((n, c) ∷ ts) → ¬ CanSumTerms limit start all x
stopped limit size x start all sum c value n ts here none s h =
    let d = s.needed h in none (subst (λ (q : ℚ). AreDefined limit (product_sum sum c q)) (sym here) (d.0, (d.1, tt)))

-- the element at a place is the value of the point there
pub point-value : {S : Type 0} (f : S → ℚ) (xs : List S) (i n : ℕ) (p : S) → i ≡ n → n < length xs → p ≡ get_or xs i p → f p ≡ values_of (map f xs) n
point-value f xs i n p e h is = ap f (is ∙ ap (λ (k : ℕ). get_or xs k p) e) ∙ sym (get_or-map f xs n p zeroℚ h)

-- the sum of the terms after the last
pub sum_end : (q : ℚ) → q +ℚ zeroℚ ≡ q
sum_end q = add_comm q zeroℚ ∙ zero_add q

pub ended : (limit size : ℕ) (x : ℕ → ℚ) (start : ℚ) (all : Terms) (sum : ℚ) → Summing limit size x start all sum [] → CanSumTerms limit start all x × (sum ≡ start +ℚ terms_at all x)
ended limit size x start all sum s = (s.enough tt, sym (sum_end sum) ∙ s.value)
