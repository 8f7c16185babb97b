-- What adding terms does to the ids, the coefficients and the linear function of a form.
use Rattle.std.proofs.Common.{◌≡◌, ◌≢◌, ℕ, ◌+◌, ◌<◌, ◌≤◌, sym, ◌∙◌, ap, ap₂, subst, refl, arith, [], ◌∷◌, Less, Equal, Greater, Ordering, Bool, true, false, if◌then◌else◌}
use Rattle.std.specs.Ordering.{nat_cmp, match_ordering}
use Rattle.rational.specs.Rational.{ℚ, zeroℚ, ◌+ℚ◌, ◌*ℚ◌}
use Rattle.rational.proofs.Field.{zero_add, zero_mul, add_comm, ℚ_ring}
use Rattle.rational.proofs.Ring.{law, num, ◌⊕◌, ◌⊗◌, ◌≐◌}
use Rattle.exact_lin.specs.Forms.{Terms, LinearForm, AscendFrom, Covers, terms_at, form_at, is_zero, with_term, increased, increased_by, plus_constant, plus_term, plus_scaled}
use Rattle.exact_lin.proofs.Zeros.{is_zero-zero, zero-is_zero}
use Rattle.exact_lin.proofs.Merge.{ranks_at}

-- ---- ids

pub AscendFrom-lower : (low high : ℕ) (ts : Terms) → low ≤ high → AscendFrom high ts → AscendFrom low ts
AscendFrom-lower low high [] h a = tt
AscendFrom-lower low high (t ∷ ts) h a = (omega (arith, a.0), a.1, a.2)

not_zero : (q : ℚ) → is_zero q ≡ false → q ≢ zeroℚ
not_zero q e z = go (is_zero q) e (is_zero-zero q z)
  where
    go : (b : Bool) → b ≡ false → b ≡ true → ⊥
    go b e f = cc

pub AscendFrom-with_term : (low v : ℕ) (c : ℚ) (ts : Terms) → low ≤ v → AscendFrom (v + 1) ts → AscendFrom low (with_term v c ts)
AscendFrom-with_term low v c ts h a = go (is_zero c) refl
  where
    go : (b : Bool) → is_zero c ≡ b → AscendFrom low (if b then ts else ((v, c) ∷ ts))
    go true e = AscendFrom-lower low (v + 1) ts (omega (arith, h)) a
    go false e = (h, not_zero c e, a)

pub AscendFrom-increased : (low v : ℕ) (c : ℚ) (ts : Terms) → low ≤ v → AscendFrom low ts → AscendFrom low (increased ts v c)
AscendFrom-increased low v c [] h a = AscendFrom-with_term low v c [] h tt
AscendFrom-increased low v c (t ∷ ts) h a = go (nat_cmp t.0 v) refl (λ l. AscendFrom-increased (t.0 + 1) v c ts l a.2)
  where
    go : (o : Ordering) → nat_cmp t.0 v ≡ o → (t.0 + 1 ≤ v → AscendFrom (t.0 + 1) (increased ts v c)) → AscendFrom low (match_ordering o (t ∷ increased ts v c) (with_term v (t.1 +ℚ c) ts) (with_term v c (t ∷ ts)))
    go Less e ih = let below : t.0 < v = ranks_at t.0 v Less e in (a.0, a.1, ih (omega (arith, below)))
    go Equal e ih = let here : t.0 ≡ v = ranks_at t.0 v Equal e in AscendFrom-with_term low v (t.1 +ℚ c) ts h (subst (λ (n : ℕ). AscendFrom (n + 1) ts) here a.2)
    go Greater e ih = let above : v < t.0 = ranks_at t.0 v Greater e in AscendFrom-with_term low v c (t ∷ ts) h (omega (arith, above), a.1, a.2)

pub AscendFrom-increased_by : (y : ℚ) (us ts : Terms) → AscendFrom 0 ts → AscendFrom 0 (increased_by ts y us)
AscendFrom-increased_by y [] ts a = a
AscendFrom-increased_by y (u ∷ us) ts a = AscendFrom-increased_by y us (increased ts u.0 (y *ℚ u.1)) (AscendFrom-increased 0 u.0 (y *ℚ u.1) ts (omega arith) a)

-- ---- the linear function

terms_at-with_term : (v : ℕ) (c : ℚ) (ts : Terms) (x : ℕ → ℚ) → terms_at (with_term v c ts) x ≡ terms_at ts x +ℚ c *ℚ x v
terms_at-with_term v c ts x = go (is_zero c) refl
  where
    none : c ≡ zeroℚ → terms_at ts x ≡ terms_at ts x +ℚ c *ℚ x v
    none e = sym (ap (λ (q : ℚ). terms_at ts x +ℚ q) (ap (λ (q : ℚ). q *ℚ x v) e ∙ zero_mul (x v)) ∙ add_comm (terms_at ts x) zeroℚ ∙ zero_add (terms_at ts x))

    go : (b : Bool) → is_zero c ≡ b → terms_at (if b then ts else ((v, c) ∷ ts)) x ≡ terms_at ts x +ℚ c *ℚ x v
    go true e = none (zero-is_zero c e)
    go false e = add_comm (c *ℚ x v) (terms_at ts x)

pub terms_at-increased : (v : ℕ) (c : ℚ) (ts : Terms) (x : ℕ → ℚ) → terms_at (increased ts v c) x ≡ terms_at ts x +ℚ c *ℚ x v
terms_at-increased v c [] x = terms_at-with_term v c [] x
terms_at-increased v c (t ∷ ts) x = go (nat_cmp t.0 v) refl (terms_at-increased v c ts x)
  where
    go : (o : Ordering) → nat_cmp t.0 v ≡ o → terms_at (increased ts v c) x ≡ terms_at ts x +ℚ c *ℚ x v
        → terms_at (match_ordering o (t ∷ increased ts v c) (with_term v (t.1 +ℚ c) ts) (with_term v c (t ∷ ts))) x ≡ (t.1 *ℚ x t.0 +ℚ terms_at ts x) +ℚ c *ℚ x v
    go Less e ih = ap (λ (q : ℚ). t.1 *ℚ x t.0 +ℚ q) ih ∙ law ℚ_ring ((t.1 *ℚ x t.0) ∷ (terms_at ts x) ∷ (c *ℚ x v) ∷ []) (λ a b d. a ⊕ (b ⊕ d) ≐ (a ⊕ b) ⊕ d) refl
    go Equal e ih = let here : t.0 ≡ v = ranks_at t.0 v Equal e in
        terms_at-with_term v (t.1 +ℚ c) ts x
        ∙ law ℚ_ring ((terms_at ts x) ∷ t.1 ∷ c ∷ (x v) ∷ []) (λ a b d z. a ⊕ (b ⊕ d) ⊗ z ≐ (b ⊗ z ⊕ a) ⊕ d ⊗ z) refl
        ∙ ap (λ (n : ℕ). (t.1 *ℚ x n +ℚ terms_at ts x) +ℚ c *ℚ x v) (sym here)
    go Greater e ih = terms_at-with_term v c (t ∷ ts) x

pub terms_at-increased_by : (y : ℚ) (us ts : Terms) (x : ℕ → ℚ) → terms_at (increased_by ts y us) x ≡ terms_at ts x +ℚ y *ℚ terms_at us x
terms_at-increased_by y [] ts x = sym (law ℚ_ring ((terms_at ts x) ∷ y ∷ []) (λ a b. a ⊕ b ⊗ num 0 ≐ a) refl)
terms_at-increased_by y (u ∷ us) ts x =
    terms_at-increased_by y us (increased ts u.0 (y *ℚ u.1)) x
    ∙ ap (λ (q : ℚ). q +ℚ y *ℚ terms_at us x) (terms_at-increased u.0 (y *ℚ u.1) ts x)
    ∙ law ℚ_ring ((terms_at ts x) ∷ y ∷ u.1 ∷ (x u.0) ∷ (terms_at us x) ∷ []) (λ a b c d e. (a ⊕ (b ⊗ c) ⊗ d) ⊕ b ⊗ e ≐ a ⊕ b ⊗ (c ⊗ d ⊕ e)) refl

pub form_at-plus_term : (f : LinearForm) (v : ℕ) (c : ℚ) (x : ℕ → ℚ) → form_at (plus_term f v c) x ≡ form_at f x +ℚ c *ℚ x v
form_at-plus_term f v c x = ap (λ (q : ℚ). f.constant +ℚ q) (terms_at-increased v c f.terms x) ∙ law ℚ_ring (f.constant ∷ (terms_at f.terms x) ∷ (c *ℚ x v) ∷ []) (λ a b d. a ⊕ (b ⊕ d) ≐ (a ⊕ b) ⊕ d) refl

pub form_at-plus_scaled : (f : LinearForm) (y : ℚ) (g : LinearForm) (x : ℕ → ℚ) → form_at (plus_scaled f y g) x ≡ form_at f x +ℚ y *ℚ form_at g x
form_at-plus_scaled f y g x = ap (λ (q : ℚ). (f.constant +ℚ y *ℚ g.constant) +ℚ q) (terms_at-increased_by y g.terms f.terms x)
    ∙ law ℚ_ring (f.constant ∷ y ∷ g.constant ∷ (terms_at f.terms x) ∷ (terms_at g.terms x) ∷ []) (λ a b c d e. (a ⊕ b ⊗ c) ⊕ (d ⊕ b ⊗ e) ≐ (a ⊕ d) ⊕ b ⊗ (c ⊕ e)) refl

pub form_at-plus_constant : (f : LinearForm) (c : ℚ) (x : ℕ → ℚ) → form_at (plus_constant f c) x ≡ form_at f x +ℚ c
form_at-plus_constant f c x = law ℚ_ring (f.constant ∷ c ∷ (terms_at f.terms x) ∷ []) (λ a b d. (a ⊕ b) ⊕ d ≐ (a ⊕ d) ⊕ b) refl

-- ---- values for all ids

Covers-with_term : (size v : ℕ) (c : ℚ) (ts : Terms) → v < size → Covers size ts → Covers size (with_term v c ts)
Covers-with_term size v c ts h a = go (is_zero c)
  where
    go : (b : Bool) → Covers size (if b then ts else ((v, c) ∷ ts))
    go true = a
    go false = (h, a)

pub Covers-increased : (size v : ℕ) (c : ℚ) (ts : Terms) → v < size → Covers size ts → Covers size (increased ts v c)
Covers-increased size v c [] h a = Covers-with_term size v c [] h tt
Covers-increased size v c (t ∷ ts) h a = go (nat_cmp t.0 v) (Covers-increased size v c ts h a.1)
  where
    go : (o : Ordering) → Covers size (increased ts v c) → Covers size (match_ordering o (t ∷ increased ts v c) (with_term v (t.1 +ℚ c) ts) (with_term v c (t ∷ ts)))
    go Less ih = (a.0, ih)
    go Equal ih = Covers-with_term size v (t.1 +ℚ c) ts h a.1
    go Greater ih = Covers-with_term size v c (t ∷ ts) h a

pub Covers-increased_by : (size : ℕ) (y : ℚ) (us ts : Terms) → Covers size us → Covers size ts → Covers size (increased_by ts y us)
Covers-increased_by size y [] ts b a = a
Covers-increased_by size y (u ∷ us) ts b a = Covers-increased_by size y us (increased ts u.0 (y *ℚ u.1)) b.1 (Covers-increased size u.0 (y *ℚ u.1) ts b.0 a)

pub Covers-plus_term : (size : ℕ) (f g : LinearForm) (v : ℕ) (c : ℚ) → g ≡ plus_term f v c → v < size → Covers size f.terms → Covers size g.terms
Covers-plus_term size f g v c e h a = subst (λ (k : LinearForm). Covers size k.terms) (sym e) (Covers-increased size v c f.terms h a)

-- ---- forms by their parts

module _ (f g : LinearForm) (y p q product k : ℚ) (a b us vs ts : Terms) (here : record { constant = p; terms = a } ≡ f) (there : record { constant = q; terms = b } ≡ g) (one : us ≡ a) (other : vs ≡ b)
    (is : product ≡ y *ℚ q) (then_is : k ≡ p +ℚ product) (merged_is : ts ≡ increased_by us y vs) where
  pub scaled-is : record { constant = k; terms = ts } ≡ plus_scaled f y g
  scaled-is = ap₂ form then_is merged_is ∙ ap₂ form (ap (λ (r : ℚ). p +ℚ r) is) (ap₂ (λ (ks ls : Terms). increased_by ks y ls) one other) ∙ ap₂ (λ (u v : LinearForm). plus_scaled u y v) here there
    where
      form : ℚ → Terms → LinearForm
      form c ks = record { constant = c; terms = ks }

  pub scaled-ascends : AscendFrom 0 a → AscendFrom 0 ts
  scaled-ascends s = subst (AscendFrom 0) (sym merged_is) (AscendFrom-increased_by y vs us (subst (AscendFrom 0) (sym one) s))

  pub scaled-value : (x : ℕ → ℚ) → form_at (record { constant = k; terms = ts }) x ≡ form_at f x +ℚ y *ℚ form_at g x
  scaled-value x = ap (λ (h : LinearForm). form_at h x) scaled-is ∙ form_at-plus_scaled f y g x

pub constant-value : (f : LinearForm) (c p k : ℚ) (a : Terms) → record { constant = p; terms = a } ≡ f → k ≡ p +ℚ c → (x : ℕ → ℚ) → form_at (record { constant = k; terms = a }) x ≡ form_at f x +ℚ c
constant-value f c p k a here is x = ap (λ (q : ℚ). q +ℚ terms_at a x) is ∙ form_at-plus_constant (record { constant = p; terms = a }) c x ∙ ap (λ (h : LinearForm). form_at h x +ℚ c) here

module _ (f : LinearForm) (v : ℕ) (c p : ℚ) (a ts : Terms) (here : record { constant = p; terms = a } ≡ f) (is : ts ≡ increased a v c) where
  pub term-is : record { constant = p; terms = ts } ≡ plus_term f v c
  term-is = ap form is ∙ ap (λ (u : LinearForm). plus_term u v c) here
    where
      form : Terms → LinearForm
      form ks = record { constant = p; terms = ks }

  pub term-ascends : AscendFrom 0 a → AscendFrom 0 ts
  term-ascends s = subst (AscendFrom 0) (sym is) (AscendFrom-increased 0 v c a (omega arith) s)

  pub term-value : (x : ℕ → ℚ) → form_at (record { constant = p; terms = ts }) x ≡ form_at f x +ℚ c *ℚ x v
  term-value x = ap (λ (h : LinearForm). form_at h x) term-is ∙ form_at-plus_term f v c x
