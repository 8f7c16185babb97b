-- Adding to the term of an id, at its place.
use Rattle.std.proofs.Common.{◌≡◌, ◌≢◌, ℕ, zero, suc, ◌+◌, ◌<◌, ◌≤◌, sym, ◌∙◌, ap, subst, refl, arith, List, [], ◌∷◌, ◌++◌, length, take, drop, get_or, Less, Equal, Greater, Ordering}
use Rattle.std.specs.Ordering.{nat_cmp, match_ordering}
use Rattle.std.proofs.lemmas.List.{map-append, length-map, get_or-map}
use Rattle.rational.specs.Rational.{ℚ, zeroℚ, ◌+ℚ◌}
use Rattle.exact_lin.specs.Forms.{Terms, shown, AscendFrom, coefficient, with_term, increased, place_in}
use Rattle.exact_lin.proofs.Merge.{ranks_at, lt-less}
use Rattle.exact_lin.proofs.MergeTerms.{coefficient-below, coefficient-later, coefficient-here}

pub place-less : (t : ℕ × ℚ) (ts : Terms) (n : ℕ) → t.0 < n → place_in (t ∷ ts) n ≡ suc (place_in ts n)
place-less t ts n h = ap (λ (o : Ordering). match_ordering o (suc (place_in ts n)) 0 0) (lt-less t.0 n h)

pub place-other : (t : ℕ × ℚ) (ts : Terms) (n : ℕ) → n ≤ t.0 → place_in (t ∷ ts) n ≡ 0
place-other t ts n h = go (nat_cmp t.0 n) refl
  where
    go : (o : Ordering) → nat_cmp t.0 n ≡ o → match_ordering o (suc (place_in ts n)) 0 0 ≡ 0
    go Less e = let below : t.0 < n = ranks_at t.0 n Less e in absurd (omega (arith, below, h))
    go Equal e = refl
    go Greater e = refl

ascend-last : (low : ℕ) (ts : Terms) (x : ℕ × ℚ) → AscendFrom low (ts ++ x ∷ []) → low ≤ x.0
ascend-last low [] x a = a.0
ascend-last low (t ∷ ts) x a = omega (arith, a.0, ascend-last (t.0 + 1) ts x a.2)

-- all terms come before an id above the last
pub place-end : (low n : ℕ) (ts : Terms) (x : ℕ × ℚ) → AscendFrom low (ts ++ x ∷ []) → x.0 < n → place_in (ts ++ x ∷ []) n ≡ length (ts ++ x ∷ [])
place-end low n [] x a h = place-less x [] n h
place-end low n (t ∷ ts) x a h = place-less t (ts ++ x ∷ []) n (omega (arith, ascend-last (t.0 + 1) ts x a.2, h)) ∙ ap suc (place-end (t.0 + 1) n ts x a.2 h)

-- the terms before a place of an id below n count, and those from a place of an id of at least n on don't
ascend-at : (low i : ℕ) (ts : Terms) (d : ℕ × ℚ) → AscendFrom low ts → i < length ts → low ≤ (get_or ts i d).0
ascend-at low i [] d a h = absurd (omega arith)
ascend-at low zero (t ∷ ts) d a h = a.0
ascend-at low (suc i) (t ∷ ts) d a h = omega (arith, a.0, ascend-at (t.0 + 1) i ts d a.2 (omega arith))

pub place-beyond : (low n i : ℕ) (ts : Terms) (d : ℕ × ℚ) → AscendFrom low ts → i < length ts → (get_or ts i d).0 < n → i < place_in ts n
place-beyond low n i [] d a h l = absurd (omega arith)
place-beyond low n zero (t ∷ ts) d a h l = omega (arith, place-less t ts n l)
place-beyond low n (suc i) (t ∷ ts) d a h l =
    let first : t.0 < n = omega (arith, l, ascend-at (t.0 + 1) i ts d a.2 (omega arith)) in
    omega (arith, place-less t ts n first, place-beyond (t.0 + 1) n i ts d a.2 (omega arith) l)

pub place-before : (n i : ℕ) (ts : Terms) (d : ℕ × ℚ) → i < length ts → n ≤ (get_or ts i d).0 → place_in ts n ≤ i
place-before n i [] d h l = absurd (omega arith)
place-before n zero (t ∷ ts) d h l = omega (arith, place-other t ts n l)
place-before n (suc i) (t ∷ ts) d h l = go (nat_cmp t.0 n) (place-before n i ts d (omega arith) l)
  where
    go : (o : Ordering) → place_in ts n ≤ i → match_ordering o (suc (place_in ts n)) 0 0 ≤ suc i
    go Less k = omega arith
    go Equal k = omega arith
    go Greater k = omega arith

pub place-within : (ts : Terms) (n : ℕ) → place_in ts n ≤ length ts
place-within [] n = omega arith
place-within (t ∷ ts) n = go (nat_cmp t.0 n) (place-within ts n)
  where
    go : (o : Ordering) → place_in ts n ≤ length ts → match_ordering o (suc (place_in ts n)) 0 0 ≤ suc (length ts)
    go Less h = omega arith
    go Equal h = omega arith
    go Greater h = omega arith

-- the id has a term, at its place
pub increased-at_term : (v : ℕ) (c : ℚ) (x : ℕ × ℚ) (ts : Terms) → place_in ts v < length ts → get_or ts (place_in ts v) x ≡ x → x.0 ≡ v
    → (increased ts v c ≡ take (place_in ts v) ts ++ with_term v (x.1 +ℚ c) (drop (suc (place_in ts v)) ts)) × (coefficient ts v ≡ x.1)
increased-at_term v c x [] h e f = absurd (omega arith)
increased-at_term v c x (t ∷ ts) h e f = go (nat_cmp t.0 v) refl (increased-at_term v c x ts) h e
  where
    Claim : ℕ → Terms → Terms → Type 0
    Claim p all more = (more ≡ take p all ++ with_term v (x.1 +ℚ c) (drop (suc p) all)) × (coefficient all v ≡ x.1)

    here : t ≡ x → t.0 ≡ v → Claim 0 (t ∷ ts) (with_term v (t.1 +ℚ c) ts)
    here e k = (ap (λ (y : ℕ × ℚ). with_term v (y.1 +ℚ c) ts) e, coefficient-here v t ts k ∙ ap (λ (y : ℕ × ℚ). y.1) e)

    go : (o : Ordering) → nat_cmp t.0 v ≡ o → (place_in ts v < length ts → get_or ts (place_in ts v) x ≡ x → x.0 ≡ v → Claim (place_in ts v) ts (increased ts v c))
        → match_ordering o (suc (place_in ts v)) 0 0 < suc (length ts) → get_or (t ∷ ts) (match_ordering o (suc (place_in ts v)) 0 0) x ≡ x
        → Claim (match_ordering o (suc (place_in ts v)) 0 0) (t ∷ ts) (match_ordering o (t ∷ increased ts v c) (with_term v (t.1 +ℚ c) ts) (with_term v c (t ∷ ts)))
    go Less o ih h e = let below : t.0 < v = ranks_at t.0 v Less o in let r = ih (omega (arith, h)) e f in (ap (λ (us : Terms). t ∷ us) r.0, coefficient-later v t ts below ∙ r.1)
    go Equal o ih h e = here e (ranks_at t.0 v Equal o)
    go Greater o ih h e = let above : v < t.0 = ranks_at t.0 v Greater o in absurd (omega (arith, above, ap (λ (y : ℕ × ℚ). y.0) e, f))

-- the id has no term
pub increased-at_gap : (v : ℕ) (c : ℚ) (ts : Terms) → ((x : ℕ × ℚ) → place_in ts v < length ts → get_or ts (place_in ts v) x ≡ x → x.0 ≢ v)
    → increased ts v c ≡ take (place_in ts v) ts ++ with_term v c (drop (place_in ts v) ts)
increased-at_gap v c [] n = refl
increased-at_gap v c (t ∷ ts) n = go (nat_cmp t.0 v) refl (increased-at_gap v c ts) n
  where
    go : (o : Ordering) → nat_cmp t.0 v ≡ o → (((x : ℕ × ℚ) → place_in ts v < length ts → get_or ts (place_in ts v) x ≡ x → x.0 ≢ v) → increased ts v c ≡ take (place_in ts v) ts ++ with_term v c (drop (place_in ts v) ts))
        → ((x : ℕ × ℚ) → match_ordering o (suc (place_in ts v)) 0 0 < suc (length ts) → get_or (t ∷ ts) (match_ordering o (suc (place_in ts v)) 0 0) x ≡ x → x.0 ≢ v)
        → match_ordering o (t ∷ increased ts v c) (with_term v (t.1 +ℚ c) ts) (with_term v c (t ∷ ts)) ≡ take (match_ordering o (suc (place_in ts v)) 0 0) (t ∷ ts) ++ with_term v c (drop (match_ordering o (suc (place_in ts v)) 0 0) (t ∷ ts))
    go Less o ih n = ap (λ (us : Terms). t ∷ us) (ih (λ x h e. n x (omega (arith, h)) e))
    go Equal o ih n = absurd (n t (omega arith) refl (ranks_at t.0 v Equal o))
    go Greater o ih n = refl

pub coefficient-at_gap : (low v : ℕ) (ts : Terms) → AscendFrom low ts → ((x : ℕ × ℚ) → place_in ts v < length ts → get_or ts (place_in ts v) x ≡ x → x.0 ≢ v) → coefficient ts v ≡ zeroℚ
coefficient-at_gap low v [] a n = refl
coefficient-at_gap low v (t ∷ ts) a n = go (nat_cmp t.0 v) refl (coefficient-at_gap (t.0 + 1) v ts a.2) n
  where
    go : (o : Ordering) → nat_cmp t.0 v ≡ o → (((x : ℕ × ℚ) → place_in ts v < length ts → get_or ts (place_in ts v) x ≡ x → x.0 ≢ v) → coefficient ts v ≡ zeroℚ)
        → ((x : ℕ × ℚ) → match_ordering o (suc (place_in ts v)) 0 0 < suc (length ts) → get_or (t ∷ ts) (match_ordering o (suc (place_in ts v)) 0 0) x ≡ x → x.0 ≢ v)
        → coefficient (t ∷ ts) v ≡ zeroℚ
    go Less o ih n = let below : t.0 < v = ranks_at t.0 v Less o in coefficient-later v t ts below ∙ ih (λ x h e. n x (omega (arith, h)) e)
    go Equal o ih n = absurd (n t (omega arith) refl (ranks_at t.0 v Equal o))
    go Greater o ih n = let above : v < t.0 = ranks_at t.0 v Greater o in coefficient-below v t.0 (t ∷ ts) (omega arith, a.1, a.2) above

-- the same of ids and scalars
pub shown-place_end : {V S : Type 0} (number : V → ℕ) (value : S → ℚ) (n : ℕ) (terms front : List (V × S)) (x : V × S) → terms ≡ front ++ x ∷ [] → AscendFrom 0 (shown number value terms) → number x.0 < n → length terms ≡ place_in (shown number value terms) n
shown-place_end {V} {S} number value n terms front x e a h = subst (λ (ts : List (V × S)). length ts ≡ place_in (shown number value ts) n) (sym e)
    (sym (length-map (front ++ x ∷ []) show) ∙ ap length shown-is ∙ sym (place-end 0 n (shown number value front) (number x.0, value x.1) (subst (AscendFrom 0) shown-is (subst (λ (ts : List (V × S)). AscendFrom 0 (shown number value ts)) e a)) h) ∙ ap (λ (ts : Terms). place_in ts n) (sym shown-is))
  where
    show : V × S → ℕ × ℚ
    show y = (number y.0, value y.1)

    shown-is : shown number value (front ++ x ∷ []) ≡ shown number value front ++ (number x.0, value x.1) ∷ []
    shown-is = map-append show front (x ∷ [])

module _ {V S : Type 0} (number : V → ℕ) (value : S → ℚ) (n : ℕ) (terms : List (V × S)) where
  abbrev show : V × S → ℕ × ℚ
  show y = (number y.0, value y.1)

  as_long : length (shown number value terms) ≡ length terms
  as_long = length-map terms show

  pub shown-place_within : place_in (shown number value terms) n ≤ length terms
  shown-place_within = omega (arith, place-within (shown number value terms) n, as_long)

  module _ (i : ℕ) (x : V × S) (h : i < length terms) where
    shown-at : (get_or (shown number value terms) i (show x)).0 ≡ number (get_or terms i x).0
    shown-at = ap (λ (y : ℕ × ℚ). y.0) (get_or-map show terms i x (show x) h)

    pub shown-place_beyond : AscendFrom 0 (shown number value terms) → number (get_or terms i x).0 < n → i < place_in (shown number value terms) n
    shown-place_beyond a l = place-beyond 0 n i (shown number value terms) (show x) a (omega (arith, h, as_long)) (omega (arith, l, shown-at))

    pub shown-place_before : n ≤ number (get_or terms i x).0 → place_in (shown number value terms) n ≤ i
    shown-place_before l = place-before n i (shown number value terms) (show x) (omega (arith, h, as_long)) (omega (arith, l, shown-at))
