-- Fluents settled place by place have moved, also those that no running line has a rate on.
use Rattle.std.proofs.Common.{◌≡◌, refl, sym, ap, subst, ◌∙◌, ℕ, ◌<◌, Bool, true, false, cond, ◌||◌, ◌==◌, List, [], ◌∷◌, length, map}
use Rattle.std.proofs.lemmas.List.{length-set}
use Rattle.rational.specs.Rational.{ℚ, zeroℚ, ◌+ℚ◌, ◌*ℚ◌}
use Rattle.rational.proofs.Ring.{law, ◌⊕◌, ◌⊗◌, num, ◌≐◌}
use Rattle.rational.proofs.Field.{ℚ_ring}
use Rattle.exact_lin.specs.Reckoning.{wide_limit, Fits}
use Rattle.exact_lin.proofs.Nothing.{adds_nothing_left}
use Rattle.exact_lin.proofs.Results.{fits-sum}
use Rattle.task_types.specs.Sets.{is_in}
use Rattle.exact_lin.specs.Reckonings.{Sum, Product}
use Rattle.timed_meaning.specs.Told.{Defined}
use Rattle.timed_meaning.specs.Moves.{Motion, value_at, rate_at, settled_at, settled, settled_reckoned}
use Rattle.timed_meaning.proofs.Writes.{Below, set-at}
use Rattle.basics.proofs.Naturals.{same_out}

module _ (e : ℚ) where
  abbrev pub Ranged : Motion → List (ℕ × ℚ) → Type 0
  Ranged p es = Below (length p.values) es × Below (length p.rates) es

  rest : (p : Motion) (n : ℕ × ℚ) (es : List (ℕ × ℚ)) → Ranged p (n ∷ es) → Ranged (settled_at e p n.0) es
  rest p n es h = (subst (λ k. Below k es) (sym (length-set p.values n.0 (value_at p n.0 +ℚ rate_at p n.0 *ℚ e))) h.0.1, subst (λ k. Below k es) (sym (length-set p.rates n.0 zeroℚ)) h.1.1)

  value-set : (p : Motion) (n f : ℕ) → n < length p.values → value_at (settled_at e p n) f ≡ cond (n == f) (value_at p f +ℚ rate_at p f *ℚ e) (value_at p f)
  value-set p n f h = set-at zeroℚ p.values n f (value_at p n +ℚ rate_at p n *ℚ e) h ∙ go (n == f) refl
    where
      go : (b : Bool) → (n == f) ≡ b → cond b (value_at p n +ℚ rate_at p n *ℚ e) (value_at p f) ≡ cond b (value_at p f +ℚ rate_at p f *ℚ e) (value_at p f)
      go true q = ap (λ k. value_at p k +ℚ rate_at p k *ℚ e) (same_out n f q)
      go false q = refl

  rate-set : (p : Motion) (n f : ℕ) → n < length p.rates → rate_at (settled_at e p n) f ≡ cond (n == f) zeroℚ (rate_at p f)
  rate-set p n f h = set-at zeroℚ p.rates n f zeroℚ h

  -- what a fluent has and still has to grow stays the same
  abbrev whole_at : Motion → ℕ → ℚ
  whole_at p f = value_at p f +ℚ rate_at p f *ℚ e

  whole-set : (p : Motion) (n f : ℕ) → n < length p.values → n < length p.rates → whole_at (settled_at e p n) f ≡ whole_at p f
  whole-set p n f h k = ap (λ v. v +ℚ rate_at (settled_at e p n) f *ℚ e) (value-set p n f h) ∙ ap (λ r. cond (n == f) (value_at p f +ℚ rate_at p f *ℚ e) (value_at p f) +ℚ r *ℚ e) (rate-set p n f k) ∙ go (n == f)
    where
      go : (b : Bool) → (cond b (value_at p f +ℚ rate_at p f *ℚ e) (value_at p f) +ℚ cond b zeroℚ (rate_at p f) *ℚ e) ≡ whole_at p f
      go true = law ℚ_ring (value_at p f ∷ rate_at p f ∷ e ∷ []) (λ v r e. (v ⊕ r ⊗ e) ⊕ num 0 ⊗ e ≐ v ⊕ r ⊗ e) refl
      go false = refl

  whole-kept : (p : Motion) (es : List (ℕ × ℚ)) (f : ℕ) → Ranged p es → whole_at (settled e p es) f ≡ whole_at p f
  whole-kept p [] f h = refl
  whole-kept p (n ∷ es) f h = whole-kept (settled_at e p n.0) es f (rest p n es h) ∙ whole-set p n.0 f h.0.0 h.1.0

  -- every fluent that has a rate is among the entries
  abbrev pub Listed : Motion → List (ℕ × ℚ) → Type 0
  Listed p es = (f : ℕ) → is_in f (map (λ n. n.0) es) ≡ false → rate_at p f ≡ zeroℚ

  listed-rest : (p : Motion) (n : ℕ × ℚ) (es : List (ℕ × ℚ)) → n.0 < length p.rates → Listed p (n ∷ es) → Listed (settled_at e p n.0) es
  listed-rest p n es h l = λ f q. rate-set p n.0 f h ∙ go f q (n.0 == f) (l f)
    where
      go : (f : ℕ) → is_in f (map (λ n. n.0) es) ≡ false → (b : Bool) → ((b || is_in f (map (λ n. n.0) es)) ≡ false → rate_at p f ≡ zeroℚ) → cond b zeroℚ (rate_at p f) ≡ zeroℚ
      go f q true k = refl
      go f q false k = k q

  pub rates-gone : (p : Motion) (es : List (ℕ × ℚ)) → Ranged p es → Listed p es → (f : ℕ) → rate_at (settled e p es) f ≡ zeroℚ
  rates-gone p [] h l f = l f refl
  rates-gone p (n ∷ es) h l f = rates-gone (settled_at e p n.0) es (rest p n es h) (listed-rest p n es h.1.0 l) f

  pub values-moved : (p : Motion) (es : List (ℕ × ℚ)) → Ranged p es → Listed p es → (f : ℕ) → value_at (settled e p es) f ≡ value_at p f +ℚ rate_at p f *ℚ e
  values-moved p es h l f = law ℚ_ring (value_at (settled e p es) f ∷ e ∷ []) (λ v e. v ≐ v ⊕ num 0 ⊗ e) refl
      ∙ ap (λ r. value_at (settled e p es) f +ℚ r *ℚ e) (sym (rates-gone p es h l f))
      ∙ whole-kept p es f h

  -- ---- where it is defined

  abbrev pub Own : Motion → ℕ → Type 0
  Own p f = Defined (Product (rate_at p f) e ∷ Sum (value_at p f) (rate_at p f *ℚ e) ∷ [])

  abbrev pub AllFit : Motion → Type 0
  AllFit p = (f : ℕ) → Fits wide_limit (value_at p f)

  -- a fluent without a rate is always defined
  pub own-still : (p : Motion) (f : ℕ) → Fits wide_limit (value_at p f) → rate_at p f ≡ zeroℚ → Own p f
  own-still p f v r = (adds_nothing_left wide_limit (value_at p f) (rate_at p f) e (value_at p f) v r refl).0

  fit-rest : (p : Motion) (n : ℕ) → n < length p.values → Own p n → AllFit p → AllFit (settled_at e p n)
  fit-rest p n h o a = λ f. subst (Fits wide_limit) (sym (value-set p n f h)) (go f (n == f) refl)
    where
      go : (f : ℕ) (b : Bool) → (n == f) ≡ b → Fits wide_limit (cond b (value_at p f +ℚ rate_at p f *ℚ e) (value_at p f))
      go f true q = subst (λ k. Fits wide_limit (value_at p k +ℚ rate_at p k *ℚ e)) (same_out n f q) (fits-sum wide_limit (value_at p n) (rate_at p n *ℚ e) o.1.0)
      go f false q = a f

  own-next : (p : Motion) (n f : ℕ) → n < length p.values → n < length p.rates → Own p n → Own (settled_at e p n) f → Own p f
  own-next p n f h k o s = go (n == f) refl (subst (λ r. Defined (Product r e ∷ Sum (value_at (settled_at e p n) f) (r *ℚ e) ∷ [])) (rate-set p n f k) s)
    where
      go : (b : Bool) → (n == f) ≡ b → Defined (Product (cond b zeroℚ (rate_at p f)) e ∷ Sum (value_at (settled_at e p n) f) (cond b zeroℚ (rate_at p f) *ℚ e) ∷ []) → Own p f
      go true q d = subst (Own p) (same_out n f q) o
      go false q d = subst (λ v. Defined (Product (rate_at p f) e ∷ Sum v (rate_at p f *ℚ e) ∷ [])) (value-set p n f h ∙ ap (λ b. cond b (value_at p f +ℚ rate_at p f *ℚ e) (value_at p f)) q) d

  own-after : (p : Motion) (n f : ℕ) → n < length p.values → n < length p.rates → AllFit (settled_at e p n) → Own p f → Own (settled_at e p n) f
  own-after p n f h k a o = go (n == f) refl
    where
      go : (b : Bool) → (n == f) ≡ b → Own (settled_at e p n) f
      go true q = own-still (settled_at e p n) f (a f) (rate-set p n f k ∙ ap (λ b. cond b zeroℚ (rate_at p f)) q)
      go false q = subst (λ r. Defined (Product r e ∷ Sum (value_at (settled_at e p n) f) (r *ℚ e) ∷ [])) (sym (rate-set p n f k ∙ ap (λ b. cond b zeroℚ (rate_at p f)) q))
          (subst (λ v. Defined (Product (rate_at p f) e ∷ Sum v (rate_at p f *ℚ e) ∷ [])) (sym (value-set p n f h ∙ ap (λ b. cond b (value_at p f +ℚ rate_at p f *ℚ e) (value_at p f)) q)) o)

  pub own-each : (p : Motion) (es : List (ℕ × ℚ)) → Ranged p es → Listed p es → AllFit p → Defined (settled_reckoned e p es) → (f : ℕ) → Own p f
  own-each p [] h l a d f = own-still p f (a f) (l f refl)
  own-each p (n ∷ es) h l a d f = own-next p n.0 f h.0.0 h.1.0 (d.0, (d.1.0, tt)) (own-each (settled_at e p n.0) es (rest p n es h) (listed-rest p n es h.1.0 l) (fit-rest p n.0 h.0.0 (d.0, (d.1.0, tt)) a) d.1.1 f)

  pub each-own : (p : Motion) (es : List (ℕ × ℚ)) → Ranged p es → AllFit p → ((f : ℕ) → Own p f) → Defined (settled_reckoned e p es)
  each-own p [] h a o = tt
  each-own p (n ∷ es) h a o = ((o n.0).0, ((o n.0).1.0, each-own (settled_at e p n.0) es (rest p n es h) (fit-rest p n.0 h.0.0 (o n.0) a) (λ f. own-after p n.0 f h.0.0 h.1.0 (fit-rest p n.0 h.0.0 (o n.0) a) (o f))))
