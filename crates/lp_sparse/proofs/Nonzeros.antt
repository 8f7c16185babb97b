-- Multipliers that are 0 add nothing to a combination of rows.
use Rattle.std.proofs.Common.{◌≡◌, ℕ, suc, ◌+◌, ◌<◌, ◌≤◌, Bool, true, false, cond, not, List, [], ◌∷◌, ◌++◌, length, map, take, refl, sym, ap, ap₂, subst, ◌∙◌, get_or, arith}
use Rattle.std.proofs.lemmas.List.{length-map, length-take, take_more, map-append}
use Rattle.std.specs.Prelude.{if◌then◌else◌}
use Rattle.std.specs.List.{AllByRecursion}
use Rattle.rational.specs.Rational.{ℚ, zeroℚ, ◌+ℚ◌, ◌-ℚ◌, ◌*ℚ◌, ◌≤ℚ◌, ◌<ℚ◌}
use Rattle.rational.specs.Lists.{at, add_list, Nonneg}
use Rattle.rational.specs.Rows.{Row, row_at}
use Rattle.rational.proofs.Ring.{law, ◌⊕◌, ◌⊗◌, ◌≐◌, num}
use Rattle.rational.proofs.Field.{ℚ_ring}
use Rattle.rational.proofs.Lists.{at-add_list, at-scale_list, Nonneg-at, at-Nonneg}
use Rattle.exact_lin.specs.Forms.{is_zero, with_term}
use Rattle.exact_lin.proofs.Zeros.{zero-is_zero}
use Rattle.cert_core.specs.Programs.{Program, combination, Ascends, AreMultipliers, ProvesCost, ProvesEmpty}
use Rattle.lp_tableau.specs.Multipliers.{numbered}
use Rattle.lp_sparse.specs.NonzeroMultipliers.{without_zeros, ZerosProveNothing}

adds_nothing : (y a b : ℚ) → y ≡ zeroℚ → b ≡ y *ℚ a +ℚ b
adds_nothing y a b e = law ℚ_ring (a ∷ b ∷ []) (λ a b. b ≐ num 0 ⊗ a ⊕ b) refl ∙ ap (λ (z : ℚ). z *ℚ a +ℚ b) (sym e)

factors-at : (rows : List Row) (y : ℕ × ℚ) (ys : List (ℕ × ℚ)) (k : ℕ) → at (combination rows (y ∷ ys)).factors k ≡ y.1 *ℚ at (row_at rows y.0).factors k +ℚ at (combination rows ys).factors k
unfolding combination
factors-at rows y ys k = at-add_list _ _ k ∙ ap (λ (z : ℚ). z +ℚ at (combination rows ys).factors k) (at-scale_list y.1 (row_at rows y.0).factors k)

bound-is : (rows : List Row) (y : ℕ × ℚ) (ys : List (ℕ × ℚ)) → (combination rows (y ∷ ys)).bound ≡ y.1 *ℚ (row_at rows y.0).bound +ℚ (combination rows ys).bound
unfolding combination
bound-is rows y ys = refl

module _ (rows : List Row) where
  kept-factors : (ys : List (ℕ × ℚ)) (k : ℕ) → at (combination rows (without_zeros ys)).factors k ≡ at (combination rows ys).factors k
  kept-factors [] k = refl
  kept-factors (y ∷ ys) k = go (is_zero y.1) (λ e. zero-is_zero y.1 e) (kept-factors ys k)
    where
      go : (b : Bool) → (b ≡ true → y.1 ≡ zeroℚ) → at (combination rows (without_zeros ys)).factors k ≡ at (combination rows ys).factors k
          → at (combination rows (cond (not b) (y ∷ without_zeros ys) (without_zeros ys))).factors k ≡ at (combination rows (y ∷ ys)).factors k
      go true e ih = ih ∙ adds_nothing y.1 (at (row_at rows y.0).factors k) (at (combination rows ys).factors k) (e refl) ∙ sym (factors-at rows y ys k)
      go false e ih = factors-at rows y (without_zeros ys) k ∙ ap (λ (z : ℚ). y.1 *ℚ at (row_at rows y.0).factors k +ℚ z) ih ∙ sym (factors-at rows y ys k)

  kept-bound : (ys : List (ℕ × ℚ)) → (combination rows (without_zeros ys)).bound ≡ (combination rows ys).bound
  kept-bound [] = refl
  kept-bound (y ∷ ys) = go (is_zero y.1) (λ e. zero-is_zero y.1 e) (kept-bound ys)
    where
      go : (b : Bool) → (b ≡ true → y.1 ≡ zeroℚ) → (combination rows (without_zeros ys)).bound ≡ (combination rows ys).bound
          → (combination rows (cond (not b) (y ∷ without_zeros ys) (without_zeros ys))).bound ≡ (combination rows (y ∷ ys)).bound
      go true e ih = ih ∙ adds_nothing y.1 (row_at rows y.0).bound (combination rows ys).bound (e refl) ∙ sym (bound-is rows y ys)
      go false e ih = bound-is rows y (without_zeros ys) ∙ ap (λ (z : ℚ). y.1 *ℚ (row_at rows y.0).bound +ℚ z) ih ∙ sym (bound-is rows y ys)

Ascends-lower : (count low high : ℕ) (ys : List (ℕ × ℚ)) → low ≤ high → Ascends count high ys → Ascends count low ys
Ascends-lower count low high [] h a = tt
Ascends-lower count low high (y ∷ ys) h a = ((omega (arith, h, a.0.0), a.0.1), a.1)

kept-ascends : (count low : ℕ) (ys : List (ℕ × ℚ)) → Ascends count low ys → Ascends count low (without_zeros ys)
kept-ascends count low [] a = tt
kept-ascends count low (y ∷ ys) a = go (is_zero y.1) (kept-ascends count (y.0 + 1) ys a.1)
  where
    go : (b : Bool) → Ascends count (y.0 + 1) (without_zeros ys) → Ascends count low (cond (not b) (y ∷ without_zeros ys) (without_zeros ys))
    go true ih = Ascends-lower count low (y.0 + 1) (without_zeros ys) (omega (arith, a.0.0)) ih
    go false ih = (a.0, ih)

kept-nonneg : (ys : List (ℕ × ℚ)) → AllByRecursion (λ (y : ℕ × ℚ). zeroℚ ≤ℚ y.1) ys → AllByRecursion (λ (y : ℕ × ℚ). zeroℚ ≤ℚ y.1) (without_zeros ys)
kept-nonneg [] a = tt
kept-nonneg (y ∷ ys) a = go (is_zero y.1) (kept-nonneg ys a.1)
  where
    go : (b : Bool) → AllByRecursion (λ (y : ℕ × ℚ). zeroℚ ≤ℚ y.1) (without_zeros ys) → AllByRecursion (λ (y : ℕ × ℚ). zeroℚ ≤ℚ y.1) (cond (not b) (y ∷ without_zeros ys) (without_zeros ys))
    go true ih = ih
    go false ih = (a.0, ih)

kept-multipliers : (p : Program) (ys : List (ℕ × ℚ)) → AreMultipliers p ys → AreMultipliers p (without_zeros ys)
kept-multipliers p ys m = record { ascending = kept-ascends _ 0 ys m.ascending; nonneg = kept-nonneg ys m.nonneg }

-- the certificate without its zeros
pub zeros-prove-nothing : ZerosProveNothing
zeros-prove-nothing = record {
  costs = λ p ys q h. record {
    multipliers = kept-multipliers p ys h.multipliers;
    columns = at-Nonneg (add_list p.costs (combination p.rows (without_zeros ys)).factors) (λ k l.
        subst (λ (z : ℚ). zeroℚ ≤ℚ z) (at-add_list p.costs (combination p.rows ys).factors k ∙ ap (λ (z : ℚ). at p.costs k +ℚ z) (sym (kept-factors p.rows ys k)) ∙ sym (at-add_list p.costs (combination p.rows (without_zeros ys)).factors k))
        (Nonneg-at (add_list p.costs (combination p.rows ys).factors) k h.columns));
    constant = subst (λ (z : ℚ). q ≤ℚ (p.base -ℚ z)) (sym (kept-bound p.rows ys)) h.constant;
  };
  emptiness = λ p ys h. record {
    multipliers = kept-multipliers p ys h.multipliers;
    columns = at-Nonneg (combination p.rows (without_zeros ys)).factors (λ k l. subst (λ (z : ℚ). zeroℚ ≤ℚ z) (sym (kept-factors p.rows ys k)) (Nonneg-at (combination p.rows ys).factors k h.columns));
    constant = subst (λ (z : ℚ). z <ℚ zeroℚ) (sym (kept-bound p.rows ys)) h.constant;
  };
}

-- ---- the loop that collects them

numbered-more : (start : ℕ) (xs : List ℚ) (x : ℚ) → numbered start (xs ++ x ∷ []) ≡ numbered start xs ++ (start + length xs, x) ∷ []
numbered-more start [] x = ap (λ (k : ℕ). (k, x) ∷ []) (let e : start ≡ start + 0 = omega arith in e)
numbered-more start (a ∷ xs) x = ap (λ (ys : List (ℕ × ℚ)). (start, a) ∷ ys) (numbered-more (start + 1) xs x ∙ ap (λ (k : ℕ). numbered (start + 1) xs ++ (k, x) ∷ []) (let e : start + 1 + length xs ≡ start + suc (length xs) = omega arith in e))

without_zeros-append : (xs ys : List (ℕ × ℚ)) → without_zeros (xs ++ ys) ≡ without_zeros xs ++ without_zeros ys
without_zeros-append [] ys = refl
without_zeros-append (x ∷ xs) ys = go (not (is_zero x.1)) (without_zeros-append xs ys)
  where
    go : (b : Bool) → without_zeros (xs ++ ys) ≡ without_zeros xs ++ without_zeros ys → cond b (x ∷ without_zeros (xs ++ ys)) (without_zeros (xs ++ ys)) ≡ cond b (x ∷ without_zeros xs) (without_zeros xs) ++ without_zeros ys
    go true ih = ap (λ (zs : List (ℕ × ℚ)). x ∷ zs) ih
    go false ih = ih

module _ {S : Type 0} (value : S → ℚ) (ms : List S) (k : ℕ) (x : S) (h : k < length ms) (is : x ≡ get_or ms k x) where
  place : 0 + length (map value (take k ms)) ≡ k
  place = omega (arith, length-map (take k ms) value, length-take k ms, h)

  more : without_zeros (numbered 0 (map value (take (k + 1) ms))) ≡ without_zeros (numbered 0 (map value (take k ms))) ++ without_zeros ((k, value x) ∷ [])
  more = ap (λ (us : List S). without_zeros (numbered 0 (map value us))) (take_more ms k x h ∙ ap (λ (u : S). take k ms ++ u ∷ []) (sym is))
      ∙ ap (λ (us : List ℚ). without_zeros (numbered 0 us)) (map-append value (take k ms) (x ∷ []))
      ∙ ap without_zeros (numbered-more 0 (map value (take k ms)) (value x) ∙ ap (λ (n : ℕ). numbered 0 (map value (take k ms)) ++ (n, value x) ∷ []) place)
      ∙ without_zeros-append (numbered 0 (map value (take k ms))) ((k, value x) ∷ [])

  only : without_zeros ((k, value x) ∷ []) ≡ with_term k (value x) []
  only = go (is_zero (value x))
    where
      go : (b : Bool) → cond {A = List (ℕ × ℚ)} (not b) ((k, value x) ∷ []) [] ≡ (if b then [] else ((k, value x) ∷ []))
      go true = refl
      go false = refl

  -- one more multiplier, left out where it is 0
  pub pairs-next : (pairs now : List (ℕ × ℚ)) (n : ℕ) → n ≡ k → now ≡ pairs ++ with_term n (value x) [] → pairs ≡ without_zeros (numbered 0 (map value (take k ms))) → now ≡ without_zeros (numbered 0 (map value (take (k + 1) ms)))
  pairs-next pairs now n m e w = e ∙ ap (λ (j : ℕ). pairs ++ with_term j (value x) []) m ∙ ap (λ (ps : List (ℕ × ℚ)). pairs ++ ps) (sym only) ∙ ap (λ (ps : List (ℕ × ℚ)). ps ++ without_zeros ((k, value x) ∷ [])) w ∙ sym more
