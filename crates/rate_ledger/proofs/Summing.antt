-- Numbers summed one by one, from 0 on.
use Rattle.std.proofs.Common.{◌≡◌, refl, sym, ap, subst, ◌∙◌, ℕ, ◌+◌, ◌<◌, List, [], ◌∷◌, length, drop}
use Rattle.std.specs.Prelude.{◌↔◌, slice_index_or}
use Rattle.std.proofs.lemmas.List.{drop_more}
use Rattle.rational.specs.Rational.{ℚ, zeroℚ, ◌+ℚ◌}
use Rattle.rational.proofs.Ring.{law, num, ◌⊕◌, ◌≐◌}
use Rattle.rational.proofs.Field.{ℚ_ring}
use Rattle.exact_lin.specs.Reckoning.{wide_limit, CanAdd}
use Rattle.exact_lin.specs.Reckonings.{AreDefined, sums}
use Rattle.task_types.specs.Tests.{total}

-- so far the sum is this, and the rest is still to add
pub record Summed (all : List ℚ) (now : ℚ) (rest : List ℚ) : Type 0 where
  pub value : total all ≡ now +ℚ total rest
  pub defined : AreDefined wide_limit (sums zeroℚ all) ↔ AreDefined wide_limit (sums now rest)

pub Summed-begin : (all : List ℚ) (q : ℚ) → q ≡ zeroℚ → Summed all q all
Summed-begin all q e = subst (λ r. Summed all r all) (sym e) (record { value = law ℚ_ring (total all ∷ []) (λ t. t ≐ num 0 ⊕ t) refl; defined = (λ d. d, λ d. d) })

pub Summed-next : (all : List ℚ) (now sum x : ℚ) (i : ℕ) → i < length all → x ≡ slice_index_or all i x → CanAdd wide_limit now x → sum ≡ now +ℚ x → Summed all now (drop i all) → Summed all sum (drop (i + 1) all)
Summed-next all now sum x i l e d s h = subst (λ q. Summed all q (drop (i + 1) all)) (sym s) (record {
  value = k.value ∙ law ℚ_ring (now ∷ x ∷ total (drop (i + 1) all) ∷ []) (λ n x t. n ⊕ (x ⊕ t) ≐ (n ⊕ x) ⊕ t) refl;
  defined = (λ a. (k.defined.0 a).1, λ r. k.defined.1 (d, r));
})
  where
    k : Summed all now (x ∷ drop (i + 1) all)
    k = subst (Summed all now) (drop_more all i x l ∙ ap (λ y. y ∷ drop (i + 1) all) (sym e)) h

pub Summed-stop : (all : List ℚ) (now x : ℚ) (i : ℕ) → i < length all → x ≡ slice_index_or all i x → ¬ CanAdd wide_limit now x → Summed all now (drop i all) → ¬ AreDefined wide_limit (sums zeroℚ all)
Summed-stop all now x i l e d h a = d (k.defined.0 a).0
  where
    k : Summed all now (x ∷ drop (i + 1) all)
    k = subst (Summed all now) (drop_more all i x l ∙ ap (λ y. y ∷ drop (i + 1) all) (sym e)) h

pub Summed-end : (all : List ℚ) (now : ℚ) (rest : List ℚ) → rest ≡ [] → Summed all now rest → AreDefined wide_limit (sums zeroℚ all) × (now ≡ total all)
Summed-end all now rest e h = (k.defined.1 tt, law ℚ_ring (now ∷ []) (λ n. n ≐ n ⊕ num 0) refl ∙ sym k.value)
  where
    k : Summed all now []
    k = subst (Summed all now) e h
