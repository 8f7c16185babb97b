-- A list that a loop writes place by place.
use Rattle.std.proofs.Common.{◌≡◌, ℕ, ◌+◌, ◌<◌, List, length, map, sym, ap, subst, ◌∙◌, get_or, set, arith, ◌⊎◌, ⊎_elim}
use Rattle.std.proofs.lemmas.List.{same_lists, get_or-set_same, get_or-set_other, map-set, length-map, get_or_default}

-- the first n places are defined, and hold what is wanted
pub record Written {X Y : Type 0} (show : X → Y) (d : Y) (Defined : ℕ → Type 0) (wanted : List Y) (out : List X) (n : ℕ) : Type 0 where
  pub defined : (i : ℕ) → i < n → Defined i
  pub holds : (i : ℕ) → i < n → get_or (map show out) i d ≡ get_or wanted i d

pub last_or_before : (i k : ℕ) → i < k + 1 → (i ≡ k) ⊎ (i < k)
last_or_before i k h = grind arith

module _ {X Y : Type 0} (show : X → Y) (d : Y) (Defined : ℕ → Type 0) (wanted : List Y) where
  pub Written-begin : (out : List X) → Written show d Defined wanted out 0
  Written-begin out = record { defined = λ i h. absurd (omega arith); holds = λ i h. absurd (omega arith) }

  pub Written-next : (out : List X) (k : ℕ) (x : X) → k < length out → Defined k → show x ≡ get_or wanted k d → Written show d Defined wanted out k → Written show d Defined wanted (set out k x) (k + 1)
  Written-next out k x h f e w = record {
    defined = λ i l. ⊎_elim (λ (q : i ≡ k). subst Defined (sym q) f) (λ m. w.defined i m) (last_or_before i k l);
    holds = λ i l. ap (λ (u : List Y). get_or u i d) (map-set show out k x) ∙ ⊎_elim
        (λ (q : i ≡ k). subst (λ (n : ℕ). get_or (set (map show out) k (show x)) n d ≡ get_or wanted n d) (sym q) (get_or-set_same (map show out) k (show x) d (omega (arith, h, length-map out show)) ∙ e))
        (λ m. get_or-set_other (map show out) k i (show x) d (omega arith) ∙ w.holds i m)
        (last_or_before i k l);
  }

  pub Written-all : (out : List X) (n : ℕ) → length out ≡ n → length wanted ≡ n → Written show d Defined wanted out n → map show out ≡ wanted
  Written-all out n h k w = same_lists (map show out) wanted (omega (arith, h, k, length-map out show))
      (λ i e l. get_or_default (map show out) i e d (omega arith) ∙ w.holds i (omega (arith, length-map out show)) ∙ get_or_default wanted i d e (omega (arith, length-map out show)))
