-- The terms of a form of the program are those of the form that contracts see.
use Rattle.std.proofs.Common.{◌≡◌, refl, ap, ◌∙◌, ℕ, List, [], ◌∷◌, map}
use Rattle.std.specs.Prelude.{slice_get, slice_index_or, Some, None, zero, suc}
use Rattle.rational.specs.Rational.{ℚ}

firsts_same : (items : List (ℕ × ℚ)) → map (λ t. t.0) items ≡ map (λ (t : ℕ × ℚ). t.0) (map (λ (t : ℕ × ℚ). (t.0, t.1)) items)
firsts_same [] = refl
firsts_same (t ∷ ts) = ap (λ l. t.0 ∷ l) (firsts_same ts)

pub firsts_shown : (items terms : List (ℕ × ℚ)) → map (λ (t : ℕ × ℚ). (t.0, t.1)) items ≡ terms → map (λ t. t.0) items ≡ map (λ t. t.0) terms
firsts_shown items terms e = firsts_same items ∙ ap (map (λ (t : ℕ × ℚ). t.0)) e

-- what a read of a list answers is what stands there, and else the default
pub read_some : {X : Type 0} (xs : List X) (k : ℕ) (x d : X) → Some x ≡ slice_get xs k → x ≡ slice_index_or xs k d
read_some [] k x d e = cc
read_some (y ∷ ys) zero x d e = cc
read_some (y ∷ ys) (suc k) x d e = read_some ys k x d e

pub read_none : {X : Type 0} (xs : List X) (k : ℕ) (d : X) → None ≡ slice_get xs k → slice_index_or xs k d ≡ d
read_none [] k d e = refl
read_none (y ∷ ys) zero d e = cc
read_none (y ∷ ys) (suc k) d e = read_none ys k d e
