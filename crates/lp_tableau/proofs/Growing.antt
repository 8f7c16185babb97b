-- Lists that a loop makes number by number: the first dictionary of a program.
use Rattle.std.proofs.Common.{◌≡◌, ℕ, ◌+◌, ◌<◌, ◌≤◌, List, [], ◌∷◌, ◌++◌, length, map, take, sym, ap, ◌∙◌, get_or, arith}
use Rattle.std.specs.Prelude.{Vec}
use Rattle.std.specs.List.{range_with_len}
use Rattle.std.proofs.lemmas.List.{take_more, take_all, map-append, length-map, get_or-map}
use Rattle.rational.specs.Rational.{ℚ, zeroℚ, neg_ℚ}
use Rattle.rational.specs.Rows.{row_at, no_row}
use Rattle.cert_core.specs.Programs.{Program, IsEven, entry_of}
use Rattle.lp_tableau.specs.Dictionaries.{slack_row}
use Rattle.basics.proofs.Lists.{range-more}
use Rattle.rational.proofs.Rows.{row_at-length}

pub numbers-next : (start k : ℕ) (xs : List ℕ) → xs ≡ range_with_len start k → xs ++ (start + k) ∷ [] ≡ range_with_len start (k + 1)
numbers-next start k xs e = ap (λ (u : List ℕ). u ++ (start + k) ∷ []) e ∙ sym (range-more start k)

module _ {X Y : Type 0} (show : X → Y) (d : Y) (wanted : List Y) where
  -- one more of what is wanted
  pub grown : (xs : List X) (x : X) (k : ℕ) → k < length wanted → map show xs ≡ take k wanted → show x ≡ get_or wanted k d → map show (xs ++ x ∷ []) ≡ take (k + 1) wanted
  grown xs x k h e f = map-append show xs (x ∷ []) ∙ ap (λ (u : List Y). u ++ show x ∷ []) e ∙ ap (λ (y : Y). take k wanted ++ y ∷ []) f ∙ sym (take_more wanted k d h)

  pub grown-all : (xs : List X) (k : ℕ) → length wanted ≤ k → map show xs ≡ take k wanted → map show xs ≡ wanted
  grown-all xs k h e = e ∙ take_all k wanted h

-- ---- a slack's row
module _ {S : Type 0} (value : S → ℚ) (p : Program) (even : IsEven p) (r : ℕ) (in_range : r < length p.rows) where
  factors_length : length (map neg_ℚ (row_at p.rows r).factors) ≡ length p.costs
  factors_length = length-map (row_at p.rows r).factors neg_ℚ ∙ row_at-length (length p.costs) p.rows r in_range even.even

  pub slack-next : (xs : List S) (x entry : S) (v : ℕ) → v < length p.costs → map value xs ≡ take v (map neg_ℚ (row_at p.rows r).factors) → value entry ≡ entry_of p r v → value x ≡ neg_ℚ (value entry)
      → map value (xs ++ x ∷ []) ≡ take (v + 1) (map neg_ℚ (row_at p.rows r).factors)
  slack-next xs x entry v h e f g = grown value zeroℚ (map neg_ℚ (row_at p.rows r).factors) xs x v (omega (arith, factors_length)) e
      (g ∙ ap neg_ℚ f ∙ sym (get_or-map neg_ℚ (row_at p.rows r).factors v zeroℚ zeroℚ (omega (arith, factors_length, length-map (row_at p.rows r).factors neg_ℚ))))

  pub slack-all : (xs : List S) (x : S) (v : ℕ) → length p.costs ≤ v → map value xs ≡ take v (map neg_ℚ (row_at p.rows r).factors) → value x ≡ (row_at p.rows r).bound → map value (xs ++ x ∷ []) ≡ slack_row (row_at p.rows r)
  slack-all xs x v h e f = map-append value xs (x ∷ []) ∙ ap (λ (u : List ℚ). u ++ value x ∷ []) (grown-all value zeroℚ (map neg_ℚ (row_at p.rows r).factors) xs v (omega (arith, factors_length)) e) ∙ ap (λ (y : ℚ). map neg_ℚ (row_at p.rows r).factors ++ y ∷ []) f

-- ---- the other parts
module _ {S : Type 0} (value : S → ℚ) (p : Program) where
  pub costs-all : (xs : List S) (x : S) (v : ℕ) → length p.costs ≤ v → map value xs ≡ take v p.costs → value x ≡ p.base → map value (xs ++ x ∷ []) ≡ p.costs ++ p.base ∷ []
  costs-all xs x v h e f = map-append value xs (x ∷ []) ∙ ap (λ (u : List ℚ). u ++ value x ∷ []) (grown-all value zeroℚ p.costs xs v h e) ∙ ap (λ (y : ℚ). p.costs ++ y ∷ []) f

  pub slacks-next : {Z : Type 0} (rows : List (Vec S Z)) (row : Vec S Z) (r : ℕ) → r < length p.rows → map (λ (v : Vec S Z). map value v.items) rows ≡ take r (map slack_row p.rows) → map value row.items ≡ slack_row (row_at p.rows r)
      → map (λ (v : Vec S Z). map value v.items) (rows ++ row ∷ []) ≡ take (r + 1) (map slack_row p.rows)
  slacks-next rows row r h e f = grown (λ v. map value v.items) [] (map slack_row p.rows) rows row r (omega (arith, length-map p.rows slack_row)) e (f ∙ sym (get_or-map slack_row p.rows r no_row [] h))
