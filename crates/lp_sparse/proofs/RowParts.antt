-- A row cut at the place of a column.
use Rattle.std.proofs.Common.{◌≡◌, ℕ, ◌+◌, ◌<◌, List, [], ◌∷◌, ◌++◌, length, drop, sym, ap, subst, refl, ◌∙◌, get_or, arith}
use Rattle.std.proofs.lemmas.List.{length-drop, get_or-drop, map-append}
use Rattle.rational.specs.Rational.{ℚ, zeroℚ}
use Rattle.exact_lin.specs.Forms.{Terms, AscendFrom, Covers, coefficient, place_in}
use Rattle.exact_lin.proofs.Edits.{gap-end, gap-there}
use Rattle.exact_lin.proofs.MergeTerms.{coefficient-here}
use Rattle.lp_sparse.specs.SparseRows.{terms_of}
use Rattle.lp_sparse.proofs.Coefficients.{ascend-split, Covers-split, Covers-append, Covers-larger, coefficient-back, coefficient-past}

-- the number of the column is found
pub found-is : (ts a : Terms) (j : ℕ) (x : ℚ) (b : Terms) → AscendFrom 0 ts → ts ≡ a ++ (j, x) ∷ b → coefficient ts j ≡ x
found-is ts a j x b h e = ap (λ (us : Terms). coefficient us j) e ∙ coefficient-back j j a ((j, x) ∷ b) (omega arith) (ascend-split 0 a (j, x) b (subst (AscendFrom 0) e h)).1 ∙ coefficient-here j (j, x) b refl

module _ {S : Type 0} (value : S → ℚ) (row : List (ℕ × S)) (ascends : AscendFrom 0 (terms_of value row)) where
  module _ (p column : ℕ) (rest : List (ℕ × S)) (at : p ≡ place_in (terms_of value row) column) (e : rest ≡ drop p row) where
    -- no term is left from the place on
    pub none-left : rest ≡ [] → coefficient (terms_of value row) column ≡ zeroℚ
    none-left n = (gap-end (λ (n : ℕ). n) value row p column at ascends (omega (arith, length-drop p row, ap length (sym e ∙ n)))).nothing

    -- or another column's
    pub other-there : (t : ℕ × S) (back : List (ℕ × S)) → rest ≡ t ∷ back → ¬ (t.0 ≡ column) → coefficient (terms_of value row) column ≡ zeroℚ
    other-there t back n m =
        let d : drop p row ≡ t ∷ back = sym e ∙ n in
        let long : p < length row = omega (arith, length-drop p row, ap length d) in
        (gap-there (λ (n : ℕ). n) value row p column at ascends t long (sym (there p row t back d)) m).nothing
      where
        there : (p : ℕ) (xs : List (ℕ × S)) (t : ℕ × S) (back : List (ℕ × S)) → drop p xs ≡ t ∷ back → get_or xs p t ≡ t
        there p xs t back d = let z : p ≡ p + 0 = omega arith in ap (λ (n : ℕ). get_or xs n t) z ∙ sym (get_or-drop p xs 0 t) ∙ ap (λ (ys : List (ℕ × S)). get_or ys 0 t) d

  module _ (front : List (ℕ × S)) (t : ℕ × S) (column : ℕ) (e : row ≡ front ++ t ∷ []) where
    whole : terms_of value row ≡ terms_of value front ++ (t.0, value t.1) ∷ []
    whole = ap (terms_of value) e ∙ map-append (λ (u : ℕ × S). (u.0, value u.1)) front (t ∷ [])

    pub last-is : t.0 ≡ column → value t.1 ≡ coefficient (terms_of value row) column
    last-is h = sym (ap (coefficient (terms_of value row)) (sym h) ∙ found-is (terms_of value row) (terms_of value front) t.0 (value t.1) [] ascends whole)

    pub last-other : Covers (column + 1) (terms_of value row) → ¬ (t.0 ≡ column) → zeroℚ ≡ coefficient (terms_of value row) column
    last-other c n =
        let below : t.0 < column = omega (arith, n, (Covers-split (column + 1) (terms_of value front) (t.0, value t.1) [] (subst (Covers (column + 1)) whole c)).0) in
        let before = (ascend-split 0 (terms_of value front) (t.0, value t.1) [] (subst (AscendFrom 0) whole ascends)).1 in
        sym (coefficient-past column column (terms_of value row) (omega arith) (subst (Covers column) (sym whole) (Covers-append column (terms_of value front) ((t.0, value t.1) ∷ []) (Covers-larger t.0 column (terms_of value front) (omega (arith, below)) before) (below, tt))))
