-- Rows whose numbers keep to the limit, and what a pivot leaves of that.
use Rattle.std.proofs.Common.{◌≡◌, ℕ, zero, suc, ◌+◌, ◌<◌, ◌⊎◌, ⊎_elim, List, [], ◌∷◌, ◌++◌, length, map, refl, sym, ap, subst, ◌∙◌, get_or, set, arith}
use Rattle.std.specs.Prelude.{Vec}
use Rattle.std.proofs.lemmas.List.{length-set, length-map, map-append, get_or-map, get_or-set_same, get_or-set_other, set-get_or}
use Rattle.rational.specs.Rational.{ℚ, zeroℚ, ◌*ℚ◌, neg_ℚ, inverse}
use Rattle.rational.specs.Lists.{at, add_list, scale_list}
use Rattle.rational.proofs.Ring.{law, ◌⊕◌, ◌⊗◌, ◌≐◌, num}
use Rattle.rational.proofs.Field.{ℚ_ring}
use Rattle.rational.proofs.Lists.{at-scale_list, length-scale_list}
use Rattle.exact_lin.specs.Reckoning.{Fits}
use Rattle.exact_lin.specs.Reckonings.{AreDefined, product_sum}
use Rattle.exact_lin.proofs.Results.{fits-sum, fits-product, fits-inverse}
use Rattle.exact_lin.proofs.Nothing.{adds_nothing_left}
use Rattle.lp_tableau.specs.Dictionaries.{Dictionary, IsEven, row_in, row_of, entry_of}
use Rattle.lp_tableau.specs.RowLists.{RowFits, RowsFit, shown_rows}
use Rattle.lp_tableau.specs.Pivots.{cleared, replaced, solved, pivoted, CanReplace, CanSolve, CanPivot}
use Rattle.lp_tableau.proofs.RowPlaces.{at-replaced, length-replaced, length-solved}
use Rattle.lp_tableau.proofs.Solving.{same_or_not}

-- ---- one more number, one more row
one_more : {X : Type 0} (P : X → Type 0) (d : X) (xs : List X) (x : X) → ((k : ℕ) → k < length xs → P (get_or xs k d)) → P x → (k : ℕ) → k < length (xs ++ x ∷ []) → P (get_or (xs ++ x ∷ []) k d)
one_more P d [] x f p zero h = p
one_more P d [] x f p (suc k) h = absurd (omega arith)
one_more P d (y ∷ ys) x f p zero h = f 0 (omega arith)
one_more P d (y ∷ ys) x f p (suc k) h = one_more P d ys x (λ m l. f (suc m) (omega arith)) p k (omega arith)

pub RowFits-push : {S : Type 0} (value : S → ℚ) (limit : ℕ) (xs now : List S) (x : S) → now ≡ xs ++ x ∷ [] → RowFits limit (map value xs) → Fits limit (value x) → RowFits limit (map value now)
RowFits-push {S} value limit xs now x e f p = subst (λ (ys : List S). RowFits limit (map value ys)) (sym e) (subst (RowFits limit) (sym (map-append value xs (x ∷ []))) (one_more (Fits limit) zeroℚ (map value xs) (value x) f p))

pub RowsFit-push : {S Z : Type 0} (value : S → ℚ) (limit : ℕ) (rows now : List (Vec S Z)) (row : Vec S Z) → now ≡ rows ++ row ∷ [] → RowsFit limit (shown_rows value rows) → RowFits limit (map value row.items) → RowsFit limit (shown_rows value now)
RowsFit-push {S} {Z} value limit rows now row e f p = subst (λ (rs : List (Vec S Z)). RowsFit limit (shown_rows value rs)) (sym e) (subst (RowsFit limit) (sym (map-append (λ (row : Vec S Z). map value row.items) rows (row ∷ []))) (one_more (RowFits limit) [] (shown_rows value rows) (map value row.items) f p))

-- ---- a row without the entering variable
cleared-same : (row : List ℚ) (j : ℕ) → at row j ≡ zeroℚ → cleared row j ≡ row
cleared-same row j e = ap (λ z. set row j z) (sym e) ∙ set-get_or row j zeroℚ

-- it reckons nothing that isn't defined
pub without-CanReplace : (limit : ℕ) (solution : List ℚ) (j : ℕ) (row : List ℚ) → RowFits limit row → at row j ≡ zeroℚ → CanReplace limit solution j row
without-CanReplace limit solution j row f e k h = subst (λ (u : List ℚ). AreDefined limit (product_sum (at u k) (at row j) (at solution k))) (sym (cleared-same row j e))
    (adds_nothing_left limit (at row k) (at row j) (at solution k) (at row k) (f k h) e refl).0

nothing_added : (u w : List ℚ) → length w ≡ length u → add_list u (scale_list zeroℚ w) ≡ u
nothing_added [] [] h = refl
nothing_added [] (b ∷ w) h = absurd (omega arith)
nothing_added (a ∷ u) [] h = refl
nothing_added (a ∷ u) (b ∷ w) h = ap (λ z. z ∷ add_list u (scale_list zeroℚ w)) (law ℚ_ring (a ∷ b ∷ []) (λ a b. a ⊕ num 0 ⊗ b ≐ a) refl) ∙ ap (λ (x : List ℚ). a ∷ x) (nothing_added u w (omega arith))

-- and stays as it is
pub without-replaced : (solution : List ℚ) (j : ℕ) (row : List ℚ) → length solution ≡ length row → at row j ≡ zeroℚ → replaced solution j row ≡ row
without-replaced solution j row h e = ap (λ (u : List ℚ). add_list u (scale_list (at row j) solution)) (cleared-same row j e) ∙ ap (λ z. add_list row (scale_list z solution)) e ∙ nothing_added row solution h

-- ---- the rows after a pivot
solved-fits : (limit : ℕ) (row : List ℚ) (j : ℕ) → RowFits limit row → j < length row → ¬ (at row j ≡ zeroℚ) → CanSolve limit row j → RowFits limit (solved row j)
solved-fits limit row j f l n c k h =
    let short : k < length row = omega (arith, h, length-solved row j) in
    ⊎_elim
    (λ (e : k ≡ j). subst (λ (m : ℕ). Fits limit (at (solved row j) m)) (sym e) (subst (Fits limit) (sym (get_or-set_same (scale_list (neg_ℚ (inverse (at row j))) row) j (inverse (at row j)) zeroℚ (omega (arith, l, length-scale_list (neg_ℚ (inverse (at row j))) row)))) (fits-inverse limit (at row j) n (f j l))))
    (λ m. subst (Fits limit) (sym (get_or-set_other (scale_list (neg_ℚ (inverse (at row j))) row) j k (inverse (at row j)) zeroℚ m ∙ at-scale_list (neg_ℚ (inverse (at row j))) row k)) (fits-product limit (neg_ℚ (inverse (at row j))) (at row k) (c k short)))
    (same_or_not k j)

replaced-fits : (limit : ℕ) (solution : List ℚ) (j : ℕ) (row : List ℚ) → length solution ≡ length row → CanReplace limit solution j row → RowFits limit (replaced solution j row)
replaced-fits limit solution j row e c k h =
    let short : k < length row = omega (arith, h, length-replaced solution j row e) in
    subst (Fits limit) (sym (at-replaced solution j row k)) (fits-sum limit (at (cleared row j) k) (at row j *ℚ at solution k) (c k short).1.0)

pub RowsFit-pivoted : (limit : ℕ) (d : Dictionary) (i j : ℕ) → IsEven d → i < length d.rows → j < length d.nonbasic → ¬ (entry_of d i j ≡ zeroℚ) → CanPivot limit d i j → RowsFit limit d.rows → RowsFit limit (pivoted d i j).rows
RowsFit-pivoted limit d i j even li lj n c f m h =
    let s : List ℚ = solved (row_of d i) j in
    let wide : (k : ℕ) → k < length d.rows → length (row_in d.rows k) ≡ length d.nonbasic + 1 = λ k l. even.rows k [] l in
    let long : length s ≡ length d.nonbasic + 1 = length-solved (row_of d i) j ∙ wide i li in
    let inside : m < length d.rows = omega (arith, h, length-set (map (replaced s j) d.rows) i s, length-map d.rows (replaced s j)) in
    ⊎_elim
    (λ (e : m ≡ i). subst (λ (k : ℕ). RowFits limit (row_in (set (map (replaced s j) d.rows) i s) k)) (sym e)
    (subst (RowFits limit) (sym (get_or-set_same (map (replaced s j) d.rows) i s [] (omega (arith, li, length-map d.rows (replaced s j))))) (solved-fits limit (row_of d i) j (f i li) (omega (arith, lj, wide i li)) n c.leaving)))
    (λ o. subst (RowFits limit) (sym (get_or-set_other (map (replaced s j) d.rows) i m s [] o ∙ get_or-map (replaced s j) d.rows m [] [] inside)) (replaced-fits limit s j (row_in d.rows m) (long ∙ sym (wide m inside)) (c.all.others m inside o)))
    (same_or_not m i)
