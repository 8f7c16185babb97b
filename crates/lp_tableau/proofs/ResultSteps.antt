-- The steps of the loops that write what an ended chain gives.
use Rattle.std.proofs.Common.{◌≡◌, ℕ, zero, suc, ◌+◌, ◌<◌, ◌≤◌, List, [], ◌∷◌, length, map, take, refl, sym, ap, subst, ◌∙◌, get_or, arith, add-one}
use Rattle.rational.specs.Lists.{at}
use Rattle.std.proofs.lemmas.List.{length-map, get_or-map, get_or_default, take_all}
use Rattle.rational.specs.Rational.{ℚ, zeroℚ, oneℚ, neg_ℚ}
use Rattle.lp_tableau.specs.declared.tableau.Tableau.{Tableau}
use Rattle.lp_tableau.specs.Places.{variable_at}
use Rattle.lp_tableau.specs.Dictionaries.{Dictionary, row_of, constant_of, entry_of, basic_of}
use Rattle.lp_tableau.specs.Meanings.{IsDictionary}
use Rattle.lp_tableau.specs.Assignments.{point_of}
use Rattle.lp_tableau.specs.Multipliers.{dual_of, farkas_of}
use Rattle.lp_tableau.specs.Lookups.{AreLookedUp}
use Rattle.lp_tableau.specs.Tableaus.{dictionary_of}
use Rattle.lp_tableau.proofs.LookedUp.{AreLookedUp-next, AreLookedUp-all, IsPut}

module _ {S : Type 0} (value : S → ℚ) where
  -- the values of the first k names are written
  abbrev pub Filled : ℕ → List ℕ → List ℚ → ℕ → List S → Type 0
  Filled start names us n out = (length out ≡ n) × AreLookedUp value start names us out

  filled-next : (start : ℕ) (names : List ℕ) (us : List ℚ) (n k variable : ℕ) (u : ℚ) (old new : List S) → k < length names → length names ≤ length us
      → ((i l : ℕ) → i < length names → l < length names → variable_at names i ≡ variable_at names l → i ≡ l)
      → variable ≡ variable_at names k → u ≡ at us k → length new ≡ length old → IsPut value start variable u old new
      → Filled start (take k names) us n old → Filled start (take (suc k) names) us n new
  filled-next start names us n k variable u old new h l f e g s p w = (s ∙ w.0, AreLookedUp-next value start names us k variable u old new h l f e g s p w.1)

  module _ (t : Tableau S) (is : IsDictionary (dictionary_of value t)) where
    abbrev d : Dictionary
    d = dictionary_of value t

    abbrev pub constants : List ℚ
    constants = map (λ row. at row (length t.nonbasic.items)) (dictionary_of value t).rows

    rows_length : length (dictionary_of value t).rows ≡ length t.rows.items
    rows_length = length-map t.rows.items (λ row. map value row.items)

    constants-length : length constants ≡ length t.rows.items
    constants-length = length-map (dictionary_of value t).rows (λ row. at row (length t.nonbasic.items)) ∙ rows_length

    pub point-next : (n i variable : ℕ) (u : ℚ) (old new : List S) → i < length t.rows.items → variable ≡ get_or t.basic.items i variable → u ≡ constant_of (dictionary_of value t) i → length new ≡ length old → IsPut value 0 variable u old new
        → Filled 0 (take i t.basic.items) constants n old → Filled 0 (take (i + 1) t.basic.items) constants n new
    point-next n i variable u old new h e g s p w = subst (λ (k : ℕ). Filled 0 (take k t.basic.items) constants n new) (sym (add-one i))
        (filled-next 0 t.basic.items constants n i variable u old new (omega (arith, h, is.even.basic, rows_length)) (omega (arith, constants-length, is.even.basic, rows_length))
        (λ k l a b q. is.numbered.basic k l (omega (arith, is.even.basic, a)) (omega (arith, is.even.basic, b)) q)
        (e ∙ get_or_default t.basic.items i variable 0 (omega (arith, h, is.even.basic, rows_length)))
        (g ∙ sym (get_or-map (λ row. at row (length t.nonbasic.items)) (dictionary_of value t).rows i [] zeroℚ (omega (arith, h, rows_length)))) s p w)

    pub point-all : (out : List S) (i : ℕ) → length t.rows.items ≤ i → Filled 0 (take i t.basic.items) constants (length t.nonbasic.items) out → map value out ≡ point_of (dictionary_of value t) (length t.nonbasic.items)
    point-all out i h w = AreLookedUp-all value 0 t.basic.items constants (length t.nonbasic.items) out w.0 (subst (λ (names : List ℕ). AreLookedUp value 0 names constants out) (take_all i t.basic.items (omega (arith, h, is.even.basic, rows_length))) w.1)

    pub dual-next : (start n j variable : ℕ) (u : ℚ) (old new : List S) → j < length t.nonbasic.items → variable ≡ get_or t.nonbasic.items j variable → u ≡ at (map value t.cost.items) j → length new ≡ length old → IsPut value start variable u old new
        → Filled start (take j t.nonbasic.items) (map value t.cost.items) n old → Filled start (take (j + 1) t.nonbasic.items) (map value t.cost.items) n new
    dual-next start n j variable u old new h e g s p w = subst (λ (k : ℕ). Filled start (take k t.nonbasic.items) (map value t.cost.items) n new) (sym (add-one j))
        (filled-next start t.nonbasic.items (map value t.cost.items) n j variable u old new h (omega (arith, is.even.cost)) is.numbered.nonbasic
        (e ∙ get_or_default t.nonbasic.items j variable 0 h) g s p w)

    pub dual-all : (out : List S) (j : ℕ) → length t.nonbasic.items ≤ j → Filled (length t.nonbasic.items) (take j t.nonbasic.items) (map value t.cost.items) (length t.rows.items) out → map value out ≡ dual_of (dictionary_of value t)
    dual-all out j h w = AreLookedUp-all value (length t.nonbasic.items) t.nonbasic.items (map value t.cost.items) (length (dictionary_of value t).rows) out (w.0 ∙ sym rows_length)
        (subst (λ (names : List ℕ). AreLookedUp value (length t.nonbasic.items) names (map value t.cost.items) out) (take_all j t.nonbasic.items h) w.1)

    module _ (i : ℕ) (row_in_range : i < length t.rows.items) where
      abbrev pub farkas_names : List ℕ
      farkas_names = basic_of (dictionary_of value t) i ∷ t.nonbasic.items

      abbrev pub farkas_numbers : List ℚ
      farkas_numbers = oneℚ ∷ map neg_ℚ (row_of (dictionary_of value t) i)

      width : length (row_of (dictionary_of value t) i) ≡ length t.nonbasic.items + 1
      width = is.even.rows i [] (omega (arith, row_in_range, rows_length))

      once : (k l : ℕ) → k < length farkas_names → l < length farkas_names → variable_at farkas_names k ≡ variable_at farkas_names l → k ≡ l
      once zero zero h m e = refl
      once zero (suc l) h m e = absurd (is.numbered.apart i l (omega (arith, row_in_range, rows_length)) (omega (arith, m)) e)
      once (suc k) zero h m e = absurd (is.numbered.apart i k (omega (arith, row_in_range, rows_length)) (omega (arith, h)) (sym e))
      once (suc k) (suc l) h m e = ap suc (is.numbered.nonbasic k l (omega (arith, h)) (omega (arith, m)) e)

      pub farkas-first : (start n variable : ℕ) (u : ℚ) (old new : List S) → variable ≡ get_or t.basic.items i variable → u ≡ oneℚ → length new ≡ length old → IsPut value start variable u old new
          → (length old ≡ n) × ((w : ℕ) → w < length old → at (map value old) w ≡ zeroℚ) → Filled start (basic_of (dictionary_of value t) i ∷ take 0 t.nonbasic.items) farkas_numbers n new
      farkas-first start n variable u old new e g s p w = filled-next start farkas_names farkas_numbers n 0 variable u old new (omega arith) (omega (arith, width, length-map (row_of (dictionary_of value t) i) neg_ℚ)) once
          (e ∙ get_or_default t.basic.items i variable 0 (omega (arith, row_in_range, is.even.basic, rows_length))) g s p w

      pub farkas-next : (start n j variable : ℕ) (u entry : ℚ) (old new : List S) → j < length t.nonbasic.items → variable ≡ get_or t.nonbasic.items j variable → u ≡ neg_ℚ entry → entry ≡ entry_of (dictionary_of value t) i j → length new ≡ length old → IsPut value start variable u old new
          → Filled start (basic_of (dictionary_of value t) i ∷ take j t.nonbasic.items) farkas_numbers n old → Filled start (basic_of (dictionary_of value t) i ∷ take (j + 1) t.nonbasic.items) farkas_numbers n new
      farkas-next start n j variable u entry old new h e g q s p w = subst (λ (k : ℕ). Filled start (basic_of (dictionary_of value t) i ∷ take k t.nonbasic.items) farkas_numbers n new) (sym (add-one j))
          (filled-next start farkas_names farkas_numbers n (suc j) variable u old new (omega (arith, h)) (omega (arith, width, length-map (row_of (dictionary_of value t) i) neg_ℚ)) once
          (e ∙ get_or_default t.nonbasic.items j variable 0 h)
          (g ∙ ap neg_ℚ q ∙ sym (get_or-map neg_ℚ (row_of (dictionary_of value t) i) j zeroℚ zeroℚ (omega (arith, h, width)))) s p w)

      pub farkas-all : (out : List S) (j : ℕ) → length t.nonbasic.items ≤ j → Filled (length t.nonbasic.items) (basic_of (dictionary_of value t) i ∷ take j t.nonbasic.items) farkas_numbers (length t.rows.items) out → map value out ≡ farkas_of (dictionary_of value t) i
      farkas-all out j h w = AreLookedUp-all value (length t.nonbasic.items) farkas_names farkas_numbers (length (dictionary_of value t).rows) out (w.0 ∙ sym rows_length)
          (subst (λ (names : List ℕ). AreLookedUp value (length t.nonbasic.items) (basic_of (dictionary_of value t) i ∷ names) farkas_numbers out) (take_all j t.nonbasic.items h) w.1)
