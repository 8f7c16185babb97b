-- The steps of the loops that write what an ended chain gives, for any dictionary.
use Rattle.std.proofs.Common.{◌≡◌, ℕ, zero, suc, ◌+◌, ◌<◌, ◌≤◌, List, [], ◌∷◌, length, map, take, refl, sym, ap, subst, ◌∙◌, get_or, arith, add-one}
use Rattle.rational.specs.Lists.{at}
use Rattle.std.proofs.lemmas.List.{length-map, get_or-map, get_or_default, take_all}
use Rattle.rational.specs.Rational.{ℚ, zeroℚ, oneℚ, neg_ℚ}
use Rattle.lp_tableau.specs.Places.{variable_at}
use Rattle.lp_tableau.specs.Dictionaries.{Dictionary, row_of, constant_of, entry_of, basic_of}
use Rattle.lp_tableau.specs.Meanings.{IsDictionary}
use Rattle.lp_tableau.specs.Assignments.{point_of}
use Rattle.lp_tableau.specs.Multipliers.{dual_of, farkas_of}
use Rattle.lp_tableau.specs.Lookups.{AreLookedUp}
use Rattle.lp_tableau.proofs.LookedUp.{AreLookedUp-next, AreLookedUp-all, IsPut}
use Rattle.lp_tableau.proofs.ResultSteps.{Filled}

-- one more name's value is written
filled-next : {S : Type 0} (value : S → ℚ) (start : ℕ) (names : List ℕ) (us : List ℚ) (n k variable : ℕ) (u : ℚ) (old new : List S) → k < length names → length names ≤ length us
    → ((i l : ℕ) → i < length names → l < length names → variable_at names i ≡ variable_at names l → i ≡ l)
    → variable ≡ variable_at names k → u ≡ at us k → length new ≡ length old → IsPut value start variable u old new
    → Filled value start (take k names) us n old → Filled value start (take (suc k) names) us n new
filled-next value start names us n k variable u old new h l f e g s p w = (s ∙ w.0, AreLookedUp-next value start names us k variable u old new h l f e g s p w.1)

module _ {S : Type 0} (value : S → ℚ) (d : Dictionary) (is : IsDictionary d) where
  abbrev pub constants : List ℚ
  constants = map (λ row. at row (length d.nonbasic)) d.rows

  constants-length : length constants ≡ length d.rows
  constants-length = length-map d.rows (λ row. at row (length d.nonbasic))

  pub point-next : (n i variable : ℕ) (u : ℚ) (old new : List S) → i < length d.rows → variable ≡ get_or d.basic i variable → u ≡ constant_of d i → length new ≡ length old → IsPut value 0 variable u old new
      → Filled value 0 (take i d.basic) constants n old → Filled value 0 (take (i + 1) d.basic) constants n new
  point-next n i variable u old new h e g s p w = subst (λ (k : ℕ). Filled value 0 (take k d.basic) constants n new) (sym (add-one i))
      (filled-next value 0 d.basic constants n i variable u old new (omega (arith, h, is.even.basic)) (omega (arith, constants-length, is.even.basic))
      (λ k l a b q. is.numbered.basic k l (omega (arith, is.even.basic, a)) (omega (arith, is.even.basic, b)) q)
      (e ∙ get_or_default d.basic i variable 0 (omega (arith, h, is.even.basic)))
      (g ∙ sym (get_or-map (λ row. at row (length d.nonbasic)) d.rows i [] zeroℚ h)) s p w)

  pub point-all : (out : List S) (i : ℕ) → length d.rows ≤ i → Filled value 0 (take i d.basic) constants (length d.nonbasic) out → map value out ≡ point_of d (length d.nonbasic)
  point-all out i h w = AreLookedUp-all value 0 d.basic constants (length d.nonbasic) out w.0 (subst (λ (names : List ℕ). AreLookedUp value 0 names constants out) (take_all i d.basic (omega (arith, h, is.even.basic))) w.1)

  pub dual-next : (n j variable : ℕ) (u : ℚ) (old new : List S) → j < length d.nonbasic → variable ≡ get_or d.nonbasic j variable → u ≡ at d.cost j → length new ≡ length old → IsPut value (length d.nonbasic) variable u old new
      → Filled value (length d.nonbasic) (take j d.nonbasic) d.cost n old → Filled value (length d.nonbasic) (take (j + 1) d.nonbasic) d.cost n new
  dual-next n j variable u old new h e g s p w = subst (λ (k : ℕ). Filled value (length d.nonbasic) (take k d.nonbasic) d.cost n new) (sym (add-one j))
      (filled-next value (length d.nonbasic) d.nonbasic d.cost n j variable u old new h (omega (arith, is.even.cost)) is.numbered.nonbasic
      (e ∙ get_or_default d.nonbasic j variable 0 h) g s p w)

  pub dual-all : (out : List S) (j : ℕ) → length d.nonbasic ≤ j → Filled value (length d.nonbasic) (take j d.nonbasic) d.cost (length d.rows) out → map value out ≡ dual_of d
  dual-all out j h w = AreLookedUp-all value (length d.nonbasic) d.nonbasic d.cost (length d.rows) out w.0
      (subst (λ (names : List ℕ). AreLookedUp value (length d.nonbasic) names d.cost out) (take_all j d.nonbasic h) w.1)

  module _ (i : ℕ) (row_in_range : i < length d.rows) where
    abbrev pub farkas_names : List ℕ
    farkas_names = basic_of d i ∷ d.nonbasic

    abbrev pub farkas_numbers : List ℚ
    farkas_numbers = oneℚ ∷ map neg_ℚ (row_of d i)

    width : length (row_of d i) ≡ length d.nonbasic + 1
    width = is.even.rows i [] row_in_range

    once : (k l : ℕ) → k < length farkas_names → l < length farkas_names → variable_at farkas_names k ≡ variable_at farkas_names l → k ≡ l
    once zero zero h m e = refl
    once zero (suc l) h m e = absurd (is.numbered.apart i l row_in_range (omega (arith, m)) e)
    once (suc k) zero h m e = absurd (is.numbered.apart i k row_in_range (omega (arith, h)) (sym e))
    once (suc k) (suc l) h m e = ap suc (is.numbered.nonbasic k l (omega (arith, h)) (omega (arith, m)) e)

    pub farkas-first : (n variable : ℕ) (u : ℚ) (old new : List S) → variable ≡ get_or d.basic i variable → u ≡ oneℚ → length new ≡ length old → IsPut value (length d.nonbasic) variable u old new
        → (length old ≡ n) × ((w : ℕ) → w < length old → at (map value old) w ≡ zeroℚ) → Filled value (length d.nonbasic) (basic_of d i ∷ take 0 d.nonbasic) farkas_numbers n new
    farkas-first n variable u old new e g s p w = filled-next value (length d.nonbasic) farkas_names farkas_numbers n 0 variable u old new (omega arith) (omega (arith, width, length-map (row_of d i) neg_ℚ)) once
        (e ∙ get_or_default d.basic i variable 0 (omega (arith, row_in_range, is.even.basic))) g s p w

    pub farkas-next : (n j variable : ℕ) (u entry : ℚ) (old new : List S) → j < length d.nonbasic → variable ≡ get_or d.nonbasic j variable → u ≡ neg_ℚ entry → entry ≡ entry_of d i j → length new ≡ length old → IsPut value (length d.nonbasic) variable u old new
        → Filled value (length d.nonbasic) (basic_of d i ∷ take j d.nonbasic) farkas_numbers n old → Filled value (length d.nonbasic) (basic_of d i ∷ take (j + 1) d.nonbasic) farkas_numbers n new
    farkas-next n j variable u entry old new h e g q s p w = subst (λ (k : ℕ). Filled value (length d.nonbasic) (basic_of d i ∷ take k d.nonbasic) farkas_numbers n new) (sym (add-one j))
        (filled-next value (length d.nonbasic) farkas_names farkas_numbers n (suc j) variable u old new (omega (arith, h)) (omega (arith, width, length-map (row_of d i) neg_ℚ)) once
        (e ∙ get_or_default d.nonbasic j variable 0 h)
        (g ∙ ap neg_ℚ q ∙ sym (get_or-map neg_ℚ (row_of d i) j zeroℚ zeroℚ (omega (arith, h, width)))) s p w)

    pub farkas-all : (out : List S) (j : ℕ) → length d.nonbasic ≤ j → Filled value (length d.nonbasic) (basic_of d i ∷ take j d.nonbasic) farkas_numbers (length d.rows) out → map value out ≡ farkas_of d i
    farkas-all out j h w = AreLookedUp-all value (length d.nonbasic) farkas_names farkas_numbers (length d.rows) out w.0
        (subst (λ (names : List ℕ). AreLookedUp value (length d.nonbasic) (basic_of d i ∷ names) farkas_numbers out) (take_all j d.nonbasic h) w.1)
