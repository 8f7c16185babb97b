-- The row at which the chain ended infeasible is found again.
use Rattle.std.proofs.Common.{◌≡◌, ℕ, List, length, map, sym, subst}
use Rattle.std.proofs.lemmas.List.{length-map}
use Rattle.rational.specs.Rational.{ℚ}
use Rattle.cert_core.specs.Programs.{Program, ProvesEmpty}
use Rattle.lp_tableau.specs.declared.tableau.Tableau.{Tableau}
use Rattle.lp_tableau.specs.Places.{IsFirst, IsLesser}
use Rattle.lp_tableau.specs.Dictionaries.{Dictionary}
use Rattle.lp_tableau.specs.Chains.{EndsInfeasible, LeavesFirst, IsNegative}
use Rattle.lp_tableau.specs.Meanings.{IsDictionary, StandsFor}
use Rattle.lp_tableau.specs.Multipliers.{farkas_of, numbered}
use Rattle.lp_tableau.specs.Tableaus.{dictionary_of}
use Rattle.lp_tableau.proofs.Turning.{LeavesFirst-one}
use Rattle.lp_tableau.proofs.Certificates.{farkas-proves}

pub found-proves : {S : Type 0} (value : S → ℚ) (t : Tableau S) (now : Dictionary) → dictionary_of value t ≡ now → IsDictionary (dictionary_of value t) → (i : ℕ) × EndsInfeasible now i
    → (k : ℕ) → IsFirst (IsNegative (dictionary_of value t)) (IsLesser t.basic.items) (length t.rows.items) k → (p : Program) → StandsFor p now → (ys : List ℚ) → ys ≡ farkas_of (dictionary_of value t) k → ProvesEmpty p (numbered 0 ys)
found-proves value t now v is inf k first p h ys o =
    let ends : EndsInfeasible (dictionary_of value t) inf.0 = subst (λ (d : Dictionary). EndsInfeasible d inf.0) (sym v) inf.1 in
    let leaves : LeavesFirst (dictionary_of value t) k = subst (λ (n : ℕ). IsFirst (IsNegative (dictionary_of value t)) (IsLesser t.basic.items) n k) (sym (length-map t.rows.items (λ row. map value row.items))) first in
    subst (λ (u : List ℚ). ProvesEmpty p (numbered 0 u)) (sym o)
    (farkas-proves p (dictionary_of value t) k is (subst (EndsInfeasible (dictionary_of value t)) (LeavesFirst-one (dictionary_of value t) inf.0 k is ends.leaves leaves) ends) (subst (StandsFor p) (sym v) h))
