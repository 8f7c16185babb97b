-- The four parts of a check, one after another.
use Rattle.std.proofs.Common.{ℕ, ◌+◌, ◌<◌, List, [], ◌∷◌, ◌++◌, length, Result, Ok, Err}
use Rattle.std.specs.List.{AllByRecursion}
use Rattle.rational.specs.Rational.{ℚ}
use Rattle.cert_core.specs.declared.program.CertFault.{CertFault}
use Rattle.cert_core.specs.declared.claim.Claim.{Claim}
use Rattle.cert_core.specs.Programs.{Program}
use Rattle.basics.specs.Duties.{AllMet, IsFirstUnmet, Judges}
use Rattle.cert_core.specs.Checks.{range_duties, sign_duties, columns_duties, constant_duties, duties}
use Rattle.cert_core.specs.Faults.{multipliers_of}
use Rattle.basics.proofs.Duties.{AllMet-append, IsFirstUnmet-left, IsFirstUnmet-right}

module _ (limit : ℕ) (p : Program) (claim : Claim ℚ) (ys : List (ℕ × ℚ)) (f : CertFault ℕ ℕ) where
  pub unmet_range-first : IsFirstUnmet (range_duties (length p.rows) 0 ys) f → IsFirstUnmet (duties limit p claim ys) f
  unfolding duties
  unmet_range-first u = IsFirstUnmet-left (range_duties (length p.rows) 0 ys) (sign_duties ys ++ (columns_duties limit p claim ys 0 (length p.costs) ++ constant_duties limit p claim ys)) f u

  pub unmet_sign-first : AllMet (range_duties (length p.rows) 0 ys) → IsFirstUnmet (sign_duties ys) f → IsFirstUnmet (duties limit p claim ys) f
  unfolding duties
  unmet_sign-first h u = IsFirstUnmet-right (range_duties (length p.rows) 0 ys) (sign_duties ys ++ (columns_duties limit p claim ys 0 (length p.costs) ++ constant_duties limit p claim ys)) f h
      (IsFirstUnmet-left (sign_duties ys) (columns_duties limit p claim ys 0 (length p.costs) ++ constant_duties limit p claim ys) f u)

  pub unmet_columns-first : AllMet (range_duties (length p.rows) 0 ys) → AllMet (sign_duties ys) → IsFirstUnmet (columns_duties limit p claim ys 0 (length p.costs)) f → IsFirstUnmet (duties limit p claim ys) f
  unfolding duties
  unmet_columns-first h k u = IsFirstUnmet-right (range_duties (length p.rows) 0 ys) (sign_duties ys ++ (columns_duties limit p claim ys 0 (length p.costs) ++ constant_duties limit p claim ys)) f h
      (IsFirstUnmet-right (sign_duties ys) (columns_duties limit p claim ys 0 (length p.costs) ++ constant_duties limit p claim ys) f k
      (IsFirstUnmet-left (columns_duties limit p claim ys 0 (length p.costs)) (constant_duties limit p claim ys) f u))

  pub unmet_constant-first : AllMet (range_duties (length p.rows) 0 ys) → AllMet (sign_duties ys) → AllMet (columns_duties limit p claim ys 0 (length p.costs)) → IsFirstUnmet (constant_duties limit p claim ys) f → IsFirstUnmet (duties limit p claim ys) f
  unfolding duties
  unmet_constant-first h k l u = IsFirstUnmet-right (range_duties (length p.rows) 0 ys) (sign_duties ys ++ (columns_duties limit p claim ys 0 (length p.costs) ++ constant_duties limit p claim ys)) f h
      (IsFirstUnmet-right (sign_duties ys) (columns_duties limit p claim ys 0 (length p.costs) ++ constant_duties limit p claim ys) f k
      (IsFirstUnmet-right (columns_duties limit p claim ys 0 (length p.costs)) (constant_duties limit p claim ys) f l u))

pub duties-met : (limit : ℕ) (p : Program) (claim : Claim ℚ) (ys : List (ℕ × ℚ)) → AllMet (range_duties (length p.rows) 0 ys) → AllMet (sign_duties ys) → AllMet (columns_duties limit p claim ys 0 (length p.costs)) → AllMet (constant_duties limit p claim ys) → AllMet (duties limit p claim ys)
unfolding duties
duties-met limit p claim ys h k l m = AllMet-append (range_duties (length p.rows) 0 ys) _ h (AllMet-append (sign_duties ys) _ k (AllMet-append (columns_duties limit p claim ys 0 (length p.costs)) (constant_duties limit p claim ys) l m))

-- rows that pass are in range
pub ranges-within : {R S : Type 0} (row : R → ℕ) (value : S → ℚ) (count least : ℕ) (pairs : List (R × S)) → AllMet (range_duties count least (multipliers_of row value pairs)) → AllByRecursion (λ (y : R × S). row y.0 < count) pairs
ranges-within row value count least [] h = tt
ranges-within row value count least (y ∷ ys) h = (h.0.1, ranges-within row value count (row y.0 + 1) ys h.1)

-- where the first three parts are met, the constant's answer is that of the whole
pub whole : {A E : Type 0} (limit : ℕ) (p : Program) (claim : Claim ℚ) (ys : List (ℕ × ℚ)) (result : Result A E) (named : E → CertFault ℕ ℕ)
    → AllMet (range_duties (length p.rows) 0 ys) → AllMet (sign_duties ys) → AllMet (columns_duties limit p claim ys 0 (length p.costs))
    → Judges result named (constant_duties limit p claim ys) → Judges result named (duties limit p claim ys)
whole limit p claim ys (Ok a) named h k l m = duties-met limit p claim ys h k l m
whole limit p claim ys (Err e) named h k l u = unmet_constant-first limit p claim ys (named e) h k l u
