-- The duties of the columns, one column after another.
use Rattle.std.proofs.Common.{◌≡◌, ℕ, suc, ◌+◌, ◌-◌, ◌<◌, List, ◌++◌, subst, arith}
use Rattle.rational.specs.Rational.{ℚ}
use Rattle.cert_core.specs.declared.program.CertFault.{CertFault}
use Rattle.cert_core.specs.declared.claim.Claim.{Claim}
use Rattle.cert_core.specs.Programs.{Program}
use Rattle.basics.specs.Duties.{Duty, AllMet, IsFirstUnmet}
use Rattle.cert_core.specs.Checks.{column_duties, columns_duties}
use Rattle.basics.proofs.Duties.{ComesDownTo, ComesDownTo-part, ComesDownTo-within}

columns-begin : (limit : ℕ) (p : Program) (claim : Claim ℚ) (ys : List (ℕ × ℚ)) (all : List (Duty (CertFault ℕ ℕ))) (v n : ℕ) → v < n
    → ComesDownTo all (columns_duties limit p claim ys v (n - v)) → ComesDownTo all (column_duties limit p claim ys v ++ columns_duties limit p claim ys (v + 1) (n - (v + 1)))
columns-begin limit p claim ys all v n h c = let e : n - v ≡ suc (n - (v + 1)) = omega arith in subst (λ (k : ℕ). ComesDownTo all (columns_duties limit p claim ys v k)) e c

pub next_column : (limit : ℕ) (p : Program) (claim : Claim ℚ) (ys : List (ℕ × ℚ)) (all : List (Duty (CertFault ℕ ℕ))) (v w n : ℕ) → v < n → w ≡ v
    → ComesDownTo all (columns_duties limit p claim ys v (n - v)) → AllMet (column_duties limit p claim ys w) → ComesDownTo all (columns_duties limit p claim ys (v + 1) (n - (v + 1)))
next_column limit p claim ys all v w n h e c k = ComesDownTo-part all (column_duties limit p claim ys v) (columns_duties limit p claim ys (v + 1) (n - (v + 1))) (columns-begin limit p claim ys all v n h c) (subst (λ (x : ℕ). AllMet (column_duties limit p claim ys x)) e k)

pub unmet_column-first : (limit : ℕ) (p : Program) (claim : Claim ℚ) (ys : List (ℕ × ℚ)) (all : List (Duty (CertFault ℕ ℕ))) (v w n : ℕ) (f : CertFault ℕ ℕ) → v < n → w ≡ v
    → ComesDownTo all (columns_duties limit p claim ys v (n - v)) → IsFirstUnmet (column_duties limit p claim ys w) f → IsFirstUnmet all f
unmet_column-first limit p claim ys all v w n f h e c u = ComesDownTo-within all (column_duties limit p claim ys v) (columns_duties limit p claim ys (v + 1) (n - (v + 1))) f (columns-begin limit p claim ys all v n h c) (subst (λ (x : ℕ). IsFirstUnmet (column_duties limit p claim ys x) f) e u)
