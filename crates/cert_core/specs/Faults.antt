-- Believed: rows and variables of faults and of multipliers, as numbers.
use Rattle.std.specs.Prelude.{ℕ, List, map}
use Rattle.rational.specs.Rational.{ℚ}
use Rattle.cert_core.specs.declared.program.CertFault.{CertFault}
use Rattle.cert_core.specs.declared.tree.TreeFault.{TreeFault}
use Rattle.cert_core.specs.declared.program.CertFault.TheVariants.{Negative, Column, Constant, Bound, Range, Wide}

abbrev pub fault_of : {R V : Type 0} → (R → ℕ) → (V → ℕ) → CertFault R V → CertFault ℕ ℕ
fault_of row variable (Negative r) = Negative (row r)
fault_of row variable (Column v) = Column (variable v)
fault_of row variable Constant = Constant
fault_of row variable Bound = Bound
fault_of row variable (Range n) = Range n
fault_of row variable Wide = Wide

-- pairs of a row and a multiplier as numbers
abbrev pub multipliers_of : {R S : Type 0} → (R → ℕ) → (S → ℚ) → List (R × S) → List (ℕ × ℚ)
multipliers_of row value pairs = map (λ y. (row y.0, value y.1)) pairs

abbrev pub tree_fault_of : {R V : Type 0} → (R → ℕ) → (V → ℕ) → TreeFault R V → TreeFault ℕ ℕ
tree_fault_of row variable f = record { leaf = f.leaf; fault = fault_of row variable f.fault }
