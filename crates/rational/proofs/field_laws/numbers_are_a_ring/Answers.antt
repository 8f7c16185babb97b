use Rattle.std.proofs.Common.{refl, [], ◌∷◌}
use Rattle.rational.proofs.Ring.{◌⊖◌, num, ◌≐◌, law}
use Rattle.rational.proofs.Field.{ℚ_ring, add_assoc, add_comm, zero_add, mul_assoc, mul_comm, one_mul, mul_add}
use Rattle.rational.proofs.field_laws.numbers_are_a_ring.Goals as goal

pub returns-clause-sums_associate : goal.returns-clause-sums_associate
returns-clause-sums_associate _ = add_assoc

pub returns-clause-sums_commute : goal.returns-clause-sums_commute
returns-clause-sums_commute _ = add_comm

pub returns-clause-zero : goal.returns-clause-zero
returns-clause-zero _ = zero_add

pub returns-clause-negatives : goal.returns-clause-negatives
returns-clause-negatives _ = λ a. law ℚ_ring (a ∷ []) (λ a. a ⊖ a ≐ num 0) refl

pub returns-clause-products_associate : goal.returns-clause-products_associate
returns-clause-products_associate _ = mul_assoc

pub returns-clause-products_commute : goal.returns-clause-products_commute
returns-clause-products_commute _ = mul_comm

pub returns-clause-one : goal.returns-clause-one
returns-clause-one _ = one_mul

pub returns-clause-distribute : goal.returns-clause-distribute
returns-clause-distribute _ = mul_add
