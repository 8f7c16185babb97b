-- Private: proofs of the laws that each impl of `Id` shows.
use Rattle.std.proofs.Common.{◌≡◌, ℕ, arith, nat_eq}
use Rattle.std.specs.Prelude.{◌↔◌, IsTrue}
use Rattle.std.proofs.lemmas.Bool.Decides.{nat_tests}

-- the test of two numbers says whether they are equal
pub nat-decide : (m n : ℕ) → IsTrue (nat_eq m n) ↔ (m ≡ n)
nat-decide m n = (λ t. grind (arith, nat_tests), λ e. grind (arith, nat_tests))
