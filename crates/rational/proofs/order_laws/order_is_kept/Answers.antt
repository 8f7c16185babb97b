use Rattle.rational.proofs.Order.{mul_nonneg}
use Rattle.rational.proofs.Inequalities.{add_le, le_refl}
use Rattle.rational.proofs.order_laws.order_is_kept.Goals as goal

pub returns-clause-sums : goal.returns-clause-sums
returns-clause-sums _ = λ a b c h. add_le a b c c h (le_refl c)

pub returns-clause-products : goal.returns-clause-products
returns-clause-products _ = mul_nonneg
