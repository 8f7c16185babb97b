use Rattle.std.proofs.Common.{ap, ◌∙◌, length, subst, ℕ, arith}
use Rattle.lp_tableau.specs.RowLists.{HaveWidth}
use Rattle.lp_tableau.proofs.start.room_for.Goals as goal

pub returns : goal.returns
returns g c = record {
  solution = ap length (c.in_ok-solution.ensures.items ∙ c.deref.ensures.value) ∙ c.requires.cost;
  some = omega (arith, c.in_ok-rows.ensures.count);
  rows = subst (λ (n : ℕ). HaveWidth n c.in_ok-rows.rows.items) (ap length c.deref-2.ensures.value ∙ c.requires.cost) c.in_ok-rows.ensures.widths;
  cost = ap length (c.in_ok-cost.ensures.items ∙ c.deref-3.ensures.value) ∙ c.requires.cost;
}
