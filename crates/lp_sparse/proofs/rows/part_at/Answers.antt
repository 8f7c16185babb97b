use Rattle.std.proofs.Common.{ℕ, subst, sym, ◌≤◌, length}
use Rattle.std.proofs.lemmas.List.{nil_from_length}
use Rattle.exact_lin.proofs.Places.{shown-place_within}
use Rattle.lp_sparse.proofs.RowParts.{none-left, other-there}
use Rattle.lp_sparse.proofs.rows.part_at.Goals as goal

pub split_at-requires : goal.split_at-requires
split_at-requires g c = subst (λ (n : ℕ). n ≤ length c.args.row.now) (sym c.place_of.ensures) (shown-place_within (λ (n : ℕ). n) g.S.Scalar.value c.args.column c.args.row.now)

pub returns-else-term-column : goal.returns-else-term-column
returns-else-term-column g c = other-there g.S.Scalar.value c.args.row.now c.requires c.place_of.result c.args.column _ c.place_of.ensures c.split_at.ensures.back c.in-Some.term.now c.in-Some.back.now c.in-Some.ensures.cases.0 c.if-term-column.false

pub returns-in-None : goal.returns-in-None
returns-in-None g c = none-left g.S.Scalar.value c.args.row.now c.requires c.place_of.result c.args.column _ c.place_of.ensures c.split_at.ensures.back (nil_from_length _ ((c.in-None.ensures {u = tt}).cases))
