use Rattle.std.proofs.Common.{arith, ap, sym, ◌∙◌, subst, ◌<◌, ◌≡◌, ℕ, Bool, true, false}
use Rattle.std.specs.List.{sum_by}
use Rattle.std.specs.Option.{SomeIff}
use Rattle.cert_core.specs.Trees.{leaf_count}
use Rattle.cert_core.proofs.Counting.{leaf_count-sum, leaf_count-none, leaf_count-at_least, leaf_count-some}
use Rattle.std.proofs.lemmas.List.{drop_all}
use Rattle.cert_core.proofs.tree.+count.Goals as goal

not_empty : (b : Bool) → b ≡ true → b ≡ false → ⊥
not_empty b e f = cc

pub DualTree::leaves-returns-in-None : goal.DualTree::leaves-returns-in-None
DualTree::leaves-returns-in-None g t c =
    let one : leaf_count c.args.self.now ≡ 1 = ap leaf_count c.in-None.is ∙ leaf_count-none g.row.T.Denot g.row.R.Denot g.row.S.Denot c.in-None._row in
    (omega (arith, one), sym one)

pub DualTree::leaves-returns-in-AtLeast : goal.DualTree::leaves-returns-in-AtLeast
DualTree::leaves-returns-in-AtLeast g t c =
    let one : leaf_count c.args.self.now ≡ 1 = ap leaf_count c.in-AtLeast.is ∙ leaf_count-at_least g.row.T.Denot g.row.R.Denot g.row.S.Denot c.in-AtLeast._row in
    (omega (arith, one), sym one)

pub DualTree::leaves-returns-then-is_empty : goal.DualTree::leaves-returns-then-is_empty
DualTree::leaves-returns-then-is_empty g t c =
    let one : leaf_count c.args.self.now ≡ 1 = leaf_count-some g.row.T.Denot g.row.R.Denot g.row.S.Denot c.args.self.now c.in-Split._term c.in-Split.children c.in-Split.is (c.is_empty.ensures.0 c.if-is_empty.true) in
    (omega (arith, one), sym one)

pub DualTree::leaves-returns-else-is_empty : goal.DualTree::leaves-returns-else-is_empty
DualTree::leaves-returns-else-is_empty g t c =
    let same = leaf_count-sum g.row.T.Denot g.row.R.Denot g.row.S.Denot c.args.self.now c.in-Split._term c.in-Split.children c.as_slice.result.now c.in-Split.is (λ e. not_empty c.is_empty.result (c.is_empty.ensures.1 e) c.if-is_empty.false) c.as_slice.ensures in
    subst (λ (n : ℕ). SomeIff c.leaves_of_all.result (n < 4294967296) n) same c.leaves_of_all.ensures

pub leaves_of_all-returns : goal.leaves_of_all-returns
leaves_of_all-returns g t c =
    let total : c.loop-tree.total ≡ sum_by leaf_count c.args.trees.now = omega (arith, c.loop-tree.invariant.1, ap (sum_by leaf_count) (drop_all c.loop-tree.tree-index c.args.trees.now (omega (arith, c.loop-tree-test.false)))) in
    (subst (λ (n : ℕ). n < 4294967296) total c.loop-tree.invariant.0, total)
