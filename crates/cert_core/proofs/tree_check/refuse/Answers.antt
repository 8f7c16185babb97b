use Rattle.std.proofs.Common.{◌≡◌, ◌<◌, ℕ, arith, sym, ap, ◌∙◌, Option, Some, None}
use Rattle.std.specs.Option.{SomeIff}
use Rattle.cert_core.specs.Trees.{leaf_count}
use Rattle.cert_core.specs.declared.program.CertFault.TheVariants.{Range}
use Rattle.cert_core.proofs.Counting.{leaf_count-pos}
use Rattle.cert_core.proofs.tree_check.refuse.Goals as goal
use Rattle.cert_core.proofs.tree_check.refuse.Goals.{then-from-done, else-from-done}

-- a number that is known to be there is the one that was counted
count_is : (o : Option ℕ) (count n : ℕ) → o ≡ Some count → SomeIff o (n < 4294967296) n → count ≡ n
count_is (Some m) count n e h = let same : m ≡ count = cc in sym same ∙ h.1
count_is None count n e h = cc

pub overflow_add-end : goal.overflow_add-end
overflow_add-end g c = record { fits = omega (arith, c.requires, count_is c.leaves.result c.unwrap-count.result (leaf_count c.args.tree.now) c.unwrap-count.ensures c.leaves.ensures) }

pub overflow_add-result : goal.overflow_add-result
overflow_add-result g c = record { fits = omega (arith, c.requires, leaf_count-pos g.row.T.Denot g.row.R.Denot g.row.S.Denot c.args.tree.now) }

pub returns-clause-refused : goal.returns-clause-refused
returns-clause-refused g c =
    let counted = count_is c.leaves.result c.unwrap-count.result (leaf_count c.args.tree.now) c.unwrap-count.ensures c.leaves.ensures in
    let some = leaf_count-pos g.row.T.Denot g.row.R.Denot g.row.S.Denot c.args.tree.now in
    elim c.if-from-done.branch [
      | then-from-done w ↦ (ap Range c.number.ensures, omega arith, omega (arith, counted, some))
      | else-from-done w ↦ (ap Range c.number.ensures, omega arith, omega (arith, counted, c.if-end-from.false))
    ]
