use Rattle.std.proofs.Common.{arith}
use Rattle.lp_sparse.proofs.Marking.{marked-here, marked-kept}
use Rattle.lp_sparse.proofs.marks.mark.Goals as goal

pub returns-then-column-len-clause-here : goal.returns-then-column-len-clause-here
returns-then-column-len-clause-here c = marked-here c.args.marks.now.items c.args.column c.args.k c.mark_in.new.column (omega (arith, c.args.marks.now.ok.0)) c.mark_in.ensures.here

pub returns-then-column-len-clause-kept : goal.returns-then-column-len-clause-kept
returns-then-column-len-clause-kept c = marked-kept c.args.marks.now.items c.args.column c.args.k c.mark_in.new.column (omega (arith, c.args.marks.now.ok.0)) c.index_mut.result.now c.index_mut.ensures.value c.mark_in.ensures.kept
