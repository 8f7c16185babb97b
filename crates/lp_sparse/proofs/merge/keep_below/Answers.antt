use Rattle.std.proofs.Common.{ap, ◌∙◌, [], ◌∷◌, arith}
use Rattle.std.proofs.lemmas.List.{map-append}
use Rattle.exact_lin.proofs.Merge.{Keeping-begin, Keeping-next}
use Rattle.lp_sparse.specs.SparseRows.{terms_of}
use Rattle.lp_sparse.proofs.merge.keep_below.Goals as goal

pub loop-first-init : goal.loop-first-init
loop-first-init g c = let shows = terms_of g.S.Scalar.value in
    Keeping-begin c.args.column (shows c.args.terms.now) (shows c.args.sum.now.items)

pub loop-first-preserved : goal.loop-first-preserved
loop-first-preserved g c = let shows = terms_of g.S.Scalar.value in
    Keeping-next _ _ _ _ _ _ _ (c.in-Some.first.now.0, g.S.Scalar.value c.in-Some.first.now.1) c.loop-first.invariant
    (ap shows c.in-Some.ensures.cases.0) (omega arith)
    (ap shows c.in_ok-push.ensures ∙ map-append _ c.loop-first.sum.items (c.in-Some.first.now ∷ []))
