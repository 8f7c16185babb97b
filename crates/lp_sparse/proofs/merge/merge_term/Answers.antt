use Rattle.exact_lin.proofs.Merge.{merges_term, wide_join}
use Rattle.lp_sparse.proofs.merge.merge_term.Goals as goal

pub returns-in_err-coefficient-clause-wide : goal.returns-in_err-coefficient-clause-wide
returns-in_err-coefficient-clause-wide g c = λ _ us. wide_join _ _ _ _ _ _ us (c.args.term.0, g.S.Scalar.value c.args.term.1) _ c.in_ok-product.ensures.1 c.in_ok-rest.ensures c.in_err-coefficient.ensures

pub returns-clause-merges : goal.returns-clause-merges
returns-clause-merges g c = merges_term _ _ _ _ _ _ _ _ (c.args.term.0, g.S.Scalar.value c.args.term.1) _ _ c.in_ok-product.ensures.0 c.in_ok-product.ensures.1 c.in_ok-rest.ensures
    c.in_ok-coefficient.ensures.0 c.in_ok-coefficient.ensures.1 c.in_ok-coefficient.ensures.2 c.in_ok-push_term.ensures.terms
