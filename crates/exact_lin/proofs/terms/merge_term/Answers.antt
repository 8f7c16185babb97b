use Rattle.std.proofs.Common.{ℕ, subst}
use Rattle.exact_lin.specs.Forms.{shown}
use Rattle.exact_lin.specs.Merges.{KeepsBelow}
use Rattle.exact_lin.proofs.Merge.{merges_term, wide_join}
use Rattle.exact_lin.proofs.terms.merge_term.Goals as goal

pub returns-in_err-coefficient-clause-wide : goal.returns-in_err-coefficient-clause-wide
returns-in_err-coefficient-clause-wide g c =
    let shows = shown g.V.Id.number_of g.S.Scalar.value in
    let keeps = subst (λ (n : ℕ). KeepsBelow n (shows c.args.left.now) (shows c.args.sum.now.items) (shows c.keep_below.new.sum.items) (shows c.in_ok-rest.rest.now)) c.number.ensures c.in_ok-rest.ensures in
    λ _ us. wide_join _ _ _ _ _ _ us (g.V.Id.number_of c.args.term.0, g.S.Scalar.value c.args.term.1) _ c.in_ok-product.ensures.1 keeps c.in_err-coefficient.ensures

pub returns-clause-merges : goal.returns-clause-merges
returns-clause-merges g c =
    let shows = shown g.V.Id.number_of g.S.Scalar.value in
    let keeps = subst (λ (n : ℕ). KeepsBelow n (shows c.args.left.now) (shows c.args.sum.now.items) (shows c.keep_below.new.sum.items) (shows c.in_ok-rest.rest.now)) c.number.ensures c.in_ok-rest.ensures in
    merges_term _ _ _ _ _ _ _ _ (g.V.Id.number_of c.args.term.0, g.S.Scalar.value c.args.term.1) _ _ c.in_ok-product.ensures.0 c.in_ok-product.ensures.1 keeps
    c.in_ok-coefficient.ensures.0 c.in_ok-coefficient.ensures.1 c.in_ok-coefficient.ensures.2 c.in_ok-push_term.ensures
