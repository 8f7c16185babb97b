use Rattle.std.proofs.Common.{ap, ◌∙◌}
use Rattle.std.proofs.lemmas.List.{nil_from_length, map-append}
use Rattle.exact_lin.proofs.Edits.{IsErrOf-other}
use Rattle.lp_sparse.specs.SparseRows.{terms_of}
use Rattle.lp_sparse.proofs.Merging.{onto-next, onto-needed, onto-defined, onto-terms}
use Rattle.lp_sparse.proofs.merge.merge.Goals as goal

pub loop-term-preserved : goal.loop-term-preserved
loop-term-preserved g c = onto-next _ _ _ _ _ _ _ _ c.loop-term.invariant _ _ _ _ (ap (terms_of g.S.Scalar.value) c.in-Some.ensures.cases.0) c.in-Ok.ensures.merges

pub returns-in-Ok-extend_from_slice-clause-defined : goal.returns-in-Ok-extend_from_slice-clause-defined
returns-in-Ok-extend_from_slice-clause-defined g c = onto-defined _ _ _ _ _ _ _ _ c.loop-term.invariant c.requires.one c.requires.other (ap (terms_of g.S.Scalar.value) (nil_from_length _ c.in_default.ensures.cases))

pub returns-in-Ok-extend_from_slice-clause-terms : goal.returns-in-Ok-extend_from_slice-clause-terms
returns-in-Ok-extend_from_slice-clause-terms g c =
    let shows = terms_of g.S.Scalar.value in
    ap shows c.in-Ok-extend_from_slice.ensures.items ∙ map-append _ c.loop-term.sum.items c.loop-term.left.now
    ∙ onto-terms _ _ _ _ _ _ _ _ c.loop-term.invariant c.requires.one c.requires.other (ap shows (nil_from_length _ c.in_default.ensures.cases))

pub returns-in-Err-clause-wide : goal.returns-in-Err-clause-wide
returns-in-Err-clause-wide g c = λ w h. c.in-Err.ensures.wide (IsErrOf-other _ _ w) (terms_of g.S.Scalar.value c.in-Some.later.now)
    (onto-needed _ _ _ _ _ _ _ _ c.loop-term.invariant c.requires.one c.requires.other _ _ (ap (terms_of g.S.Scalar.value) c.in-Some.ensures.cases.0) h)
