use Rattle.std.proofs.Common.{ap, ◌∙◌}
use Rattle.std.proofs.lemmas.List.{nil_from_length, map-append}
use Rattle.exact_lin.specs.Forms.{shown}
use Rattle.exact_lin.proofs.Edits.{IsErrOf-other}
use Rattle.exact_lin.proofs.Merge.{merging-next}
use Rattle.exact_lin.proofs.MergeTerms.{needed-next, merged-defined, merged-terms}
use Rattle.exact_lin.proofs.terms.merge.Goals as goal

pub loop-term-preserved : goal.loop-term-preserved
loop-term-preserved g c = merging-next _ _ _ _ _ _ _ _ _ _ _ (ap (shown g.V.Id.number_of g.S.Scalar.value) c.in-Some.ensures.cases.0) c.loop-term.invariant c.in-Ok.ensures.merges

pub returns-in-Ok-extend_from_slice-clause-defined : goal.returns-in-Ok-extend_from_slice-clause-defined
returns-in-Ok-extend_from_slice-clause-defined g c = merged-defined (ap (shown g.V.Id.number_of g.S.Scalar.value) (nil_from_length _ c.in_default.ensures.cases)) c.requires.one c.requires.other c.loop-term.invariant

pub returns-in-Ok-extend_from_slice-clause-terms : goal.returns-in-Ok-extend_from_slice-clause-terms
returns-in-Ok-extend_from_slice-clause-terms g c =
    let shows = shown g.V.Id.number_of g.S.Scalar.value in
    ap shows c.in-Ok-extend_from_slice.ensures.items ∙ map-append _ c.loop-term.sum.items c.loop-term.left.now
    ∙ merged-terms (ap shows (nil_from_length _ c.in_default.ensures.cases)) c.requires.one c.requires.other c.loop-term.invariant

pub returns-in-Err-clause-wide : goal.returns-in-Err-clause-wide
returns-in-Err-clause-wide g c = λ w h. c.in-Err.ensures.wide (IsErrOf-other _ _ w) (shown g.V.Id.number_of g.S.Scalar.value c.in-Some.later.now)
    (needed-next _ _ _ _ _ _ _ _ _ c.requires.one c.requires.other c.loop-term.invariant (ap (shown g.V.Id.number_of g.S.Scalar.value) c.in-Some.ensures.cases.0) h)
