use Rattle.std.proofs.Common.{ap, subst}
use Rattle.std.proofs.lemmas.List.{nil_from_length}
use Rattle.exact_lin.specs.Forms.{shown, Terms}
use Rattle.cert_core.proofs.AddedSums.{Adding, Adding-begin, Adding-step, Adding-all}
use Rattle.cert_core.proofs.column_sums.add_terms.Goals as goal

pub loop-term-init : goal.loop-term-init
loop-term-init g c = Adding-begin g.S.Scalar.value g.S.Scalar.limit (g.S.Scalar.value c.args.y) (shown g.V.Id.number_of g.S.Scalar.value c.args.terms.now) c.args.sums.now c.requires.ascends c.requires.within c.requires.fit

pub loop-term-preserved : goal.loop-term-preserved
loop-term-preserved g c =
    let shows = shown g.V.Id.number_of g.S.Scalar.value in
    let here = subst (λ (ts : Terms). Adding g.S.Scalar.value g.S.Scalar.limit (g.S.Scalar.value c.args.y) (shows c.args.terms.now) c.args.sums.now c.loop-term.sums ts) (ap shows c.in-Some.ensures.cases.0) c.loop-term.invariant in
    Adding-step g.S.Scalar.value g.S.Scalar.limit _ _ _ _ _ _ _ _ _ c.number-place.ensures c.index-sums-place.is c.added.ensures here

pub returns : goal.returns
returns g c =
    let shows = shown g.V.Id.number_of g.S.Scalar.value in
    Adding-all g.S.Scalar.value g.S.Scalar.limit (g.S.Scalar.value c.args.y) (shows c.args.terms.now) c.args.sums.now c.loop-term.sums
    (subst (λ (ts : Terms). Adding g.S.Scalar.value g.S.Scalar.limit (g.S.Scalar.value c.args.y) (shows c.args.terms.now) c.args.sums.now c.loop-term.sums ts) (ap shows (nil_from_length _ c.in_default.ensures.cases)) c.loop-term.invariant)
