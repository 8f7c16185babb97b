use Rattle.std.proofs.Common.{ap, ◌∙◌, [], ◌∷◌, arith}
use Rattle.std.proofs.lemmas.List.{map-append}
use Rattle.exact_lin.specs.Forms.{shown}
use Rattle.exact_lin.proofs.Merge.{Keeping-begin, Keeping-next}
use Rattle.exact_lin.proofs.terms.keep_below.Goals as goal

pub loop-first-init : goal.loop-first-init
loop-first-init g c = let shows = shown g.V.Id.number_of g.S.Scalar.value in
    Keeping-begin c.args.number (shows c.args.terms.now) (shows c.args.sum.now.items)

pub loop-first-preserved : goal.loop-first-preserved
loop-first-preserved g c = let shows = shown g.V.Id.number_of g.S.Scalar.value in
    Keeping-next _ _ _ _ _ _ _ (g.V.Id.number_of c.in-Some.first.now.0, g.S.Scalar.value c.in-Some.first.now.1) c.loop-first.invariant
    (ap shows c.in-Some.ensures.cases.0) (omega (arith, c.number.ensures, c.if-number.false))
    (ap shows c.in_ok-push.ensures ∙ map-append _ c.loop-first.sum.items (c.in-Some.first.now ∷ []))
