use Rattle.std.proofs.Common.{◌∙◌, inl, inr}
use Rattle.exact_lin.proofs.Steps.{wholes-cmp, ends-cmp, rests-cmp'}
use Rattle.exact_lin.proofs.reckoning.+compare.Goals as goal
use Rattle.exact_lin.proofs.reckoning.+compare.Goals.{then-r-eq0-via-then-r-eq0, then-r-eq0-via-else-r-eq0+then-s-eq0}

pub returns-then-p-q : goal.returns-then-p-q
returns-then-p-q t c = c.cmp.ensures ∙ wholes-cmp _ _ _ _ c.requires.first c.requires.second c.if-p-q.true

pub returns-then-r-eq0 : goal.returns-then-r-eq0
returns-then-r-eq0 t c = c.cmp-then-r-eq0.ensures ∙ ends-cmp _ _ _ _ c.requires.first c.requires.second c.if-p-q.false
    (elim c.then-r-eq0.branch [ then-r-eq0-via-then-r-eq0 w ↦ inl w.if-r-eq0.true | then-r-eq0-via-else-r-eq0+then-s-eq0 w ↦ inr w.if-s-eq0.true ])

pub returns : goal.returns
returns t c = c.compare.ensures ∙ rests-cmp' _ _ _ _ c.if-p-q.false
