use Rattle.std.proofs.Common.{sym, ap, ◌∙◌, arith}
use Rattle.std.proofs.Math.Facts.{Fits-of_lt}
use Rattle.pddl_terms.specs.Shape.{leaves}
use Rattle.pddl_terms.proofs.Shapes.{taken, entered, ends, stops-end, goes-word, stops-word, goes-list, stops-list, stops-inside}
use Rattle.pddl_terms.proofs.shape.+first_wrong.Goals as goal

pub returns-then-may_end : goal.returns-then-may_end
returns-then-may_end t c = ends _ _ _ c.loop-place.invariant.same _ c.in-End.ensures (sym c.may_end.ensures ∙ c.if-may_end.true)

pub returns-else-may_end : goal.returns-else-may_end
returns-else-may_end t c = stops-end _ _ _ c.loop-place.invariant.same _ c.in-End.ensures (sym c.may_end.ensures ∙ c.if-may_end.false)

pub overflow_add-at : goal.overflow_add-at
overflow_add-at t c = Fits-of_lt c.in-Word.ensures.small

pub overflow_add-at-in-Word : goal.overflow_add-at-in-Word
overflow_add-at-in-Word t c = Fits-of_lt c.in-Word.ensures.small

pub returns-in_default : goal.returns-in_default
returns-in_default t c = stops-word _ _ _ c.loop-place.invariant.same _ _ c.in-Word.ensures.here (taken _ _ c.word_bytes.ensures c.kind_ahead-ahead.ensures c.takes.ensures c.in_default.is)

pub loop-place-preserved-in-Word : goal.loop-place-preserved-in-Word
loop-place-preserved-in-Word t c = record {
  above = omega (arith, c.loop-place.invariant.above);
  same = goes-word _ _ _ c.loop-place.invariant.same _ _ c.in-Word.ensures.here _ (taken _ _ c.word_bytes.ensures c.kind_ahead-ahead.ensures c.takes.ensures c.in-Some.is);
}

pub returns-in_default-enters : goal.returns-in_default-enters
returns-in_default-enters t c = stops-list _ _ _ c.loop-place.invariant.same _ _ _ c.in-List.ensures.here (entered _ c.word_ahead-first.ensures c.enters.ensures c.in_default-enters.is)

pub returns-in-Some-first_wrong : goal.returns-in-Some-first_wrong
returns-in-Some-first_wrong t c = stops-inside _ _ _ c.loop-place.invariant.same _ _ _ c.in-List.ensures.here _ (entered _ c.word_ahead-first.ensures c.enters.ensures c.in-Some-enters.is) _ c.in-Some-first_wrong.ensures

pub loop-place-preserved : goal.loop-place-preserved
loop-place-preserved t c = record {
  above = omega (arith, c.loop-place.invariant.above, c.in-List.ensures.later);
  same = rw (c.leaves-left.ensures ∙ ap (leaves c.loop-place.left) c.word_ahead-first.ensures) (goes-list _ _ _ c.loop-place.invariant.same _ _ _ c.in-List.ensures.here _ (entered _ c.word_ahead-first.ensures c.enters.ensures c.in-Some-enters.is) c.in_default-first_wrong.ensures);
}
