use Rattle.std.proofs.Common.{◌∙◌, ◌<◌, ◌+◌, Bool, ap, sym, subst, length, drop}
use Rattle.basics.proofs.Lists.{each_at}
use Rattle.task_types.proofs.Everyone.{all_of_map}
use Rattle.plan_validator.specs.Firsts.{Place, Note, noted, all_noted}
use Rattle.plan_validator.specs.Clashes.{SumsFit, pair_place, window_notes}
use Rattle.plan_validator.proofs.Windows.{window-far, window-near}
use Rattle.plan_validator.proofs.clashes.note_window.Goals as goal

pub is_kept-requires-clause-other : goal.is_kept-requires-clause-other
is_kept-requires-clause-other c = subst (SumsFit c.args.rules.now) (sym c.other-item.is) (each_at (SumsFit c.args.rules.now) c.args.later.now c.loop-other.other-index c.other-item.result c.loop-other-test.true c.requires.later)

pub is_kept-requires-clause-other_known : goal.is_kept-requires-clause-other_known
is_kept-requires-clause-other_known c = subst (λ o. o.step.snap < length c.args.parts.now.snaps) (sym c.other-item.is)
    (each_at (λ o. o.step.snap < length c.args.parts.now.snaps) c.args.later.now c.loop-other.other-index c.other-item.result c.loop-other-test.true
    (all_of_map (λ s. s.snap < length c.args.parts.now.snaps) (λ o. o.step) c.args.later.now c.requires.known))

pub loop-other-preserved : goal.loop-other-preserved
loop-other-preserved c =
    ap (λ o. all_noted o (window_notes c.args.parts.now c.args.rules.now c.args.lines c.args.first.now (drop (c.loop-other.other-index + 1) c.args.later.now)))
    (c.note.ensures ∙ ap (λ (q : Place). let n : Note = (q, c.is_kept.result) in noted c.loop-other.least.place n) c.pair_place.ensures
    ∙ ap (λ (b : Bool). let n : Note = (pair_place c.args.first.now c.other-item.result, b) in noted c.loop-other.least.place n) c.is_kept.ensures)
    ∙ sym (window-near c.args.parts.now c.args.rules.now c.args.lines c.args.first.now c.args.later.now c.loop-other.other-index c.other-item.result c.loop-other-test.true c.other-item.is c.loop-other.least.place (sym c.is_far.ensures ∙ c.if-is_far.false))
    ∙ c.loop-other.invariant

pub returns-then-is_far : goal.returns-then-is_far
returns-then-is_far c = sym (window-far c.args.parts.now c.args.rules.now c.args.lines c.args.first.now c.args.later.now c.loop-other.other-index c.other-item.result c.loop-other-test.true c.other-item.is c.loop-other.least.place (sym c.is_far.ensures ∙ c.if-is_far.true))
    ∙ c.loop-other.invariant
