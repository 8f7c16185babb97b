use Rattle.std.proofs.Common.{◌∙◌, ap, sym, subst}
use Rattle.std.specs.List.{AllByRecursion}
use Rattle.timed_meaning.specs.Told.{AreSteps}
use Rattle.timed_meaning.specs.Owned.{steps_of}
use Rattle.plan_validator.specs.Firsts.{all_noted}
use Rattle.plan_validator.specs.Clashes.{SumsFit, window_notes, clash_notes}
use Rattle.plan_validator.proofs.Visiting.{all_noted-append}
use Rattle.plan_validator.proofs.clashes.least_clash.Goals as goal

pub loop-first-init : goal.loop-first-init
loop-first-init c = record {
  noted = ap (λ o. all_noted o (clash_notes c.args.parts.now c.args.rules.now c.args.lines c.args.steps.now)) c.new-least.ensures;
  sums = c.requires.sums;
  known = c.requires.known;
}

pub note_window-requires-clause-first : goal.note_window-requires-clause-first
note_window-requires-clause-first c = (
  (subst (AllByRecursion (SumsFit c.args.rules.now)) c.in-Some.ensures.cases.0 c.loop-first.invariant.sums).0,
  (subst (λ xs. AreSteps c.args.parts.now (steps_of xs)) c.in-Some.ensures.cases.0 c.loop-first.invariant.known).0,
)

pub note_window-requires-clause-later : goal.note_window-requires-clause-later
note_window-requires-clause-later c = (subst (AllByRecursion (SumsFit c.args.rules.now)) c.in-Some.ensures.cases.0 c.loop-first.invariant.sums).1

pub note_window-requires-clause-known : goal.note_window-requires-clause-known
note_window-requires-clause-known c = (subst (λ xs. AreSteps c.args.parts.now (steps_of xs)) c.in-Some.ensures.cases.0 c.loop-first.invariant.known).1

pub loop-first-preserved : goal.loop-first-preserved
loop-first-preserved c = record {
  noted = ap (λ o. all_noted o (clash_notes c.args.parts.now c.args.rules.now c.args.lines c.in-Some.later.now)) c.note_window.ensures
      ∙ sym (all_noted-append c.loop-first.least.place (window_notes c.args.parts.now c.args.rules.now c.args.lines c.in-Some.first.now c.in-Some.later.now) (clash_notes c.args.parts.now c.args.rules.now c.args.lines c.in-Some.later.now))
      ∙ ap (λ xs. all_noted c.loop-first.least.place (clash_notes c.args.parts.now c.args.rules.now c.args.lines xs)) (sym c.in-Some.ensures.cases.0) ∙ c.loop-first.invariant.noted;
  sums = (subst (AllByRecursion (SumsFit c.args.rules.now)) c.in-Some.ensures.cases.0 c.loop-first.invariant.sums).1;
  known = (subst (λ xs. AreSteps c.args.parts.now (steps_of xs)) c.in-Some.ensures.cases.0 c.loop-first.invariant.known).1;
}
