use Rattle.std.proofs.Common.{◌∙◌, List, ap, sym, subst, length}
use Rattle.std.specs.Prelude.{None}
use Rattle.std.specs.List.{AllByRecursion}
use Rattle.task_types.specs.declared.constraints.Trail.{Trail}
use Rattle.task_types.specs.declared.parts.TaskParts.{TaskParts}
use Rattle.task_types.specs.Trace.{trace}
use Rattle.timed_meaning.specs.declared.steps.OwnedStep.{OwnedStep}
use Rattle.trajectory.specs.declared.automaton.Automaton.{Automaton}
use Rattle.task_types.specs.Valid.{duties}
use Rattle.timed_meaning.specs.Told.{AreSteps}
use Rattle.timed_meaning.specs.Owned.{steps_of}
use Rattle.plan_validator.specs.Firsts.{all_noted}
use Rattle.plan_validator.specs.Clashes.{SumsFit, clash_notes}
use Rattle.plan_validator.specs.Following.{AreFollowing, HaveTimes}
use Rattle.plan_validator.specs.Judged.{Judged, first_of}
use Rattle.plan_validator.specs.Kinds.{constraint_duties}
use Rattle.plan_validator.specs.Passing.{goal_reason}
use Rattle.plan_validator.specs.Reasons.{noted_reason}
use Rattle.plan_validator.proofs.Finishing.{sums-fit}
use Rattle.plan_validator.proofs.InTime.{in-time, trace-times}
use Rattle.plan_validator.proofs.Deciding.{all-judged}
use Rattle.plan_validator.proofs.judging.reason_of.Goals as goal

pub least_clash-clash-requires-clause-sums : goal.least_clash-clash-requires-clause-sums
least_clash-clash-requires-clause-sums c = subst (AllByRecursion (SumsFit c.args.rules.now)) (sym c.all_owned-steps.ensures.all) (sums-fit c.args.task.now.parts c.args.rules.now c.args.lines.now c.args.watch.now c.requires.done.listed c.requires.defined)

pub least_clash-clash-requires-clause-known : goal.least_clash-clash-requires-clause-known
least_clash-clash-requires-clause-known c = subst (λ (p : TaskParts). AreSteps p (steps_of c.all_owned-steps.result.now)) (sym c.parts.ensures) (subst (λ xs. AreSteps c.args.task.now.parts (steps_of xs)) (sym c.all_owned-steps.ensures.all) c.requires.done.listed.known)

pub returns : goal.returns
returns c =
    let clash_is = c.least_clash-clash.ensures ∙ ap (λ (p : TaskParts). all_noted None (clash_notes p c.args.rules.now (length c.args.lines.now) c.all_owned-steps.result.now)) c.parts.ensures
    ∙ ap (λ (xs : List OwnedStep). all_noted None (clash_notes c.args.task.now.parts c.args.rules.now (length c.args.lines.now) xs)) c.all_owned-steps.ensures.all in
    let following = subst (λ (xs : List Automaton). AreFollowing c.hard.result.now xs (trace c.args.task.now.parts c.args.lines.now)) (sym c.as_slice.ensures.value)
    (subst (λ (hs : List Trail). AreFollowing hs c.args.watch.now.automata.items (trace c.args.task.now.parts c.args.lines.now)) (sym c.hard.ensures) c.requires.done.automata) in
    let timed = subst (HaveTimes (trace c.args.task.now.parts c.args.lines.now)) (sym c.requires.times) (trace-times c.args.task.now.parts c.args.lines.now) in
    let noted_is = c.noted_reason-noted.ensures ∙ ap (λ ts. noted_reason c.args.watch.now c.first_late-late.result c.least_clash-clash.result.place c.args.lines.now ts c.args.times.now) c.timed.ensures in
    let first_is = c.first_of-2.ensures ∙ ap (λ o. first_of o c.first_broken-broken.result) (c.first_of.ensures ∙ ap (λ o. first_of o c.goal_reason.result) noted_is
    ∙ ap (λ o. first_of (noted_reason c.args.watch.now c.first_late-late.result c.least_clash-clash.result.place c.args.lines.now c.args.task.now.parts.timed c.args.times.now) o) (c.goal_reason.ensures ∙ ap goal_reason c.requires.goal)) in
    subst (Judged (duties c.args.task.now.parts c.args.rules.now c.args.lines.now)) (sym first_is)
    (all-judged c.args.task.now.parts c.args.rules.now c.args.lines.now c.args.watch.now c.args.task.now.well_made c.requires.built c.requires.done c.first_late-late.result c.least_clash-clash.result.place c.args.times.now c.first_broken-broken.result
    c.first_late-late.ensures clash_is c.requires.times
    (λ m. subst (λ (hs : List Trail). Judged (constraint_duties (trace c.args.task.now.parts c.args.lines.now) 1 hs) c.first_broken-broken.result) c.hard.ensures
    (c.first_broken-broken.ensures (trace c.args.task.now.parts c.args.lines.now) following timed (in-time c.args.task.now.parts c.args.rules.now c.args.task.now.well_made c.args.lines.now m))))
