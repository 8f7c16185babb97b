use Rattle.std.proofs.Common.{◌∙◌, ℕ, Bool, List, [], ◌∷◌, ◌^◌, ◌-◌, ap, sym, subst, lit<}
use Rattle.std.specs.List.{AllByRecursion}
use Rattle.rational.specs.Rational.{zeroℚ}
use Rattle.basics.proofs.Bools.{and_left, and_right}
use Rattle.task_types.specs.declared.constraints.Trail.{Trail}
use Rattle.task_types.specs.Touch.{trail_facts}
use Rattle.task_types.specs.State.{State}
use Rattle.task_types.specs.Trace.{Moment}
use Rattle.timed_meaning.proofs.Stepping.{first-state}
use Rattle.trajectory.specs.Following.{constraint_of}
use Rattle.plan_validator.specs.Following.{AreFollowing, AreBelow}
use Rattle.plan_validator.specs.Watching.{steps_read}
use Rattle.plan_validator.proofs.Followers.{follows-below, follows-taken}
use Rattle.plan_validator.proofs.watching.Watch.begin.Goals as goal

pub step_all-requires-clause-covered : goal.step_all-requires-clause-covered
step_all-requires-clause-covered c =
    let covers = (c.facts.ensures.before c.args.task.now.parts c.args.plan.now c.in_ok-sweep.ensures.0).covers in
    subst (λ (n : ℕ). AllByRecursion (λ a. AreBelow n (trail_facts (constraint_of a))) c.in_ok-automata.automata.items) (sym covers)
    (follows-below c.args.task.now.parts c.facts.result.now covers c.args.task.now.parts.hard c.in_ok-automata.automata.items []
    (subst (λ (hs : List Trail). AreFollowing hs c.in_ok-automata.automata.items []) c.hard.ensures c.in_ok-automata.ensures) (and_right _ _ (and_left _ _ c.args.task.now.well_made.terms)))

pub step_all-requires-clause-room : goal.step_all-requires-clause-room
step_all-requires-clause-room c = follows-taken c.hard.result.now c.in_ok-automata.automata.items [] (2 ^ 32 - 1) (lit< tt) c.in_ok-automata.ensures

pub returns : goal.returns
returns c = λ rules.
    let first = c.in_ok-sweep.ensures in
    let told = c.facts.ensures.before c.args.task.now.parts c.args.plan.now first.0 in
    let moment_is = ap (λ (g : ℕ → Bool). let m : Moment = record { facts = g; time = zeroℚ } in m) (told.tells ∙ ap (λ (s : State). s.facts) (sym (first-state c.args.task.now.parts c.args.plan.now c.in_ok-sweep.sweep.agenda.place first.1))) in
    record {
      before = first.0;
      place = first.1;
      readings = c.new.ensures ∙ ap (steps_read c.args.task.now.parts rules c.args.plan.now) (sym first.2);
      over_alls = c.new-2.ensures;
      automata = subst (λ (m : Moment). AreFollowing c.args.task.now.parts.hard c.step_all.new.automata.items (m ∷ [])) moment_is
          (c.step_all.ensures c.args.task.now.parts.hard [] zeroℚ (subst (λ (hs : List Trail). AreFollowing hs c.in_ok-automata.automata.items []) c.hard.ensures c.in_ok-automata.ensures));
    }
