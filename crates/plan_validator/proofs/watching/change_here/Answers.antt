use Rattle.std.proofs.Common.{◌≡◌, ◌∙◌, ℕ, Bool, [], ◌∷◌, ◌++◌, ◌<◌, ap, sym, subst}
use Rattle.std.specs.List.{AllByRecursion}
use Rattle.exact_lin.specs.Reckonings.{Sum}
use Rattle.task_types.specs.Touch.{trail_facts}
use Rattle.task_types.specs.Course.{count, time_of, state_after}
use Rattle.task_types.specs.Reckoned.{effects_at}
use Rattle.task_types.specs.Trace.{Moment}
use Rattle.timed_meaning.specs.Answers.{Defined, Tells}
use Rattle.timed_meaning.proofs.Amounts.{part-fault, second-part}
use Rattle.exact_lin.specs.Reckoning.{wide_limit}
use Rattle.exact_lin.specs.Reckonings.{IsDefined}
use Rattle.basics.proofs.Lists.{each_left}
use Rattle.trajectory.specs.Following.{constraint_of}
use Rattle.plan_validator.specs.Following.{AreFollowing, AreBelow}
use Rattle.plan_validator.proofs.watching.change_here.Goals as goal

pub step_all-requires-clause-covered : goal.step_all-requires-clause-covered
step_all-requires-clause-covered c =
    let applied = c.in-Ok.ensures c.requires.before.0 c.requires.before.1 c.requires.before.2 in
    subst (λ (n : ℕ). AllByRecursion (λ a. AreBelow n (trail_facts (constraint_of a))) c.args.automata.now.items) (sym (c.facts.ensures.after c.args.task.now.parts c.requires.before.0 applied.1.0).covers) c.requires.covered

pub add_epsilon-requires : goal.add_epsilon-requires
add_epsilon-requires c =
    let applied = c.in-Ok.ensures c.requires.before.0 c.requires.before.1 c.requires.before.2 in
    (c.args.task.now.parts, c.requires.before.0, applied.1.0.at, subst (λ (k : ℕ). k < count c.args.task.now.parts c.requires.before.0) (sym (ap (λ a. a.place) applied.1.1)) c.requires.before.2)

pub returns-in-Ok : goal.returns-in-Ok
returns-in-Ok c = λ plan k b p h.
    let there : c.args.sweep.now.agenda.place < count c.args.task.now.parts plan = subst (λ (j : ℕ). j < count c.args.task.now.parts plan) (sym p) h in
    let applied = c.in-Ok.ensures plan b there in
    let placed : c.apply.new.self.agenda.place ≡ k = ap (λ a. a.place) applied.1.1 ∙ p in
    let told = c.facts.ensures.after c.args.task.now.parts plan applied.1.0 in
    let moment_is = ap (λ (g : ℕ → Bool). let m : Moment = record { facts = g; time = time_of c.args.task.now.parts plan k } in m) told.tells ∙ ap (λ j. let m : Moment = record { facts = (state_after c.args.task.now.parts plan j).facts; time = time_of c.args.task.now.parts plan k } in m) placed in
    second-part c.add_epsilon.result (effects_at c.args.task.now.parts plan k) (Sum (time_of c.args.task.now.parts plan k) c.args.rules.now.epsilon ∷ []) _ _ (subst (λ j. Defined (effects_at c.args.task.now.parts plan j)) p applied.0)
    (λ u q. (applied.1.0, applied.1.1, λ hard states f. subst (λ (m : Moment). AreFollowing hard c.step_all.new.automata.items (states ++ m ∷ [])) moment_is (c.step_all.ensures hard states (time_of c.args.task.now.parts plan k) f)))
    (subst (λ j. Tells c.add_epsilon.result (Sum (time_of c.args.task.now.parts plan j) c.args.rules.now.epsilon ∷ []) (λ _. c.apply.new.self ≡ c.apply.new.self)) placed (c.add_epsilon.ensures c.args.task.now.parts plan applied.1.0.at (subst (λ (j : ℕ). j < count c.args.task.now.parts plan) (sym placed) h)))

pub returns-in-Err : goal.returns-in-Err
returns-in-Err c = λ plan k b p h. part-fault c.in-Err.fault _ _ _ _
    (λ d. subst (λ j. Defined (effects_at c.args.task.now.parts plan j)) (sym p) (each_left (IsDefined wide_limit) (effects_at c.args.task.now.parts plan k) (Sum (time_of c.args.task.now.parts plan k) c.args.rules.now.epsilon ∷ []) d))
    (c.in-Err.ensures plan b (subst (λ (j : ℕ). j < count c.args.task.now.parts plan) (sym p) h))
