use Rattle.std.proofs.Common.{◌≡◌, ◌∙◌, ◌<◌, ◌++◌, ℕ, sym, ap, subst}
use Rattle.exact_lin.specs.Reckoning.{wide_limit}
use Rattle.exact_lin.specs.Reckonings.{IsDefined}
use Rattle.basics.proofs.Lists.{each_left}
use Rattle.task_types.specs.Course.{count}
use Rattle.task_types.specs.Reckoned.{effects_at, move_to}
use Rattle.timed_meaning.specs.Answers.{Defined}
use Rattle.timed_meaning.proofs.Amounts.{part-fault, second-part}
use Rattle.timed_meaning.proofs.reaching.reach.Goals as goal

pub move_to-requires : goal.move_to-requires
move_to-requires c = let applied = c.in-Ok.ensures c.requires.0 c.requires.1 c.requires.2 in
    (c.requires.0, applied.1.0, subst (λ (j : ℕ). j < count c.args.task.now.parts c.requires.0) (sym (ap (λ a. a.place) applied.1.1)) c.requires.2)

pub returns-in-Ok : goal.returns-in-Ok
returns-in-Ok c = λ plan k b p h.
    let applied = c.in-Ok.ensures plan b (subst (λ (j : ℕ). j < count c.args.task.now.parts plan) (sym p) h) in
    second-part c.move_to.result (effects_at c.args.task.now.parts plan k) (move_to c.args.task.now.parts plan k c.args.to) _ _ (subst (λ j. Defined (effects_at c.args.task.now.parts plan j)) p applied.0) (λ u q. q)
    (c.move_to.ensures plan k applied.1.0 (ap (λ a. a.place) applied.1.1 ∙ p) h)

pub returns-in-Err : goal.returns-in-Err
returns-in-Err c = λ plan k b p h. part-fault c.in-Err.fault _ _ _ _
    (λ d. subst (λ j. Defined (effects_at c.args.task.now.parts plan j)) (sym p) (each_left (IsDefined wide_limit) (effects_at c.args.task.now.parts plan k) (move_to c.args.task.now.parts plan k c.args.to) d))
    (c.in-Err.ensures plan b (subst (λ (j : ℕ). j < count c.args.task.now.parts plan) (sym p) h))
