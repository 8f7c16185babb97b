use Rattle.std.proofs.Common.{◌≡◌, sym, ap, ◌∙◌, arith, refl, Some, length}
use Rattle.ordering.specs.Orderings.{order_of}
use Rattle.ordering.specs.Refusals.{first_open}
use Rattle.ordering.proofs.MoreSteps.{few_steps}
use Rattle.ordering.proofs.OpenStarts.{open_within, closed_where_none, not_closed, lacks_end, lacks_timed, lacks_nothing}
use Rattle.ordering.proofs.orderings.StepOrdering.closed.Goals as goal

found : (c : goal.In-Some) → first_open c.args.task.now.parts 0 c.args.self.now.steps ≡ Some c.in-Some.place
found c = rw c.as_slice.ensures at (sym c.open_start.ensures ∙ c.in-Some.is)

pub overflow_cast-result : goal.overflow_cast-result
overflow_cast-result c = let h = open_within c.args.task.now.parts 0 c.in-Some.place c.args.self.now.steps (found c) in omega (arith, h, few_steps c.args.self.now)

pub overflow_add-result : goal.overflow_add-result
overflow_add-result c = let h = open_within c.args.task.now.parts 0 c.in-Some.place c.args.self.now.steps (found c) in omega (arith, h, few_steps c.args.self.now)

pub returns-in-Some-clause-answer : goal.returns-in-Some-clause-answer
returns-in-Some-clause-answer c = lacks_end c.args.task.now.parts (order_of c.args.self.now) c.in-Some.place (found c)

pub returns-in-Some-clause-closed : goal.returns-in-Some-clause-closed
returns-in-Some-clause-closed c = (λ e. cc, λ h. absurd (not_closed c.args.task.now.parts (order_of c.args.self.now) _ (returns-in-Some-clause-answer c) h))

pub returns-then-self-timed-clause-answer : goal.returns-then-self-timed-clause-answer
returns-then-self-timed-clause-answer c = lacks_nothing c.args.task.now.parts (order_of c.args.self.now) (rw c.as_slice.ensures at (sym c.open_start.ensures ∙ c.in_default.is)) (sym c.requires.timed_steps ∙ c.if-self-timed.true ∙ ap length c.timed.ensures)

pub returns-then-self-timed-clause-closed : goal.returns-then-self-timed-clause-closed
returns-then-self-timed-clause-closed c = (λ e. closed_where_none c.args.task.now.parts (order_of c.args.self.now) c.requires.built (returns-then-self-timed-clause-answer c), λ h. refl)

pub returns-else-self-timed-clause-answer : goal.returns-else-self-timed-clause-answer
returns-else-self-timed-clause-answer c = lacks_timed c.args.task.now.parts (order_of c.args.self.now) (rw c.as_slice.ensures at (sym c.open_start.ensures ∙ c.in_default.is)) (λ e. c.if-self-timed.false (c.requires.timed_steps ∙ e ∙ sym (ap length c.timed.ensures)))

pub returns-else-self-timed-clause-closed : goal.returns-else-self-timed-clause-closed
returns-else-self-timed-clause-closed c = (λ e. cc, λ h. absurd (not_closed c.args.task.now.parts (order_of c.args.self.now) _ (returns-else-self-timed-clause-answer c) h))
