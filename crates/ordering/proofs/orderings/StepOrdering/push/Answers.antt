use Rattle.std.proofs.Common.{◌≡◌, ◌∙◌, sym, ap, subst, arith, ◌+◌, ◌∷◌, [], length, length-append, not, true}
use Rattle.task_types.specs.Plan.{snap_of}
use Rattle.task_types.specs.Sets.{are_distinct}
use Rattle.task_types.specs.Touch.{is_timed}
use Rattle.ordering.specs.declared.orderings.StepOrdering.{StepOrdering}
use Rattle.ordering.specs.Orderings.{order_of}
use Rattle.ordering.proofs.MoreSteps.{over_step, is_taken, timed_within, plan_within, start_apart, one_more, none_more}
use Rattle.ordering.proofs.RunningActions.{distinct_on}
use Rattle.ordering.proofs.orderings.StepOrdering.push.Goals as goal
use Rattle.ordering.proofs.orderings.StepOrdering.push.Goals.{then-has_moment, else-has_moment}

pub invariant_of-self-then-has_moment-clause-counted : goal.invariant_of-self-then-has_moment-clause-counted
invariant_of-self-then-has_moment-clause-counted c = let old : length c.args.self.now.steps ≡ c.args.self.now.plan_steps + c.args.self.now.timed_steps = c.args.self.now.counted in
    let new : length c.put_step.new.steps ≡ c.args.self.now.plan_steps + (c.args.self.now.timed_steps + 1) = omega (arith, ap length (c.in_ok-put_step.ensures {u = tt}).steps, length-append c.args.self.now.steps (c.args.snap ∷ []), old) in new

pub invariant_of-self-else-has_moment-clause-counted : goal.invariant_of-self-else-has_moment-clause-counted
invariant_of-self-else-has_moment-clause-counted c = let old : length c.args.self.now.steps ≡ c.args.self.now.plan_steps + c.args.self.now.timed_steps = c.args.self.now.counted in
    let new : length c.put_step.new.steps ≡ (c.args.self.now.plan_steps + 1) + c.args.self.now.timed_steps = omega (arith, ap length (c.in_ok-put_step.ensures {u = tt}).steps, length-append c.args.self.now.steps (c.args.snap ∷ []), old) in new

pub invariant_of-self-then-has_moment-clause-few_timed_steps : goal.invariant_of-self-then-has_moment-clause-few_timed_steps
invariant_of-self-then-has_moment-clause-few_timed_steps c = rw c.requires.over.timed_steps (timed_within c.args.task.now.parts (order_of c.args.self.now) c.args.snap c.args.task.now.well_made (sym c.has_moment.ensures ∙ c.if-has_moment.true) (is_taken c.args.task.now.parts (order_of c.args.self.now) c.args.snap (sym c.refusal.ensures ∙ c.in_default.is)))

pub invariant_of-self-else-has_moment-clause-few_plan_steps : goal.invariant_of-self-else-has_moment-clause-few_plan_steps
invariant_of-self-else-has_moment-clause-few_plan_steps c = rw c.requires.over.plan_steps (plan_within c.args.task.now.parts (order_of c.args.self.now) c.args.snap (sym c.has_moment.ensures ∙ c.if-has_moment.false) (is_taken c.args.task.now.parts (order_of c.args.self.now) c.args.snap (sym c.refusal.ensures ∙ c.in_default.is)))

pub invariant_of-self-then-has_moment-clause-once : goal.invariant_of-self-then-has_moment-clause-once
invariant_of-self-then-has_moment-clause-once c = let runs = rw c.snap_at.ensures at (c.in_ok-put_step.ensures {u = tt}).running in subst (λ xs. are_distinct xs ≡ true) (sym runs) (distinct_on (snap_of c.args.task.now.parts c.args.snap).kind (snap_of c.args.task.now.parts c.args.snap).action c.args.self.now.running c.args.self.now.once (start_apart c.args.task.now.parts c.args.self.now c.args.snap c.requires.over (is_taken c.args.task.now.parts (order_of c.args.self.now) c.args.snap (sym c.refusal.ensures ∙ c.in_default.is))))

pub invariant_of-self-else-has_moment-clause-once : goal.invariant_of-self-else-has_moment-clause-once
invariant_of-self-else-has_moment-clause-once c = let runs = rw c.snap_at.ensures at (c.in_ok-put_step.ensures {u = tt}).running in subst (λ xs. are_distinct xs ≡ true) (sym runs) (distinct_on (snap_of c.args.task.now.parts c.args.snap).kind (snap_of c.args.task.now.parts c.args.snap).action c.args.self.now.running c.args.self.now.once (start_apart c.args.task.now.parts c.args.self.now c.args.snap c.requires.over (is_taken c.args.task.now.parts (order_of c.args.self.now) c.args.snap (sym c.refusal.ensures ∙ c.in_default.is))))

pub returns-clause-over : goal.returns-clause-over
returns-clause-over c = let free = sym c.refusal.ensures ∙ c.in_default.is in
    let put = c.in_ok-put_step.ensures {u = tt} in
    let runs = rw c.snap_at.ensures at put.running in
    elim c.if-has_moment.branch [
      | then-has_moment w ↦ let timed = sym c.has_moment.ensures ∙ w.if-has_moment.true in over_step c.args.task.now.parts c.args.self.now c.if-has_moment.self c.args.snap c.requires.over c.requires.in_range free
          (ap (λ (o : StepOrdering). o.steps) w.self-is ∙ put.steps) (ap (λ (o : StepOrdering). o.extra) w.self-is) (ap (λ (o : StepOrdering). o.running) w.self-is ∙ runs)
          (ap (λ (o : StepOrdering). o.plan_steps) w.self-is ∙ none_more (not (is_timed (snap_of c.args.task.now.parts c.args.snap).kind)) c.args.self.now.plan_steps (ap not timed))
          (ap (λ (o : StepOrdering). o.timed_steps) w.self-is ∙ one_more (is_timed (snap_of c.args.task.now.parts c.args.snap).kind) c.args.self.now.timed_steps timed)
      | else-has_moment w ↦ let timed = sym c.has_moment.ensures ∙ w.if-has_moment.false in over_step c.args.task.now.parts c.args.self.now c.if-has_moment.self c.args.snap c.requires.over c.requires.in_range free
          (ap (λ (o : StepOrdering). o.steps) w.self-is ∙ put.steps) (ap (λ (o : StepOrdering). o.extra) w.self-is) (ap (λ (o : StepOrdering). o.running) w.self-is ∙ runs)
          (ap (λ (o : StepOrdering). o.plan_steps) w.self-is ∙ one_more (not (is_timed (snap_of c.args.task.now.parts c.args.snap).kind)) c.args.self.now.plan_steps (ap not timed))
          (ap (λ (o : StepOrdering). o.timed_steps) w.self-is ∙ none_more (is_timed (snap_of c.args.task.now.parts c.args.snap).kind) c.args.self.now.timed_steps timed)
    ]
