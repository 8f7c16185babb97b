use Rattle.std.proofs.Common.{◌≡◌, ◌∙◌, ◌<◌, suc, sym, subst, add-one, arith}
use Rattle.exact_lin.specs.Reckoning.{wide_limit}
use Rattle.exact_lin.specs.Reckonings.{AllDefined, IsFirstUndefined}
use Rattle.task_types.specs.Course.{count}
use Rattle.task_types.specs.Reckoned.{whole_at}
use Rattle.plan_validator.specs.Passing.{course_to}
use Rattle.plan_validator.specs.Watching.{IsWatching, HasVisited}
use Rattle.plan_validator.proofs.Courses.{onward, stop}
use Rattle.plan_validator.proofs.Wholes.{last_in, last_out}
use Rattle.plan_validator.proofs.passing.pass.Goals as goal

pub step-requires : goal.step-requires
step-requires c = let i = c.loop-k.invariant c.requires.0 c.requires.1 c.requires.3 in
    (c.requires.0, c.loop-k.k, i.0, c.requires.2, (let h : suc c.loop-k.k < count c.args.task.now.parts c.requires.0 = omega (arith, c.loop-k-test.true, c.requires.3) in h))

pub loop-k-preserved : goal.loop-k-preserved
loop-k-preserved c = λ plan b e.
    let i = c.loop-k.invariant plan b e in
    let h : suc c.loop-k.k < count c.args.task.now.parts plan = omega (arith, c.loop-k-test.true, e) in
    let s = c.in-Ok.ensures plan c.loop-k.k i.0 h in
    (subst (IsWatching c.args.task.now.parts c.args.rules.now plan c.step.new.self) (sym (add-one c.loop-k.k)) s.1, onward (whole_at c.args.task.now.parts c.args.rules.now plan) c.loop-k.k i.1 s.0)

pub returns-in-Err-Wide : goal.returns-in-Err-Wide
returns-in-Err-Wide c = λ plan b e.
    let i = c.loop-k.invariant plan b e in
    let h : suc c.loop-k.k < count c.args.task.now.parts plan = omega (arith, c.loop-k-test.true, e) in
    stop (whole_at c.args.task.now.parts c.args.rules.now plan) c.loop-k.k (count c.args.task.now.parts plan) (omega (arith, h)) i.1
    (λ d. let t = rw c.in-Err-Wide.field-0-is at (c.in-Err-Wide.ensures plan c.loop-k.k i.0 h) in t d)

pub returns-in-Ok-visit : goal.returns-in-Ok-visit
returns-in-Ok-visit c = λ plan b e.
    let i = c.loop-k.invariant plan b e in
    let last_is : c.loop-k.k ≡ c.args.last = omega (arith, c.loop-k-test.false) in
    let end_is : suc c.loop-k.k ≡ count c.args.task.now.parts plan = omega (arith, last_is, e) in
    let h : c.loop-k.k < count c.args.task.now.parts plan = omega (arith, end_is) in
    let visited = c.in-Ok-visit.ensures plan c.loop-k.k i.0 h in (
      subst (λ n. AllDefined wide_limit (course_to c.args.task.now.parts c.args.rules.now plan n)) (add-one c.loop-k.k ∙ end_is)
          (onward (whole_at c.args.task.now.parts c.args.rules.now plan) c.loop-k.k i.1 (last_in c.args.task.now.parts c.args.rules.now plan c.loop-k.k end_is visited.0)),
      subst (HasVisited c.args.task.now.parts c.args.rules.now plan c.visit.new.self) last_is visited.1.0,
    )

pub returns-in-Err-Wide-visit : goal.returns-in-Err-Wide-visit
returns-in-Err-Wide-visit c = λ plan b e.
    let i = c.loop-k.invariant plan b e in
    let last_is : c.loop-k.k ≡ c.args.last = omega (arith, c.loop-k-test.false) in
    let end_is : suc c.loop-k.k ≡ count c.args.task.now.parts plan = omega (arith, last_is, e) in
    let h : c.loop-k.k < count c.args.task.now.parts plan = omega (arith, end_is) in
    subst (IsFirstUndefined wide_limit (course_to c.args.task.now.parts c.args.rules.now plan (count c.args.task.now.parts plan))) last_is
    (stop (whole_at c.args.task.now.parts c.args.rules.now plan) c.loop-k.k (count c.args.task.now.parts plan) h i.1
    (λ d. let t = rw c.in-Err-Wide-visit.field-0-is at (c.in-Err-Wide-visit.ensures plan c.loop-k.k i.0 h) in t (last_out c.args.task.now.parts c.args.rules.now plan c.loop-k.k end_is d)))
