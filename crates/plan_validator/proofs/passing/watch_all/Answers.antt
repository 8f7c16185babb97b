use Rattle.std.proofs.Common.{◌≡◌, ◌∙◌, ℕ, suc, ◌-◌, sym, subst, arith}
use Rattle.exact_lin.specs.Reckoning.{wide_limit}
use Rattle.exact_lin.specs.Reckonings.{AllDefined}
use Rattle.task_types.specs.Course.{count}
use Rattle.plan_validator.specs.Passing.{course_to}
use Rattle.plan_validator.proofs.Finishing.{done-none, done-last}
use Rattle.plan_validator.proofs.Answering.{watches-fault}
use Rattle.plan_validator.proofs.passing.watch_all.Goals as goal

pub returns-then-happenings-eq0 : goal.returns-then-happenings-eq0
returns-then-happenings-eq0 c =
    let none : count c.args.task.now.parts c.args.plan.now ≡ 0 = sym c.requires.counted ∙ c.if-happenings-eq0.true in (
      subst (λ (n : ℕ). AllDefined wide_limit (course_to c.args.task.now.parts c.args.rules.now c.args.plan.now n)) (sym none) tt,
      done-none c.args.task.now.parts c.args.rules.now c.args.plan.now _ (c.in-Ok.ensures c.args.rules.now) none,
    )

pub pass-requires : goal.pass-requires
pass-requires c = (c.args.plan.now, c.in-Ok.ensures c.args.rules.now, c.requires.built, (let e : suc (c.args.happenings - 1) ≡ count c.args.task.now.parts c.args.plan.now = omega (arith, c.requires.counted, c.if-happenings-eq0.false) in e))

pub returns-in-Ok-pass : goal.returns-in-Ok-pass
returns-in-Ok-pass c =
    let e : suc (c.args.happenings - 1) ≡ count c.args.task.now.parts c.args.plan.now = omega (arith, c.requires.counted, c.if-happenings-eq0.false) in
    let passed = c.in-Ok-pass.ensures c.args.plan.now (c.in-Ok.ensures c.args.rules.now) e in
    (passed.0, done-last c.args.task.now.parts c.args.rules.now c.args.plan.now _ (c.args.happenings - 1) passed.1 e)

pub returns-in-Err-pass : goal.returns-in-Err-pass
returns-in-Err-pass c =
    let e : suc (c.args.happenings - 1) ≡ count c.args.task.now.parts c.args.plan.now = omega (arith, c.requires.counted, c.if-happenings-eq0.false) in
    watches-fault c.args.task.now.parts c.args.rules.now c.args.plan.now c.in-Err-pass.fault _ _ (c.in-Err-pass.ensures c.args.plan.now (c.in-Ok.ensures c.args.rules.now) e)
