use Rattle.std.proofs.Common.{◌≡◌, ap, sym, ◌∙◌, arith, ◌*◌, ◌+◌, min, length, drop, List}
use Rattle.ground_world.specs.Bindings.{choice_count}
use Rattle.ground_world.specs.Shown.{columns_of}
use Rattle.ground_world.specs.declared.choosing.Variable.{Variable}
use Rattle.ground_world.proofs.Digits.{capped}
use Rattle.std.proofs.lemmas.List.{drop_all}
use Rattle.ground_world.proofs.choosing.choices_within.Goals as goal
use Rattle.basics.proofs.Lists.{drop_item}

pub loop-variable-preserved : goal.loop-variable-preserved
loop-variable-preserved c =
    let v = c.variable-item.result in
    let rest = drop (c.loop-variable.variable-index + 1) c.args.variables.now in
    let e = drop_item c.args.variables.now c.loop-variable.variable-index v c.loop-variable-test.true c.variable-item.is in
    let next : c.min-count-in-loop-variable.result ≡ min (min (c.loop-variable.count * length v.column.now) 18446744073709551615) c.args.most = c.min-count-in-loop-variable.ensures ∙ ap (λ n. min n c.args.most) c.saturating_mul.ensures in (
      omega arith,
      ap (λ n. min c.args.most (n * choice_count (columns_of rest))) next
          ∙ capped c.args.most c.loop-variable.count (length v.column.now) (choice_count (columns_of rest)) (omega arith)
          ∙ ap (λ (l : List Variable). min c.args.most (c.loop-variable.count * choice_count (columns_of l))) (sym e)
          ∙ c.loop-variable.invariant.1,
    )

pub returns : goal.returns
returns c =
    let e = ap (λ (l : List Variable). choice_count (columns_of l)) (drop_all c.loop-variable.variable-index c.args.variables.now c.loop-variable-test.false) in
    let f : c.loop-variable.count ≡ min c.args.most (c.loop-variable.count * 1) = omega arith in
    f ∙ ap (λ n. min c.args.most (c.loop-variable.count * n)) (sym e) ∙ c.loop-variable.invariant.1
