use Rattle.std.proofs.Common.{◌∙◌, ap, sym, refl, subst, ◌<◌, ◌/◌, ◌%◌, length, drop, ◌++◌, ◌+◌, List}
use Rattle.ground_world.specs.Bindings.{choice_count, choice_at, paired}
use Rattle.ground_world.specs.Shown.{env_of, names_of, columns_of}
use Rattle.ground_world.specs.declared.binding.Bound.{Bound}
use Rattle.ground_world.specs.declared.choosing.Variable.{Variable}
use Rattle.ground_world.proofs.Steps.{Comes, one_digit, comes_on}
use Rattle.ground_world.proofs.choosing.bound.Goals as goal
use Rattle.basics.proofs.Lists.{drop_item}

pub bounds-variable-at : goal.bounds-variable-at
bounds-variable-at c =
    let v = c.variable-item.result in
    let rest = drop (c.loop-variable.variable-index + 1) c.args.variables.now in
    let e = drop_item c.args.variables.now c.loop-variable.variable-index v c.loop-variable-test.true c.variable-item.is in
    let h = c.loop-variable.invariant in
    let ways = h.0 ∙ ap (λ (l : List Variable). choice_count (columns_of l)) e in
    let s = one_digit c.loop-variable.ways c.loop-variable.at v rest ways h.1 in
    subst (λ n. c.loop-variable.at / n < length v.column.now) (sym (ap (λ n. n / length v.column.now) ways ∙ s.without)) s.digit

pub loop-variable-preserved : goal.loop-variable-preserved
loop-variable-preserved c =
    let v = c.variable-item.result in
    let rest = drop (c.loop-variable.variable-index + 1) c.args.variables.now in
    let e = drop_item c.args.variables.now c.loop-variable.variable-index v c.loop-variable-test.true c.variable-item.is in
    let whole = env_of c.args.env.now ++ paired (names_of c.args.variables.now) (choice_at (columns_of c.args.variables.now) c.args.number) in
    let h = subst (λ (l : List Variable). Comes c.loop-variable.ways c.loop-variable.at (env_of c.loop-variable.out) l whole) e c.loop-variable.invariant in
    let k = comes_on c.loop-variable.ways c.loop-variable.at c.loop-variable.out v rest whole h _ refl in
    subst (λ (l : List Bound). Comes (c.loop-variable.ways / length v.column.now) (c.loop-variable.at % (c.loop-variable.ways / length v.column.now)) (env_of l) rest whole) (sym c.in_ok-push.ensures.ok) k
