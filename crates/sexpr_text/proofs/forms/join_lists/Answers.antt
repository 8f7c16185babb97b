use Rattle.std.proofs.Common.{◌++◌, ℕ, Option, option_to_list, vec_items, arith, sym, ap, ◌∙◌, add-one}
use Rattle.sexpr_text.proofs.Joining.{joined_start, joined_open, joined_close, joined_other, joined_some, joined_end, joined_get, joined_same, unmated_few}
use Rattle.sexpr_text.proofs.forms.join_lists.Goals as goal
use Rattle.sexpr_text.proofs.forms.join_lists.Goals.{in-Open+in_ok-push-in-Open, in-Close, in_default}

pub loop-i-init : goal.loop-i-init
loop-i-init c = (0, rw c.new-open.ensures.items (joined_start _ _ c.requires.tokens))

pub overflow_cast-i : goal.overflow_cast-i
overflow_cast-i c =
    let few = unmated_few _ _ c.requires.tokens in
    omega (arith, c.requires.small)

pub unwrap-first-requires : goal.unwrap-first-requires
unwrap-first-requires c =
    let read = joined_get _ _ _ _ _ _ _ c.loop-i.invariant.1 c.loop-i-test.true in
    let some = joined_some _ _ _ _ _ _ _ c.requires.tokens c.loop-i.invariant.1 read.1 (read.2 ∙ c.in-Close.is) in
    c.pop.ensures.variant.1 (omega (arith, c.loop-i.open.ok))

pub join-requires-clause-small : goal.join-requires-clause-small
join-requires-clause-small c =
    let few = unmated_few _ _ c.requires.tokens in
    omega (arith, c.requires.small, c.loop-i.auto.tokens)

pub loop-i-preserved : goal.loop-i-preserved
loop-i-preserved c =
    let j = c.loop-i.invariant.1 in
    let read = joined_get _ _ _ _ _ _ _ j c.loop-i-test.true in
    elim c.match-tokens-i.branch [
      | in-Open+in_ok-push-in-Open w ↦ (
        read.0.end,
        joined_same _ _ _ _ _ _ _ _ _ w.tokens-is (add-one _) (ap vec_items w.open-is ∙ w.in_ok-push-in-Open.ensures.items)
            (joined_open _ _ _ _ _ _ _ j read.1 (read.2 ∙ w.in-Open.is)),
      )
      | in-Close w ↦ (
        read.0.end,
        joined_same _ _ _ _ _ _ _ _ _ w.tokens-is (add-one _) (ap vec_items w.open-is)
            (joined_close _ _ _ _ _ _ _ _ _ _ c.requires.tokens j read.1 (read.2 ∙ w.in-Close.is) (w.pop.ensures.items ∙ ap (λ (o : Option ℕ). w.pop.new.self.items ++ option_to_list o) w.unwrap-first.ensures) w.join.ensures),
      )
      | in_default w ↦ (
        read.0.end,
        joined_same _ _ _ _ _ _ _ _ _ w.tokens-is (add-one _) (ap vec_items w.open-is)
            (joined_other _ _ _ _ _ _ _ j read.1 (λ kind. w.in_default.not-Open (sym read.2 ∙ kind)) (λ kind. w.in_default.not-Close (sym read.2 ∙ kind))),
      )
    ]

pub returns-clause-spans : goal.returns-clause-spans
returns-clause-spans c = (joined_end _ _ _ _ _ _ c.requires.tokens c.loop-i.invariant.1 c.loop-i-test.false).0

pub returns-clause-mates : goal.returns-clause-mates
returns-clause-mates c = (joined_end _ _ _ _ _ _ c.requires.tokens c.loop-i.invariant.1 c.loop-i-test.false).1
