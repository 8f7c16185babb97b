use Rattle.std.proofs.Common.{◌∙◌, sym, ap, ap₂, ◌&&◌, ◌+◌, ◌++◌, not, if◌then◌else◌, nat_eq, nat_le, length, take, arith}
use Rattle.std.specs.List.{flat_map, filter, list_all}
use Rattle.std.proofs.lemmas.List.{take_all}
use Rattle.pddl_terms.specs.declared.faults.Kind.TheVariants as kind
use Rattle.pddl_forms.specs.Offences.{least_with, unless}
use Rattle.pddl_forms.specs.Expressions.{is_constant, is_changing, expression_offences}
use Rattle.pddl_forms.proofs.Judgements.{judgement-sum, judgement-product, judgement-negative, judgement-difference, judgement-quotient, told-constant, told-found, two-found, all-next, count-next, count-within, none-changes}
use Rattle.pddl_forms.proofs.Least.{least_with-append, least-next}
use Rattle.pddl_forms.proofs.expressions.+judgements.Goals as goal

pub judge-returns-in-Sum-clause-constant : goal.judge-returns-in-Sum-clause-constant
judge-returns-in-Sum-clause-constant t c = let fs = c.args.functions.now in
    told-constant fs c.in-Sum.is (judgement-sum fs c.in-Sum.field-0 c.in-Sum.parts)
    (c.judge_sum.ensures.constant ∙ ap (list_all (is_constant fs)) c.as_slice-in-Sum.ensures)

pub judge-returns-in-Sum-clause-found : goal.judge-returns-in-Sum-clause-found
judge-returns-in-Sum-clause-found t c = let fs = c.args.functions.now in
    told-found fs c.args.found c.in-Sum.is (judgement-sum fs c.in-Sum.field-0 c.in-Sum.parts)
    (c.judge_sum.ensures.found ∙ ap (λ es. least_with c.args.found (flat_map (expression_offences fs) es)) c.as_slice-in-Sum.ensures)

pub judge-returns-in-Product-clause-constant : goal.judge-returns-in-Product-clause-constant
judge-returns-in-Product-clause-constant t c = let fs = c.args.functions.now in
    told-constant fs c.in-Product.is (judgement-product fs c.in-Product.at c.in-Product.factors)
    (c.judge_product.ensures.constant ∙ ap (list_all (is_constant fs)) c.as_slice-in-Product.ensures)

pub judge-returns-in-Product-clause-found : goal.judge-returns-in-Product-clause-found
judge-returns-in-Product-clause-found t c = let fs = c.args.functions.now in
    told-found fs c.args.found c.in-Product.is (judgement-product fs c.in-Product.at c.in-Product.factors)
    (c.judge_product.ensures.found
    ∙ ap (λ es. least_with c.args.found (flat_map (expression_offences fs) es ++ unless (nat_le (length (filter (is_changing fs) es)) 1) kind.Nonlinear c.in-Product.at)) c.as_slice-in-Product.ensures)

pub judge-returns-in-Negative-clause-constant : goal.judge-returns-in-Negative-clause-constant
judge-returns-in-Negative-clause-constant t c = let fs = c.args.functions.now in
    told-constant fs c.in-Negative.is (judgement-negative fs c.in-Negative.field-0 c.in-Negative.part)
    (c.judge.ensures.constant ∙ ap (is_constant fs) c.get.ensures)

pub judge-returns-in-Negative-clause-found : goal.judge-returns-in-Negative-clause-found
judge-returns-in-Negative-clause-found t c = let fs = c.args.functions.now in
    told-found fs c.args.found c.in-Negative.is (judgement-negative fs c.in-Negative.field-0 c.in-Negative.part)
    (c.judge.ensures.found ∙ ap (λ e. least_with c.args.found (expression_offences fs e)) c.get.ensures)

pub judge-returns-in-Difference-clause-constant : goal.judge-returns-in-Difference-clause-constant
judge-returns-in-Difference-clause-constant t c = let fs = c.args.functions.now in
    told-constant fs c.in-Difference.is (judgement-difference fs c.in-Difference.field-0 c.in-Difference.left c.in-Difference.right)
    (c.judged-in-Difference.ensures.constant ∙ c.both.ensures
    ∙ ap₂ (λ a b. a && b) (c.judge-first.ensures.constant ∙ ap (is_constant fs) c.get-in-Difference.ensures) (c.judge-second.ensures.constant ∙ ap (is_constant fs) c.get-in-Difference-2.ensures))

pub judge-returns-in-Difference-clause-found : goal.judge-returns-in-Difference-clause-found
judge-returns-in-Difference-clause-found t c = let fs = c.args.functions.now in
    told-found fs c.args.found c.in-Difference.is (judgement-difference fs c.in-Difference.field-0 c.in-Difference.left c.in-Difference.right)
    (c.judged-in-Difference.ensures.found
    ∙ two-found fs c.args.found c.get-in-Difference.ensures c.get-in-Difference-2.ensures c.judge-first.ensures.found c.judge-second.ensures.found)

pub judge-returns-in-Quotient-clause-constant : goal.judge-returns-in-Quotient-clause-constant
judge-returns-in-Quotient-clause-constant t c = let fs = c.args.functions.now in
    told-constant fs c.in-Quotient.is (judgement-quotient fs c.in-Quotient.at c.in-Quotient.left c.in-Quotient.right)
    (c.judged-in-Quotient.ensures.constant ∙ c.both-in-Quotient.ensures
    ∙ ap₂ (λ a b. a && b) (c.judge-first-in-Quotient.ensures.constant ∙ ap (is_constant fs) c.get-in-Quotient.ensures) (c.judge-second-in-Quotient.ensures.constant ∙ ap (is_constant fs) c.get-in-Quotient-2.ensures))

pub judge-returns-in-Quotient-clause-found : goal.judge-returns-in-Quotient-clause-found
judge-returns-in-Quotient-clause-found t c = let fs = c.args.functions.now in
    let parts = expression_offences fs c.in-Quotient.left ++ expression_offences fs c.in-Quotient.right in
    let divided = unless (is_constant fs c.in-Quotient.right) kind.Nonlinear c.in-Quotient.at in
    told-found fs c.args.found c.in-Quotient.is (judgement-quotient fs c.in-Quotient.at c.in-Quotient.left c.in-Quotient.right)
    (c.judged-in-Quotient.ensures.found ∙ c.met_unless-found.ensures
    ∙ ap₂ (λ f b. least_with f (unless b kind.Nonlinear c.in-Quotient.at))
    (two-found fs c.args.found c.get-in-Quotient.ensures c.get-in-Quotient-2.ensures c.judge-first-in-Quotient.ensures.found c.judge-second-in-Quotient.ensures.found)
    (c.judge-second-in-Quotient.ensures.constant ∙ ap (is_constant fs) c.get-in-Quotient-2.ensures)
    ∙ sym (least_with-append c.args.found parts divided))

pub judge_sum-loop-part-preserved : goal.judge_sum-loop-part-preserved
judge_sum-loop-part-preserved t c = (
  all-next (is_constant c.args.functions.now) c.loop-part.all.is_constant _ c.args.parts.now c.loop-part.part-index c.part-item.result c.loop-part-test.true c.part-item.is c.loop-part.invariant.0 (c.judged-all-in-loop-part.ensures.constant ∙ c.both.ensures ∙ ap (λ b. c.loop-part.all.is_constant && b) c.judge-next.ensures.constant),
  least-next (expression_offences c.args.functions.now) c.args.found c.loop-part.all.found _ c.args.parts.now c.loop-part.part-index c.part-item.result c.loop-part-test.true c.part-item.is c.loop-part.invariant.1 (c.judged-all-in-loop-part.ensures.found ∙ c.judge-next.ensures.found),
)

pub judge_product-counted-changing-requires : goal.judge_product-counted-changing-requires
judge_product-counted-changing-requires t c = let within = count-within (is_changing c.args.functions.now) c.args.factors.now c.loop-factor.factor-index c.loop-factor-test.true in omega (arith, within, c.loop-factor.invariant.0)

pub judge_product-loop-factor-preserved : goal.judge_product-loop-factor-preserved
judge_product-loop-factor-preserved t c = (
  count-next (is_changing c.args.functions.now) c.loop-factor.changing _ c.args.factors.now c.loop-factor.factor-index c.factor-item.result c.loop-factor-test.true c.factor-item.is c.loop-factor.invariant.0 (c.counted-changing.ensures ∙ ap (λ b. c.loop-factor.changing + (if not b then 1 else 0)) c.judge-next.ensures.constant),
  least-next (expression_offences c.args.functions.now) c.args.found c.loop-factor.found _ c.args.factors.now c.loop-factor.factor-index c.factor-item.result c.loop-factor-test.true c.factor-item.is c.loop-factor.invariant.1 c.judge-next.ensures.found,
)

pub judge_product-returns-clause-constant : goal.judge_product-returns-clause-constant
judge_product-returns-clause-constant t c = c.judged.ensures.constant ∙ ap (λ n. nat_eq n 0) c.loop-factor.invariant.0 ∙ none-changes c.args.functions.now (take c.loop-factor.factor-index c.args.factors.now) ∙ ap (list_all (is_constant c.args.functions.now)) (take_all _ _ c.loop-factor-test.false)

pub judge_product-returns-clause-found : goal.judge_product-returns-clause-found
judge_product-returns-clause-found t c = c.judged.ensures.found ∙ c.met_unless.ensures
    ∙ ap₂ (λ f n. least_with f (unless (nat_le n 1) kind.Nonlinear c.args.at)) (c.loop-factor.invariant.1 ∙ ap (λ l. least_with c.args.found (flat_map (expression_offences c.args.functions.now) l)) (take_all _ _ c.loop-factor-test.false)) (c.loop-factor.invariant.0 ∙ ap (λ l. length (filter (is_changing c.args.functions.now) l)) (take_all _ _ c.loop-factor-test.false))
    ∙ sym (least_with-append c.args.found (flat_map (expression_offences c.args.functions.now) c.args.factors.now) (unless (nat_le (length (filter (is_changing c.args.functions.now) c.args.factors.now)) 1) kind.Nonlinear c.args.at))
