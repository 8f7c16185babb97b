use Rattle.std.proofs.Common.{◌≡◌, ◌∙◌, sym, ap, ◌-◌, ◌+◌, arith, length}
use Rattle.pddl_names.specs.Declarations.{among}
use Rattle.pddl_names.specs.Fitting.{chain}
use Rattle.pddl_names.proofs.Chains.{chain-here, chain-last, chain-up, chain-top}
use Rattle.pddl_names.proofs.fitting.is_below.Goals as goal

pub returns-then-eq : goal.returns-then-eq
returns-then-eq c = sym (chain-here c.args.types.now c.args.sup.now _ _ (sym c.eq.ensures ∙ c.if-eq.true)) ∙ c.loop-step.invariant

pub returns-in_default : goal.returns-in_default
returns-in_default c =
    let one_less : length c.args.types.now - c.loop-step.step ≡ (length c.args.types.now - (c.loop-step.step + 1)) + 1 = omega (arith, c.len-step-end.ensures) in
    sym (chain-top c.args.types.now c.args.sup.now _ _ _ one_less (sym c.eq.ensures ∙ c.if-eq.false) c.in_default.ensures) ∙ c.loop-step.invariant

pub loop-step-preserved : goal.loop-step-preserved
loop-step-preserved c =
    let one_less : length c.args.types.now - c.loop-step.step ≡ (length c.args.types.now - (c.loop-step.step + 1)) + 1 = omega (arith, c.len-step-end.ensures) in
    ap (λ t. among (chain c.args.types.now (length c.args.types.now - (c.loop-step.step + 1)) t) c.args.sup.now) c.as_slice-at.ensures
    ∙ sym (chain-up c.args.types.now c.args.sup.now _ _ _ _ one_less (sym c.eq.ensures ∙ c.if-eq.false) c.in-Some.ensures) ∙ c.loop-step.invariant

pub returns : goal.returns
returns c =
    let at_end : length c.args.types.now - c.loop-step.step ≡ 0 = omega (arith, c.len-step-end.ensures) in
    c.eq-2.ensures ∙ sym (chain-last c.args.types.now c.args.sup.now _ _ at_end) ∙ c.loop-step.invariant
