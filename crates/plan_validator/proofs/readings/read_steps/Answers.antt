use Rattle.std.proofs.Common.{◌∙◌, ◌<◌, ap, sym, subst, length, arith}
use Rattle.std.specs.List.{flat_map}
use Rattle.basics.proofs.Lists.{each_at}
use Rattle.task_types.specs.Reckoned.{read_reckoned}
use Rattle.task_types.proofs.Everyone.{all_of_map}
use Rattle.timed_meaning.specs.Answers.{told, Defined}
use Rattle.plan_validator.specs.Readings.{with_step, with_steps}
use Rattle.plan_validator.proofs.Loops.{defined-more, fold-more, stops, whole}
use Rattle.plan_validator.proofs.readings.read_steps.Goals as goal

pub note_step-requires-clause-known : goal.note_step-requires-clause-known
note_step-requires-clause-known c = subst (λ o. o.step.snap < length c.args.parts.now.snaps) (sym c.owned-item.is)
    (each_at (λ o. o.step.snap < length c.args.parts.now.snaps) c.args.here.now c.loop-owned.owned-index c.owned-item.result c.loop-owned-test.true
    (all_of_map (λ s. s.snap < length c.args.parts.now.snaps) (λ o. o.step) c.args.here.now c.requires.known))

pub loop-owned-preserved : goal.loop-owned-preserved
loop-owned-preserved c = record {
  defined = defined-more c.args.here.now c.loop-owned.owned-index c.owned-item.result c.loop-owned-test.true c.owned-item.is (λ o. read_reckoned c.args.parts.now (told c.args.facts.now c.args.fluents.now) o.step) c.loop-owned.invariant.defined c.in-Ok.ensures.0;
  noted = c.in-Ok.ensures.1 ∙ ap (λ n. with_step c.args.parts.now c.args.rules.now (told c.args.facts.now c.args.fluents.now) n c.owned-item.result) c.loop-owned.invariant.noted
      ∙ sym (fold-more c.args.here.now c.loop-owned.owned-index c.owned-item.result c.loop-owned-test.true c.owned-item.is (with_step c.args.parts.now c.args.rules.now (told c.args.facts.now c.args.fluents.now)) c.args.readings.now);
}

pub returns-in-Err : goal.returns-in-Err
returns-in-Err c = stops c.args.here.now c.loop-owned.owned-index c.owned-item.result c.loop-owned-test.true c.owned-item.is c.in-Err.fault (λ o. read_reckoned c.args.parts.now (told c.args.facts.now c.args.fluents.now) o.step) _ _ c.in-Err.ensures

pub returns : goal.returns
returns c = let e = whole c.args.here.now c.loop-owned.owned-index (omega arith) in (
  subst (λ xs. Defined (flat_map (λ o. read_reckoned c.args.parts.now (told c.args.facts.now c.args.fluents.now) o.step) xs)) e c.loop-owned.invariant.defined,
  c.loop-owned.invariant.noted ∙ ap (with_steps c.args.parts.now c.args.rules.now (told c.args.facts.now c.args.fluents.now) c.args.readings.now) e,
)
