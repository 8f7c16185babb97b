use Rattle.std.proofs.Common.{◌∙◌, ◌<◌, ap, sym, subst, length, map, arith}
use Rattle.std.specs.List.{flat_map}
use Rattle.basics.proofs.Lists.{each_at}
use Rattle.task_types.proofs.Everyone.{all_of_map}
use Rattle.timed_meaning.specs.Answers.{told, Defined}
use Rattle.plan_validator.specs.Firsts.{noted, all_noted}
use Rattle.plan_validator.specs.Segments.{over_all_values, over_all_note}
use Rattle.plan_validator.proofs.Loops.{defined-more, noted-more, stops, whole}
use Rattle.plan_validator.proofs.overalls.note_running.Goals as goal

pub note_line-requires-clause-known : goal.note_line-requires-clause-known
note_line-requires-clause-known c = subst (λ p. p.line.action < length c.args.parts.now.actions) (sym c.placed-item.is)
    (each_at (λ p. p.line.action < length c.args.parts.now.actions) c.args.running.now c.loop-placed.placed-index c.placed-item.result c.loop-placed-test.true
    (all_of_map (λ l. l.action < length c.args.parts.now.actions) (λ p. p.line) c.args.running.now c.requires.known))

pub loop-placed-preserved : goal.loop-placed-preserved
loop-placed-preserved c = record {
  defined = defined-more c.args.running.now c.loop-placed.placed-index c.placed-item.result c.loop-placed-test.true c.placed-item.is (over_all_values c.args.parts.now (told c.args.facts.now c.args.fluents.now)) c.loop-placed.invariant.defined c.in-Ok.ensures.0;
  noted = c.in-Ok.ensures.1 ∙ ap (λ p. noted p (over_all_note c.args.parts.now c.args.segment (told c.args.facts.now c.args.fluents.now) c.placed-item.result)) c.loop-placed.invariant.noted
      ∙ sym (noted-more c.args.running.now c.loop-placed.placed-index c.placed-item.result c.loop-placed-test.true c.placed-item.is (over_all_note c.args.parts.now c.args.segment (told c.args.facts.now c.args.fluents.now)) c.args.least.now.place);
}

pub returns-in-Err : goal.returns-in-Err
returns-in-Err c = stops c.args.running.now c.loop-placed.placed-index c.placed-item.result c.loop-placed-test.true c.placed-item.is c.in-Err.fault (over_all_values c.args.parts.now (told c.args.facts.now c.args.fluents.now)) _ _ c.in-Err.ensures

pub returns : goal.returns
returns c = let e = whole c.args.running.now c.loop-placed.placed-index (omega arith) in (
  subst (λ xs. Defined (flat_map (over_all_values c.args.parts.now (told c.args.facts.now c.args.fluents.now)) xs)) e c.loop-placed.invariant.defined,
  c.loop-placed.invariant.noted ∙ ap (λ xs. all_noted c.args.least.now.place (map (over_all_note c.args.parts.now c.args.segment (told c.args.facts.now c.args.fluents.now)) xs)) e,
)
