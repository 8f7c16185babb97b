use Rattle.std.proofs.Common.{◌∙◌, [], ◌&&◌, ap, sym, subst, length, take, arith}
use Rattle.std.specs.List.{list_all, flat_map}
use Rattle.exact_lin.specs.Forms.{Covers}
use Rattle.basics.proofs.Lists.{each_at}
use Rattle.timed_meaning.specs.Answers.{told, Defined}
use Rattle.plan_validator.specs.Readings.{bound_value, bound_read}
use Rattle.plan_validator.proofs.Loops.{defined-more, all-more, stops, whole}
use Rattle.plan_validator.proofs.readings.read_bounds.Goals as goal

pub read_bound-requires : goal.read_bound-requires
read_bound-requires c = subst (λ b. Covers (length c.args.fluents.now) b.form.terms) (sym c.bound-item.is) (each_at (λ b. Covers (length c.args.fluents.now) b.form.terms) c.args.bounds.now c.loop-bound.bound-index c.bound-item.result c.loop-bound-test.true c.requires)

pub loop-bound-preserved : goal.loop-bound-preserved
loop-bound-preserved c = record {
  defined = defined-more c.args.bounds.now c.loop-bound.bound-index c.bound-item.result c.loop-bound-test.true c.bound-item.is (bound_value c.args.kind (told [] c.args.fluents.now)) c.loop-bound.invariant.defined c.in-Ok.ensures.0;
  tested = c.both-all.ensures ∙ ap (λ b. b && c.in-Ok.meets) c.loop-bound.invariant.tested ∙ ap (λ b. list_all (bound_read c.args.kind (told [] c.args.fluents.now) c.args.duration) (take c.loop-bound.bound-index c.args.bounds.now) && b) c.in-Ok.ensures.1
      ∙ sym (all-more c.args.bounds.now c.loop-bound.bound-index c.bound-item.result c.loop-bound-test.true c.bound-item.is (bound_read c.args.kind (told [] c.args.fluents.now) c.args.duration));
}

pub returns-in-Err : goal.returns-in-Err
returns-in-Err c = stops c.args.bounds.now c.loop-bound.bound-index c.bound-item.result c.loop-bound-test.true c.bound-item.is c.in-Err.fault (bound_value c.args.kind (told [] c.args.fluents.now)) _ _ c.in-Err.ensures

pub returns : goal.returns
returns c = let e = whole c.args.bounds.now c.loop-bound.bound-index (omega arith) in
    (subst (λ xs. Defined (flat_map (bound_value c.args.kind (told [] c.args.fluents.now)) xs)) e c.loop-bound.invariant.defined, c.loop-bound.invariant.tested ∙ ap (list_all (bound_read c.args.kind (told [] c.args.fluents.now) c.args.duration)) e)
