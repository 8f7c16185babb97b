use Rattle.std.proofs.Common.{◌∙◌, [], ◌&&◌, ap, sym, subst, length, take, arith}
use Rattle.std.specs.List.{list_all, flat_map}
use Rattle.exact_lin.specs.Forms.{Covers}
use Rattle.basics.proofs.Lists.{each_at}
use Rattle.task_types.specs.State.{comparison_holds}
use Rattle.timed_meaning.specs.Answers.{told, Defined}
use Rattle.plan_validator.specs.Readings.{one_value}
use Rattle.plan_validator.proofs.Loops.{defined-more, all-more, stops, whole}
use Rattle.plan_validator.proofs.conditions.forms_hold.Goals as goal

pub form_holds-requires : goal.form_holds-requires
form_holds-requires c = subst (λ e. Covers (length c.args.fluents.now) e.terms) (sym c.form-item.is) (each_at (λ e. Covers (length c.args.fluents.now) e.terms) c.args.forms.now c.loop-form.form-index c.form-item.result c.loop-form-test.true c.requires)

pub loop-form-preserved : goal.loop-form-preserved
loop-form-preserved c = record {
  defined = defined-more c.args.forms.now c.loop-form.form-index c.form-item.result c.loop-form-test.true c.form-item.is (one_value (told [] c.args.fluents.now)) c.loop-form.invariant.defined c.in-Ok.ensures.0;
  tested = c.both-all.ensures ∙ ap (λ b. b && c.in-Ok.holds) c.loop-form.invariant.tested ∙ ap (λ b. list_all (λ e. comparison_holds e (told [] c.args.fluents.now).fluents) (take c.loop-form.form-index c.args.forms.now) && b) c.in-Ok.ensures.1
      ∙ sym (all-more c.args.forms.now c.loop-form.form-index c.form-item.result c.loop-form-test.true c.form-item.is (λ e. comparison_holds e (told [] c.args.fluents.now).fluents));
}

pub returns-in-Err : goal.returns-in-Err
returns-in-Err c = stops c.args.forms.now c.loop-form.form-index c.form-item.result c.loop-form-test.true c.form-item.is c.in-Err.fault (one_value (told [] c.args.fluents.now)) _ _ c.in-Err.ensures

pub returns : goal.returns
returns c = let e = whole c.args.forms.now c.loop-form.form-index (omega arith) in
    (subst (λ xs. Defined (flat_map (one_value (told [] c.args.fluents.now)) xs)) e c.loop-form.invariant.defined, c.loop-form.invariant.tested ∙ ap (list_all (λ e. comparison_holds e (told [] c.args.fluents.now).fluents)) e)
