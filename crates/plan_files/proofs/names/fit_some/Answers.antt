use Rattle.std.proofs.Common.{◌&&◌, sym, ◌∙◌}
use Rattle.task_types.specs.declared.actions.Schema.{Schema}
use Rattle.task_types.specs.WellMade.{arguments_fit}
use Rattle.plan_files.specs.Names.{same_word}
use Rattle.plan_files.proofs.AnyLeft.{any-begin, any-found, any-next, any-end}
use Rattle.plan_files.proofs.names.fit_some.Goals as goal

pub loop-schema-init : goal.loop-schema-init
loop-schema-init c = any-begin (λ (s : Schema). same_word c.args.name.now s.name && arguments_fit c.args.objects.now s.params) c.args.schemas.now

pub returns-then-fits : goal.returns-then-fits
returns-then-fits c = sym (any-found (λ (s : Schema). same_word c.args.name.now s.name && arguments_fit c.args.objects.now s.params) c.args.schemas.now c.loop-schema.schema-index c.schema-item.result c.loop-schema-test.true c.schema-item.is c.loop-schema.invariant (sym c.fits.ensures ∙ c.if-fits.true))

pub loop-schema-preserved : goal.loop-schema-preserved
loop-schema-preserved c = any-next (λ (s : Schema). same_word c.args.name.now s.name && arguments_fit c.args.objects.now s.params) c.args.schemas.now c.loop-schema.schema-index c.schema-item.result c.loop-schema-test.true c.schema-item.is c.loop-schema.invariant (sym c.fits.ensures ∙ c.if-fits.false)

pub returns : goal.returns
returns c = sym (any-end (λ (s : Schema). same_word c.args.name.now s.name && arguments_fit c.args.objects.now s.params) c.args.schemas.now c.loop-schema.schema-index c.loop-schema-test.false c.loop-schema.invariant)
