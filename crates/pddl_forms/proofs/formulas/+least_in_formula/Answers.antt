use Rattle.std.proofs.Common.{◌∙◌, ap, ⊎_elim}
use Rattle.pddl_forms.specs.declared.formulas.Around.TheVariants as around
use Rattle.pddl_forms.specs.Formulas.{formula_in}
use Rattle.pddl_forms.proofs.FormulaOffences.{formula_in-and, formula_in-or}
use Rattle.pddl_forms.proofs.Least.{least-next, least-end}
use Rattle.pddl_forms.proofs.formulas.+least_in_formula.Goals as goal

pub loop-part-preserved : goal.loop-part-preserved
loop-part-preserved t c = least-next (formula_in c.args.functions.now around.Formula) c.args.found c.loop-part.found c.least_in_formula-found-in-loop-part.result c.as_slice-part-items.result.now c.loop-part.part-index c.part-item.result c.loop-part-test.true c.part-item.is c.loop-part.invariant c.least_in_formula-found-in-loop-part.ensures

pub returns-after-loop-part : goal.returns-after-loop-part
returns-after-loop-part t c = least-end (formula_in c.args.functions.now around.Formula) c.args.found c.loop-part.found c.as_slice-part-items.result.now c.in-And.parts c.loop-part.part-index _ c.loop-part-test.false c.as_slice-part-items.ensures c.loop-part.invariant
    (⊎_elim (λ e. ap (formula_in c.args.functions.now c.args.outside) e.1 ∙ formula_in-and c.args.functions.now c.args.outside e.0 c.in-And.parts) (λ e. ap (formula_in c.args.functions.now c.args.outside) e.1 ∙ formula_in-or c.args.functions.now c.args.outside e.0 c.in-And.parts) c.in-And.is)
