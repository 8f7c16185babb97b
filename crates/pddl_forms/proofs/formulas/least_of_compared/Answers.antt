use Rattle.std.proofs.Common.{◌∙◌, sym, ap}
use Rattle.pddl_forms.specs.Offences.{least_with}
use Rattle.pddl_forms.specs.Conditions.{sides_offences}
use Rattle.pddl_forms.specs.Formulas.{compared}
use Rattle.pddl_forms.proofs.formulas.least_of_compared.Goals as goal

pub returns-in-Negation : goal.returns-in-Negation
unfolding least_with
returns-in-Negation c =
    c.least_of_sides-in-Negation.ensures ∙ ap (λ f. least_with f (sides_offences c.args.functions.now c.args.left.now c.args.right.now)) c.met-found.ensures
    ∙ sym (ap (λ o. least_with c.args.found (compared c.args.functions.now o c.args.at c.args.left.now c.args.right.now)) c.in-Negation.is)
