use Rattle.std.proofs.Common.{◌∙◌, ap}
use Rattle.pddl_names.specs.Declarations.{value_of}
use Rattle.pddl_names.proofs.Tabled.{value_in}
use Rattle.pddl_names.proofs.tables.Table.get.Goals as goal

pub returns : goal.returns
returns g c = c.get.ensures.value ∙ value_in c.self.inside.entries.entries c.args.name.now ∙ ap (λ es. value_of es c.args.name.now) c.self.view_is
