use Rattle.std.proofs.Common.{◌∙◌, ap}
use Rattle.pddl_names.specs.Declarations.{with_new}
use Rattle.pddl_names.specs.Offences.{least}
use Rattle.pddl_names.specs.Calls.{names_of}
use Rattle.pddl_names.specs.Files.{texts_of, listed_offences}
use Rattle.pddl_names.proofs.problems.first_in_objects.Goals as goal

pub returns : goal.returns
returns c =
    c.in_ok-found.ensures ∙ ap (λ b. least (listed_offences c.args.phase c.args.tables.now b c.args.objects.now))
    (c.in_ok-first_double.ensures.names ∙ ap (λ b. with_new b (texts_of (names_of c.args.constants.now))) c.new-before.ensures)
