use Rattle.std.proofs.Common.{◌∙◌}
use Rattle.pddl_names.specs.Calls.{types_offences, doubles, names_of}
use Rattle.pddl_names.proofs.Least.{least-both}
use Rattle.pddl_names.proofs.domains.first_named_in_list.Goals as goal

pub returns : goal.returns
returns c =
    c.earlier.ensures ∙ least-both _ _ (types_offences c.args.tables.now c.args.groups.now) (doubles c.args.before.now (names_of c.args.groups.now)) c.first_in_types.ensures c.in_ok-twice.ensures.offence
