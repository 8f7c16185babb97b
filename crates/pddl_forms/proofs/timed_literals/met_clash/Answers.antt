use Rattle.pddl_forms.proofs.Clashes.{none-seen}
use Rattle.pddl_forms.proofs.timed_literals.met_clash.Goals as goal

pub returns-in-LeftOut-clause-found : goal.returns-in-LeftOut-clause-found
returns-in-LeftOut-clause-found c = none-seen c.args.seen.now c.args.literal.now.holds c.args.literal.now.moment c.args.literal.now.atom _ c.args.literal.now.at c.args.found c.in-LeftOut.is
