use Rattle.std.proofs.Common.{◌∙◌, ap}
use Rattle.pddl_forms.specs.Offences.{least_with}
use Rattle.pddl_forms.specs.TimeCosts.{pieces_from}
use Rattle.pddl_forms.proofs.Pieces.{left_out-step}
use Rattle.pddl_forms.proofs.time_costs.after_piece.Goals as goal

pub returns-in-LeftOut : goal.returns-in-LeftOut
returns-in-LeftOut c = λ ps. ap (λ f. least_with f (pieces_from c.args.before.moment c.args.before.cost ps)) c.met.ensures ∙ left_out-step c.args.before.found c.args.before.moment c.args.before.cost _ _ ps c.in-LeftOut.is
