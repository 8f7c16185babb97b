use Rattle.std.proofs.Common.{◌∙◌, sym, ap}
use Rattle.std.proofs.lemmas.List.{nil_from_length}
use Rattle.pddl_forms.specs.Offences.{least_with}
use Rattle.pddl_forms.specs.TimeCosts.{pieces_from}
use Rattle.pddl_forms.proofs.time_costs.least_of_pieces.Goals as goal

pub returns : goal.returns
unfolding least_with pieces_from
returns c = ap (λ ps. least_with c.loop-piece.reached.found (pieces_from c.loop-piece.reached.moment c.loop-piece.reached.cost ps)) (sym (nil_from_length c.loop-piece.left.now c.in_default.ensures.cases)) ∙ c.loop-piece.invariant
