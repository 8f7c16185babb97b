use Rattle.task_types.proofs.Links.{clash_comm, link_comm}
use Rattle.task_types.proofs.laws.both_ways_round.Goals as goal

pub returns : goal.returns
returns c = record { clashes = clash_comm; links = link_comm }
