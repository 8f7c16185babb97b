use Rattle.std.proofs.Common.{length}
use Rattle.plan_files.specs.Tokens.{tokens}
use Rattle.plan_files.specs.WordsSeen.{runs_in_front}
use Rattle.plan_files.proofs.NameLists.{Named}
use Rattle.plan_files.proofs.names.objects_of.Given as goal

abbrev pub invariant-loop-word : goal.invariant-loop-word
invariant-loop-word l = Named l.names.task.now.parts (runs_in_front (tokens l.line)) l.objects.items (runs_in_front (tokens l.rest))

abbrev pub decreases-loop-word : goal.decreases-loop-word
decreases-loop-word l = length (tokens l.rest)
