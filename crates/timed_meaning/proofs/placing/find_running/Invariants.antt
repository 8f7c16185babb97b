use Rattle.std.proofs.Common.{◌≡◌, take}
use Rattle.std.specs.List.{filter}
use Rattle.timed_meaning.specs.Places.{runs}
use Rattle.timed_meaning.proofs.placing.find_running.Given as goal

abbrev pub invariant-loop-placed : goal.invariant-loop-placed
invariant-loop-placed l = l.out.items ≡ filter (runs l.from l.to) (take l.placed-index l.lines)
