-- Private: what the code's timed literals stand for.
use Rattle.std.specs.Prelude.{List, map}
use Rattle.grounder.specs.Task as task
use Rattle.grounder.specs.declared.timings.Timing.{Timing}

abbrev pub timing_of : Timing → task.Timing
timing_of t = record { moment = t.moment; holds = t.holds; atom = t.atom }

abbrev pub timings_of : List Timing → List task.Timing
timings_of ts = map timing_of ts
