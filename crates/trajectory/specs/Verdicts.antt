-- Believed: the verdict on a constraint that is read off the facts of a trace alone.
use Rattle.std.specs.Prelude.{ℕ, Bool, if◌then◌else◌, Option, Some, None}
use Rattle.task_types.specs.declared.constraints.Trail.{Trail}
use Rattle.task_types.specs.declared.constraints.TrailKind.{TrailKind}
use Rattle.task_types.specs.declared.constraints.TrailKind.TheVariants.{Within}
use Rattle.task_types.specs.Trace.{Trace, met, first_state}
use Rattle.trajectory.specs.declared.automaton.TrailEnd.{TrailEnd}
use Rattle.trajectory.specs.declared.automaton.TrailEnd.TheVariants.{Met, Broken, Timed}

abbrev pub timed_or_broken : Option ℕ → TrailEnd
timed_or_broken None = Broken
timed_or_broken (Some k) = Timed k

abbrev pub verdict_by : TrailKind → Bool → Option ℕ → TrailEnd
verdict_by Within is_met first = timed_or_broken first
verdict_by kind is_met first = if is_met then Met else Broken

-- For a `within` the verdict tells the first state in which its formula holds, and is broken where it holds in none;
-- for every other constraint, whether the trace meets it. So it depends on no time.
abbrev pub verdict_on : Trail → Trace → TrailEnd
verdict_on c states = verdict_by c.kind (met c states) (first_state c.first states)
