-- Private: what a stop of the work stands for.
use Rattle.std.specs.Prelude.{ℕ, Option, Some, None, Result, Ok, Err, Vec}
use Rattle.std.specs.declared.alloc.Global.{Global}
use Rattle.outside.specs.Fetching.{Answer}
use Rattle.outside.specs.declared.desk.Fetch.{Fetch}
use Rattle.outside.specs.declared.desk.Fetch.TheVariants as why
use Rattle.planner_core.specs.declared.fetching.Stop.{Stop}
use Rattle.planner_core.specs.declared.fetching.Stop.TheVariants as stop
use Rattle.planner_core.specs.declared.status.Status.TheVariants.{ReadFault}
use Rattle.planner_core.specs.Replies.{Said, too_long}

-- the answer of the fetch that made it
abbrev pub why_of : Stop → Fetch
why_of (stop.Fault text) = why.Failed
why_of (stop.Long role count) = why.Long count
why_of stop.Memory = why.Memory

-- the answer of a fetch
abbrev pub answer_seen : Result (Vec ℕ Global) Stop → Answer
answer_seen (Ok bytes) = Ok bytes.items
answer_seen (Err stop) = Err (why_of stop)

-- the reply that a stop gives
abbrev pub stop_said : Stop → Option Said
stop_said (stop.Fault text) = Some (record { status = ReadFault; text = text.items })
stop_said (stop.Long role count) = Some (too_long role count)
stop_said stop.Memory = None

-- the reply of a command
abbrev pub outcome : Result Said Stop → Option Said
outcome (Ok said) = Some said
outcome (Err stop) = stop_said stop

-- the reply, where memory was not refused
abbrev pub reply_said : {E : Type 0} → Result Said E → Option Said
reply_said (Ok said) = Some said
reply_said (Err e) = None
