-- Private: a line of an ordering file read part by part.
use Rattle.std.specs.Prelude.{ℕ, ◌≡◌, ◌<◌, ◌⊎◌, List, length, Option, Some, None, option_map, option_and_then, Result, Ok, Err, if◌then◌else◌}
use Rattle.basics.specs.Duties.{AllMet, IsFirstUnmet}
use Rattle.basics.specs.Texts.{number}
use Rattle.task_types.specs.declared.parts.TaskParts.{TaskParts}
use Rattle.ordering.specs.declared.faults.OrderFault.{OrderFault}
use Rattle.ordering.specs.declared.faults.OrderFault.TheVariants as order
use Rattle.plan_files.specs.declared.faults.LineFault.{LineFault}
use Rattle.plan_files.specs.declared.faults.LineFault.TheVariants.{At, Memory}
use Rattle.plan_files.specs.declared.order_lines.Put.{Put as PutRead}
use Rattle.plan_files.specs.declared.order_lines.Put.TheVariants as read
use Rattle.plan_files.specs.OrderWords.{OrderWords, Orders}
use Rattle.plan_files.specs.OrderFiles.{is_count, Put, Step, Apart, Puts, word_duties, Begun, after, refusal, Takes, HasNoForm, HasWrongWords, Refuses}

abbrev pub count_read : List ℕ → Option ℕ
count_read bytes = if is_count bytes then Some (number bytes) else None

abbrev pub apart_read : List ℕ → List ℕ → Option Put
apart_read first second = option_and_then (λ i. option_map (λ j. Apart i j) (count_read second)) (count_read first)

abbrev pub put_seen : PutRead → Put
put_seen (read.Step s) = Step s
put_seen (read.Apart i j) = Apart i j

-- its step, if it is one, is one of the task
abbrev pub IsKnown : TaskParts → Option Put → Type 0
IsKnown task None = Unit {0}
IsKnown task (Some (Step s)) = s < length task.snaps
IsKnown task (Some (Apart i j)) = Unit {0}

-- what the words put, or the first thing that is wrong with them
abbrev pub ReadsPut : TaskParts → ℕ → OrderWords → Result (Option PutRead) LineFault → Type 0
ReadsPut task line w (Ok p) = AllMet (word_duties task line w) × Puts task w (option_map put_seen p) × IsKnown task (option_map put_seen p)
ReadsPut task line w (Err (At n k)) = IsFirstUnmet (word_duties task line w) (n, k)
ReadsPut task line w (Err Memory) = Unit {0}

-- the same of a line
abbrev pub ReadsPutLine : TaskParts → ℕ × List ℕ → Result (Option PutRead) LineFault → Type 0
ReadsPutLine task line (Ok p) = ((w : OrderWords) × Orders line.1 w × AllMet (word_duties task line.0 w) × Puts task w (option_map put_seen p)) × IsKnown task (option_map put_seen p)
ReadsPutLine task line (Err (At n k)) = HasNoForm line (n, k) ⊎ HasWrongWords task line (n, k)
ReadsPutLine task line (Err Memory) = Unit {0}

-- What is put is taken; or it is refused, or memory ran out.
abbrev pub PutsIn : TaskParts → Begun → Begun → ℕ → Option Put → Result Unit OrderFault → Type 0
PutsIn task old new line p (Ok u) = (q : Put) × (p ≡ Some q) × (refusal task old.order (Some q) ≡ None) × (new ≡ after old line q)
PutsIn task old new line p (Err fault) = (refusal task old.order p ≡ Some fault) ⊎ (fault ≡ order.Memory)

-- The line is taken; or it is refused, or memory ran out.
abbrev pub TakesOrder : TaskParts → Begun → Begun → ℕ × List ℕ → Result Unit LineFault → Type 0
TakesOrder task old new line (Ok u) = (p : Put) × Takes task old line p × (new ≡ after old line.0 p)
TakesOrder task old new line (Err (At n k)) = Refuses task old line (n, k)
TakesOrder task old new line (Err Memory) = Unit {0}
