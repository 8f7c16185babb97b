-- Believed: what the adapters over the machine tell, and what their private reads and writes give.
use Rattle.std.specs.Prelude.{◌≡◌, take, IfSome, ℕ, ◌<◌, ◌≤◌, List, [], length, Option, Some, None, Result, Ok, Err, Vec, String, string_bytes}
use Rattle.std.specs.declared.alloc.Global.{Global}
use Rattle.std.specs.Io.KnownBytes.{Appends}
use Rattle.outside.specs.declared.desk.Fetch.{Fetch}
use Rattle.outside.specs.declared.desk.Fetch.TheVariants.{Failed, Long, Memory}
use Rattle.outside.specs.declared.desk.TheConstants.{LONGEST_FILE}

-- what is seen of the files of the machine: how often a fetch failed, and the name of the last that did
pub record HostDeskView : Type 0 where
  pub faults : ℕ
  pub fault_name : List ℕ

-- what is seen of standard output: how many pieces it was handed, and how many it failed to take
pub record HostSinkView : Type 0 where
  pub puts : ℕ
  pub faults : ℕ

-- the fault name; empty before the first fault
abbrev pub name_kept : Option (String Global) → List ℕ
name_kept None = []
name_kept (Some name) = string_bytes name

-- It is no longer than the longest file, or called long where it is longer.
abbrev pub IsWithinLimit : Result (Vec ℕ Global) Fetch → Type 0
IsWithinLimit (Ok bytes) = length bytes.items ≤ LONGEST_FILE
IsWithinLimit (Err (Long count)) = LONGEST_FILE < count
IsWithinLimit (Err Failed) = Unit {0}
IsWithinLimit (Err Memory) = Unit {0}

-- It is all that a reader had left, where that is known; or the reader had left this much at least.
abbrev pub GivesWhole : Option (List ℕ) → Result (Vec ℕ Global) Fetch → Type 0
GivesWhole left (Ok bytes) = IfSome left (λ all. bytes.items ≡ all)
GivesWhole left (Err (Long count)) = IfSome left (λ all. count ≤ length all)
GivesWhole left (Err Failed) = Unit {0}
GivesWhole left (Err Memory) = Unit {0}

-- A writer holds all of these bytes more, or after a failure a prefix of them, where it is known what it holds.
abbrev pub HoldsMore : {T E : Type 0} → Option (List ℕ) → Option (List ℕ) → List ℕ → Result T E → Type 0
HoldsMore old new bytes (Ok _) = Appends old new bytes
HoldsMore old new bytes (Err _) = (count : ℕ) × Appends old new (take count bytes)
