-- Private: names with numbers of objects, as they are looked up.
use Rattle.std.specs.Prelude.{ℕ, ◌&&◌, Bool, List, [], nat_eq, filter, Vec}
use Rattle.std.specs.Cmp.Lexicographic.{pointwise}
use Rattle.std.specs.Str.{bytes_eq, str_to_ascii_lowercase}
use Rattle.std.specs.declared.alloc.Global.{Global}
use Rattle.task_types.specs.declared.actions.Action.{Action}
use Rattle.task_types.specs.declared.actions.Schema.{Schema}

-- a name in lower case, and the numbers of some objects
abbrev pub Entry : Type 0
Entry = List ℕ × List ℕ

abbrev pub same_entry : Entry → Entry → Bool
same_entry e f = bytes_eq e.0 f.0 && pointwise nat_eq e.1 f.1

abbrev pub Key : Type 0
Key = Vec ℕ Global × Vec ℕ Global

abbrev pub entry_of : Key → Entry
entry_of k = (k.0.items, k.1.items)

abbrev pub object_entry : List ℕ → Entry
object_entry n = (str_to_ascii_lowercase n, [])

abbrev pub action_entry : Action → Entry
action_entry a = (str_to_ascii_lowercase a.name, a.args)

abbrev pub schema_entry : Schema → Entry
schema_entry s = (str_to_ascii_lowercase s.name, [])

-- the actions of the domain that take time
abbrev pub durative_of : List Schema → List Schema
durative_of schemas = filter (λ s. s.durative) schemas
